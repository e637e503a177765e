-- One more number is put behind the others.
use Rattle.std.proofs.Common.{arith, ◌≡◌, ◌+◌, ◌*◌, sym, suc}
use Rattle.words.specs.Bytes.{two_bytes}
use Rattle.words.specs.Over.{newer}
use Rattle.words.proofs.Over.{over_none, put_then}
use Rattle.board.specs.Quantities.{sector, sectors_from}
use Rattle.numbers.proofs.Numbers.{low_byte}
use Rattle.host.specs.Commands.{numbers_of}
use Rattle.host_code.proofs.Behind.{length-numbers, numbers_then}
use Rattle.host_code.proofs.putting.put_numbers.Goals as goal

pub loop-i-init : goal.loop-i-init
loop-i-init c = sym (over_none newer _ _)

pub loop-i-preserved : goal.loop-i-preserved
loop-i-preserved c =
    let k = c.args.first in
    let i = c.loop-i.i in
    let l = length-numbers k i in
    let e : i + 1 ≡ suc i = omega arith in
    rw (e, numbers_then k i, c.lay.ensures, c.to_be_bytes-number.ensures, c.from.ensures, c.loop-i.invariant, ← low_byte (k + i))
    (put_then c.args.room.now 4 (4 + 2 * i) (numbers_of (sectors_from (sector k) i)) (two_bytes (k + i)) (omega arith))

pub returns : goal.returns
returns c = let e : c.loop-i.i ≡ c.args.x = omega arith in rw (← e) c.loop-i.invariant
