-- The numbers stand behind the command, and the checksum behind them.
use Rattle.std.proofs.Common.{arith, ◌+◌, ◌-◌, ◌*◌, ◌/◌, ◌∙◌}
use Rattle.words.proofs.Over.{put_front}
use Rattle.numbers.proofs.Numbers.{low_byte}
use Rattle.host.specs.Ranges.{erase_of}
use Rattle.host_code.proofs.Behind.{length_erase, erase_in_room}
use Rattle.host_code.proofs.putting.put_erase.Goals as goal

pub returns : goal.returns
returns c =
    let k = c.args.offset / 1024 in
    let d = (c.args.offset + c.args.count - 1) / 1024 - k in
    let e = rw (c.lay.ensures, c.to_be_bytes-less.ensures, c.at-last.ensures, c.at-first.ensures, ← low_byte d) at c.put_numbers.ensures in
    let l = length_erase k (d + 1) in
    rw (c.lay-2.ensures, c.xor-sum.ensures, c.from.ensures, c.at-last.ensures, c.at-first.ensures)
    (record {
      count = omega arith;
      room = erase_in_room c.args.room.now k d (4 + 2 * (d + 1) - 2) (omega arith) (omega arith) c.put_numbers.new.room e
          ∙ put_front c.args.room.now (erase_of c.args.offset c.args.count) (omega arith);
    })
