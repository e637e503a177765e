-- Each turn takes one address byte more; four of them write 32 bits.
use Rattle.std.proofs.Common.{arith}
use Rattle.records.specs.Digits.{bytes_in}
use Rattle.records.proofs.Pairs.{length_pairs}
use Rattle.records.proofs.Good.{address_more, still_small, larger}
use Rattle.records.proofs.reading.address.Goals as goal

pub overflow_mul-number : goal.overflow_mul-number
overflow_mul-number c =
    let s = still_small c.loop-i.number c.loop-i.i (omega (arith, c.requires.2)) c.loop-i.invariant.1 in
    omega arith

pub overflow_add-number : goal.overflow_add-number
overflow_add-number c =
    let s = still_small c.loop-i.number c.loop-i.i (omega (arith, c.requires.2)) c.loop-i.invariant.1 in
    omega (arith, c.byte_at.ensures.1, c.from.ensures)

pub loop-i-preserved : goal.loop-i-preserved
loop-i-preserved c =
    let l = bytes_in c.args.rest.now in
    let n = length_pairs c.args.rest.now c.requires.0 in
    let m = address_more l c.loop-i.i (omega (arith, c.requires.3)) in
    let b = c.byte_at.ensures in
    (omega (arith, m, c.loop-i.invariant.0, c.from.ensures, b.0), larger c.loop-i.number c.from.result c.loop-i.i c.loop-i.invariant.1 (omega (arith, b.1, c.from.ensures)))
