-- The two bytes that are compared are the definition's.
use Rattle.std.proofs.Common.{arith, ◌*◌, length-take, ◌∙◌, refl}
use Rattle.records.proofs.Pairs.{pairs_take, bytes_take}
use Rattle.records.proofs.reading.is_right.Goals as goal

pub sum_of-requires : goal.sum_of-requires
sum_of-requires c =
    let s = c.args.rest.now in
    let n = length-take (2 * c.from-count.result) s in
    (pairs_take c.from-count.result s c.requires.0, omega (arith, c.byte_at.ensures.1, c.from-count.ensures))

pub returns : goal.returns
returns c =
    c.is_complement.ensures
    ∙ rw (c.byte_at-2.ensures.0, c.sum_of.ensures, bytes_take c.from-count.result c.args.rest.now, c.from-count.ensures, c.byte_at.ensures.0) refl
