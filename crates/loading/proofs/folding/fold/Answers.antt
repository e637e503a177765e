-- Behind the last line nothing is left to judge, to mark or to lay.
use Rattle.std.proofs.Common.{arith, w16}
use Rattle.std.proofs.lemmas.Int.{to_z-of_z}
use Rattle.loading.proofs.Turns.{no_line}
use Rattle.loading.proofs.folding.fold.Goals as goal

pub returns-then-ended-clause-answer : goal.returns-then-ended-clause-answer
returns-then-ended-clause-answer c =
    let e = no_line c.args.text.now c.loop-at.at (omega arith) in
    rw (to_z-of_z w16 c.args.shift c.ranges.shift, e, c.if-ended.true) at c.loop-at.invariant.4

pub returns-then-ended-clause-marks : goal.returns-then-ended-clause-marks
returns-then-ended-clause-marks c =
    let e = no_line c.args.text.now c.loop-at.at (omega arith) in
    rw (to_z-of_z w16 c.args.shift c.ranges.shift, e) at c.loop-at.invariant.5

pub returns-then-ended-clause-image : goal.returns-then-ended-clause-image
returns-then-ended-clause-image c =
    let e = no_line c.args.text.now c.loop-at.at (omega arith) in
    rw (to_z-of_z w16 c.args.shift c.ranges.shift, e) at c.loop-at.invariant.6

pub returns-else-ended-clause-answer : goal.returns-else-ended-clause-answer
returns-else-ended-clause-answer c =
    let e = no_line c.args.text.now c.loop-at.at (omega arith) in
    rw (to_z-of_z w16 c.args.shift c.ranges.shift, e, c.if-ended.false) at c.loop-at.invariant.4
