-- By whether a line has begun.
use native.Mathlib.Omega.{arith}
use mathlib.Core.Path.{refl, sym}
use lib.Seq.{length-take-le}
use borrow.Author.Tests.{lt-ltb, le-ltb}
use Rattle.words.specs.Over.{newer}
use Rattle.words.proofs.Over.{over_none}
use Rattle.desk_answers.specs.Desk.{input_ends}
use Rattle.desk_hearing.proofs.finish.Goals as goal

pub returns-then-desk-gt0-clause-told : goal.returns-then-desk-gt0-clause-told
unfolding input_ends
returns-then-desk-gt0-clause-told c =
    rw (length-take-le c.args.desk.kept c.args.line.now c.requires.kept_in_bounds, lt-ltb 0 c.args.desk.kept c.if-desk-gt0.true)
    c.end_line.ensures.told

pub returns-else-desk-gt0-clause-told : goal.returns-else-desk-gt0-clause-told
unfolding input_ends
returns-else-desk-gt0-clause-told c =
    rw (length-take-le c.args.desk.kept c.args.line.now c.requires.kept_in_bounds, le-ltb 0 c.args.desk.kept c.if-desk-gt0.false) (record {
      end = omega arith;
      text = sym (over_none newer c.args.out.now c.args.desk.end);
      state = refl;
    })
