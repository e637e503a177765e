-- Each turn tells the front of what is left; before it, what is left of both texts ends as the whole does.
use mathlib.Core.Path.{subst}
use lib.Dec.{T, eqb→eq}
use lib.ListN.{length}
use Rattle.memories.specs.Lent.{holds}
use Rattle.boot.specs.Promise.{state_of}
use Rattle.desk_answers.specs.Answers.{makes}
use Rattle.desk_answers.proofs.Telling.{none_left}
use Rattle.desk_answers_code.proofs.Passing.{empty}
use Rattle.desk_answers_code.proofs.tell_all.Goals as goal

pub returns-clause-told : goal.returns-clause-told
unfolding makes
returns-clause-told c =
    let loop = c.loop-left in
    let e = empty loop.left.now (eqb→eq (length loop.left.now) 0 (subst T c.loop-left-test.ensures tt)) in
    none_left (state_of loop.told.session (holds loop.lent)) (rw e at loop.invariant.2)

pub returns-clause-noted : goal.returns-clause-noted
unfolding makes
returns-clause-noted c =
    let loop = c.loop-left in
    let e = empty loop.left.now (eqb→eq (length loop.left.now) 0 (subst T c.loop-left-test.ensures tt)) in
    none_left (state_of loop.told.session (holds loop.lent)) (rw e at loop.invariant.3)
