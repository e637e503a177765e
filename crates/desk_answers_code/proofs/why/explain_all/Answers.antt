-- Each turn explains two notes more; what is left then ends as the whole does.
use native.Mathlib.Omega.{arith}
use mathlib.Core.Path.{◌≡◌, ap, ◌∙◌}
use Prim.Native.Nat.{◌+◌}
use lib.ListN.{length, length-append}
use Rattle.std.specs.Slice.Iter.{chunks_exact_rest}
use Rattle.desk_print.proofs.Adding.{nothing}
use Rattle.desk_answers_code.proofs.Explaining.{one_explained, all_explained}
use Rattle.desk_answers_code.proofs.why.explain_all.Goals as goal

pub returns-then-quiet-clause-added : goal.returns-then-quiet-clause-added
returns-then-quiet-clause-added c = rw c.if-quiet.true (nothing _ _)

pub loop-note-preserved : goal.loop-note-preserved
loop-note-preserved c =
    let loop = c.loop-note in
    let steps = c.in-Some.ensures.steps in
    let s = chunks_exact_rest loop.note-iterator in
    let f = c.in-Some.note.now in
    let t = chunks_exact_rest c.next.new.self in
    let n : length f ≡ 2 = steps.1.1 ∙ loop.invariant.0 in
    let l : length s ≡ length f + length t = ap length steps.1.0 ∙ length-append f t in (
      steps.0 ∙ loop.invariant.0,
      omega (arith, c.explain-end.ensures.short, loop.invariant.1),
      one_explained s f t steps.1.0 n loop.invariant.2 c.explain-end.ensures.added,
    )

pub returns-clause-added : goal.returns-clause-added
returns-clause-added c =
    let loop = c.loop-note in
    rw c.if-quiet.false (all_explained (chunks_exact_rest loop.note-iterator) c.args.notes.now
    (omega (arith, c.in-None.ensures.steps.1.0, loop.invariant.0)) loop.invariant.2)
