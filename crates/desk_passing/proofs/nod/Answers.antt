-- Each turn puts one answer more behind those that are there.
use native.Mathlib.Omega.{arith}
use mathlib.Core.Path.{sym, ap, ◌∙◌}
use mathlib.Core.List.{List, [], ◌∷◌}
use Prim.Native.Nat.{ℕ}
use Rattle.words.specs.Over.{put, newer}
use Rattle.words.proofs.Over.{over_none, put_then}
use Rattle.desk_lines.specs.Lines.{line_feed}
use Rattle.desk_answers.specs.Answers.{answered}
use Rattle.desk_passing.specs.Passing.{nods}
use Rattle.desk_passing.proofs.Passing.{nods_more, length-nods}
use Rattle.desk_passing.proofs.nod.Goals as goal

pub loop-init : goal.loop-init
loop-init c = (omega arith, sym (over_none newer c.args.out.now c.args.at))

pub loop-preserved : goal.loop-preserved
loop-preserved c =
    let o = c.args.out.now in
    let a = c.args.at in
    let i = c.loop.counter in
    let e = c.loop.invariant.0 in (
      omega (arith, e, c.add-end.ensures.ends),
      c.add-end.ensures.written
          ∙ ap (λ (m : List ℕ). put m c.loop.end (answered ∷ line_feed ∷ [])) c.loop.invariant.1
          ∙ put_then o a c.loop.end (nods i) (answered ∷ line_feed ∷ []) (omega (arith, e, length-nods i))
          ∙ ap (λ (l : List ℕ). put o a l) (nods_more i),
    )
