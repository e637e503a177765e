-- The reason and the place are stored one behind the other.
use mathlib.Core.Path.{refl}
use mathlib.Core.List.{[], ◌∷◌}
use Prim.Native.Nat.{◌+◌}
use borrow.Author.Tests.{eq-eqb, ne_eqb}
use Rattle.words.specs.Over.{put}
use Rattle.words.proofs.Over.{put_one, put_then}
use Rattle.desk_print.proofs.Adding.{nothing}
use Rattle.desk_answers_code.proofs.why.note.Goals as goal

pub returns-then-reason-eq-NO_REASON-clause-noted : goal.returns-then-reason-eq-NO_REASON-clause-noted
returns-then-reason-eq-NO_REASON-clause-noted c = rw (eq-eqb c.args.reason 0 c.if-reason-eq-NO_REASON.true) (nothing _ _)

pub returns-clause-noted : goal.returns-clause-noted
returns-clause-noted c =
    let m = c.args.notes.now in
    let at = c.args.at in
    rw (c.from.ensures, ne_eqb c.args.reason 0 c.if-reason-eq-NO_REASON.false) (record {
      ends = refl;
      written = rw (← put_one m at c.args.reason, ← put_one (put m at (c.args.reason ∷ [])) (at + 1) c.args.place)
          (put_then m at (at + 1) (c.args.reason ∷ []) (c.args.place ∷ []) refl);
    })
