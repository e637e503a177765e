-- A later line that touched a byte of an earlier one would have the fault of overlapping, and an accepted file has none.
use mathlib.Core.Path.{refl, sym, ◌∙◌}
use mathlib.Core.List.{[], ◌∷◌, ◌++◌, append_assoc}
use mathlib.Core.Logic.{inl}
use Rattle.loading.specs.Says.{Apart}
use Rattle.loading.specs.declared.Cause.TheVariants.{Overlap}
use Rattle.loading.proofs.Marks.{among_behind}
use Rattle.loading.proofs.Outcomes.{faultless_at}
use Rattle.loading.proofs.Answers.{accepted_sound}
use Rattle.loading.proofs.held.apart.Statement.{statement}
use Rattle.loading.proofs.held.apart.Tie as tie

apart : Apart
apart shift text n a xs ys zs k l e j t u =
    let s = accepted_sound shift text n a in
    faultless_at shift [] (xs ++ (k ∷ ys)) l zs (rw (e ∙ sym (append_assoc xs (k ∷ ys) (l ∷ zs))) at s.1.faultless) Overlap
    record { byte = j; earlier = record { line = k; among = among_behind k xs (k ∷ ys) (inl refl); touched = t }; again = u }

pub apart_spec : {M : Type 1} → statement M
apart_spec = tie.close (tie.spec (λ c. apart))
