-- Gathering puts bytes only where they are expected: the new ones that fit are cut off before, and behind them no staged byte changes.
use mathlib.Core.Path.{◌≡◌, ap, sym, ◌∙◌}
use mathlib.Core.List.{List, [], ◌∷◌}
use Prim.Native.Nat.{ℕ, zero, suc, min, ◌-◌, ◌<◌}
use native.Mathlib.Nat.{zero-min, min-zero, suc-min-suc}
use native.Mathlib.Omega.{arith}
use lib.ListN.{length, take, length-take}
use lib.Seq.{get_or-take}
use Rattle.words.specs.Over.{newer}
use Rattle.words.proofs.Over.{over_within, over_before, over_behind}
use Rattle.command.specs.Progress.{Progress, fitting, Staging}

pub stages : Staging
stages p new = record {
  taken = λ i h k.
      let l : i < p.expected - p.taken = omega (arith, h, length-take (p.expected - p.taken) new) in
      over_within newer p.staged p.taken (fitting p new) i h k ∙ get_or-take (p.expected - p.taken) new i 0 l;
  before = λ i h. over_before newer p.staged p.taken (fitting p new) i h;
  behind = λ i h k. over_behind newer p.staged p.taken (fitting p new) i (rw length-take (omega arith));
}

-- as many new bytes as are still expected, or as there are, are those that fit
pub so_many_fit : (p : Progress) (new : List ℕ) (n : ℕ) → n ≡ min (p.expected - p.taken) (length new)
    → (n ≡ length (fitting p new)) × (take n new ≡ fitting p new)
so_many_fit p new n e =
    (e ∙ sym (length-take (p.expected - p.taken) new), ap (λ (k : ℕ). take k new) e ∙ shorter (p.expected - p.taken) new)
  where
    shorter : (k : ℕ) (l : List ℕ) → take (min k (length l)) l ≡ take k l
    shorter zero l = ap (λ (m : ℕ). take m l) (zero-min (length l))
    shorter (suc k) [] = ap (λ (m : ℕ). take m []) (min-zero (suc k))
    shorter (suc k) (x ∷ xs) =
        ap (λ (m : ℕ). take m (x ∷ xs)) (suc-min-suc k (length xs)) ∙ ap (λ (r : List ℕ). x ∷ r) (shorter k xs)
