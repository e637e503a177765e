-- Bytes put at the front of a part of a room, where they fit, are put into the room.
use mathlib.Core.Path.{◌≡◌, refl, sym, ap, ◌∙◌}
use mathlib.Core.List.{List, [], ◌∷◌, ◌++◌}
use Prim.Native.Nat.{ℕ, zero, suc, ◌≤◌}
use native.Mathlib.Nat.{not-suc-le-zero, le_of_suc-le-suc}
use lib.ListN.{length, take, drop, take-append-drop}
use Rattle.words.specs.Over.{put, newer}
use Rattle.words.proofs.Over.{over_none}

first_window : (m : List ℕ) (n : ℕ) (new : List ℕ) → length new ≤ n → put (take n m) 0 new ++ drop n m ≡ put m 0 new
first_window m n [] h =
    ap (λ (r : List ℕ). r ++ drop n m) (over_none newer (take n m) 0) ∙ take-append-drop n m ∙ sym (over_none newer m 0)
first_window [] zero (b ∷ new) h = refl
first_window [] (suc n) (b ∷ new) h = refl
first_window (x ∷ m) zero (b ∷ new) h = absurd (not-suc-le-zero h)
first_window (x ∷ m) (suc n) (b ∷ new) h = ap (λ (r : List ℕ). b ∷ r) (first_window m n new (le_of_suc-le-suc h))

pub window : (m : List ℕ) (at n : ℕ) (new : List ℕ) → length new ≤ n
    → take at m ++ (put (take n (drop at m)) 0 new ++ drop n (drop at m)) ≡ put m at new
window m zero n new h = first_window m n new h
window [] (suc at) zero new h = refl
window [] (suc at) (suc n) new h = refl
window (x ∷ m) (suc at) n new h = ap (λ (r : List ℕ). x ∷ r) (window m at n new h)
