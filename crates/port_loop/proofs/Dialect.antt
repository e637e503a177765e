-- What ST's dialect makes of a reply: where it has no such place nothing, and its length stays.
use mathlib.Core.Path.{◌≡◌, refl, ap, ◌∙◌}
use mathlib.Core.Bool.{Bool, true, false}
use mathlib.Core.List.{List, [], ◌∷◌}
use Prim.Native.Nat.{ℕ, zero, suc, ◌-◌, ◌≤◌}
use native.Mathlib.Nat.{not-suc-le-zero, le_of_suc-le-suc}
use lib.Dec.{eqb}
use lib.ListN.{length, get_or, set, length-set}
use Rattle.std.specs.Prelude.{if◌then◌else◌}
use Rattle.port_loop.specs.St.{count_at, high_at, low_at, product_high, product_low, in_st}

-- a store behind a list changes nothing
pub set_beyond : (l : List ℕ) (i a : ℕ) → length l ≤ i → set l i a ≡ l
set_beyond [] i a h = refl
set_beyond (x ∷ l) zero a h = absurd (not-suc-le-zero h)
set_beyond (x ∷ l) (suc i) a h = ap (λ (r : List ℕ). x ∷ r) (set_beyond l i a (le_of_suc-le-suc h))

-- a reply stays as long as it was
pub same_long : (command : ℕ) (reply : List ℕ) → length (in_st command reply) ≡ length reply
unfolding in_st
same_long command reply = by_command (eqb command 0) (eqb command 2)
  where
    by_command : (a b : Bool)
        → length (if a then set reply count_at (get_or reply count_at 0 - 1)
        else if b then set (set reply high_at product_high) low_at product_low else reply) ≡ length reply
    by_command true b = length-set reply count_at (get_or reply count_at 0 - 1)
    by_command false true = length-set (set reply high_at product_high) low_at product_low ∙ length-set reply high_at product_high
    by_command false false = refl

-- and none stays none
pub none_said : (command : ℕ) → in_st command [] ≡ []
unfolding in_st
none_said command = by_command (eqb command 0) (eqb command 2)
  where
    by_command : (a b : Bool)
        → (if a then set [] count_at (get_or [] count_at 0 - 1) else if b then set (set [] high_at product_high) low_at product_low else []) ≡ []
    by_command true b = refl
    by_command false true = refl
    by_command false false = refl
