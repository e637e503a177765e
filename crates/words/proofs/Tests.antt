-- Laws of tests: what a test that holds says of its parts.
use mathlib.Core.Path.{◌≡◌, refl, sym}
use mathlib.Core.Bool.{Bool, true, false, not, ◌&&◌}
use Prim.Native.Nat.{ℕ, suc, ◌≤◌}
use native.Mathlib.Omega.{arith}
use native.Mathlib.Nat.{lt_of_not-le, not-le_of_lt}
use lib.Dec.{T, leb}
use borrow.Author.Tests.{le-leb, lt-leb, leb-true, leb-false}
use Rattle.std.specs.Prelude.{if◌then◌else◌}

-- both parts of a test that joins two hold
pub both_left : (a b : Bool) → T (a && b) → T a
both_left true b t = tt
both_left false b t = t

pub both_right : (a b : Bool) → T (a && b) → T b
both_right true b t = t
both_right false b t = absurd t

-- two tests that hold are the same
pub both_hold : (a b : Bool) → T a → T b → a ≡ b
both_hold true true s t = refl
both_hold true false s t = absurd t
both_hold false b s t = absurd s

-- a test that holds is true, and one that does not is false
pub holds_true : (a : Bool) → T a → a ≡ true
holds_true true t = refl
holds_true false t = absurd t

pub fails_false : (a : Bool) → T (not a) → a ≡ false
fails_false true t = absurd t
fails_false false t = refl

-- a choice whose test holds is its first value
pub chosen : {A : Type 0} (a : Bool) (x y : A) → T a → (if a then x else y) ≡ x
chosen true x y t = refl
chosen false x y t = absurd t

-- a choice between a value and itself is that value
pub same_choice : {A : Type 0} (a : Bool) (x : A) → (if a then x else x) ≡ x
same_choice true x = refl
same_choice false x = refl

-- two orders that follow from each other are tested alike
pub same_order : (a b c d : ℕ) → (a ≤ b → c ≤ d) → (c ≤ d → a ≤ b) → leb a b ≡ leb c d
same_order a b c d f g = by_test (leb a b) refl
  where
    by_test : (t : Bool) → leb a b ≡ t → t ≡ leb c d
    by_test true e = sym (le-leb c d (f (leb-true a b e)))
    by_test false e = sym (lt-leb c d (lt_of_not-le λ k. not-le_of_lt (leb-false a b e) (g k)))

-- a number from k on that is not k is past it
pub past : (k n : ℕ) → k ≤ n → (n ≡ k → ⊥) → suc k ≤ n
past k n h d = omega arith
