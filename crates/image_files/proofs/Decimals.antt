-- Decimal digits, and how large the number that they write becomes.
use mathlib.Core.List.{List, [], ◌∷◌}
use Prim.Native.Nat.{ℕ, zero, suc, ◌*◌, ◌≤◌, ◌<◌}
use native.Mathlib.Omega.{arith}
use lib.Dec.{T, leb}
use lib.ListN.{length, get_or}
use borrow.Author.Tests.{leb-true}
use Rattle.words.specs.Lists.{all}
use Rattle.words.proofs.Tests.{both_left, both_right, holds_true}
use Rattle.image_files.specs.Arguments.{is_decimal}

-- each of several digits is one
digit_at : (l : List ℕ) (i : ℕ) → T (all is_decimal l) → i < length l → T (is_decimal (get_or l i 0))
digit_at [] i t h = absurd (omega arith)
digit_at (c ∷ cs) zero t h = both_left (is_decimal c) (all is_decimal cs) t
digit_at (c ∷ cs) (suc i) t h = digit_at cs i (both_right (is_decimal c) (all is_decimal cs) t) (omega arith)

-- it lies between 0 and 9
pub digit_lies : (l : List ℕ) (i : ℕ) → T (all is_decimal l) → i < length l → (48 ≤ get_or l i 0) × (get_or l i 0 ≤ 57)
digit_lies l i t h =
    let c = get_or l i 0 in
    let d = digit_at l i t h in
    (leb-true 48 c (holds_true (leb 48 c) (both_left (leb 48 c) (leb c 57) d)), leb-true c 57 (holds_true (leb c 57) (both_right (leb 48 c) (leb c 57) d)))

-- what i digits stay below
abbrev pub most : ℕ → ℕ
most zero = 1
most (suc i) = 10 * most i

pub still_small : (v i : ℕ) → i < 5 → v < most i → v < 10000
still_small v zero h k = omega arith
still_small v (suc zero) h k = omega arith
still_small v (suc (suc zero)) h k = omega arith
still_small v (suc (suc (suc zero))) h k = omega arith
still_small v (suc (suc (suc (suc zero)))) h k = omega arith
still_small v (suc (suc (suc (suc (suc i))))) h k = absurd (omega arith)
