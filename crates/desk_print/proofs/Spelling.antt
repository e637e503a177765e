-- Laws of digits: how a number is spelled in them.
use mathlib.Core.Path.{◌≡◌, refl, sym, ap, subst, ◌∙◌}
use mathlib.Core.Bool.{Bool, true, false}
use mathlib.Core.List.{List, [], ◌∷◌, ◌++◌}
use Prim.Native.Nat.{ℕ, zero, suc, ◌+◌, ◌-◌, ◌*◌, ◌/◌, ◌%◌, ◌^◌, ◌≤◌, ◌<◌}
use native.Mathlib.Nat.{not-suc-le-zero, le_of_suc-le-suc, pow-suc}
use native.Mathlib.Omega.{arith}
use lib.Dec.{ltb}
use lib.ListN.{length, length-append}
use borrow.Author.Tests.{lt-ltb, le-ltb}
use Rattle.std.specs.Prelude.{if◌then◌else◌}
use Rattle.io.specs.Digits.{last_digits, IsDigitCount}
use Rattle.desk_print.specs.Digits.{digit_of, decimal_up_to, decimal}

-- a number has no more digits than it counts
ten_to : (m : ℕ) → m < 10 ^ m
ten_to zero = omega arith
ten_to (suc m) = let h = ten_to m in rw (pow-suc 10 m) (omega arith)

-- the fewest digits of a number are its decimal
pub fewest_decimal : (k f n : ℕ) → k ≤ f → IsDigitCount 10 1 n k → last_digits 10 k n ≡ decimal_up_to f n
fewest_decimal zero f n l h = absurd (not-suc-le-zero h.0)
fewest_decimal (suc k) zero n l h = absurd (not-suc-le-zero l)
fewest_decimal (suc zero) (suc f) n l h =
    let e : n % 10 ≡ n = omega (arith, h.1) in
    rw (e, lt-ltb n 10 h.1) refl
fewest_decimal (suc (suc k)) (suc f) n l h =
    let p = ten_to k in
    let e : suc (suc k) - 1 ≡ suc k = omega arith in
    let a : 10 ^ k * 10 ≤ n = rw (e, pow-suc 10 k) at (h.2 (omega arith)) in
    let b : n < 10 ^ k * 10 * 10 = rw (pow-suc 10 (suc k), pow-suc 10 k) at h.1 in
    let r : n % 10 < 10 = omega arith in
    let fewer : IsDigitCount 10 1 (n / 10) (suc k) = (omega arith, rw (pow-suc 10 k) (omega arith), λ t. let g : suc k - 1 ≡ k = omega arith in rw g (omega arith)) in
    rw (le-ltb n 10 (omega arith), lt-ltb (n % 10) 10 r) (ap (λ (d : List ℕ). d ++ ((48 + n % 10) ∷ [])) (fewest_decimal (suc k) f (n / 10) (le_of_suc-le-suc l) fewer))

-- and the fewest are no more than it has
pub decimal_digits : (k n : ℕ) → IsDigitCount 10 1 n k → last_digits 10 k n ≡ decimal n
decimal_digits zero n h = absurd (not-suc-le-zero h.0)
decimal_digits (suc zero) n h = fewest_decimal (suc zero) (suc n) n (omega arith) h
decimal_digits (suc (suc k)) n h =
    let e : suc (suc k) - 1 ≡ suc k = omega arith in
    let a = rw e at (h.2 (omega arith)) in
    let p = ten_to (suc k) in
    fewest_decimal (suc (suc k)) (suc n) n (omega arith) h

-- so many digits are so many characters
pub length_digits : (k n : ℕ) → length (last_digits 10 k n) ≡ k
length_digits zero n = refl
length_digits (suc k) n = length-append (last_digits 10 k (n / 10)) _ ∙ let e = length_digits k (n / 10) in omega arith

-- a number below a power of ten has no more digits than that
pub decimal_short : (k f n : ℕ) → n < 10 ^ suc k → length (decimal_up_to f n) ≤ suc k
decimal_short k zero n h = omega arith
decimal_short zero (suc f) n h = rw (lt-ltb n 10 h) (omega arith)
decimal_short (suc k) (suc f) n h =
    let b : n < 10 ^ suc k * 10 = rw (pow-suc 10 (suc k)) at h in
    by_test (ltb n 10) (decimal_short k f (n / 10) (omega arith))
  where
    by_test : (t : Bool) → length (decimal_up_to f (n / 10)) ≤ suc k
        → length (if t then digit_of n ∷ [] else decimal_up_to f (n / 10) ++ digit_of (n % 10) ∷ []) ≤ suc (suc k)
    by_test true l = omega arith
    by_test false l = rw (length-append (decimal_up_to f (n / 10)) (digit_of (n % 10) ∷ [])) (omega arith)

pub number_short : (n : ℕ) → n < 2 ^ 64 → length (decimal n) ≤ 20
number_short n h = decimal_short 19 (suc n) n (omega arith)

-- the fewest digits of a number that fits: what they are, how many, and no more than twenty
pub number_spelled : (k n : ℕ) → n < 2 ^ 64 → IsDigitCount 10 1 n k → (last_digits 10 k n ≡ decimal n) × (k ≡ length (decimal n)) × (k ≤ 20)
number_spelled k n b h =
    let e = decimal_digits k n h in
    let l : k ≡ length (decimal n) = sym (length_digits k n) ∙ ap length e in
    (e, l, subst (λ (j : ℕ). j ≤ 20) (sym l) (number_short n b))
