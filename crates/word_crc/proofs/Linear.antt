-- The register's shifts are linear: what they make of a XOR is the XOR of what they make of its two parts.
use mathlib.Core.Path.{◌≡◌, refl, sym, ap, ap₂, ◌∙◌}
use Prim.Native.Nat.{ℕ, zero, suc, ◌+◌, ◌*◌, ◌/◌, ◌%◌, ◌^◌, ◌<◌}
use native.Mathlib.Nat.{mul_assoc, mul_comm, pow-suc, le-mul_of_pos_right}
use native.Mathlib.Omega.{arith}
use lib.Arith.{bin_ind}
use lib.Pow.{pow_pos}
use lib.Bits.{bit_xor, differ, xor_step, xor_zero_l, xor_zero_r, xor_comm, xor_self, xor_lt, xor_shr, xor_mod, xor_block, xor_shifted}
use borrow.Author.Tests.{le-leb, lt-leb}
use Rattle.crc.specs.Crc.{polynomial, shifted, shifted_by}

-- ---- XOR is associative

differ_assoc : (x y z : ℕ) → x < 2 → y < 2 → z < 2 → differ (bit_xor x y) z ≡ differ x (bit_xor y z)
differ_assoc zero zero zero h k l = refl
differ_assoc zero zero (suc zero) h k l = refl
differ_assoc zero zero (suc (suc z)) h k l = absurd (omega arith)
differ_assoc zero (suc zero) zero h k l = refl
differ_assoc zero (suc zero) (suc zero) h k l = refl
differ_assoc zero (suc zero) (suc (suc z)) h k l = absurd (omega arith)
differ_assoc zero (suc (suc y)) z h k l = absurd (omega arith)
differ_assoc (suc zero) zero zero h k l = refl
differ_assoc (suc zero) zero (suc zero) h k l = refl
differ_assoc (suc zero) zero (suc (suc z)) h k l = absurd (omega arith)
differ_assoc (suc zero) (suc zero) zero h k l = refl
differ_assoc (suc zero) (suc zero) (suc zero) h k l = refl
differ_assoc (suc zero) (suc zero) (suc (suc z)) h k l = absurd (omega arith)
differ_assoc (suc zero) (suc (suc y)) z h k l = absurd (omega arith)
differ_assoc (suc (suc x)) y z h k l = absurd (omega arith)

pub xor_assoc : (a b c : ℕ) → bit_xor (bit_xor a b) c ≡ bit_xor a (bit_xor b c)
xor_assoc =
    bin_ind (λ (n : ℕ). (b c : ℕ) → bit_xor (bit_xor n b) c ≡ bit_xor n (bit_xor b c))
    (λ b c. ap (λ (x : ℕ). bit_xor x c) (xor_zero_l b) ∙ sym (xor_zero_l (bit_xor b c)))
    (λ n ih b c. xor_step (bit_xor n b) c
    ∙ ap₂ (λ (x y : ℕ). bit_xor x (c / 2) * 2 + differ y (c % 2)) (xor_shr n b 1) (xor_mod n b 1)
    ∙ ap₂ (λ (x y : ℕ). x * 2 + y) (ih (b / 2) (c / 2)) (differ_assoc (n % 2) (b % 2) (c % 2) (omega arith) (omega arith) (omega arith))
    ∙ sym (ap₂ (λ (x y : ℕ). bit_xor (n / 2) x * 2 + differ (n % 2) y) (xor_shr b c 1) (xor_mod b c 1))
    ∙ sym (xor_step n (bit_xor b c)))

-- ---- one shift

-- what a shift takes in, by the bit that falls out
abbrev taken_in : ℕ → ℕ
taken_in zero = 0
taken_in (suc n) = polynomial

-- a shift, by the bit that falls out
by_its_bit : (c : ℕ) → c < 2 ^ 32 → shifted c ≡ bit_xor (c * 2 % 2 ^ 32) (taken_in (c / 2 ^ 31))
unfolding shifted
by_its_bit c h = by_bit (c / 2 ^ 31) refl
  where
    by_bit : (q : ℕ) → c / 2 ^ 31 ≡ q → shifted c ≡ bit_xor (c * 2 % 2 ^ 32) (taken_in q)
    by_bit zero e = rw (lt-leb (2 ^ 31) c (omega arith), xor_zero_r (c * 2 % 2 ^ 32)) refl
    by_bit (suc zero) e = rw (le-leb (2 ^ 31) c (omega arith)) refl
    by_bit (suc (suc q)) e = absurd (omega arith)

-- a register stays one, shifted once
pub shifted_lt : (c : ℕ) → c < 2 ^ 32 → shifted c < 2 ^ 32
shifted_lt c h = rw (by_its_bit c h) (xor_lt 32 (c * 2 % 2 ^ 32) (taken_in (c / 2 ^ 31)) (omega arith) (small (c / 2 ^ 31)))
  where
    small : (q : ℕ) → taken_in q < 2 ^ 32
    small zero = omega arith
    small (suc q) = omega arith

-- four numbers, and the polynomial by two bits
mixed : (a b s t : ℕ) → s < 2 → t < 2 → bit_xor (bit_xor a b) (taken_in (bit_xor s t)) ≡ bit_xor (bit_xor a (taken_in s)) (bit_xor b (taken_in t))
mixed a b zero zero h k = xor_zero_r (bit_xor a b) ∙ sym (ap₂ bit_xor (xor_zero_r a) (xor_zero_r b))
mixed a b zero (suc zero) h k = xor_assoc a b polynomial ∙ ap (λ (x : ℕ). bit_xor x (bit_xor b polynomial)) (sym (xor_zero_r a))
mixed a b zero (suc (suc t)) h k = absurd (omega arith)
mixed a b (suc zero) zero h k =
    xor_assoc a b polynomial ∙ ap (λ (x : ℕ). bit_xor a x) (xor_comm b polynomial) ∙ sym (xor_assoc a polynomial b)
    ∙ ap (λ (x : ℕ). bit_xor (bit_xor a polynomial) x) (sym (xor_zero_r b))
mixed a b (suc zero) (suc zero) h k =
    xor_zero_r (bit_xor a b)
    ∙ ap (λ (x : ℕ). bit_xor a x) (sym (xor_zero_l b) ∙ ap (λ (x : ℕ). bit_xor x b) (sym (xor_self polynomial)) ∙ xor_assoc polynomial polynomial b
    ∙ ap (λ (x : ℕ). bit_xor polynomial x) (xor_comm polynomial b))
    ∙ sym (xor_assoc a polynomial (bit_xor b polynomial))
mixed a b (suc zero) (suc (suc t)) h k = absurd (omega arith)
mixed a b (suc (suc s)) t h k = absurd (omega arith)

doubled : (u v : ℕ) → bit_xor u v * 2 ≡ bit_xor (u * 2) (v * 2)
doubled u v =
    let a : u * 2 + 0 ≡ u * 2 = omega arith in
    let b : v * 2 + 0 ≡ v * 2 = omega arith in
    let e = rw (a, b) at (xor_block 1 u v 0 0 (omega arith) (omega arith)) in
    omega (arith, e)

linear : (u v : ℕ) → u < 2 ^ 32 → v < 2 ^ 32 → shifted (bit_xor u v) ≡ bit_xor (shifted u) (shifted v)
linear u v h k =
    by_its_bit (bit_xor u v) (xor_lt 32 u v h k)
    ∙ ap₂ (λ (x y : ℕ). bit_xor x (taken_in y)) (ap (λ (x : ℕ). x % 2 ^ 32) (doubled u v) ∙ xor_mod (u * 2) (v * 2) 32) (xor_shr u v 31)
    ∙ mixed (u * 2 % 2 ^ 32) (v * 2 % 2 ^ 32) (u / 2 ^ 31) (v / 2 ^ 31) (omega arith) (omega arith)
    ∙ sym (ap₂ bit_xor (by_its_bit u h) (by_its_bit v k))

-- ---- many shifts

pub linear_by : (n u v : ℕ) → u < 2 ^ 32 → v < 2 ^ 32 → shifted_by n (bit_xor u v) ≡ bit_xor (shifted_by n u) (shifted_by n v)
linear_by zero u v h k = refl
linear_by (suc n) u v h k = ap (λ (x : ℕ). shifted_by n x) (linear u v h k) ∙ linear_by n (shifted u) (shifted v) (shifted_lt u h) (shifted_lt v k)

-- a register stays one, however often it is shifted
pub shifted_by_lt : (n c : ℕ) → c < 2 ^ 32 → shifted_by n c < 2 ^ 32
shifted_by_lt zero c h = h
shifted_by_lt (suc n) c h = shifted_by_lt n (shifted c) (shifted_lt c h)

-- shifts that let no bit fall out
pub only_up : (n l : ℕ) → l * 2 ^ n < 2 ^ 32 → shifted_by n l ≡ l * 2 ^ n
only_up zero l h = omega arith
only_up (suc n) l h =
    let p = pow-suc 2 n in
    let a : l * 2 ^ suc n ≡ l * 2 * 2 ^ n = ap (λ (x : ℕ). l * x) (p ∙ mul_comm (2 ^ n) 2) ∙ sym (mul_assoc l 2 (2 ^ n)) in
    let m = le-mul_of_pos_right {m = 2 ^ n} (l * 2) (pow_pos n) in
    ap (λ (x : ℕ). shifted_by n x) (up l (omega arith)) ∙ only_up n (l * 2) (omega arith) ∙ sym a
  where
    up : (c : ℕ) → c < 2 ^ 31 → shifted c ≡ c * 2
    up c k = by_its_bit c (omega arith) ∙ rw (d, q) (xor_zero_r (c * 2))
      where
        d : c * 2 % 2 ^ 32 ≡ c * 2
        d = omega arith

        q : c / 2 ^ 31 ≡ 0
        q = omega arith

-- shifts behind shifts
pub shifted_then : (m n c : ℕ) → shifted_by m (shifted_by n c) ≡ shifted_by (m + n) c
shifted_then m zero c =
    let e : m ≡ m + 0 = omega arith in
    ap (λ (k : ℕ). shifted_by k c) e
shifted_then m (suc n) c =
    let e : suc (m + n) ≡ m + suc n = omega arith in
    shifted_then m n (shifted c) ∙ ap (λ (k : ℕ). shifted_by k c) e

-- what shifts make of the high byte, and of the others one byte further up
pub peeled : (n m x : ℕ) → m + 8 ≡ n → x < 2 ^ 32
    → shifted_by n x ≡ bit_xor (shifted_by n (x / 2 ^ 24 * 2 ^ 24)) (shifted_by m (x * 2 ^ 8 % 2 ^ 32))
peeled n m x p h =
    let high = x / 2 ^ 24 in
    let low = x % 2 ^ 24 in
    let e : x ≡ bit_xor (high * 2 ^ 24) low = omega (arith, xor_shifted high 24 low (omega arith)) in
    let l : shifted_by 8 low ≡ x * 2 ^ 8 % 2 ^ 32 = omega (arith, only_up 8 low (omega arith)) in
    let m8 : shifted_by n low ≡ shifted_by m (shifted_by 8 low) = ap (λ (k : ℕ). shifted_by k low) (sym p) ∙ sym (shifted_then m 8 low) in
    ap (λ (r : ℕ). shifted_by n r) e ∙ linear_by n (high * 2 ^ 24) low (omega arith) (omega arith)
    ∙ ap (λ (r : ℕ). bit_xor (shifted_by n (high * 2 ^ 24)) r) (m8 ∙ ap (λ (r : ℕ). shifted_by m r) l)
