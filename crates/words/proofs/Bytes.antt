-- The XOR of a number's two low bytes, and lists of bytes that are cut short.
use mathlib.Core.Path.{◌≡◌, refl, ◌∙◌}
use mathlib.Core.List.{List, [], ◌∷◌}
use Prim.Native.Nat.{ℕ, zero, suc, ◌/◌, ◌%◌, ◌<◌}
use native.Mathlib.Omega.{arith}
use lib.Bits.{bit_xor, xor_zero_l}
use lib.ListN.{get_or, take}
use Rattle.std.specs.List.{fold}
use Rattle.words.specs.Bytes.{two_bytes, xor_all, xor_from}

-- of any number
pub xor_two : (n : ℕ) → xor_all (two_bytes n) ≡ bit_xor (n / 256 % 256) (n % 256)
xor_two n =
    let e : n / 1 % 256 ≡ n % 256 = omega arith in
    rw (e, xor_zero_l (n / 256 % 256))

-- of one that is a byte, it is the number
pub xor_byte : (n : ℕ) → n < 256 → xor_all (two_bytes n) ≡ n
xor_byte n h =
    let e : n / 256 % 256 ≡ 0 = omega arith in
    let f : n % 256 ≡ n = omega arith in
    xor_two n ∙ rw (e, f, xor_zero_l n)

-- a list of bytes, cut short, is still one of bytes
pub still_byte : (n : ℕ) (l : List ℕ) → ((i : ℕ) → get_or l i 0 < 256) → (i : ℕ) → get_or (take n l) i 0 < 256
still_byte zero l h i = omega arith
still_byte (suc n) [] h i = omega arith
still_byte (suc n) (x ∷ l) h zero = h zero
still_byte (suc n) (x ∷ l) h (suc i) = still_byte n l (λ j. h (suc j)) i

-- the XOR of bytes is a fold over them
pub fold_xor : (x : ℕ) (l : List ℕ) → fold bit_xor x l ≡ xor_from x l
fold_xor x [] = refl
fold_xor x (b ∷ l) = fold_xor (bit_xor x b) l
