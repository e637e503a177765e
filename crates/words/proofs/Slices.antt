-- What is left of a list at a turn of a loop, taken apart from its front.
use mathlib.Core.Path.{◌≡◌, refl, ap}
use mathlib.Core.List.{List, [], ◌∷◌}
use Prim.Native.Nat.{ℕ, suc, ◌+◌, ◌-◌, ◌≤◌, ◌<◌}
use native.Mathlib.Nat.{not-suc-le-zero, le_of_suc-le-suc}
use native.Mathlib.Numerals.{add-one}
use native.Mathlib.Omega.{arith}
use lib.ListN.{length, get_or, take, drop, length-drop}
use lib.Seq.{slice, slice-cons, take_all, length-take-le}
use Rattle.words.specs.Bytes.{number}
use Rattle.words.specs.Lists.{pairs, part}

-- its first byte and the rest
pub slice_first : (s : List ℕ) (i n : ℕ) → i < n → n ≤ length s → slice i n s ≡ get_or s i 0 ∷ slice (i + 1) n s
slice_first s i n h k = rw (add-one, slice-cons i n s 0 h k)

-- its first two-byte number and the rest
pub pairs_first : (s : List ℕ) (j m : ℕ) → j + 1 < m → m ≤ length s
    → pairs (slice j m s) ≡ number (get_or s j 0 ∷ get_or s (j + 1) 0 ∷ []) ∷ pairs (slice (j + 2) m s)
pairs_first s j m h k =
    let e : j + 1 ≡ suc j = omega arith in
    let f : j + 2 ≡ suc (suc j) = omega arith in
    rw (e, f, slice-cons j m s 0 (omega arith) k, slice-cons (suc j) m s 0 (omega arith) k)

-- the first two bytes of a list, and the first four
pub take_two : (s : List ℕ) → 2 ≤ length s → take 2 s ≡ get_or s 0 0 ∷ get_or s 1 0 ∷ []
take_two [] h = absurd (not-suc-le-zero h)
take_two (a ∷ []) h = absurd (not-suc-le-zero (le_of_suc-le-suc h))
take_two (a ∷ b ∷ s) h = refl

pub take_four : (s : List ℕ) → 4 ≤ length s → take 4 s ≡ get_or s 0 0 ∷ get_or s 1 0 ∷ get_or s 2 0 ∷ get_or s 3 0 ∷ []
take_four [] h = absurd (not-suc-le-zero h)
take_four (a ∷ []) h = absurd (not-suc-le-zero (le_of_suc-le-suc h))
take_four (a ∷ b ∷ s) h = ap (λ (l : List ℕ). a ∷ b ∷ l) (take_two s (le_of_suc-le-suc (le_of_suc-le-suc h)))

-- a part that is there has its length
pub length_part : (l : List ℕ) (at n : ℕ) → at + n ≤ length l → length (part at n l) ≡ n
length_part l at n h = length-take-le n (drop at l) (simp length-drop (omega arith))

-- a slice from a place to the end is what is left from that place
pub to_the_end : (n : ℕ) (l : List ℕ) → take (length l - n) (drop n l) ≡ drop n l
to_the_end n l = take_all (length l - n) (drop n l) (simp length-drop (omega arith))
