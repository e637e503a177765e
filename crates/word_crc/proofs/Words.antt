-- Words: their order is the definition's, a word that goes in whole is its four bytes, and so the checksum is a fold of whole words.
use mathlib.Core.Path.{◌≡◌, refl, sym, ap, ◌∙◌}
use mathlib.Core.List.{List, [], ◌∷◌, ◌++◌, foldl}
use Prim.Native.Nat.{ℕ, zero, suc, ◌+◌, ◌*◌, ◌-◌, ◌/◌, ◌%◌, ◌^◌, ◌≤◌, ◌<◌}
use native.Mathlib.Omega.{arith}
use lib.Bits.{bit_xor, xor_lt, xor_shifted}
use lib.ListN.{length, get_or, take, drop, get_or-append, length-append, length-drop}
use lib.Seq.{drop-cons, drop-drop, drop_at, get_or-drop, take_all}
use Rattle.words.specs.Bytes.{number, four_bytes}
use Rattle.crc.specs.Crc.{start, shifted_by, fed, crc_from}
use Rattle.word_crc.proofs.Linear.{xor_assoc, linear_by, only_up, shifted_then, shifted_by_lt}
use Rattle.word_crc.specs.Words.{fours_reversed, little_word, little_words, from_highest, word_fed, HighestByteFirst, FoldOfWords}
use Rattle.word_crc.specs.Tables.{word_at}

-- ---- their order

-- the four bytes of the number that four bytes write are these
its_bytes : (a b c d : ℕ) → a < 256 → b < 256 → c < 256 → d < 256 → four_bytes (number (a ∷ b ∷ c ∷ d ∷ [])) ≡ a ∷ b ∷ c ∷ d ∷ []
its_bytes a b c d p q r s =
    let w = number (a ∷ b ∷ c ∷ d ∷ []) in
    let e3 : w / 256 ^ 3 % 256 ≡ a = omega arith in
    let e2 : w / 256 ^ 2 % 256 ≡ b = omega arith in
    let e1 : w / 256 ^ 1 % 256 ≡ c = omega arith in
    let e0 : w / 256 ^ 0 % 256 ≡ d = omega arith in
    rw (e3, e2, e1, e0) refl

-- group by group
from_highest_lem : (l : List ℕ) → ((i : ℕ) → get_or l i 0 < 256) → length l % 4 ≡ 0 → fours_reversed l ≡ from_highest (little_words l)
from_highest_lem [] h e = refl
from_highest_lem (a ∷ []) h e = absurd (omega arith)
from_highest_lem (a ∷ b ∷ []) h e = absurd (omega arith)
from_highest_lem (a ∷ b ∷ c ∷ []) h e = absurd (omega arith)
from_highest_lem (a ∷ b ∷ c ∷ d ∷ l) h e =
    ap (λ (t : List ℕ). d ∷ c ∷ b ∷ a ∷ t) (from_highest_lem l (λ i. h (suc (suc (suc (suc i))))) (omega arith))
    ∙ ap (λ (t : List ℕ). t ++ from_highest (little_words l)) (sym (its_bytes d c b a (h 3) (h 2) (h 1) (h 0)))

pub highest_byte_first : HighestByteFirst
highest_byte_first l w = from_highest_lem l w.byte w.whole

-- ---- a word goes in whole

-- a byte that goes in behind n shifts might have gone in before them, further down
behind : (n u b p : ℕ) → u < 2 ^ 32 → p < 2 ^ 32 → p * 2 ^ n ≡ b * 2 ^ 24 → b < 256 → fed (shifted_by n u) b ≡ shifted_by (8 + n) (bit_xor u p)
unfolding fed
behind n u b p h k e l =
    ap (λ (x : ℕ). shifted_by 8 (bit_xor (shifted_by n u) x)) (sym (only_up n p (omega arith) ∙ e))
    ∙ ap (λ (x : ℕ). shifted_by 8 x) (sym (linear_by n u p h k)) ∙ shifted_then 8 n (bit_xor u p)

module _ (r a b c d : ℕ) (l : r < 2 ^ 32) (h : a < 256) (i : b < 256) (j : c < 256) (k : d < 256) where
  -- four bytes that go in, the highest first, are their word that goes in
  pub word_in : fed (fed (fed (fed r a) b) c) d ≡ word_fed r (number (a ∷ b ∷ c ∷ d ∷ []))
  unfolding fed word_fed
  word_in =
      let u = bit_xor r (a * 2 ^ 24) in
      let v = bit_xor u (b * 2 ^ 16) in
      let w = bit_xor v (c * 2 ^ 8) in
      let p = xor_lt 32 r (a * 2 ^ 24) l (omega arith) in
      let q = xor_lt 32 u (b * 2 ^ 16) p (omega arith) in
      let s = xor_lt 32 v (c * 2 ^ 8) q (omega arith) in
      ap (λ (x : ℕ). fed (fed x c) d) (behind 8 u b (b * 2 ^ 16) p (omega arith) (omega arith) i)
      ∙ ap (λ (x : ℕ). fed x d) (behind 16 v c (c * 2 ^ 8) q (omega arith) (omega arith) j)
      ∙ behind 24 w d d s (omega arith) (omega arith) k
      ∙ ap (λ (x : ℕ). shifted_by 32 x) together
    where
      together : bit_xor (bit_xor (bit_xor (bit_xor r (a * 2 ^ 24)) (b * 2 ^ 16)) (c * 2 ^ 8)) d ≡ bit_xor r (number (a ∷ b ∷ c ∷ d ∷ []))
      together =
          let x = xor_shifted c 8 d (omega arith) in
          let y = xor_shifted b 16 (bit_xor (c * 2 ^ 8) d) (omega arith) in
          let z = xor_shifted a 24 (bit_xor (b * 2 ^ 16) (bit_xor (c * 2 ^ 8) d)) (omega arith) in
          let e : bit_xor (a * 2 ^ 24) (bit_xor (b * 2 ^ 16) (bit_xor (c * 2 ^ 8) d)) ≡ number (a ∷ b ∷ c ∷ d ∷ []) = omega (arith, x, y, z) in
          xor_assoc (bit_xor (bit_xor r (a * 2 ^ 24)) (b * 2 ^ 16)) (c * 2 ^ 8) d
          ∙ xor_assoc (bit_xor r (a * 2 ^ 24)) (b * 2 ^ 16) (bit_xor (c * 2 ^ 8) d)
          ∙ xor_assoc r (a * 2 ^ 24) (bit_xor (b * 2 ^ 16) (bit_xor (c * 2 ^ 8) d))
          ∙ ap (λ (t : ℕ). bit_xor r t) e

-- a register with a word more is one
pub word_fed_lt : (r w : ℕ) → r < 2 ^ 32 → w < 2 ^ 32 → word_fed r w < 2 ^ 32
unfolding word_fed
word_fed_lt r w h k = shifted_by_lt 32 (bit_xor r w) (xor_lt 32 r w h k)

-- ---- parts at whole words

by_four : (j : ℕ) → suc j * 4 ≡ suc (suc (suc (suc (j * 4))))
by_four j = omega arith

-- the words behind some of them
pub words_behind : (j : ℕ) (l : List ℕ) → little_words (drop (j * 4) l) ≡ drop j (little_words l)
words_behind zero l = refl
words_behind (suc j) [] = rw (by_four j) refl
words_behind (suc j) (a ∷ []) = rw (by_four j) refl
words_behind (suc j) (a ∷ b ∷ []) = rw (by_four j) refl
words_behind (suc j) (a ∷ b ∷ c ∷ []) = rw (by_four j) refl
words_behind (suc j) (a ∷ b ∷ c ∷ d ∷ l) = rw (by_four j) (words_behind j l)

-- the first of some words
pub words_before : (n : ℕ) (l : List ℕ) → little_words (take (n * 4) l) ≡ take n (little_words l)
words_before zero l = refl
words_before (suc n) [] = rw (by_four n) refl
words_before (suc n) (a ∷ []) = rw (by_four n) refl
words_before (suc n) (a ∷ b ∷ []) = rw (by_four n) refl
words_before (suc n) (a ∷ b ∷ c ∷ []) = rw (by_four n) refl
words_before (suc n) (a ∷ b ∷ c ∷ d ∷ l) = rw (by_four n) (ap (λ (t : List ℕ). little_word a b c d ∷ t) (words_before n l))

-- ---- words go in one by one

-- from any register on
fold : (l : List ℕ) (r : ℕ) → r < 2 ^ 32 → ((i : ℕ) → get_or l i 0 < 256) → length l % 4 ≡ 0
    → crc_from r (fours_reversed l) ≡ foldl word_fed r (little_words l)
fold [] r k h e = refl
fold (a ∷ []) r k h e = absurd (omega arith)
fold (a ∷ b ∷ []) r k h e = absurd (omega arith)
fold (a ∷ b ∷ c ∷ []) r k h e = absurd (omega arith)
fold (a ∷ b ∷ c ∷ d ∷ l) r k h e =
    let p : a < 256 = h 0 in
    let q : b < 256 = h 1 in
    let s : c < 256 = h 2 in
    let t : d < 256 = h 3 in
    let w = number (d ∷ c ∷ b ∷ a ∷ []) in
    ap (λ (x : ℕ). crc_from x (fours_reversed l)) (word_in r d c b a k t s q p)
    ∙ fold l (word_fed r w) (word_fed_lt r w k (omega arith)) (λ i. h (suc (suc (suc (suc i))))) (omega arith)

pub fold_of_words : FoldOfWords
fold_of_words l w = fold l start (omega arith) w.byte w.whole

-- ---- bytes that are taken, four, and those that are left
module _ (s : List ℕ) (i : ℕ) where
  -- the next group, and the others
  pub four_down : i + 3 < length s
      → fours_reversed (drop i s) ≡ get_or s (i + 3) 0 ∷ get_or s (i + 2) 0 ∷ get_or s (i + 1) 0 ∷ get_or s i 0 ∷ fours_reversed (drop (i + 4) s)
  four_down h =
      let a : i + 1 ≡ suc i = omega arith in
      let b : i + 2 ≡ suc (suc i) = omega arith in
      let c : i + 3 ≡ suc (suc (suc i)) = omega arith in
      let d : i + 4 ≡ suc (suc (suc (suc i))) = omega arith in
      rw (
        a,
        b,
        c,
        d,
        drop-cons s i 0 (omega arith),
        drop-cons s (suc i) 0 (omega arith),
        drop-cons s (suc (suc i)) 0 (omega arith),
        drop-cons s (suc (suc (suc i))) 0 (omega arith),
      ) refl

  -- fewer than four bytes
  pub rest_stays : i ≤ length s → length s ≤ i + 3 → take (length s - i) (drop i s) ≡ fours_reversed (drop i s)
  rest_stays h k = take_all (length s - i) (drop i s) (omega (arith, length-drop i s)) ∙ short (drop i s) (omega (arith, length-drop i s))
    where
      short : (l : List ℕ) → length l < 4 → l ≡ fours_reversed l
      short [] p = refl
      short (a ∷ []) p = refl
      short (a ∷ b ∷ []) p = refl
      short (a ∷ b ∷ c ∷ []) p = refl
      short (a ∷ b ∷ c ∷ d ∷ l) p = absurd (omega arith)

-- four bytes that are taken are a word that goes in
pub word_taken : (s : List ℕ) (r i : ℕ) → ((j : ℕ) → get_or s j 0 < 256) → r < 2 ^ 32 → i + 3 < length s
    → crc_from r (fours_reversed (drop i s)) ≡ crc_from (word_fed r (word_at i s)) (fours_reversed (drop (i + 4) s))
word_taken s r i b l h =
    ap (λ (t : List ℕ). crc_from r t) (four_down s i h)
    ∙ ap (λ (x : ℕ). crc_from x (fours_reversed (drop (i + 4) s)))
    (word_in r (get_or s (i + 3) 0) (get_or s (i + 2) 0) (get_or s (i + 1) 0) (get_or s i 0) l (b (i + 3)) (b (i + 2)) (b (i + 1)) (b i))

-- a word is a number of 32 bits
pub word_lt : (s : List ℕ) (i : ℕ) → ((j : ℕ) → get_or s j 0 < 256) → word_at i s < 2 ^ 32
word_lt s i b = omega (arith, b (i + 3), b (i + 2), b (i + 1), b i)

-- and eight are two
pub words_taken : (s : List ℕ) (r i : ℕ) → ((j : ℕ) → get_or s j 0 < 256) → r < 2 ^ 32 → i + 7 < length s
    → crc_from r (fours_reversed (drop i s))
    ≡ crc_from (word_fed (word_fed r (word_at i s)) (word_at (i + 4) s)) (fours_reversed (drop (i + 8) s))
words_taken s r i b l h =
    let e : i + 4 + 4 ≡ i + 8 = omega arith in
    let m = word_fed_lt r (word_at i s) l (word_lt s i b) in
    word_taken s r i b l (omega arith) ∙ word_taken s (word_fed r (word_at i s)) (i + 4) b m (omega arith) ∙ rw e refl

-- ---- eight bytes at the front, which are two words

-- a word that stands in them
word_front : (p l : List ℕ) (i : ℕ) → i + 3 < length p → word_at i (p ++ l) ≡ word_at i p
word_front p l i h = rw (
  get_or-append p l 0 i (omega arith),
  get_or-append p l 0 (i + 1) (omega arith),
  get_or-append p l 0 (i + 2) (omega arith),
  get_or-append p l 0 (i + 3) h,
) refl

-- what is left of some bytes
pub record Left (s rest : List ℕ) : Type 0 where
  pub part : rest ≡ drop (length s - length rest) s
  pub eights : length rest % 8 ≡ length s % 8

-- at first all are
pub all_left : (s : List ℕ) → Left s s
all_left s =
    let e : length s - length s ≡ 0 = omega arith in
    record { part = rw e refl; eights = refl }

-- a turn takes eight of them
pub eight_taken : (s p l rest : List ℕ) (r : ℕ) → ((j : ℕ) → get_or s j 0 < 256) → r < 2 ^ 32 → Left s rest → rest ≡ p ++ l → length p ≡ 8
    → Left s l × (crc_from r (fours_reversed rest) ≡ crc_from (word_fed (word_fed r (word_at 0 p)) (word_at 4 p)) (fours_reversed l))
eight_taken s p l rest r b m k e n =
    let whole : length rest ≡ 8 + length l = ap length e ∙ length-append p l ∙ ap (λ (j : ℕ). j + length l) n in
    let long = ap length k.part ∙ length-drop (length s - length rest) s in
    let at : 8 + (length s - length rest) ≡ length s - length l = omega arith in
    let behind : l ≡ drop (length s - length l) s =
    sym (drop_at p l 8 n) ∙ ap (λ (t : List ℕ). drop 8 t) (sym e ∙ k.part) ∙ drop-drop 8 (length s - length rest) s ∙ ap (λ (j : ℕ). drop j s) (omega arith) in
    let byte : (j : ℕ) → get_or rest j 0 < 256 = λ j. rw k.part (rw get_or-drop (b (length s - length rest + j))) in
    let words = words_taken rest r 0 byte m (omega arith) in (
      record { part = behind; eights = omega arith },
      ap (λ (t : List ℕ). crc_from r (fours_reversed t)) e
          ∙ rw (e, drop_at p l 8 n, word_front p l 0 (omega arith), word_front p l 4 (omega arith)) at words,
    )

-- what is left at the end, fewer than eight
pub eights_end : (s rest : List ℕ) → Left s rest → length rest < 8 → drop (length s - length s % 8) s ≡ rest
eights_end s rest k h =
    let long = ap length k.part ∙ length-drop (length s - length rest) s in
    let e : length s % 8 ≡ length rest = omega (arith, k.eights) in
    rw e (sym k.part)
