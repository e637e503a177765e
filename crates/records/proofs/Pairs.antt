-- Laws of hex digits and of pairs of them: where a digit lies, a test of all, the first pair, and the pair of each byte.
use mathlib.Core.Path.{◌≡◌, refl, ap, ◌∙◌}
use mathlib.Core.Bool.{Bool, true, false, ◌&&◌, ◌||◌}
use mathlib.Core.List.{List, [], ◌∷◌, ◌++◌}
use Prim.Native.Nat.{ℕ, zero, suc, ◌+◌, ◌*◌, ◌/◌, ◌%◌, ◌≤◌, ◌<◌}
use native.Mathlib.Numerals.{add-one}
use native.Mathlib.Omega.{arith}
use lib.Dec.{T, leb, leb→le}
use lib.ListN.{length, get_or, take, drop}
use lib.Seq.{drop-cons, drop-length, drop-nil, take-nil}
use borrow.Author.Tests.{leb-true, le-leb, lt-leb}
use lib.Dec.{eqb}
use Rattle.std.specs.List.{fold, list_all}
use Rattle.words.specs.Lists.{all}
use Rattle.words.proofs.Tests.{both_left, both_right, holds_true}
use Rattle.records.specs.Digits.{is_digit, value_of, are_pairs, bytes_in}

-- a digit lies among 0 to 9, among A to F or among a to f
pub digit_lies {ℓ} : {P : Type ℓ} (c : ℕ) → T (is_digit c)
    → (48 ≤ c → c ≤ 57 → P) → (65 ≤ c → c ≤ 70 → P) → (97 ≤ c → c ≤ 102 → P) → P
digit_lies {P = P} c h low high small = by_tests (leb 48 c) (leb c 57) (leb 65 c) (leb c 70) refl refl refl refl h
  where
    smalls : T (leb 97 c && leb c 102) → P
    smalls t = small (leb→le 97 c (both_left (leb 97 c) (leb c 102) t)) (leb→le c 102 (both_right (leb 97 c) (leb c 102) t))

    letters : (a b : Bool) → leb 65 c ≡ a → leb c 70 ≡ b → T ((a && b) || (leb 97 c && leb c 102)) → P
    letters true true e f t = high (leb-true 65 c e) (leb-true c 70 f)
    letters true false e f t = smalls t
    letters false b e f t = smalls t

    by_tests : (a b d g : Bool) → leb 48 c ≡ a → leb c 57 ≡ b → leb 65 c ≡ d → leb c 70 ≡ g
        → T ((a && b) || (d && g) || (leb 97 c && leb c 102)) → P
    by_tests true true d g e f k l t = low (leb-true 48 c e) (leb-true c 57 f)
    by_tests true false d g e f k l t = letters d g k l t
    by_tests false b d g e f k l t = letters d g k l t

-- what is left from a place that a pair stands at
pub pair_first : (s : List ℕ) (i : ℕ) → i + 1 < length s → drop i s ≡ get_or s i 0 ∷ get_or s (i + 1) 0 ∷ drop (i + 2) s
pair_first s i h =
    let e : i + 1 ≡ suc i = omega arith in
    let f : i + 2 ≡ suc (suc i) = omega arith in
    rw (e, f) (drop-cons s i 0 (omega arith) ∙ ap (λ (l : List ℕ). get_or s i 0 ∷ l) (drop-cons s (suc i) 0 (omega arith)))

-- the library's test of all is the definition's
pub same_all : (f : ℕ → Bool) (l : List ℕ) → list_all f l ≡ all f l
same_all f [] = refl
same_all f (x ∷ l) = ap (λ b. f x && b) (same_all f l)

-- so is a test of each, with what the test of those before it gave
pub all_along : (f : ℕ → Bool) (good : Bool) (l : List ℕ) → fold (λ g x. g && f x) good l ≡ (good && all f l)
all_along f true [] = refl
all_along f false [] = refl
all_along f true (x ∷ l) = all_along f (f x) l
all_along f false (x ∷ l) = all_along f false l

-- characters are pairs where they are even in number and all of them are digits
pub pairs_all : (l : List ℕ) → (eqb (length l % 2) 0 && all is_digit l) ≡ are_pairs l
pairs_all [] = refl
pairs_all (a ∷ []) = refl
pairs_all (a ∷ b ∷ l) =
    let e : length (a ∷ b ∷ l) % 2 ≡ length l % 2 = omega arith in
    rw (e, ← pairs_all l) (turned (eqb (length l % 2) 0) (is_digit a) (is_digit b) (all is_digit l))
  where
    turned : (e p q r : Bool) → (e && (p && (q && r))) ≡ ((p && q) && (e && r))
    turned true p q r = assoc p q r
      where
        assoc : (p q r : Bool) → (p && (q && r)) ≡ ((p && q) && r)
        assoc true q r = refl
        assoc false q r = refl
    turned false p q r = none (p && q)
      where
        none : (p : Bool) → false ≡ (p && false)
        none true = refl
        none false = refl

-- one number more of those that all pass a test, and none more at the end
module _ (f : ℕ → Bool) (good : Bool) (s : List ℕ) where
  pub one_more : (i : ℕ) → i < length s → ((good && f (get_or s i 0)) && all f (drop (i + 1) s)) ≡ (good && all f (drop i s))
  one_more i h = rw (drop-cons s i 0 h, add-one i) (assoc good)
    where
      assoc : (g : Bool) → ((g && f (get_or s i 0)) && all f (drop (suc i) s)) ≡ (g && (f (get_or s i 0) && all f (drop (suc i) s)))
      assoc true = refl
      assoc false = refl

  pub none_more : (good && all f (drop (length s) s)) ≡ good
  none_more = rw (drop-length s) (by_good good)
    where
      by_good : (g : Bool) → (g && true) ≡ g
      by_good true = refl
      by_good false = refl

-- the pair of byte i
pub record Paired (l : List ℕ) (i : ℕ) : Type 0 where
  pub there : 2 * i + 1 < length l
  pub high : T (is_digit (get_or l (2 * i) 0))
  pub low : T (is_digit (get_or l (2 * i + 1) 0))
  pub byte : value_of (get_or l (2 * i) 0) * 16 + value_of (get_or l (2 * i + 1) 0) ≡ get_or (bytes_in l) i 0

pub pair_at : (l : List ℕ) (i : ℕ) → T (are_pairs l) → 2 * i < length l → Paired l i
pair_at [] i t h = absurd (omega arith)
pair_at (a ∷ []) i t h = absurd t
pair_at (a ∷ b ∷ l) zero t h =
    let f = both_left (is_digit a && is_digit b) (are_pairs l) t in
    record { there = omega arith; high = both_left (is_digit a) (is_digit b) f; low = both_right (is_digit a) (is_digit b) f; byte = refl }
pair_at (a ∷ b ∷ l) (suc i) t h =
    let p = pair_at l i (both_right (is_digit a && is_digit b) (are_pairs l) t) (omega arith) in
    let e : 2 * suc i ≡ suc (suc (2 * i)) = omega arith in
    let f : suc (suc (2 * i)) + 1 ≡ suc (suc (2 * i + 1)) = omega arith in
    record {
      there = let k = p.there in omega arith;
      high = rw e p.high;
      low = rw (e, f) p.low;
      byte = rw (e, f) p.byte;
    }

-- a byte takes two characters
pub length_pairs : (l : List ℕ) → T (are_pairs l) → length l ≡ 2 * length (bytes_in l)
length_pairs [] t = refl
length_pairs (a ∷ []) t = absurd t
length_pairs (a ∷ b ∷ l) t = let e = length_pairs l (both_right (is_digit a && is_digit b) (are_pairs l) t) in omega arith

-- pairs that begin with one: those behind it, and the bytes that they write
pub record PairFirst (s f t : List ℕ) : Type 0 where
  pub behind : T (are_pairs t)
  pub byte : bytes_in s ≡ get_or (bytes_in f) 0 0 ∷ bytes_in t

pub pair_taken : (s f t : List ℕ) → s ≡ f ++ t → length f ≡ 2 → T (are_pairs s) → PairFirst s f t
pair_taken s (a ∷ b ∷ []) t e n h =
    record {
      behind = both_right (is_digit a && is_digit b) (are_pairs t) (rw e at h);
      byte = ap bytes_in e;
    }
pair_taken s [] t e n h = absurd (omega arith)
pair_taken s (a ∷ []) t e n h = absurd (omega arith)
pair_taken s (a ∷ b ∷ c ∷ f) t e n h = absurd (omega arith)

-- where too few characters for a pair are left, no byte is
pub no_pairs : (l : List ℕ) → length l < 2 → bytes_in l ≡ []
no_pairs [] h = refl
no_pairs (a ∷ []) h = refl
no_pairs (a ∷ b ∷ l) h = absurd (omega arith)

-- the low four bits of a digit, and nine more for a letter, count its value
pub value_bits : (c : ℕ) → T (is_digit c) → (c % 16 + c / 64 * 9 ≡ value_of c) × (c % 16 + c / 64 * 9 < 16)
value_bits c h =
    digit_lies c h
    (λ a b. (rw (le-leb c 57 b) (omega arith), omega arith))
    (λ a b. (rw (lt-leb c 57 (omega arith), le-leb c 70 b) (omega arith), omega arith))
    (λ a b. (rw (lt-leb c 57 (omega arith), lt-leb c 70 (omega arith)) (omega arith), omega arith))

-- pairs behind others, and the first of several, are pairs
pub pairs_drop : (k : ℕ) (l : List ℕ) → T (are_pairs l) → T (are_pairs (drop (2 * k) l))
pairs_drop zero l t = t
pairs_drop (suc k) [] t = rw (drop-nil (2 * suc k)) tt
pairs_drop (suc k) (a ∷ []) t = absurd t
pairs_drop (suc k) (a ∷ b ∷ l) t =
    let e : 2 * suc k ≡ suc (suc (2 * k)) = omega arith in
    rw e (pairs_drop k l (both_right (is_digit a && is_digit b) (are_pairs l) t))

pub pairs_take : (k : ℕ) (l : List ℕ) → T (are_pairs l) → T (are_pairs (take (2 * k) l))
pairs_take zero l t = tt
pairs_take (suc k) [] t = rw (take-nil (2 * suc k)) tt
pairs_take (suc k) (a ∷ []) t = absurd t
pairs_take (suc k) (a ∷ b ∷ l) t =
    let e : 2 * suc k ≡ suc (suc (2 * k)) = omega arith in
    let f = both_left (is_digit a && is_digit b) (are_pairs l) t in
    rw (e, holds_true (is_digit a && is_digit b) f) (pairs_take k l (both_right (is_digit a && is_digit b) (are_pairs l) t))

-- and they write the first of the bytes
pub bytes_take : (k : ℕ) (l : List ℕ) → bytes_in (take (2 * k) l) ≡ take k (bytes_in l)
bytes_take zero l = refl
bytes_take (suc k) [] = rw (take-nil (2 * suc k)) refl
bytes_take (suc k) (a ∷ []) =
    let e : 2 * suc k ≡ suc (suc (2 * k)) = omega arith in
    rw (e, take-nil (suc (2 * k))) refl
bytes_take (suc k) (a ∷ b ∷ l) =
    let e : 2 * suc k ≡ suc (suc (2 * k)) = omega arith in
    rw e (ap (λ (m : List ℕ). (value_of a * 16 + value_of b) ∷ m) (bytes_take k l))
