-- What is known of a line that is not bad.
use mathlib.Core.Path.{◌≡◌, refl, sym, ap, subst, ◌∙◌}
use mathlib.Core.Bool.{Bool, true, false, ◌&&◌}
use mathlib.Core.List.{List, [], ◌∷◌, ◌++◌}
use Prim.Native.Nat.{ℕ, zero, suc, ◌+◌, ◌*◌, ◌-◌, ◌^◌, ◌≤◌, ◌<◌}
use native.Mathlib.Numerals.{add-one}
use native.Mathlib.Omega.{arith}
use lib.Dec.{T, eqb, leb→le, eqb→eq}
use lib.ListN.{length, get_or, take, drop, length-drop}
use lib.Seq.{drop-drop, take-suc, get_or-drop}
use Rattle.std.proofs.Common.{mul_assoc, length-append}
use Rattle.words.specs.Bytes.{number}
use borrow.Author.Tests.{ne_eqb}
use Rattle.std.specs.Prelude.{if◌then◌else◌, Option, Some, None, option_map}
use Rattle.words.specs.Lists.{part}
use Rattle.words.proofs.Slices.{length_part}
use Rattle.words.proofs.Tests.{both_left, both_right}
use Rattle.records.specs.Digits.{are_pairs, bytes_in}
use Rattle.records.specs.Records.{letter_s, kind_by, address_bytes, type_in, count_in, least, fits_kind, is_good}
use Rattle.records.specs.Records.{line_as, line_of, data_part}
use Rattle.records.specs.declared.Line.{Line}
use Rattle.records.specs.declared.Kind.{Kind}
use Rattle.records.specs.declared.Kind.TheVariants.{Header, Data, Count, End}
use Rattle.records.proofs.Pairs.{length_pairs, pairs_drop, pairs_take}

-- its pairs, its length by its count, and a count that takes in address and checksum
pub record Good (l : List ℕ) : Type 0 where
  pub pairs : T (are_pairs (drop 2 l))
  pub long : length l ≡ 4 + 2 * count_in l
  pub counts : least l ≤ count_in l
  pub fits : T (fits_kind (kind_by (type_in l)) (least l) (count_in l))

fits_least : (k : Option Kind) (m n : ℕ) → T (fits_kind k m n) → m ≤ n
fits_least (Some Header) m n t = leb→le m n t
fits_least (Some Data) m n t = leb→le m n t
fits_least (Some Count) m n t = let e = eqb→eq n m t in omega arith
fits_least (Some End) m n t = let e = eqb→eq n m t in omega arith
fits_least None m n t = absurd t

pub good : (l : List ℕ) → T (is_good l) → Good l
unfolding is_good
good l t =
    let s = eqb (get_or l 0 0) letter_s in
    let p = are_pairs (drop 2 l) in
    let n = eqb (length l) (4 + 2 * count_in l) in
    let f = fits_kind (kind_by (type_in l)) (least l) (count_in l) in
    let u = both_left (s && p && n) f t in
    record {
      pairs = both_right s p (both_left (s && p) n u);
      long = eqb→eq (length l) (4 + 2 * count_in l) (both_right (s && p) n u);
      counts = fits_least (kind_by (type_in l)) (least l) (count_in l) (both_right (s && p && n) f t);
      fits = both_right (s && p && n) f t;
    }

and_false : (a : Bool) → (a && false) ≡ false
and_false true = refl
and_false false = refl

-- fewer characters than a count ends with are no good line
pub good_short : (l : List ℕ) → length l < 4 → false ≡ is_good l
unfolding is_good
good_short l h =
    rw (ne_eqb (length l) (4 + 2 * count_in l) (λ e. omega arith), and_false (eqb (get_or l 0 0) letter_s && are_pairs (drop 2 l))) refl

-- a byte behind others adds itself to 256 times their number
number_snoc : (l : List ℕ) (b : ℕ) → number (l ++ (b ∷ [])) ≡ number l * 256 + b
number_snoc [] b = omega arith
number_snoc (x ∷ l) b =
    let e : length (l ++ (b ∷ [])) ≡ suc (length l) = length-append l (b ∷ []) ∙ omega arith in
    let p : x * (256 ^ length l * 256) ≡ x * 256 ^ length l * 256 = sym (mul_assoc x (256 ^ length l) 256) in
    let q : 256 ^ suc (length l) ≡ 256 ^ length l * 256 = omega arith in
    rw (e, q, number_snoc l b) (omega (arith, p))

-- the address bytes one by one: the next one, and how large the number is so far
pub address_more : (l : List ℕ) (i : ℕ) → 1 + i < length l → number (part 1 (i + 1) l) ≡ number (part 1 i l) * 256 + get_or l (1 + i) 0
address_more l i h =
    let d = length-drop 1 l in
    rw (add-one i, take-suc (drop 1 l) i 0 (omega arith)) (number_snoc (take i (drop 1 l)) (get_or (drop 1 l) i 0) ∙ rw (get_or-drop 1 l i 0) refl)

pub still_small : (v i : ℕ) → i ≤ 3 → v < 256 ^ i → v < 16777216
still_small v zero h k = omega arith
still_small v (suc zero) h k = omega arith
still_small v (suc (suc zero)) h k = omega arith
still_small v (suc (suc (suc zero))) h k = k
still_small v (suc (suc (suc (suc i)))) h k = absurd (omega arith)

pub larger : (v b i : ℕ) → v < 256 ^ i → b < 256 → v * 256 + b < 256 ^ (i + 1)
larger v b i h k = rw (add-one i) (omega arith)

-- a line's data are pairs
pub data_pairs : (l : List ℕ) → T (are_pairs (data_part l))
data_pairs l = by_test (is_good l) refl
  where
    by_test : (t : Bool) → is_good l ≡ t
        → T (are_pairs (part (if t then 4 + 2 * address_bytes (type_in l) else 0) (if t then 2 * (count_in l - least l) else 0) l))
    by_test false e = tt
    by_test true e =
        let g = good l (subst T (sym e) tt) in
        let k = address_bytes (type_in l) + 1 in
        let f : 2 + 2 * k ≡ 4 + 2 * address_bytes (type_in l) = omega arith in
        pairs_take (count_in l - least l) (drop (4 + 2 * address_bytes (type_in l)) l)
        (rw f at (rw (drop-drop (2 * k) 2 l) at (pairs_drop k (drop 2 l) g.pairs)))

-- they write as many bytes as the line is said to have
pub data_bytes : (l : List ℕ) (x : Line) → line_of l ≡ Some x → length (bytes_in (data_part l)) ≡ x.bytes
data_bytes l x said = by_test (is_good l) refl (length_pairs (data_part l) (data_pairs l)) said
  where
    by_kind : (k : Option Kind) → option_map (line_as l) k ≡ Some x → count_in l - least l ≡ x.bytes
    by_kind None q = absurd (let z : ◌≡◌ {A = ℕ} 0 1 = cc in omega arith)
    by_kind (Some k) q = let e : line_as l k ≡ x = cc in ap (λ (y : Line). y.bytes) e

    by_test : (t : Bool) → is_good l ≡ t
        → length (part (if t then 4 + 2 * address_bytes (type_in l) else 0) (if t then 2 * (count_in l - least l) else 0) l)
        ≡ 2 * length (bytes_in (part (if t then 4 + 2 * address_bytes (type_in l) else 0) (if t then 2 * (count_in l - least l) else 0) l))
        → (if t then option_map (line_as l) (kind_by (type_in l)) else None) ≡ Some x
        → length (bytes_in (part (if t then 4 + 2 * address_bytes (type_in l) else 0) (if t then 2 * (count_in l - least l) else 0) l)) ≡ x.bytes
    by_test false e h q = absurd (let z : ◌≡◌ {A = ℕ} 0 1 = cc in omega arith)
    by_test true e h q =
        let g = good l (subst T (sym e) tt) in
        let n = length_part l (4 + 2 * address_bytes (type_in l)) (2 * (count_in l - least l)) (omega (arith, g.long, g.counts)) in
        let m = by_kind (kind_by (type_in l)) q in
        omega arith

-- a bad line has none
pub no_data : (l : List ℕ) → line_of l ≡ None → length (bytes_in (data_part l)) ≡ 0
no_data l said = by_test (is_good l) refl said
  where
    by_kind : (k : Option Kind) (m n : ℕ) → T (fits_kind k m n) → option_map (line_as l) k ≡ None → ⊥
    by_kind None m n t q = absurd t
    by_kind (Some k) m n t q = absurd (let z : ◌≡◌ {A = ℕ} 0 1 = cc in omega arith)

    by_test : (t : Bool) → is_good l ≡ t → (if t then option_map (line_as l) (kind_by (type_in l)) else None) ≡ None
        → length (bytes_in (part (if t then 4 + 2 * address_bytes (type_in l) else 0) (if t then 2 * (count_in l - least l) else 0) l)) ≡ 0
    by_test false e q = refl
    by_test true e q = absurd (by_kind (kind_by (type_in l)) (least l) (count_in l) (good l (subst T (sym e) tt)).fits q)
