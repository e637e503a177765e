-- Laws of bytes laid over a memory: its length, and what stands at each place afterwards.
use mathlib.Core.Path.{◌≡◌, refl, ap, sym, ◌∙◌}
use mathlib.Core.Bool.{Bool, true, false, ◌&&◌}
use mathlib.Core.List.{List, [], ◌∷◌, ◌++◌, append-nil}
use Prim.Native.Nat.{ℕ, zero, suc, ◌+◌, ◌-◌, ◌≤◌, ◌<◌}
use native.Mathlib.Nat.{le_of_suc-le-suc, not-suc-le-zero, zero-add, suc-add}
use native.Mathlib.Numerals.{add-one}
use native.Mathlib.Omega.{arith}
use lib.Dec.{leb, ltb}
use lib.ListN.{length, get_or, set, take, drop}
use lib.Seq.{take-suc, take-append_seam, drop-length, length-take-le}
use borrow.Author.Tests.{leb-true, leb-false, ltb-true, ltb-false}
use borrow.Rule.Slice.PartMut.{put_mid}
use Rattle.std.specs.Prelude.{if◌then◌else◌}
use Rattle.words.specs.Over.{over, newer, put, within}

module _ (f : ℕ → ℕ → ℕ) where
  -- the length stays
  pub length_over : (m : List ℕ) (at : ℕ) (new : List ℕ) → length (over f m at new) ≡ length m
  length_over [] at new = refl
  length_over (x ∷ m) (suc at) new = ap suc (length_over m at new)
  length_over (x ∷ m) zero [] = refl
  length_over (x ∷ m) zero (b ∷ new) = ap suc (length_over m zero new)

  over_first : (m new : List ℕ) (i : ℕ) → i < length new → i < length m
      → get_or (over f m zero new) i 0 ≡ f (get_or m i 0) (get_or new i 0)
  over_first m [] i h k = absurd (not-suc-le-zero h)
  over_first [] (b ∷ new) i h k = absurd (not-suc-le-zero k)
  over_first (x ∷ m) (b ∷ new) zero h k = refl
  over_first (x ∷ m) (b ∷ new) (suc i) h k = over_first m new i (le_of_suc-le-suc h) (le_of_suc-le-suc k)

  -- where a new byte was laid, it is joined with the old one
  pub over_within : (m : List ℕ) (at : ℕ) (new : List ℕ) (i : ℕ) → i < length new → at + i < length m
      → get_or (over f m at new) (at + i) 0 ≡ f (get_or m (at + i) 0) (get_or new i 0)
  over_within m zero new i h k = rw zero-add (over_first m new i h (rw zero-add at k))
  over_within [] (suc at) new i h k = absurd (not-suc-le-zero k)
  over_within (x ∷ m) (suc at) new i h k = rw suc-add (over_within m at new i h (le_of_suc-le-suc (rw suc-add at k)))

  -- before the new bytes nothing changes
  pub over_before : (m : List ℕ) (at : ℕ) (new : List ℕ) (i : ℕ) → i < at → get_or (over f m at new) i 0 ≡ get_or m i 0
  over_before [] at new i h = refl
  over_before (x ∷ m) zero new i h = absurd (not-suc-le-zero h)
  over_before (x ∷ m) (suc at) new zero h = refl
  over_before (x ∷ m) (suc at) new (suc i) h = over_before m at new i (le_of_suc-le-suc h)

  -- behind the new bytes nothing changes
  pub over_behind : (m : List ℕ) (at : ℕ) (new : List ℕ) (i : ℕ) → at + length new ≤ i → get_or (over f m at new) i 0 ≡ get_or m i 0
  over_behind [] at new i h = refl
  over_behind (x ∷ m) (suc at) new zero h = refl
  over_behind (x ∷ m) (suc at) new (suc i) h = over_behind m at new i (le_of_suc-le-suc (rw suc-add at h))
  over_behind (x ∷ m) zero [] i h = refl
  over_behind (x ∷ m) zero (b ∷ new) zero h = absurd (not-suc-le-zero (rw zero-add at h))
  over_behind (x ∷ m) zero (b ∷ new) (suc i) h =
      over_behind m zero new i (le_of_suc-le-suc (rw (zero-add, ← zero-add (length new)) at h))

  -- what stands at each place: the old byte joined with the new one where one was laid, and else the old byte
  pub over_at : (m : List ℕ) (at : ℕ) (new : List ℕ) (i : ℕ) → i < length m
      → get_or (over f m at new) i 0 ≡ (if within at (length new) i then f (get_or m i 0) (get_or new (i - at) 0) else get_or m i 0)
  over_at m at new i h = by_place (leb at i) refl (ltb i (at + length new)) refl
    where
      by_place : (a : Bool) → leb at i ≡ a → (b : Bool) → ltb i (at + length new) ≡ b
          → get_or (over f m at new) i 0 ≡ (if a && b then f (get_or m i 0) (get_or new (i - at) 0) else get_or m i 0)
      by_place false e b e' = over_before m at new i (leb-false at i e)
      by_place true e false e' = over_behind m at new i (ltb-false i (at + length new) e')
      by_place true e true e' =
          let l : at ≤ i = leb-true at i e in
          let r : i < at + length new = ltb-true i (at + length new) e' in
          let k : at + (i - at) ≡ i = omega arith in
          rw k at (over_within m at new (i - at) (omega arith) (rw k h))

-- ---- a loop that lays byte after byte

module _ (f : ℕ → ℕ → ℕ) where
  -- no new byte changes nothing
  pub over_none : (m : List ℕ) (at : ℕ) → over f m at [] ≡ m
  over_none [] at = refl
  over_none (x ∷ m) (suc at) = ap (λ (r : List ℕ). x ∷ r) (over_none m at)
  over_none (x ∷ m) zero = refl

  -- a store behind the bytes laid lays one more
  over_snoc_first : (m new : List ℕ) (b : ℕ) → length new < length m
      → set (over f m zero new) (length new) (f (get_or m (length new) 0) b) ≡ over f m zero (new ++ (b ∷ []))
  over_snoc_first [] new b h = absurd (not-suc-le-zero h)
  over_snoc_first (x ∷ m) [] b h = ap (λ (r : List ℕ). f x b ∷ r) (sym (over_none m zero))
  over_snoc_first (x ∷ m) (a ∷ new) b h = ap (λ (r : List ℕ). f x a ∷ r) (over_snoc_first m new b (le_of_suc-le-suc h))

  over_snoc : (m : List ℕ) (at : ℕ) (new : List ℕ) (b : ℕ) → at + length new < length m
      → set (over f m at new) (at + length new) (f (get_or m (at + length new) 0) b) ≡ over f m at (new ++ (b ∷ []))
  over_snoc m zero new b h = rw zero-add (over_snoc_first m new b (rw zero-add at h))
  over_snoc [] (suc at) new b h = absurd (not-suc-le-zero h)
  over_snoc (x ∷ m) (suc at) new b h =
      rw suc-add (ap (λ (r : List ℕ). x ∷ r) (over_snoc m at new b (le_of_suc-le-suc (rw suc-add at h))))

  -- a turn that lays byte j of some bytes
  pub over_more : (m : List ℕ) (at : ℕ) (new : List ℕ) (j : ℕ) → at + j < length m → j < length new
      → set (over f m at (take j new)) (at + j) (f (get_or (over f m at (take j new)) (at + j) 0) (get_or new j 0))
      ≡ over f m at (take (j + 1) new)
  over_more m at new j h k =
      let e : length (take j new) ≡ j = length-take-le j new (omega arith) in
      let old : get_or (over f m at (take j new)) (at + j) 0 ≡ get_or m (at + j) 0 =
      over_behind f m at (take j new) (at + j) (omega arith) in
      rw (old, add-one, take-suc new j 0) (rw e at (over_snoc m at (take j new) (get_or new j 0) (rw e h)))

-- a first byte stored, and the rest put from the next place on
pub put_cons : (m : List ℕ) (b : ℕ) (new : List ℕ) → 0 < length m → put (set m 0 b) 1 new ≡ put m 0 (b ∷ new)
put_cons [] b new h = absurd (not-suc-le-zero h)
put_cons (x ∷ m) b new h = refl

-- bytes put at the front stand there, and behind them what stood there
pub put_front : (m new : List ℕ) → length new ≤ length m → put m 0 new ≡ new ++ drop (length new) m
put_front m [] h = over_none newer m 0
put_front [] (b ∷ new) h = absurd (not-suc-le-zero h)
put_front (x ∷ m) (b ∷ new) h = ap (λ (r : List ℕ). b ∷ r) (put_front m new (le_of_suc-le-suc h))

-- bytes put at the front of a room stand in its first places
pub at_front : (l m : List ℕ) (n : ℕ) → length l ≡ n → n ≤ length m → take n (put m 0 l) ≡ l
at_front l m n e h = rw (put_front m l (omega arith), ← e) (take-append_seam l (drop (length l) m))

-- as many bytes as there are replace them all
pub put_all : (m new : List ℕ) → length new ≡ length m → put m 0 new ≡ new
put_all m new e =
    put_front m new (omega arith)
    ∙ ap (λ (k : ℕ). new ++ drop k m) e
    ∙ ap (λ (r : List ℕ). new ++ r) (drop-length m)
    ∙ append-nil new

-- one byte put is one byte stored
pub put_one : (m : List ℕ) (at b : ℕ) → put m at (b ∷ []) ≡ set m at b
put_one [] at b = refl
put_one (x ∷ m) (suc at) b = ap (λ (r : List ℕ). x ∷ r) (put_one m at b)
put_one (x ∷ m) zero b = ap (λ (r : List ℕ). b ∷ r) (over_none newer m 0)

-- bytes laid behind bytes that were laid
pub over_then : (f : ℕ → ℕ → ℕ) (m : List ℕ) (at : ℕ) (a b : List ℕ)
    → over f (over f m at a) (at + length a) b ≡ over f m at (a ++ b)
over_then f [] at a b = refl
over_then f (x ∷ m) (suc at) a b = rw suc-add (ap (λ (r : List ℕ). x ∷ r) (over_then f m at a b))
over_then f (x ∷ m) zero [] b = refl
over_then f (x ∷ m) zero (c ∷ a) b =
    rw zero-add (ap (λ (r : List ℕ). f x c ∷ r) (ap (λ (k : ℕ). over f (over f m zero a) k b) (sym (zero-add (length a))) ∙ over_then f m zero a b))

-- bytes put behind bytes that were put
pub put_then : (m : List ℕ) (at end : ℕ) (a b : List ℕ) → end ≡ at + length a → put (put m at a) end b ≡ put m at (a ++ b)
put_then m at end a b e = rw e (over_then newer m at a b)

-- bytes put where a part stood: what stood before them, they themselves, and what stood behind them
pub put_part : (m : List ℕ) (at n : ℕ) (new : List ℕ) → length new ≡ n → at + n ≤ length m → put_mid at n m new ≡ put m at new
put_part m zero n new e h = sym (put_front m new (rw (zero-add, ← e) at h) ∙ ap (λ (k : ℕ). new ++ drop k m) e)
put_part [] (suc at) n new e h = absurd (not-suc-le-zero (rw suc-add at h))
put_part (x ∷ m) (suc at) n new e h = ap (λ (r : List ℕ). x ∷ r) (put_part m at n new e (le_of_suc-le-suc (rw suc-add at h)))
