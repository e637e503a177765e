-- The cause of a line is the first fault that it has behind the lines before it, or it has none.
use mathlib.Core.Path.{◌≡◌, refl, sym, ◌∙◌}
use mathlib.Core.Bool.{Bool, true, false, not, ◌&&◌, ◌||◌}
use mathlib.Core.List.{List, [], ◌∷◌}
use mathlib.Core.Logic.{◌⊎◌, inl, inr}
use Prim.Native.Nat.{ℕ, suc, ◌+◌, ◌*◌, ◌≤◌, ◌<◌}
use native.Mathlib.Omega.{arith}
use lib.Dec.{eqb}
use lib.IntN.{ℤ}
use lib.ListN.{length, get_or, drop, length-take, length-drop}
use lib.Seq.{get_or-take, get_or-drop}
use borrow.Author.Tests.{eqb-true, not-true, not-false, le-leb, lt-ltb}
use Rattle.std.specs.Prelude.{if◌then◌else◌, Option, Some, None, is_none, option_map, Result, Ok, Err}
use Rattle.words.specs.Lists.{any, part}
use Rattle.words.specs.Over.{within}
use Rattle.records.specs.Records.{letter_s, head_characters, counted_from, kind_by, line_as, type_in, count_in, least, fits_kind, is_good, line_of}
use Rattle.records.specs.Digits.{are_pairs}
use Rattle.records.specs.declared.Kind.{Kind}
use Rattle.loading.specs.Places.{bytes, place_of}
use Rattle.loading.specs.Loads.{cause_no, right, mark, verdict_at, verdict_of}
use Rattle.loading.specs.Says.{touches}
use Rattle.loading.specs.Faults.{Overlaps, Fault, Faultless}
use Rattle.loading.specs.declared.Cause.{Cause}
use Rattle.loading.specs.declared.Cause.TheVariants.{WrongLength, BadLine, BadChecksum, OutsideFlash, Overlap, NoEnd}
use Rattle.loading.proofs.Bytes.{clash, either, apart}
use Rattle.loading.proofs.Marks.{Kept, inside}
use Rattle.loading.proofs.Places.{only_outside}

-- no fault before a cause holds of a line
abbrev pub First : ℤ → List (List ℕ) → List ℕ → Cause → Type 0
First shift before l c = (d : Cause) → cause_no d < cause_no c → Fault shift before l d → ⊥

-- what a verdict tells of a line
abbrev pub Verdict : ℤ → List (List ℕ) → List ℕ → Result (Unit {0}) Cause → Type 0
Verdict shift before l (Ok accepted) = Faultless shift before l
Verdict shift before l (Err c) = Fault shift before l c × First shift before l c

-- a test of two that holds
one_holds : (a b : Bool) → (a || b) ≡ true → (a ≡ true) ⊎ (b ≡ true)
one_holds true b h = inl refl
one_holds false b h = inr h

-- a line is good exactly where it says something
fits_good : (a : Bool) (k : Option Kind) (m n : ℕ) → (a && fits_kind k m n) ≡ true → is_none k ≡ false
fits_good a (Some k) m n h = refl
fits_good true None m n h = clash true refl (sym h)
fits_good false None m n h = clash true refl (sym h)

good_kind : (l : List ℕ) → is_good l ≡ true → is_none (kind_by (type_in l)) ≡ false
unfolding is_good
good_kind l h =
    fits_good (eqb (get_or l 0 0) letter_s && are_pairs (drop head_characters l) && eqb (length l) (counted_from + 2 * count_in l)) (kind_by (type_in l)) (least l)
    (count_in l) h

none_of : (l : List ℕ) (k : Option Kind) → is_none k ≡ false → is_none (option_map (line_as l) k) ≡ false
none_of l None h = clash true refl h
none_of l (Some k) h = refl

bad_is_not_good : (l : List ℕ) → is_none (line_of l) ≡ true → is_good l ≡ false
bad_is_not_good l h = by_test (is_good l) refl
  where
    by_test : (b : Bool) → is_good l ≡ b → is_good l ≡ false
    by_test false e = e
    by_test true e = clash (is_none (line_of l)) h (rw e (none_of l (kind_by (type_in l)) (good_kind l e)))

not_good_is_bad : (l : List ℕ) → is_good l ≡ false → is_none (line_of l) ≡ true
not_good_is_bad l e = rw e refl

-- some element passes a test that any passes
pub record Passes (f : ℕ → Bool) (l : List ℕ) : Type 0 where
  pub place : ℕ
  pub there : place < length l
  pub passes : f (get_or l place 0) ≡ true

some_passes : (f : ℕ → Bool) (l : List ℕ) → any f l ≡ true → Passes f l
some_passes f [] h = clash true refl (sym h)
some_passes f (x ∷ l) h = by_side (λ t. some_passes f l t) (one_holds (f x) (any f l) h)
  where
    by_side : (any f l ≡ true → Passes f l) → (f x ≡ true) ⊎ (any f l ≡ true) → Passes f (x ∷ l)
    by_side g (inl t) = record { place = 0; there = omega arith; passes = t }
    by_side g (inr t) = let p = g t in record { place = suc p.place; there = omega arith; passes = p.passes }

-- a place in flash, and none, are not outside
at_is_inside : (p : Result (Option ℕ) Cause) (at : ℕ) → p ≡ Ok (Some at) → p ≡ Err OutsideFlash → ⊥
at_is_inside p at e f = let z : ◌≡◌ {A = ℕ} 0 1 = cc in omega arith

nothing_is_inside : (p : Result (Option ℕ) Cause) → p ≡ Ok None → p ≡ Err OutsideFlash → ⊥
nothing_is_inside p e f = let z : ◌≡◌ {A = ℕ} 0 1 = cc in omega arith

-- a byte between is within
between : (at n j : ℕ) → at ≤ j → j < at + n → within at n j ≡ true
between at n j h k = rw (le-leb at j h, lt-ltb j (at + n) k) refl

-- no fault, and none before a cause, by the four that lines have
module _ (shift : ℤ) (before : List (List ℕ)) (l : List ℕ) where
  none : (Fault shift before l BadLine → ⊥) → (Fault shift before l BadChecksum → ⊥) → (Fault shift before l OutsideFlash → ⊥)
      → (Fault shift before l Overlap → ⊥) → Faultless shift before l
  none b k o v WrongLength f = f
  none b k o v BadLine f = b f
  none b k o v BadChecksum f = k f
  none b k o v OutsideFlash f = o f
  none b k o v Overlap f = v f
  none b k o v NoEnd f = f

  earlier : (c : Cause) → (2 < cause_no c → Fault shift before l BadLine → ⊥) → (3 < cause_no c → Fault shift before l BadChecksum → ⊥)
      → (4 < cause_no c → Fault shift before l OutsideFlash → ⊥) → (5 < cause_no c → Fault shift before l Overlap → ⊥) → First shift before l c
  earlier c b k o v WrongLength h f = f
  earlier c b k o v BadLine h f = b h f
  earlier c b k o v BadChecksum h f = k h f
  earlier c b k o v OutsideFlash h f = o h f
  earlier c b k o v Overlap h f = v h f
  earlier c b k o v NoEnd h f = f

module _ (shift : ℤ) (before : List (List ℕ)) (ended : Bool) (touched : List ℕ) (w : Kept shift before ended touched) (l : List ℕ) where
  is_bad_lem : (ended || is_none (line_of l)) ≡ true → Fault shift before l BadLine
  is_bad_lem h = by_side (one_holds ended (is_none (line_of l)) h)
    where
      by_side : (ended ≡ true) ⊎ (is_none (line_of l) ≡ true) → Fault shift before l BadLine
      by_side (inl e) = inr (sym w.ends ∙ e)
      by_side (inr e) = inl (bad_is_not_good l e)

  is_not_bad : (ended || is_none (line_of l)) ≡ false → Fault shift before l BadLine → ⊥
  is_not_bad h (inl e) = clash (is_none (line_of l)) (not_good_is_bad l e) (either ended (is_none (line_of l)) h).1
  is_not_bad h (inr e) = clash ended (w.ends ∙ e) (either ended (is_none (line_of l)) h).0

  -- a line touches what is within its place
  touching : (at j : ℕ) → place_of shift (line_of l) ≡ Ok (Some at) → touches shift l j ≡ within at (bytes (line_of l)) j
  touching at j p = rw p refl

  overlaps : (at : ℕ) → place_of shift (line_of l) ≡ Ok (Some at) → any (eqb mark) (part at (bytes (line_of l)) touched) ≡ true → Overlaps shift before l
  overlaps at p h =
      let n = (bytes (line_of l)) in
      let s = some_passes (eqb mark) (part at n touched) h in
      let i = s.place in
      let d = length-drop at touched in
      let c = length-take n (drop at touched) in
      let k : i < n = omega (arith, s.there) in
      let m = eqb-true mark (get_or (part at n touched) i 0) s.passes in
      let g : get_or touched (at + i) 0 ≡ mark = sym (get_or-drop at touched i 0) ∙ sym (get_or-take n (drop at touched) i 0 k) ∙ sym m in
      record { byte = at + i; earlier = w.earlier (at + i) g; again = touching at (at + i) p ∙ between at n (at + i) (omega arith) (omega arith) }

  overlaps_not : (at : ℕ) → place_of shift (line_of l) ≡ Ok (Some at) → any (eqb mark) (part at (bytes (line_of l)) touched) ≡ false → Overlaps shift before l → ⊥
  overlaps_not at p h o =
      let m = w.marks o.earlier.line o.earlier.among o.byte o.earlier.touched in
      let i = inside at (bytes (line_of l)) o.byte (sym (touching at o.byte p) ∙ o.again) in
      by_side at (bytes (line_of l)) o.byte i.0 i.1 (apart touched at (bytes (line_of l)) o.byte h m)
    where
      by_side : (at n j : ℕ) → at ≤ j → j < at + n → (j < at) ⊎ (at + n ≤ j) → ⊥
      by_side at n j a b (inl x) = omega arith
      by_side at n j a b (inr x) = omega arith

  -- the faults before a place is asked for
  abbrev Shaped : Type 0
  Shaped = (Fault shift before l BadLine → ⊥) × (Fault shift before l BadChecksum → ⊥)

  by_marks : (at : ℕ) → place_of shift (line_of l) ≡ Ok (Some at) → Shaped
      → (b : Bool) → any (eqb mark) (part at (bytes (line_of l)) touched) ≡ b → Verdict shift before l (if b then Err Overlap else Ok tt)
  by_marks at p (f, g) true h =
      let before_it : First shift before l Overlap =
      earlier shift before l Overlap (λ _. f) (λ _. g) (λ _. at_is_inside (place_of shift (line_of l)) at p) (λ n _. omega arith) in
      (overlaps at p h, before_it)
  by_marks at p (f, g) false h = none shift before l f g (at_is_inside (place_of shift (line_of l)) at p) (overlaps_not at p h)

  by_place : Shaped → (p : Result (Option ℕ) Cause) → place_of shift (line_of l) ≡ p → Verdict shift before l (verdict_at p (bytes (line_of l)) touched)
  by_place (f, g) (Ok None) e =
      none shift before l f g (nothing_is_inside (place_of shift (line_of l)) e) (λ o. clash true refl (sym (rw e at o.again)))
  by_place (f, g) (Err c) e =
      let o = only_outside shift (line_of l) c e in
      let h : Fault shift before l OutsideFlash × First shift before l OutsideFlash =
      (rw o at e, earlier shift before l OutsideFlash (λ _. f) (λ _. g) (λ n _. omega arith) (λ n _. omega arith)) in
      rw o h
  by_place s (Ok (Some at)) e = by_marks at e s (any (eqb mark) (part at (bytes (line_of l)) touched)) refl

  pub verdict : Verdict shift before l (verdict_of shift ended touched (line_of l))
  unfolding verdict_of
  verdict = by_tests (ended || is_none (line_of l)) refl (not (right (line_of l))) refl
    where
      by_tests : (a : Bool) → (ended || is_none (line_of l)) ≡ a → (b : Bool) → not (right (line_of l)) ≡ b
          → Verdict shift before l (if a then Err BadLine else if b then Err BadChecksum else verdict_at (place_of shift (line_of l)) (bytes (line_of l)) touched)
      by_tests true p b q =
          (is_bad_lem p, earlier shift before l BadLine (λ n _. omega arith) (λ n _. omega arith) (λ n _. omega arith) (λ n _. omega arith))
      by_tests false p true q =
          let before_it : First shift before l BadChecksum =
          earlier shift before l BadChecksum (λ _. is_not_bad p) (λ n _. omega arith) (λ n _. omega arith) (λ n _. omega arith) in
          (not-true (right (line_of l)) q, before_it)
      by_tests false p false q =
          by_place (is_not_bad p, λ e. clash (right (line_of l)) (not-false (right (line_of l)) q) e) (place_of shift (line_of l)) refl
