-- What an accepted file leaves: the bytes of each line stand where it says, every other byte stays, and so does their number. An error leaves every byte.
use mathlib.Core.Path.{◌≡◌, refl, sym, ap, subst, ◌∙◌}
use mathlib.Core.Bool.{Bool, true, false, not, ◌&&◌, ◌||◌}
use mathlib.Core.List.{List, [], ◌∷◌}
use mathlib.Core.Logic.{◌⊎◌, inl, inr}
use Prim.Native.Nat.{ℕ, zero, suc, ◌+◌, ◌-◌, ◌≤◌, ◌<◌, min}
use native.Mathlib.Nat.{not-suc-le-zero, le_of_suc-le-suc}
use native.Mathlib.Omega.{arith}
use lib.Dec.{T, eqb, leb, ltb}
use lib.IntN.{ℤ}
use lib.ListN.{length, get_or, drop, replicate, length-replicate, get_or-replicate, length-take, length-drop, get_or-eq_default}
use lib.Seq.{get_or-take, get_or-drop}
use borrow.Author.Tests.{leb-true, leb-false, ltb-true, ltb-false, eqb-true}
use Rattle.std.specs.Prelude.{if◌then◌else◌}
use Rattle.words.specs.Lists.{any, part}
use Rattle.words.specs.Over.{newer, put, within}
use Rattle.words.proofs.Over.{over_before, over_behind, over_within}
use Rattle.records.specs.Ends.{lines_of}
use Rattle.records.specs.Records.{line_of}
use Rattle.records.specs.declared.Line.{Line}
use Rattle.records.specs.Digits.{bytes_in}
use Rattle.records.specs.Records.{data_part}
use Rattle.records.proofs.Good.{data_bytes, no_data}
use Rattle.std.specs.Prelude.{Option, Some, None, Result, Ok, Err, is_ok, is_none}
use Rattle.loading.specs.Places.{data_of, bytes, place_of}
use Rattle.loading.specs.Loads.{mark, ends, right, untouched, verdict_at, verdict_of, put_at, touched_by, loaded_by, all_loaded, whole, or_line}
use Rattle.loading.specs.Loads.{judged, answer_to, image_after}
use Rattle.loading.specs.Says.{Among, reaches, touches, Touched, AsSaid}
use Rattle.loading.specs.declared.Cause.{Cause}
use Rattle.loading.specs.declared.Cause.TheVariants.{WrongLength, BadLine, BadChecksum, OutsideFlash, Overlap}
use Rattle.loading.specs.declared.Refused.{Refused}
use Rattle.loading.proofs.Places.{room}
use Rattle.loading.proofs.Turns.{length-touched, length_loaded, length-all_loaded}

pub clash {ℓ} : {P : Type ℓ} (b : Bool) → b ≡ true → b ≡ false → P
clash b t f = absurd (subst T (sym t ∙ f) tt)

-- a line has as many data bytes as it says
pub as_many : (l : List ℕ) → length (data_of l) ≡ bytes (line_of l)
unfolding data_of
as_many l = by_line (line_of l) refl
  where
    by_line : (o : Option Line) → line_of l ≡ o → length (bytes_in (data_part l)) ≡ bytes o
    by_line (Some x) e = data_bytes l x e
    by_line None e = no_data l e

-- an accepted line passes its place's test
place_passes : (shift : ℤ) (ended : Bool) (touched : List ℕ) (x : Option Line) → is_ok (verdict_of shift ended touched x) ≡ true
    → is_ok (verdict_at (place_of shift x) (bytes x) touched) ≡ true
unfolding verdict_of
place_passes shift ended touched x h = by_tests (ended || is_none x) (not (right x)) h
  where
    by_tests : (a b : Bool)
        → is_ok (if a then Err BadLine else if b then Err BadChecksum else verdict_at (place_of shift x) (bytes x) touched) ≡ true
        → is_ok (verdict_at (place_of shift x) (bytes x) touched) ≡ true
    by_tests true b h = clash true refl (sym h)
    by_tests false true h = clash true refl (sym h)
    by_tests false false h = h

-- where all is accepted, the first line is and so are the others
module _ (shift : ℤ) (n : ℕ) (ended : Bool) (touched l : List ℕ) (ls : List (List ℕ)) where
  abbrev others : Result (Unit {0}) Refused
  others = judged shift (suc n) (ended || ends (line_of l)) (touched_by shift (line_of l) touched) ls

  both_accepted : is_ok (judged shift n ended touched (l ∷ ls)) ≡ true
      → (is_ok (verdict_of shift ended touched (line_of l)) ≡ true) × (is_ok others ≡ true)
  both_accepted h = by_verdict (verdict_of shift ended touched (line_of l)) h
    where
      by_verdict : (v : Result (Unit {0}) Cause) → is_ok (or_line v (suc n) others) ≡ true → (is_ok v ≡ true) × (is_ok others ≡ true)
      by_verdict (Ok u) h = (refl, h)
      by_verdict (Err c) h = clash true refl (sym h)

-- neither of two tests holds
pub either : (a b : Bool) → (a || b) ≡ false → (a ≡ false) × (b ≡ false)
either true b h = clash true refl h
either false b h = (refl, h)

-- no element passes a test that none passes
none_passes : (f : ℕ → Bool) (l : List ℕ) (i : ℕ) → any f l ≡ false → i < length l → f (get_or l i 0) ≡ false
none_passes f [] i h k = absurd (not-suc-le-zero k)
none_passes f (x ∷ l) zero h k = (either (f x) (any f l) h).0
none_passes f (x ∷ l) (suc i) h k = none_passes f l i (either (f x) (any f l) h).1 (le_of_suc-le-suc k)

-- a place that is marked is one of the memory's
pub marked_there : (m : List ℕ) (j : ℕ) → get_or m j 0 ≡ mark → j < length m
marked_there m j e = by_order (leb (length m) j) refl
  where
    by_order : (b : Bool) → leb (length m) j ≡ b → j < length m
    by_order true h = absurd (let d = get_or-eq_default m 0 (leb-true (length m) j h) in omega arith)
    by_order false h = leb-false (length m) j h

-- a place below two numbers is below the lesser one
shorter : (n m i k : ℕ) → k ≡ min n m → i < n → i < m → i < k
shorter n m i k e h l = omega arith

-- a place that is not within n from another is before or behind them
pub beside : (at n j : ℕ) → within at n j ≡ false → (j < at) ⊎ (at + n ≤ j)
beside at n j h = by_order (leb at j) refl (ltb j (at + n)) refl h
  where
    by_order : (a : Bool) → leb at j ≡ a → (b : Bool) → ltb j (at + n) ≡ b → (a && b) ≡ false → (j < at) ⊎ (at + n ≤ j)
    by_order false p b q h = inl (leb-false at j p)
    by_order true p false q h = inr (ltb-false j (at + n) q)
    by_order true p true q h = clash true refl h

-- n bytes from a place on that are not marked do not reach a marked place
pub apart : (m : List ℕ) (at n j : ℕ) → any (eqb mark) (part at n m) ≡ false → get_or m j 0 ≡ mark → (j < at) ⊎ (at + n ≤ j)
apart m at n j h e = by_order (leb at j) refl (ltb j (at + n)) refl
  where
    by_order : (a : Bool) → leb at j ≡ a → (b : Bool) → ltb j (at + n) ≡ b → (j < at) ⊎ (at + n ≤ j)
    by_order false p b q = inl (leb-false at j p)
    by_order true p false q = inr (ltb-false j (at + n) q)
    by_order true p true q =
        let o = leb-true at j p in
        let r = ltb-true j (at + n) q in
        let k : at + (j - at) ≡ j = omega arith in
        let t = marked_there m j e in
        let d = length-drop at m in
        let c = length-take n (drop at m) in
        let g : get_or (part at n m) (j - at) 0 ≡ mark =
        get_or-take n (drop at m) (j - at) 0 (omega arith) ∙ get_or-drop at m (j - at) 0 ∙ rw k e in
        clash (eqb mark (get_or (part at n m) (j - at) 0)) (rw g refl)
        (none_passes (eqb mark) (part at n m) (j - at) h (shorter n (length (drop at m)) (j - at) (length (part at n m)) c (omega arith) (omega arith)))

-- bytes put elsewhere leave a byte
pub leaves : (m new : List ℕ) (at j : ℕ) → (j < at) ⊎ (at + length new ≤ j) → get_or (put m at new) j 0 ≡ get_or m j 0
leaves m new at j (inl h) = over_before newer m at new j h
leaves m new at j (inr h) = over_behind newer m at new j h

-- bytes put there stand there
lies : (m new : List ℕ) (at i : ℕ) → i < length new → at + length new ≤ length m → get_or (put m at new) (at + i) 0 ≡ get_or new i 0
lies m new at i h k = over_within newer m at new i h (omega arith)

-- by its place, a line that passes leaves a marked byte, and its marks leave the mark
module _ (n : ℕ) (touched : List ℕ) (j : ℕ) (e : get_or touched j 0 ≡ mark) where
  byte_kept : (p : Result (Option ℕ) Cause) (new m : List ℕ) → length new ≡ n → is_ok (verdict_at p n touched) ≡ true → get_or (put_at p new m) j 0 ≡ get_or m j 0
  byte_kept (Ok None) new m h a = refl
  byte_kept (Err c) new m h a = refl
  byte_kept (Ok (Some at)) new m h a = by_marks (any (eqb mark) (part at n touched)) refl a
    where
      by_marks : (b : Bool) → any (eqb mark) (part at n touched) ≡ b → is_ok (if b then Err Overlap else Ok (tt {0})) ≡ true
          → get_or (put m at new) j 0 ≡ get_or m j 0
      by_marks true f a = clash true refl (sym a)
      by_marks false f a = leaves m new at j (rw (← h) at (apart touched at n j f e))

  pub mark_kept : (p : Result (Option ℕ) Cause) → get_or (put_at p (replicate n mark) touched) j 0 ≡ mark
  mark_kept (Ok None) = e
  mark_kept (Err c) = e
  mark_kept (Ok (Some at)) = by_order (leb at j) refl (ltb j (at + n)) refl
    where
      r : length (replicate n mark) ≡ n
      r = length-replicate n mark

      by_order : (a : Bool) → leb at j ≡ a → (b : Bool) → ltb j (at + n) ≡ b → get_or (put touched at (replicate n mark)) j 0 ≡ mark
      by_order false p b q = over_before newer touched at (replicate n mark) j (leb-false at j p) ∙ e
      by_order true p false q = over_behind newer touched at (replicate n mark) j (rw r (ltb-false j (at + n) q)) ∙ e
      by_order true p true q =
          let o = leb-true at j p in
          let l = ltb-true j (at + n) q in
          let t = marked_there touched j e in
          let k : at + (j - at) ≡ j = omega arith in
          let w = over_within newer touched at (replicate n mark) (j - at) (rw r (omega arith)) (rw k t) in
          rw k at w ∙ get_or-replicate n (j - at) mark 0 (omega arith)

module _ (shift : ℤ) where
  -- a byte that is touched stays, whatever lines follow
  keeps : (ls : List (List ℕ)) (n : ℕ) (ended : Bool) (touched image : List ℕ) (j : ℕ)
      → is_ok (judged shift n ended touched ls) ≡ true → get_or touched j 0 ≡ mark
      → get_or (all_loaded shift ls image) j 0 ≡ get_or image j 0
  unfolding touched_by loaded_by
  keeps [] n ended touched image j h e = refl
  keeps (l ∷ ls) n ended touched image j h e =
      let b = both_accepted shift n ended touched l ls h in
      let p = place_passes shift ended touched (line_of l) b.0 in
      keeps ls (suc n) (ended || ends (line_of l)) (touched_by shift (line_of l) touched) (loaded_by shift l image) j b.1
      (mark_kept (bytes (line_of l)) touched j e (place_of shift (line_of l)))
      ∙ byte_kept (bytes (line_of l)) touched j e (place_of shift (line_of l)) (data_of l) image (as_many l) p

  -- a line marks its bytes and lays them
  pub marked : (l touched : List ℕ) (at : ℕ) → place_of shift (line_of l) ≡ Ok (Some at) → length touched ≡ 32768 → (i : ℕ) → i < length (data_of l)
      → get_or (touched_by shift (line_of l) touched) (at + i) 0 ≡ mark
  unfolding touched_by
  marked l touched at p s i k =
      let r = room shift (line_of l) at p in
      let n = as_many l in
      let c = length-replicate (bytes (line_of l)) mark in
      rw p (lies touched (replicate (bytes (line_of l)) mark) at i (omega arith) (omega arith))
      ∙ get_or-replicate (bytes (line_of l)) i mark 0 (omega arith)

  laid : (l image : List ℕ) (at : ℕ) → place_of shift (line_of l) ≡ Ok (Some at) → length image ≡ 32768 → (i : ℕ) → i < length (data_of l)
      → get_or (loaded_by shift l image) (at + i) 0 ≡ get_or (data_of l) i 0
  unfolding loaded_by
  laid l image at p t i k = let r = room shift (line_of l) at p in let n = as_many l in rw p (lies image (data_of l) at i k (omega arith))

  -- the bytes of each line stand where it says
  stand : (ls : List (List ℕ)) (n : ℕ) (ended : Bool) (touched image : List ℕ)
      → is_ok (judged shift n ended touched ls) ≡ true → length touched ≡ 32768 → length image ≡ 32768
      → (l : List ℕ) → Among l ls → (at : ℕ) → place_of shift (line_of l) ≡ Ok (Some at) → (i : ℕ) → i < length (data_of l)
      → get_or (all_loaded shift ls image) (at + i) 0 ≡ get_or (data_of l) i 0
  stand [] n ended touched image h s t l a at p i k = absurd a
  stand (m ∷ ls) n ended touched image h s t l (inr a) at p i k =
      stand ls (suc n) (ended || ends (line_of m)) (touched_by shift (line_of m) touched) (loaded_by shift m image)
      (both_accepted shift n ended touched m ls h).1 (length-touched shift (line_of m) touched ∙ s) (length_loaded shift m image ∙ t) l a at p i k
  stand (m ∷ ls) n ended touched image h s t l (inl e) at p i k =
      keeps ls (suc n) (ended || ends (line_of m)) (touched_by shift (line_of m) touched) (loaded_by shift m image) (at + i)
      (both_accepted shift n ended touched m ls h).1
      (subst (λ (x : List ℕ). get_or (touched_by shift (line_of x) touched) (at + i) 0 ≡ mark) e (marked l touched at p s i k))
      ∙ subst (λ (x : List ℕ). get_or (loaded_by shift x image) (at + i) 0 ≡ get_or (data_of l) i 0) e (laid l image at p t i k)

  -- no line's data lie outside
  within_flash : (ls : List (List ℕ)) (n : ℕ) (ended : Bool) (touched : List ℕ) → is_ok (judged shift n ended touched ls) ≡ true
      → (l : List ℕ) → Among l ls → place_of shift (line_of l) ≡ Err OutsideFlash → ⊥
  within_flash [] n ended touched h l a p = a
  within_flash (m ∷ ls) n ended touched h l (inr a) p =
      within_flash ls (suc n) (ended || ends (line_of m)) (touched_by shift (line_of m) touched) (both_accepted shift n ended touched m ls h).1 l a p
  within_flash (m ∷ ls) n ended touched h l (inl e) p =
      let c = place_passes shift ended touched (line_of m) (both_accepted shift n ended touched m ls h).0 in
      clash true refl (sym (rw (← e, p) at c))

  -- a byte that no line touches stays
  stay : (ls : List (List ℕ)) (image : List ℕ) (j : ℕ) → ((l : List ℕ) → Among l ls → touches shift l j ≡ false)
      → get_or (all_loaded shift ls image) j 0 ≡ get_or image j 0
  unfolding loaded_by
  stay [] image j f = refl
  stay (l ∷ ls) image j f =
      stay ls (loaded_by shift l image) j (λ k a. f k (inr a)) ∙ by_place (place_of shift (line_of l)) (bytes (line_of l)) (as_many l) (f l (inl refl))
    where
      by_place : (p : Result (Option ℕ) Cause) (n : ℕ) → length (data_of l) ≡ n → reaches p n j ≡ false → get_or (put_at p (data_of l) image) j 0 ≡ get_or image j 0
      by_place (Ok None) n e g = refl
      by_place (Err c) n e g = refl
      by_place (Ok (Some at)) n e g = leaves image (data_of l) at j (rw (← e) at (beside at n j g))

-- a line that does not touch a byte that none touches
none_touches : (shift : ℤ) (ls : List (List ℕ)) (j : ℕ) → (Touched shift ls j → ⊥) → (l : List ℕ) → Among l ls → touches shift l j ≡ false
none_touches shift ls j f l a = by_test (touches shift l j) refl
  where
    by_test : (b : Bool) → touches shift l j ≡ b → touches shift l j ≡ false
    by_test true e = absurd (f record { line = l; among = a; touched = e })
    by_test false e = e

-- an accepted file leaves what it says
pub accepted : (shift : ℤ) (text image : List ℕ) → answer_to shift text (length image) ≡ Ok tt → AsSaid shift text image
unfolding answer_to image_after untouched
accepted shift text image h = by_length (eqb (length image) 32768) refl (ap is_ok h)
  where
    by_length : (b : Bool) → eqb (length image) 32768 ≡ b
        → is_ok (if b then judged shift 0 false untouched (lines_of text) else Err (whole WrongLength)) ≡ true → AsSaid shift text image
    by_length false e a = clash true refl (sym a)
    by_length true e a =
        let after : image_after shift text image ≡ all_loaded shift (lines_of text) image = rw (e, a) refl in
        record {
          inside = within_flash shift (lines_of text) 0 false untouched a;
          stands = λ l m at p i k. ap (λ (x : List ℕ). get_or x (at + i) 0) after
              ∙ stand shift (lines_of text) 0 false untouched image a (length-replicate {A = ℕ} 32768 0) (eqb-true (length image) 32768 e) l m at p i k;
          stays = λ j f. ap (λ (x : List ℕ). get_or x j 0) after ∙ stay shift (lines_of text) image j (none_touches shift (lines_of text) j f);
          size = ap length after ∙ length-all_loaded shift (lines_of text) image;
        }

-- an error leaves every byte
pub refused : (shift : ℤ) (text image : List ℕ) (r : Refused) → answer_to shift text (length image) ≡ Err r → image_after shift text image ≡ image
unfolding image_after
refused shift text image r h = rw h refl
