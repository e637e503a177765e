-- What a turn over a line leaves, and what is left behind the last line.
use mathlib.Core.Path.{◌≡◌, refl, ◌∙◌}
use mathlib.Core.Bool.{Bool, true, false, ◌||◌}
use mathlib.Core.List.{List, [], ◌∷◌}
use Prim.Native.Nat.{ℕ, suc}
use lib.IntN.{ℤ}
use borrow.Author.Tests.{eq-eqb, ne_eqb}
use lib.ListN.{length, drop, replicate}
use lib.Seq.{drop-length}
use Rattle.words.specs.Over.{newer}
use Rattle.words.proofs.Over.{length_over}
use Rattle.records.specs.Ends.{lines_of}
use Rattle.records.specs.Records.{line_of}
use Rattle.records.specs.declared.Line.{Line}
use Rattle.std.specs.Prelude.{Option, Some, None, Result, Ok, Err, is_ok}
use Rattle.loading.specs.Places.{data_of, bytes, place_of}
use Rattle.loading.specs.Loads.{mark, ends, untouched, verdict_of, put_at, touched_by, loaded_by, all_loaded, whole, at_line, judged}
use Rattle.loading.specs.Loads.{answer_to, image_after}
use Rattle.loading.specs.declared.Cause.{Cause}
use Rattle.loading.specs.declared.Cause.TheVariants.{WrongLength}
use Rattle.loading.specs.declared.Refused.{Refused}

-- bytes put leave the length
length-put_at : (p : Result (Option ℕ) Cause) (new m : List ℕ) → length (put_at p new m) ≡ length m
length-put_at (Ok None) new m = refl
length-put_at (Err c) new m = refl
length-put_at (Ok (Some at)) new m = length_over newer m at new

pub length-touched : (shift : ℤ) (x : Option Line) (m : List ℕ) → length (touched_by shift x m) ≡ length m
unfolding touched_by
length-touched shift x m = length-put_at (place_of shift x) (replicate (bytes x) mark) m

pub length_loaded : (shift : ℤ) (l m : List ℕ) → length (loaded_by shift l m) ≡ length m
unfolding loaded_by
length_loaded shift l m = length-put_at (place_of shift (line_of l)) (data_of l) m

pub length-all_loaded : (shift : ℤ) (ls : List (List ℕ)) (m : List ℕ) → length (all_loaded shift ls m) ≡ length m
length-all_loaded shift [] m = refl
length-all_loaded shift (l ∷ ls) m = length-all_loaded shift ls (loaded_by shift l m) ∙ length_loaded shift l m

-- no line is left at the text's end
pub no_line : (text : List ℕ) (at : ℕ) → at ≡ length text → lines_of (drop at text) ≡ []
unfolding lines_of
no_line text at e = rw (e, drop-length text) refl

-- a good line, and one that decides
pub goes_on : (shift : ℤ) (n : ℕ) (ended : Bool) (touched l : List ℕ) (ls : List (List ℕ)) → verdict_of shift ended touched (line_of l) ≡ Ok tt
    → judged shift n ended touched (l ∷ ls) ≡ judged shift (suc n) (ended || ends (line_of l)) (touched_by shift (line_of l) touched) ls
goes_on shift n ended touched l ls h = rw h refl

pub decides : (shift : ℤ) (n : ℕ) (ended : Bool) (touched l : List ℕ) (ls : List (List ℕ)) (c : Cause) → verdict_of shift ended touched (line_of l) ≡ Err c
    → judged shift n ended touched (l ∷ ls) ≡ Err (at_line c (suc n))
decides shift n ended touched l ls c h = rw h refl

-- the answer and the image: of a wrong length, of a file that is accepted, and of one that is refused
module _ (shift : ℤ) (text image : List ℕ) where
  pub wrong_length_lem : (length image ≡ 32768 → ⊥)
      → (Err (whole WrongLength) ≡ answer_to shift text (length image)) × (image ≡ image_after shift text image)
  unfolding answer_to image_after
  wrong_length_lem n = rw (ne_eqb (length image) 32768 n) (refl, refl)

  answers : length image ≡ 32768 → judged shift 0 false untouched (lines_of text) ≡ answer_to shift text (length image)
  unfolding answer_to
  answers e = rw (eq-eqb (length image) 32768 e) refl

  module _ (r : Result (Unit {0}) Refused) (e : length image ≡ 32768) (j : r ≡ judged shift 0 false untouched (lines_of text)) where
    pub loads : is_ok r ≡ true
        → (r ≡ answer_to shift text (length image)) × (all_loaded shift (lines_of text) image ≡ image_after shift text image)
    unfolding image_after
    loads a = let g = j ∙ answers e in (g, rw (← g, a) refl)

    pub leaves : is_ok r ≡ false → (r ≡ answer_to shift text (length image)) × (image ≡ image_after shift text image)
    unfolding image_after
    leaves a = let g = j ∙ answers e in (g, rw (← g, a) refl)
