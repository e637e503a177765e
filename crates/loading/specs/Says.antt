-- What an accepted file leaves and an error does not change, over the definitions of loading alone: document 02, Wish 1.
use Rattle.std.specs.Prelude.{◌≡◌, Bool, true, false, List, [], ◌∷◌, ◌++◌, ◌⊎◌, ◌↔◌, ℕ, ◌+◌, ◌<◌, ℤ, length, get_or, Option, Some, None, Result, Ok, Err}
use Rattle.words.specs.Over.{within}
use Rattle.records.specs.Ends.{lines_of}
use Rattle.records.specs.Records.{line_of}
use Rattle.loading.specs.Places.{data_of, bytes, place_of}
use Rattle.loading.specs.Loads.{mark, untouched, all_touched, answer_to, image_after}
use Rattle.loading.specs.declared.Cause.{Cause}
use Rattle.loading.specs.declared.Cause.TheVariants.{OutsideFlash}
use Rattle.loading.specs.declared.Refused.{Refused}

-- a line is one of several
abbrev pub Among : List ℕ → List (List ℕ) → Type 0
Among l [] = ⊥
Among l (k ∷ ks) = (l ≡ k) ⊎ Among l ks

-- byte j of flash is one of n from a place on
abbrev pub reaches : Result (Option ℕ) Cause → ℕ → ℕ → Bool
reaches (Ok None) n j = false
reaches (Err c) n j = false
reaches (Ok (Some at)) n j = within at n j

-- byte j of flash is one of those that a line's data go to
abbrev pub touches : ℤ → List ℕ → ℕ → Bool
touches shift l j = reaches (place_of shift (line_of l)) (bytes (line_of l)) j

-- one of several lines touches byte j
pub record Touched (shift : ℤ) (ls : List (List ℕ)) (j : ℕ) : Type 0 where
  pub line : List ℕ
  pub among : Among line ls
  pub touched : touches shift line j ≡ true

-- what an accepted file leaves
pub record AsSaid (shift : ℤ) (text image : List ℕ) : Type 0 where
  -- no line's data lie outside flash
  pub inside : (l : List ℕ) → Among l (lines_of text) → place_of shift (line_of l) ≡ Err OutsideFlash → ⊥
  -- the bytes of each line stand where it says
  pub stands : (l : List ℕ) → Among l (lines_of text) → (at : ℕ) → place_of shift (line_of l) ≡ Ok (Some at) → (i : ℕ) → i < length (data_of l)
      → get_or (image_after shift text image) (at + i) 0 ≡ get_or (data_of l) i 0
  -- untouched image bytes stay, and so does their number
  pub stays : (j : ℕ) → (Touched shift (lines_of text) j → ⊥) → get_or (image_after shift text image) j 0 ≡ get_or image j 0
  pub size : length (image_after shift text image) ≡ length image

-- every accepted file leaves this
abbrev pub AcceptedLoads : Type 0
AcceptedLoads = (shift : ℤ) (text image : List ℕ) → answer_to shift text (length image) ≡ Ok tt → AsSaid shift text image

-- an error leaves the image unchanged
abbrev pub ErrorLeaves : Type 0
ErrorLeaves = (shift : ℤ) (text image : List ℕ) (r : Refused) → answer_to shift text (length image) ≡ Err r → image_after shift text image ≡ image

-- in an accepted file no byte of flash is touched by two lines, an earlier one k and a later one l
abbrev pub Apart : Type 0
Apart = (shift : ℤ) (text : List ℕ) (n : ℕ) → answer_to shift text n ≡ Ok tt
    → (xs ys zs : List (List ℕ)) (k l : List ℕ) → lines_of text ≡ xs ++ (k ∷ (ys ++ (l ∷ zs)))
    → (j : ℕ) → touches shift k j ≡ true → touches shift l j ≡ true → ⊥

-- the marks that lines leave stand at exactly the bytes that one of them touches
abbrev pub MarkedExactly : Type 0
MarkedExactly = (shift : ℤ) (ls : List (List ℕ)) (j : ℕ) → (get_or (all_touched shift ls untouched) j 0 ≡ mark) ↔ Touched shift ls j
