-- Which files are refused, and why, said of the lines alone: document 02, Wish 1, in its words and its order.
use Rattle.std.specs.Prelude.{◌≡◌, Bool, true, false, List, [], ◌∷◌, ◌++◌, map, ◌⊎◌, ◌↔◌, ℕ, suc, ◌<◌, ℤ, length, Some, None, IsSome, Ok, Err}
use Rattle.words.specs.Lists.{any}
use Rattle.records.specs.Ends.{lines_of}
use Rattle.records.specs.Records.{is_good, line_of}
use Rattle.loading.specs.Places.{place_of}
use Rattle.loading.specs.Loads.{answer_no, cause_no, ends, right, whole, answer_to}
use Rattle.loading.specs.Says.{touches, Touched}
use Rattle.loading.specs.declared.Cause.{Cause}
use Rattle.loading.specs.declared.Cause.TheVariants.{WrongLength, BadLine, BadChecksum, OutsideFlash, Overlap, NoEnd}
use Rattle.loading.specs.declared.Refused.{Refused}

-- 0 accepted, 1 wrong image length, 2 bad line, 3 bad checksum, 4 address outside flash, 5 overlap with an earlier line, 6 no ending record
abbrev pub CauseNumbers : Type 0
CauseNumbers =
    map answer_no (Ok tt ∷ map (λ c. Err (whole c)) (WrongLength ∷ BadLine ∷ BadChecksum ∷ OutsideFlash ∷ Overlap ∷ NoEnd ∷ [])) ≡ 0 ∷ 1 ∷ 2 ∷ 3 ∷ 4 ∷ 5 ∷ 6 ∷ []

-- a line is an ending record
abbrev pub is_ending : List ℕ → Bool
is_ending l = ends (line_of l)

-- a line overlaps with an earlier line: both touch some byte
pub record Overlaps (shift : ℤ) (before : List (List ℕ)) (l : List ℕ) : Type 0 where
  pub byte : ℕ
  pub earlier : Touched shift before byte
  pub again : touches shift l byte ≡ true

-- what each cause says of a line and the lines before it: bad line, or one after the ending record; bad checksum; address outside flash; overlap
abbrev pub Fault : ℤ → List (List ℕ) → List ℕ → Cause → Type 0
Fault shift before l BadLine = (is_good l ≡ false) ⊎ (any is_ending before ≡ true)
Fault shift before l BadChecksum = right (line_of l) ≡ false
Fault shift before l OutsideFlash = place_of shift (line_of l) ≡ Err OutsideFlash
Fault shift before l Overlap = Overlaps shift before l
Fault shift before l WrongLength = ⊥
Fault shift before l NoEnd = ⊥

-- a line has no fault, and none of several has, each behind those before it
abbrev pub Faultless : ℤ → List (List ℕ) → List ℕ → Type 0
Faultless shift before l = (c : Cause) → Fault shift before l c → ⊥

abbrev pub NoFaults : ℤ → List (List ℕ) → List (List ℕ) → Type 0
NoFaults shift before [] = Unit {0}
NoFaults shift before (l ∷ ls) = Faultless shift before l × NoFaults shift (before ++ (l ∷ [])) ls

-- no line of a text is faulty; an ending record is there, or is not
pub record Sound (shift : ℤ) (text : List ℕ) (ended : Bool) : Type 0 where
  pub faultless : NoFaults shift [] (lines_of text)
  pub ending : any is_ending (lines_of text) ≡ ended

-- a cause and a line's number, from 1, are those of the first faulty line, by the first cause that it has
pub record FirstFault (shift : ℤ) (text : List ℕ) (r : Refused) : Type 0 where
  pub before : List (List ℕ)
  pub line : List ℕ
  pub behind : List (List ℕ)
  pub lines : lines_of text ≡ before ++ (line ∷ behind)
  pub number : r.line ≡ Some (suc (length before))
  pub faultless : NoFaults shift [] before
  pub fault : Fault shift before line r.cause
  pub first : (c : Cause) → cause_no c < cause_no r.cause → Fault shift before line c → ⊥

-- a file is accepted exactly when the image has 32,768 bytes, no line is faulty and an ending record is there
abbrev pub AcceptedExactly : Type 0
AcceptedExactly = (shift : ℤ) (text : List ℕ) (n : ℕ) → (answer_to shift text n ≡ Ok tt) ↔ ((n ≡ 32768) × Sound shift text true)

-- what else is answered to a text and an image of n bytes
pub record Refuses (shift : ℤ) (text : List ℕ) (n : ℕ) : Type 0 where
  -- wrong image length first, whatever the text
  pub wrong_length : (answer_to shift text n ≡ Err (whole WrongLength)) ↔ (n ≡ 32768 → ⊥)
  -- then the first faulty line decides: a line that is named is that one, and where there is one it is named
  pub named : (r : Refused) → answer_to shift text n ≡ Err r → IsSome r.line → FirstFault shift text r
  pub decides : n ≡ 32768 → (r : Refused) → FirstFault shift text r → answer_to shift text n ≡ Err r
  -- last, no ending record
  pub no_end : (answer_to shift text n ≡ Err (whole NoEnd)) ↔ ((n ≡ 32768) × Sound shift text false)
  -- these two causes name no line, and every other cause does
  pub unnamed : (r : Refused) → answer_to shift text n ≡ Err r → (r.line ≡ None) ↔ ((r.cause ≡ WrongLength) ⊎ (r.cause ≡ NoEnd))

-- the same of every shift, text and length
abbrev pub FirstFaulty : Type 0
FirstFaulty = (shift : ℤ) (text : List ℕ) (n : ℕ) → Refuses shift text n
