-- What a file does to an image: document 02, Wish 1.
use Rattle.std.specs.Prelude.{ℕ, suc, Bool, true, false, not, ◌||◌, List, [], ◌∷◌, eqb, ℤ, length, replicate}
use Rattle.std.specs.Prelude.{if◌then◌else◌, Option, Some, None, is_none, unwrap_or, Result, Ok, Err, is_ok}
use Rattle.words.specs.Lists.{any, part}
use Rattle.words.specs.Over.{put}
use Rattle.board.specs.Board.{flash}
use Rattle.records.specs.Ends.{lines_of}
use Rattle.records.specs.Records.{line_of}
use Rattle.records.specs.declared.Kind.{Kind}
use Rattle.records.specs.declared.Kind.TheVariants.{Header, Data, Count, End}
use Rattle.records.specs.declared.Line.{Line}
use Rattle.loading.specs.Places.{data_of, bytes, place_of}
use Rattle.loading.specs.declared.Cause.{Cause}
use Rattle.loading.specs.declared.Cause.TheVariants.{WrongLength, BadLine, BadChecksum, OutsideFlash, Overlap, NoEnd}
use Rattle.loading.specs.declared.Refused.{Refused}

-- the number of each cause, and of what is answered: 0 where the file is accepted
abbrev pub cause_no : Cause → ℕ
cause_no WrongLength = 1
cause_no BadLine = 2
cause_no BadChecksum = 3
cause_no OutsideFlash = 4
cause_no Overlap = 5
cause_no NoEnd = 6

abbrev pub answer_no : Result (Unit {0}) Refused → ℕ
answer_no (Ok accepted) = 0
answer_no (Err r) = cause_no r.cause

-- the number of the line that has the cause, from 1; 0 where no line has it
abbrev pub line_no : Result (Unit {0}) Refused → ℕ
line_no (Ok accepted) = 0
line_no (Err r) = unwrap_or r.line 0

-- a line ends the file
abbrev pub is_end : Kind → Bool
is_end End = true
is_end Header = false
is_end Data = false
is_end Count = false

abbrev pub ends : Option Line → Bool
ends None = false
ends (Some x) = is_end x.kind

-- a line's checksum is right
abbrev pub right : Option Line → Bool
right None = false
right (Some x) = x.right

-- each byte of flash has a mark, 1 where a line has touched it; at first there is none
abbrev pub mark : ℕ
mark = 1

unfoldable pub untouched : List ℕ
untouched = replicate flash.bytes 0

-- n bytes go to a place: outside flash, over a byte that is touched, or rightly
abbrev pub verdict_at : Result (Option ℕ) Cause → ℕ → List ℕ → Result (Unit {0}) Cause
verdict_at (Err c) n touched = Err c
verdict_at (Ok None) n touched = Ok tt
verdict_at (Ok (Some at)) n touched = if any (eqb mark) (part at n touched) then Err Overlap else Ok tt

-- a line behind others is accepted, or the first cause that holds of it: whether one of them has ended the file, and the bytes that they touch
unfoldable pub verdict_of : ℤ → Bool → List ℕ → Option Line → Result (Unit {0}) Cause
verdict_of shift ended touched x =
    if ended || is_none x then Err BadLine
    else if not (right x) then Err BadChecksum
    else verdict_at (place_of shift x) (bytes x) touched

-- what such a verdict comes to: whether the line ends the file, or the cause
abbrev pub ends_by : Result (Unit {0}) Cause → Option Line → Result Bool Cause
ends_by (Ok accepted) x = Ok (ends x)
ends_by (Err c) x = Err c

-- bytes put where a place is
abbrev pub put_at : Result (Option ℕ) Cause → List ℕ → List ℕ → List ℕ
put_at (Ok (Some at)) new m = put m at new
put_at (Ok None) new m = m
put_at (Err c) new m = m

-- the marks with those of a line, and of several
unfoldable pub touched_by : ℤ → Option Line → List ℕ → List ℕ
touched_by shift x touched = put_at (place_of shift x) (replicate (bytes x) mark) touched

abbrev pub all_touched : ℤ → List (List ℕ) → List ℕ → List ℕ
all_touched shift [] touched = touched
all_touched shift (l ∷ ls) touched = all_touched shift ls (touched_by shift (line_of l) touched)

-- an image with the data of a line, and of several
unfoldable pub loaded_by : ℤ → List ℕ → List ℕ → List ℕ
loaded_by shift l image = put_at (place_of shift (line_of l)) (data_of l) image

abbrev pub all_loaded : ℤ → List (List ℕ) → List ℕ → List ℕ
all_loaded shift [] image = image
all_loaded shift (l ∷ ls) image = all_loaded shift ls (loaded_by shift l image)

-- a cause that no line has, and one that a line has, with its number
abbrev pub whole : Cause → Refused
whole c = record { cause = c; line = None }

abbrev pub at_line : Cause → ℕ → Refused
at_line c n = record { cause = c; line = Some n }

-- a line that is refused decides, with its number; else those behind it
abbrev pub or_line : Result (Unit {0}) Cause → ℕ → Result (Unit {0}) Refused → Result (Unit {0}) Refused
or_line (Err c) n behind = Err (at_line c n)
or_line (Ok accepted) n behind = behind

-- the first faulty line decides, else whether there was an ending record; n lines went before, and left whether they ended and what they touch
abbrev pub judged : ℤ → ℕ → Bool → List ℕ → List (List ℕ) → Result (Unit {0}) Refused
judged shift n ended touched [] = if ended then Ok tt else Err (whole NoEnd)
judged shift n ended touched (l ∷ ls) =
    or_line (verdict_of shift ended touched (line_of l)) (suc n)
    (judged shift (suc n) (ended || ends (line_of l)) (touched_by shift (line_of l) touched) ls)

-- what is answered to a text and an image of a length, and the image that is left: an error leaves it as it was
unfoldable pub answer_to : ℤ → List ℕ → ℕ → Result (Unit {0}) Refused
answer_to shift text n = if eqb n flash.bytes then judged shift 0 false untouched (lines_of text) else Err (whole WrongLength)

unfoldable pub image_after : ℤ → List ℕ → List ℕ → List ℕ
image_after shift text image =
    if is_ok (answer_to shift text (length image)) then all_loaded shift (lines_of text) image else image
