-- What is answered to small files, in the characters of their lines: document 02, Wish 1.
use Rattle.std.specs.Prelude.{◌≡◌, List, [], ◌∷◌, ◌++◌, ℕ, replicate, ℤ, pos, negsuc, Result, Ok, Err}
use Prim.Native.String.{String}
use Rattle.words.specs.Lists.{part}
use Rattle.records.specs.Ends.{line_feed}
use Rattle.words.specs.Texts.{characters}
use Rattle.loading.specs.Loads.{whole, at_line, answer_to, image_after}
use Rattle.loading.specs.declared.Cause.TheVariants.{WrongLength, BadLine, BadChecksum, OutsideFlash, Overlap, NoEnd}
use Rattle.loading.specs.declared.Refused.{Refused}

-- a text of lines, each ended by LF
abbrev pub written : List String → List ℕ
written [] = []
written (t ∷ ts) = characters t ++ line_feed ∷ written ts

-- what is answered to lines, with an image of 32,768 bytes
abbrev pub answer_of : ℤ → List String → Result (Unit {0}) Refused
answer_of shift lines = answer_to shift (written lines) 32768

-- each answer, with what it is answered to
pub record Rulings : Type 0 where
  -- what a compiler writes: a header, data from 0x08000000 on, and an ending record, with CR LF
  pub compiler : answer_to (pos 0) (characters "S00600004844521B\r\nS3060800000012DF\r\nS70508000000F2\r\n") 32768 ≡ Ok tt
  -- no ending record: an empty text, and lines that are all without fault
  pub empty : answer_of (pos 0) [] ≡ Err (whole NoEnd)
  pub unended : answer_of (pos 0) ("S00600004844521B" ∷ "S3060800000012DF" ∷ "S5030001FB" ∷ []) ≡ Err (whole NoEnd)
  -- a wrong image length comes before everything
  pub short : answer_to (pos 0) (characters "X") 32767 ≡ Err (whole WrongLength)
  pub long : answer_to (pos 0) (characters "X") 32769 ≡ Err (whole WrongLength)
  -- S1 and S2 with data lie outside flash, and without data nowhere
  pub two : answer_of (pos 0) ("S104000012E9" ∷ "S9030000FC" ∷ []) ≡ Err (at_line OutsideFlash 1)
  pub three : answer_of (pos 32767) ("S205FFFFFF12EB" ∷ "S9030000FC" ∷ []) ≡ Err (at_line OutsideFlash 1)
  pub bare : answer_of (pos 0) ("S1030000FC" ∷ "S204000000FB" ∷ "S30500000000FA" ∷ "S9030000FC" ∷ []) ≡ Ok tt
  -- the shift is added: the first byte of flash and the last, each from the next address outside
  pub first : answer_of (pos 1) ("S30607FFFFFF12E3" ∷ "S9030000FC" ∷ []) ≡ Ok tt
  pub last : answer_of (negsuc 32767) ("S3060800FFFF12E1" ∷ "S9030000FC" ∷ []) ≡ Ok tt
  pub before : answer_of (negsuc 0) ("S3060800000012DF" ∷ "S9030000FC" ∷ []) ≡ Err (at_line OutsideFlash 1)
  pub behind : answer_of (pos 0) ("S30708007FFF12342C" ∷ "S9030000FC" ∷ []) ≡ Err (at_line OutsideFlash 1)
  -- the sum does not wrap, above or below
  pub above : answer_of (pos 32767) ("S306FFFFFFFF12EB" ∷ "S9030000FC" ∷ []) ≡ Err (at_line OutsideFlash 1)
  pub below : answer_of (negsuc 0) ("S3060000000012E7" ∷ "S9030000FC" ∷ []) ≡ Err (at_line OutsideFlash 1)
  -- lines may touch, in any order; one shared byte is an overlap, equal bytes too; a record without data overlaps nothing
  pub touching : answer_of (pos 0) ("S3060800000134BC" ∷ "S3060800000012DF" ∷ "S9030000FC" ∷ []) ≡ Ok tt
  pub sharing : answer_of (pos 0) ("S307080000001234AA" ∷ "S30608000001569A" ∷ "S9030000FC" ∷ []) ≡ Err (at_line Overlap 2)
  pub equal : answer_of (pos 0) ("S3060800000012DF" ∷ "S3060800000012DF" ∷ "S9030000FC" ∷ []) ≡ Err (at_line Overlap 2)
  pub earlier : answer_of (pos 0) ("S3060800000012DF" ∷ "S3060800000234BB" ∷ "S3060800000012DF" ∷ "S9030000FC" ∷ []) ≡ Err (at_line Overlap 3)
  pub over : answer_of (pos 0) ("S3060800000012DF" ∷ "S30508000000F2" ∷ "S30508000000F2" ∷ "S9030000FC" ∷ []) ≡ Ok tt
  -- S0 and S5 stand anywhere, and S5's number is not checked; any ending record ends any file
  pub order : answer_of (pos 0) ("S5030009F3" ∷ "S3060800000012DF" ∷ "S00600004844521B" ∷ "S0030000FC" ∷ "S80401234592" ∷ []) ≡ Ok tt
  -- a wrong checksum of any type: a header's, one before a wrong address, and an ending record's, of which no end is missed
  pub header : answer_of (pos 0) ("S00600004844521C" ∷ "S9030000FC" ∷ []) ≡ Err (at_line BadChecksum 1)
  pub outside : answer_of (pos 0) ("S0030000FC" ∷ "S3060000000012E8" ∷ "S9030000FC" ∷ []) ≡ Err (at_line BadChecksum 2)
  pub ending : answer_of (pos 0) ("S9030000FD" ∷ []) ≡ Err (at_line BadChecksum 1)
  -- any line behind the ending record is bad: one with a wrong checksum, a second ending record, an empty line
  pub after : answer_of (pos 0) ("S9030000FC" ∷ "S3060800000012E0" ∷ []) ≡ Err (at_line BadLine 2)
  pub second : answer_of (pos 0) ("S9030000FC" ∷ "S9030000FC" ∷ []) ≡ Err (at_line BadLine 2)
  pub blank : answer_of (pos 0) ("S9030000FC" ∷ "" ∷ []) ≡ Err (at_line BadLine 2)
  -- the first faulty line decides, and every line counts: an overlap before a bad line
  pub faulty : answer_of (pos 0) ("S0030000FC" ∷ "S3060800000012DF" ∷ "S3060800000012DF" ∷ "X" ∷ "S9030000FC" ∷ []) ≡ Err (at_line Overlap 3)
  -- bytes replace those of the image, and an error leaves also the bytes of the lines before it
  pub stored : part 0 3 (image_after (pos 0) (written ("S3060800000134BC" ∷ "S3060800000012DF" ∷ "S9030000FC" ∷ [])) (replicate 32768 0)) ≡ 0x12 ∷ 0x34 ∷ 0 ∷ []
  pub kept : part 0 3 (image_after (pos 0) (written ("S3060800000134BC" ∷ "X" ∷ "S9030000FC" ∷ [])) (replicate 32768 0)) ≡ 0 ∷ 0 ∷ 0 ∷ []
