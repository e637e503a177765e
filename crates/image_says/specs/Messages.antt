-- What is said of a file: how much it loads, or where and why it is refused, in the way of compilers.
use Rattle.std.specs.Prelude.{ℕ, ◌-◌, Bool, false, ◌||◌, List, [], ◌∷◌, ◌++◌, eqb, ℤ, get_or}
use Rattle.std.specs.Prelude.{if◌then◌else◌, Option, Some, None, Result, Ok, Err}
use Rattle.desk_print.specs.Digits.{decimal}
use Rattle.records.specs.Ends.{line_feed, lines_of}
use Rattle.records.specs.Records.{digit, type_in}
use Rattle.loading.specs.Loads.{untouched, all_touched, answer_to}
use Rattle.loading.specs.declared.Cause.{Cause}
use Rattle.loading.specs.declared.Cause.TheVariants.{WrongLength, BadLine, BadChecksum, OutsideFlash, Overlap, NoEnd}
use Rattle.loading.specs.declared.Refused.{Refused}
use Rattle.image_says.specs.Tally.{tally_of}
use Rattle.words.specs.Texts.{characters}
use Rattle.image_says.specs.declared.Tally.{Tally}

-- so many things, by their name, which has an s unless there is one
abbrev pub counted : ℕ → List ℕ → List ℕ
counted n thing = decimal n ++ characters " " ++ thing ++ (if eqb n 1 then [] else characters "s")

-- how much was loaded
abbrev pub amount : Tally → List ℕ
amount tally = counted tally.bytes (characters "byte") ++ characters " in " ++ counted tally.sectors (characters "sector")

-- an address is outside flash, and what to do where the record's type has no address there
abbrev pub advice : List ℕ
advice = characters ": S1 and S2 records cannot reach it; link at 0x08000000 and write S3 records"

abbrev pub outside : Bool → List ℕ
outside short = characters "address outside flash" ++ (if short then advice else [])

-- what is wrong; short is whether the line is an S1 or S2 record
abbrev pub wrong : Cause → Bool → List ℕ
wrong WrongLength short = characters "wrong image length: 32768 bytes wanted"
wrong BadLine short = characters "bad line"
wrong BadChecksum short = characters "bad checksum"
wrong OutsideFlash short = outside short
wrong Overlap short = characters "overlap with an earlier line"
wrong NoEnd short = characters "no ending record"

-- how much was loaded, or what is wrong
abbrev pub said : Result (Unit {0}) Refused → Tally → Bool → List ℕ
said (Ok accepted) tally short = amount tally
said (Err r) tally short = wrong r.cause short

-- the number of the line that has the cause, if one has it
abbrev pub line_in : Result (Unit {0}) Refused → Option ℕ
line_in (Ok accepted) = None
line_in (Err r) = r.line

-- the file's name, and behind a colon the number of that line
abbrev pub named : List ℕ → Option ℕ → List ℕ
named name None = name
named name (Some line) = name ++ (characters ":" ++ decimal line)

-- the whole line that is said
unfoldable pub message : List ℕ → Result (Unit {0}) Refused → Tally → Bool → List ℕ
message name answer tally short =
    named name (line_in answer) ++ characters ": " ++ said answer tally short ++ line_feed ∷ []

-- a line is an S1 or an S2 record, by its type digit; and the line of a number, from 1
abbrev pub is_short : List ℕ → Bool
is_short l = eqb (type_in l) (digit 1) || eqb (type_in l) (digit 2)

abbrev pub line_numbered : ℕ → List ℕ → List ℕ
line_numbered n text = get_or (lines_of text) (n - 1) []

abbrev pub is_short_at : Option ℕ → List ℕ → Bool
is_short_at None text = false
is_short_at (Some n) text = is_short (line_numbered n text)

-- what is said of a text that is loaded with a shift into an image of n bytes
unfoldable pub message_to : List ℕ → ℤ → List ℕ → ℕ → List ℕ
message_to name shift text n =
    message name (answer_to shift text n) (tally_of (all_touched shift (lines_of text) untouched)) (is_short_at (line_in (answer_to shift text n)) text)

-- how many characters that is: of a file that is accepted, or of one that is refused
abbrev pub told : Result (Unit {0}) Refused → ℕ → Result ℕ ℕ
told (Ok accepted) n = Ok n
told (Err r) n = Err n
