-- What is a line of which kind: document 01, "The program desk".
use Rattle.std.specs.Prelude.{ℕ, ◌+◌, ◌*◌, Bool, true, false, ◌&&◌, List, [], ◌∷◌, eqb, leb, ltb, length, get_or, drop}
use Rattle.std.specs.Prelude.{if◌then◌else◌}
use Rattle.frames.specs.Frames.{classic, frame}
use Rattle.words.specs.Hex.{space, field_characters, value_of}
use Rattle.desk_lines.specs.Digits.{is_digit, byte_in}
use Rattle.desk_lines.specs.declared.Kind.{Kind}
use Rattle.desk_lines.specs.declared.Kind.TheVariants.{Bytes, Frame, PowerOn, Other}

-- the characters that lines are made of
abbrev pub line_feed : ℕ
line_feed = 0x0A

abbrev pub letter_u : ℕ
letter_u = 0x55

abbrev pub letter_p : ℕ
letter_p = 0x50

abbrev pub letter_c : ℕ
letter_c = 0x43

-- the most characters of a line
abbrev pub most_characters : ℕ
most_characters = 800

-- one space and two hex digits
abbrev pub is_field : ℕ → ℕ → ℕ → Bool
is_field s high low = eqb s space && is_digit high && is_digit low

-- characters are hex bytes, each after one space
abbrev pub are_fields : List ℕ → Bool
are_fields [] = true
are_fields (s ∷ []) = false
are_fields (s ∷ high ∷ []) = false
are_fields (s ∷ high ∷ low ∷ rest) = is_field s high low && are_fields rest

-- the bytes that they write
abbrev pub fields : List ℕ → List ℕ
fields [] = []
fields (s ∷ []) = []
fields (s ∷ high ∷ []) = []
fields (s ∷ high ∷ low ∷ rest) = byte_in high low ∷ fields rest

-- how many characters an ID takes, with the space before it
abbrev pub id_characters : ℕ
id_characters = 4

-- characters are an ID, three hex digits after one space, and the hex bytes of a frame, up to as many as it carries
abbrev pub are_frame : List ℕ → Bool
are_frame l =
    leb id_characters (length l) && eqb (get_or l 0 0) space && is_digit (get_or l 1 0) && is_digit (get_or l 2 0) && is_digit (get_or l 3 0)
    && are_fields (drop id_characters l) && leb (length l) (id_characters + field_characters * classic.largest)

-- the ID that they write
abbrev pub id_in : List ℕ → ℕ
id_in l = value_of (get_or l 1 0) * 256 + value_of (get_or l 2 0) * 16 + value_of (get_or l 3 0)

-- the frame that they write
abbrev pub frame_written : List ℕ → List ℕ
frame_written l = frame classic (id_in l) (fields (drop id_characters l))

-- what a line says by its letter and what follows it: `U` and one or more hex bytes; `P`; `C`, an ID and data
abbrev pub kind_by : ℕ → List ℕ → Kind
kind_by letter rest =
    if eqb letter letter_u && ltb 0 (length rest) && are_fields rest then Bytes
    else if eqb letter letter_p && eqb (length rest) 0 then PowerOn
    else if eqb letter letter_c && are_frame rest then Frame
    else Other

-- which kind a line is, where it has no more than the most characters
unfoldable pub kind_of : List ℕ → Kind
kind_of [] = Other
kind_of (letter ∷ rest) = if leb (length (letter ∷ rest)) most_characters then kind_by letter rest else Other
