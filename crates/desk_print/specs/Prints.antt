-- Which characters are printed for which bytes: document 01, "The program desk".
use Rattle.std.specs.Prelude.{ℕ, ◌/◌, ◌%◌, List, [], ◌∷◌, ◌++◌}
use Rattle.words.specs.Hex.{space}
use Rattle.words.specs.Lists.{cut}
use Rattle.frames.specs.Frames.{classic, Frame, frame_bytes, frame_in, carried}
use Rattle.desk_print.specs.Digits.{digit_of, digits_of}

-- the character between the ID of a frame and its data
abbrev pub colon : ℕ
colon = 0x3A

-- the bytes of a UART reply as they are printed, each after one space
abbrev pub spelled : List ℕ → List ℕ
spelled [] = []
spelled (b ∷ bs) = space ∷ digits_of b ++ spelled bs

-- three hex digits of an ID
abbrev pub id_digits : ℕ → List ℕ
id_digits id = digit_of (id / 256 % 16) ∷ digit_of (id / 16 % 16) ∷ digit_of (id % 16) ∷ []

-- bytes in hex, unspaced
abbrev pub unspaced : List ℕ → List ℕ
unspaced [] = []
unspaced (b ∷ bs) = digits_of b ++ unspaced bs

-- a frame as it is printed, after one space: ID:data with its DLC bytes
abbrev pub spelled_frame : Frame → List ℕ
spelled_frame f = space ∷ id_digits f.id ++ colon ∷ unspaced (carried f)

-- the frames of a reply as they are printed
abbrev pub spelled_each : List (List ℕ) → List ℕ
spelled_each [] = []
spelled_each (l ∷ ls) = spelled_frame (frame_in l) ++ spelled_each ls

abbrev pub spelled_frames : List ℕ → List ℕ
spelled_frames reply = spelled_each (cut (frame_bytes classic) reply)

-- the most digits of a line's number
abbrev pub number_room : ℕ
number_room = 20
