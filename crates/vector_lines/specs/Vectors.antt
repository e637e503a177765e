-- What the bytes of a vector say: docs/VECTORS.md, "The line of a vector". Assumes nothing.
use Rattle.std.specs.Prelude.{ℕ, zero, suc, ◌≡◌, ◌≢◌, ◌+◌, ◌*◌, ◌%◌, min, List, [], ◌∷◌, ◌++◌, length, get_or, take, drop, Option, T}
use Rattle.std.specs.Io.KnownBytes.{Consumes}
use Rattle.words.specs.Bytes.{number}
use Rattle.words.specs.Hex.{field_characters}
use Rattle.words.specs.Lists.{part}
use Rattle.words.specs.Over.{put}
use Rattle.numbers.specs.Numbers.{short_bytes}
use Rattle.memories.specs.Effects.{staged_bytes}
use Rattle.session_bytes.specs.Sessions.{staged_place, session_in}
use Rattle.desk_lines.specs.Lines.{are_fields, fields}
use Rattle.vector_lines.specs.Sizes.{vector_bytes}
use Rattle.boot.specs.declared.Session.{Session}
use Rattle.vector_lines.specs.declared.vector.Input.{Input}
use Rattle.vector_lines.specs.declared.vector.Input.TheVariants.{Byte, Frame}

-- n bytes by seed and stride
abbrev pub filled : ℕ → ℕ → ℕ → List ℕ
filled seed stride zero = []
filled seed stride (suc n) = seed ∷ filled ((seed + stride) % 256) stride n

-- the length of a buffer that is said at a place, as far as there is room for it
abbrev pub extent : ℕ → List ℕ → ℕ → ℕ
extent at bytes room = min (number (part at short_bytes bytes)) room

-- a buffer by the length, seed and stride that are said at a place
abbrev pub memory_in : ℕ → List ℕ → ℕ → List ℕ
memory_in at bytes room = filled (get_or bytes (at + 4) 0) (get_or bytes (at + 5) 0) (extent at bytes room)

-- flash and SRAM
abbrev pub flash_in : List ℕ → ℕ → List ℕ
flash_in = memory_in 41

abbrev pub sram_in : List ℕ → ℕ → List ℕ
sram_in = memory_in 47

-- user system data: its byte 0, if it has one, and its bytes 8 to 11, as far as it has them, are said one by one
abbrev pub usd_in : List ℕ → ℕ → List ℕ
usd_in bytes room = put (put (memory_in 53 bytes room) 0 (part 59 1 bytes)) 8 (part 60 4 bytes)

-- the reply buffer: all its bytes have one value
abbrev pub buffer_in : List ℕ → ℕ → List ℕ
buffer_in bytes room = filled (get_or bytes 68 0) 0 (extent 64 bytes room)

-- the staged bytes: the first 16 are said one by one, the others follow seed and stride
abbrev pub staged_in : List ℕ → List ℕ
staged_in bytes = put (filled (get_or bytes 23 0) (get_or bytes 24 0) staged_bytes) 0 (part 25 16 bytes)

-- the session: its numbers as it is lent, and the staged bytes
abbrev pub session_said : List ℕ → Session
session_said bytes = session_in (take staged_place bytes ++ staged_in bytes)

-- the letter of a vector whose call takes a byte
abbrev pub letter_b : ℕ
letter_b = 0x42

-- what the call of a vector takes, by its letter: a UART byte, or of the frame's bytes the first so many
abbrev pub Takes : ℕ → List ℕ → Input → Type 0
Takes letter bytes (Byte b) = (letter ≡ letter_b) × (b ≡ get_or bytes 69 0)
Takes letter bytes (Frame f) = (letter ≢ letter_b) × (f.now ≡ take (min (get_or bytes 70 0) 12) (drop 71 bytes))

-- how many characters write a vector's bytes, and its line with the LF: 249 and 251
abbrev pub written_characters : ℕ
written_characters = vector_bytes * field_characters

abbrev pub line_characters : ℕ
line_characters = 1 + written_characters + 1

-- a line that was read, after which the later bytes are left, writes a vector: its letter, then its bytes in hex
abbrev pub Written : Option (List ℕ) → Option (List ℕ) → ℕ → List ℕ → Type 0
Written before later letter bytes =
    (line : List ℕ) × Consumes before later line × (length line ≡ line_characters) × (letter ≡ get_or line 0 0)
    × T (are_fields (part 1 written_characters line)) × (bytes ≡ fields (part 1 written_characters line))
