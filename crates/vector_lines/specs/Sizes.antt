-- How much of each thing there is: docs/VECTORS.md. Assumes nothing.
use Rattle.std.specs.Prelude.{ℕ, ◌+◌, ◌*◌}
use Rattle.numbers.specs.Numbers.{short_bytes, long_bytes}
use Rattle.session_bytes.specs.Sessions.{staged_place}

-- the bytes of a vector
abbrev pub vector_bytes : ℕ
vector_bytes = 83

-- the bytes of an answer that say the numbers of a call: its cause and its reason in one byte each, the place in two, the length of the reply
abbrev pub call_bytes : ℕ
call_bytes = 1 + 1 + 2 + long_bytes

-- the bytes of an answer that say the next session: those that are lent before its staged bytes, and a digest of these
abbrev pub session_bytes : ℕ
session_bytes = staged_place + short_bytes

-- the bytes of an answer that say what was lent: four short numbers
abbrev pub lent_bytes : ℕ
lent_bytes = 4 * short_bytes

-- the room for a reply, and for the line of an answer: a buffer of `io` and a large one
abbrev pub reply_room : ℕ
reply_room = 4096

abbrev pub line_room : ℕ
line_room = 65536
