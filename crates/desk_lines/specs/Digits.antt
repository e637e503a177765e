-- Characters that are capital hex digits, and the byte that two of them write. Assumes nothing.
use Rattle.std.specs.Prelude.{ℕ, ◌+◌, ◌*◌, Bool, ◌&&◌, ◌||◌, leb}
use Rattle.words.specs.Hex.{value_of}

-- a capital hex digit: 0 to 9, A to F
abbrev pub is_digit : ℕ → Bool
is_digit c = (leb 48 c && leb c 57) || (leb 65 c && leb c 70)

-- the byte that two hex digits write
abbrev pub byte_in : ℕ → ℕ → ℕ
byte_in high low = value_of high * 16 + value_of low
