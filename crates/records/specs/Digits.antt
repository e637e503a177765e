-- Hex digits in either case, and the bytes that pairs of them write. Assumes nothing.
use Rattle.std.specs.Prelude.{ℕ, ◌+◌, ◌*◌, ◌-◌, Bool, true, false, ◌&&◌, ◌||◌, List, [], ◌∷◌, leb}
use Rattle.std.specs.Prelude.{if◌then◌else◌}

-- a hex digit: 0 to 9, A to F, a to f
abbrev pub is_digit : ℕ → Bool
is_digit c = (leb 48 c && leb c 57) || (leb 65 c && leb c 70) || (leb 97 c && leb c 102)

-- its value
abbrev pub value_of : ℕ → ℕ
value_of c = if leb c 57 then c - 48 else if leb c 70 then c - 55 else c - 87

-- characters are pairs of hex digits
abbrev pub are_pairs : List ℕ → Bool
are_pairs [] = true
are_pairs (high ∷ []) = false
are_pairs (high ∷ low ∷ rest) = is_digit high && is_digit low && are_pairs rest

-- the bytes that pairs write
abbrev pub bytes_in : List ℕ → List ℕ
bytes_in [] = []
bytes_in (high ∷ []) = []
bytes_in (high ∷ low ∷ rest) = (value_of high * 16 + value_of low) ∷ bytes_in rest
