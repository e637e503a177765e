-- Bytes as the paper prints them. Assumes nothing.
use Rattle.std.specs.Prelude.{ℕ, zero, suc, ◌+◌, ◌*◌, ◌-◌, true, false, List, [], ◌∷◌, leb, ltb}
use Prim.Native.Char.{Char, code}
use Prim.Native.String.{String, len, char_at}
use Rattle.std.specs.Prelude.{if◌then◌else◌}

-- the character between bytes
abbrev pub space : ℕ
space = 0x20

-- how many characters a byte takes, with the space before it
abbrev pub field_characters : ℕ
field_characters = 3

-- the value of a capital hex digit
abbrev pub value_of : ℕ → ℕ
value_of c = if leb c 57 then c - 48 else c - 55

abbrev pub digit : Char → ℕ
digit c = value_of (code c)

-- the bytes of a text from place i on, at most f of them
abbrev pub hex_up_to : ℕ → String → ℕ → List ℕ
hex_up_to zero t i = []
hex_up_to (suc f) t i =
    elim (ltb (i + 1) (len t)) [ true ↦ (digit (char_at t i) * 16 + digit (char_at t (i + 1))) ∷ hex_up_to f t (i + 3) | false ↦ [] ]

-- the bytes that a text gives in hex, one space apart
abbrev pub hex : String → List ℕ
hex t = hex_up_to (len t) t 0
