-- Bytes and the numbers they write. Assumes nothing.
use Rattle.std.specs.Prelude.{ℕ, ◌+◌, ◌*◌, ◌-◌, ◌/◌, ◌%◌, ◌^◌, List, [], ◌∷◌, length}
use Rattle.std.specs.Int.Bits.{bit_xor}

-- the complement of a byte
abbrev pub complement : ℕ → ℕ
complement b = 255 - b

-- the XOR of a number and all the bytes of a list
abbrev pub xor_from : ℕ → List ℕ → ℕ
xor_from x [] = x
xor_from x (b ∷ bs) = xor_from (bit_xor x b) bs

-- the XOR of all the bytes of a list
abbrev pub xor_all : List ℕ → ℕ
xor_all bs = xor_from 0 bs

-- the number that bytes write, high byte first
abbrev pub number : List ℕ → ℕ
number [] = 0
number (b ∷ bs) = b * 256 ^ length bs + number bs

-- byte i of a number, byte 0 being the low one
abbrev pub byte_of : ℕ → ℕ → ℕ
byte_of n i = n / 256 ^ i % 256

-- a number's two low bytes, high first
abbrev pub two_bytes : ℕ → List ℕ
two_bytes n = byte_of n 1 ∷ byte_of n 0 ∷ []

-- a number's four bytes, high first
abbrev pub four_bytes : ℕ → List ℕ
four_bytes n = byte_of n 3 ∷ byte_of n 2 ∷ byte_of n 1 ∷ byte_of n 0 ∷ []

-- how many bits a byte has
abbrev pub byte_bits : ℕ
byte_bits = 8

-- bit j of a number
abbrev pub bit : ℕ → ℕ → ℕ
bit n j = n / 2 ^ j % 2
