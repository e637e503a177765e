-- CRC-32/MPEG-2, high bit first, no reflection, no final XOR: document 01, "CRC".
use Rattle.std.specs.Prelude.{ℕ, zero, suc, ◌*◌, ◌%◌, ◌^◌, ◌≡◌, List, [], ◌∷◌, leb}
use Rattle.std.specs.Int.Bits.{bit_xor}
use Rattle.std.specs.Prelude.{if◌then◌else◌}
use Rattle.words.specs.Hex.{hex}

-- the polynomial, and the register at the start
abbrev pub polynomial : ℕ
polynomial = 0x04C11DB7

abbrev pub start : ℕ
start = 0xFFFFFFFF

-- the register moves up by one bit, and takes the polynomial in where its high bit falls out
unfoldable pub shifted : ℕ → ℕ
shifted c = if leb (2 ^ 31) c then bit_xor (c * 2 % 2 ^ 32) polynomial else c * 2 % 2 ^ 32

-- n such moves
abbrev pub shifted_by : ℕ → ℕ → ℕ
shifted_by zero c = c
shifted_by (suc n) c = shifted_by n (shifted c)

-- a byte is joined to the register's high end by XOR, and the register moves up by its eight bits
unfoldable pub fed : ℕ → ℕ → ℕ
fed c b = shifted_by 8 (bit_xor c (b * 2 ^ 24))

-- bytes in their order, from a register on
abbrev pub crc_from : ℕ → List ℕ → ℕ
crc_from c [] = c
crc_from c (b ∷ bs) = crc_from (fed c b) bs

-- the checksum of a list of bytes
abbrev pub crc : List ℕ → ℕ
crc bs = crc_from start bs

-- the public check value, over ASCII "123456789"
abbrev pub CheckValue : Type 0
CheckValue = crc (hex "31 32 33 34 35 36 37 38 39") ≡ 0x0376E6E7
