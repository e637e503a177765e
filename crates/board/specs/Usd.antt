-- What user system data says: document 01, "The board on the desk".
use Rattle.std.specs.Prelude.{ℕ, ◌+◌, ◌/◌, ◌%◌, Bool, not, List, get_or, eqb}
use Rattle.words.specs.Bytes.{byte_bits}
use Rattle.words.specs.Over.{within}
use Rattle.board.specs.Board.{layout, sectors}
use Rattle.board.specs.declared.Sector.{Sector}

-- byte 0 is 0xA5 for protection off; every other value means on
abbrev pub protection_on : List ℕ → Bool
protection_on u = not (eqb (get_or u layout.protection 0) layout.protection_off)

-- sector k is bit k mod 8 of byte 8 + k/8, which is byte k/8 of those that hold the sectors' bits
abbrev pub bit_index : Sector → ℕ
bit_index k = k.0 / byte_bits

abbrev pub bit_byte : Sector → ℕ
bit_byte k = layout.sector_bits + bit_index k

abbrev pub bit_place : Sector → ℕ
bit_place k = k.0 % byte_bits

-- how many bytes hold the sectors' bits
abbrev pub bit_bytes : ℕ
bit_bytes = sectors.count / byte_bits

-- a byte holds no sector's bit
abbrev pub beside_bits : ℕ → Bool
beside_bits i = not (within layout.sector_bits bit_bytes i)
