-- What the board may look at when it decides, as one value.
use Rattle.std.specs.Prelude.{ℕ, Bool, List, get_or, eqb}
use Rattle.words.specs.Bytes.{bit}
use Rattle.words.specs.Lists.{part}
use Rattle.board.specs.Board.{layout}
use Rattle.board.specs.Usd.{protection_on, bit_index, bit_place, bit_bytes}
use Rattle.board.specs.declared.Sector.{Sector}
use Rattle.board.specs.declared.View.{View}

-- of user system data: whether protection is on, and the bytes that hold the sectors' bits
unfoldable pub view_of : List ℕ → View
view_of u = record { locked = protection_on u; bits = part layout.sector_bits bit_bytes u }

-- a sector's bit: 0 means write-protected
unfoldable pub write_protected : View → Sector → Bool
write_protected v k = eqb (bit (get_or v.bits (bit_index k) 0) (bit_place k)) 0
