-- Write protection and access protection, as changes of user system data: document 01, 0x63, 0x73, 0x82 and 0x92.
use Rattle.std.specs.Prelude.{ℕ, ◌^◌, List, [], ◌∷◌, get_or, set, replicate}
use Rattle.std.specs.Int.Bits.{bit_and}
use Rattle.words.specs.Bytes.{complement}
use Rattle.words.specs.Over.{put}
use Rattle.board.specs.Board.{layout}
use Rattle.board.specs.Usd.{bit_byte, bit_place, bit_bytes}
use Rattle.board.specs.declared.Sector.{Sector}

-- bytes 8 to 11 become 0xFF: no sector is write-protected
unfoldable pub released : List ℕ → List ℕ
released u = put u layout.sector_bits (replicate bit_bytes 0xFF)

-- a sector's bit becomes 0: it is write-protected too
unfoldable pub also_protected : List ℕ → Sector → List ℕ
also_protected u k = set u (bit_byte k) (bit_and (get_or u (bit_byte k) 0) (complement (2 ^ bit_place k)))

-- the same for each of some sectors
abbrev pub all_protected : List ℕ → List Sector → List ℕ
all_protected u [] = u
all_protected u (k ∷ ks) = all_protected (also_protected u k) ks

-- the named sectors become the only protected ones; earlier ones are released
unfoldable pub only_protected : List ℕ → List Sector → List ℕ
only_protected u ks = all_protected (released u) ks

-- byte 0 becomes 0: protection is on
abbrev pub locked : List ℕ → List ℕ
locked u = set u layout.protection 0

-- byte 0 becomes 0xA5: protection is off
abbrev pub unlocked : List ℕ → List ℕ
unlocked u = set u layout.protection layout.protection_off
