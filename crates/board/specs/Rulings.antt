-- Document 01, "The board on the desk", in its own numbers: the regions, the sectors, and what user system data says.
use Rattle.std.specs.Prelude.{ℕ, ◌+◌, ◌/◌, ◌%◌, ◌<◌, ◌≡◌, true, false, not, List, [], ◌∷◌, map, get_or, eqb, None}
use Rattle.words.specs.Bytes.{bit}
use Rattle.words.specs.Lists.{count_from}
use Rattle.board.specs.Board.{address}
use Rattle.board.specs.Quantities.{sector, start_of, is_sector}
use Rattle.board.specs.Regions.{inside, place_of}
use Rattle.board.specs.View.{view_of, write_protected}
use Rattle.board.specs.declared.Region.TheVariants.{Flash, Sram, Usd}
use Rattle.board.specs.declared.Sector.{Sector}

-- where bytes lie, and which sectors there are
pub record Rulings : Type 0 where
  -- flash, SRAM and user system data, each whole
  pub flash : place_of (address 0x08000000) 32768 ≡ inside Flash 0
  pub sram : place_of (address 0x20000000) 8192 ≡ inside Sram 0
  pub usd : place_of (address 0x1FFFF800) 64 ≡ inside Usd 0
  -- one byte more is in no region
  pub flash_ends : place_of (address 0x08000000) 32769 ≡ None
  pub sram_ends : place_of (address 0x20000000) 8193 ≡ None
  pub usd_ends : place_of (address 0x1FFFF800) 65 ≡ None
  -- and neither is the byte before
  pub before_flash : place_of (address 0x07FFFFFF) 1 ≡ None
  pub before_sram : place_of (address 0x1FFFFFFF) 1 ≡ None
  pub before_usd : place_of (address 0x1FFFF7FF) 1 ≡ None
  -- 32 sectors, numbered from 0
  pub sectors : map is_sector (sector 31 ∷ sector 32 ∷ []) ≡ true ∷ false ∷ []
  -- of 1,024 bytes
  pub starts : start_of (sector 1) ≡ 1024
  -- a view holds whether protection is on, and bytes 8 to 11
  pub view : view_of (count_from 0 64) ≡ record { locked = true; bits = 8 ∷ 9 ∷ 10 ∷ 11 ∷ [] }

-- what a view tells of any user system data
pub record ByItsBits : Type 0 where
  -- byte 0 is 0xA5 for protection off; every other value means on
  pub locked : (u : List ℕ) → (view_of u).locked ≡ not (eqb (get_or u 0 0) 0xA5)
  -- sector k is bit k mod 8 of byte 8 + k/8, and 0 means write-protected
  pub sector : (u : List ℕ) (k : Sector) → k.0 < 32 → write_protected (view_of u) k ≡ eqb (bit (get_or u (8 + k.0 / 8) 0) (k.0 % 8)) 0
