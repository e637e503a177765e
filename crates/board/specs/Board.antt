-- The numbers of the board, each once: document 01, "The board on the desk".
use Rattle.std.specs.Prelude.{ℕ, ◌*◌}
use Rattle.board.specs.declared.Address.{Address}
use Rattle.board.specs.declared.Extent.{Extent}
use Rattle.board.specs.declared.Identity.{Identity}
use Rattle.board.specs.declared.Layout.{Layout}
use Rattle.board.specs.declared.Sectors.{Sectors}
use Rattle.board.specs.declared.Region.{Region}
use Rattle.board.specs.declared.Region.TheVariants.{Flash, Sram, Usd}

-- the byte address that is this number
abbrev pub address : ℕ → Address
address n = record { 0 = n }

-- the flash's sectors: how many, and the bytes of each
abbrev pub sectors : Sectors
sectors = record { count = 32; bytes = 1024 }

-- flash, SRAM and user system data: first address and bytes
abbrev pub flash : Extent
flash = record { first = address 0x08000000; bytes = sectors.count * sectors.bytes }

abbrev pub sram : Extent
sram = record { first = address 0x20000000; bytes = 8192 }

abbrev pub usd : Extent
usd = record { first = address 0x1FFFF800; bytes = 64 }

-- the extent of each region
abbrev pub extent_of : Region → Extent
extent_of Flash = flash
extent_of Sram = sram
extent_of Usd = usd

-- which byte of user system data is the protection, its value for protection off, and the first byte of the sectors' bits
abbrev pub layout : Layout
layout = record {
  protection = 0;
  protection_off = 0xA5;
  sector_bits = 8;
}

-- protocol version, BID bytes, product ID and project ID
abbrev pub identity : Identity
identity = record {
  version = 0x20;
  bid_first = 0x01;
  bid_second = 0x07;
  product = 0x12345678;
  project = 0x5A;
}
