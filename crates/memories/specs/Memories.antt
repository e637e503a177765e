-- The three memories that a call is lent.
use Rattle.std.specs.Prelude.{ℕ, Bool, ◌&&◌, List, length, set, replicate, eqb}
use Rattle.board.specs.Board as B
use Rattle.board.specs.declared.Region.{Region}
use Rattle.board.specs.declared.Region.TheVariants.{Flash, Sram, Usd}

-- flash, SRAM and user system data, byte by byte
pub record Memories : Type 0 where
  pub flash : List ℕ
  pub sram : List ℕ
  pub usd : List ℕ

-- three lent memories
abbrev pub memories : List ℕ → List ℕ → List ℕ → Memories
memories flash sram usd = record { flash = flash; sram = sram; usd = usd }

-- the bytes of a region
abbrev pub bytes_of : Region → Memories → List ℕ
bytes_of Flash m = m.flash
bytes_of Sram m = m.sram
bytes_of Usd m = m.usd

-- the memories with other bytes in a region
abbrev pub with_bytes : Region → List ℕ → Memories → Memories
with_bytes Flash l m = record { flash = l; sram = m.sram; usd = m.usd }
with_bytes Sram l m = record { flash = m.flash; sram = l; usd = m.usd }
with_bytes Usd l m = record { flash = m.flash; sram = m.sram; usd = l }

-- flash, SRAM and user system data of these lengths have those that the board gives them
abbrev pub lengths_right : ℕ → ℕ → ℕ → Bool
lengths_right flash sram usd = eqb flash (B.flash).bytes && eqb sram (B.sram).bytes && eqb usd (B.usd).bytes

-- the memories have their lengths
abbrev pub proper : Memories → Bool
proper m = lengths_right (length m.flash) (length m.sram) (length m.usd)

-- an erased byte of flash
abbrev pub erased_byte : ℕ
erased_byte = 0xFF

-- the fresh board: USD A5 then all FF, flash FF, SRAM 00
abbrev pub fresh_usd : List ℕ
fresh_usd = set (replicate (B.usd).bytes erased_byte) (B.layout).protection (B.layout).protection_off

abbrev pub fresh_memories : Memories
fresh_memories = record {
  flash = replicate (B.flash).bytes erased_byte;
  sram = replicate (B.sram).bytes 0;
  usd = fresh_usd;
}
