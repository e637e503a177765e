-- Write, byte by byte: what is laid over a region.
use mathlib.Core.Path.{◌≡◌}
use mathlib.Core.List.{List}
use Prim.Native.Nat.{ℕ, ◌-◌, ◌<◌}
use lib.ListN.{length, get_or}
use lib.Bits.{bit_and}
use Rattle.std.specs.Prelude.{if◌then◌else◌}
use Rattle.words.specs.Over.{newer, within}
use Rattle.words.proofs.Over.{over_at}
use Rattle.board.specs.declared.Region.{Region}
use Rattle.board.specs.declared.Region.TheVariants.{Flash, Sram, Usd}
use Rattle.memories.specs.Memories.{Memories, bytes_of}
use Rattle.memories.specs.Effects.{written}
use Rattle.memories.specs.Meaning.{joined}

-- each byte of the region that is written
pub written_at : (r : Region) (at : ℕ) (new : List ℕ) (m : Memories) (i : ℕ) → i < length (bytes_of r m)
    → get_or (bytes_of r (written r at new m)) i 0
    ≡ (if within at (length new) i then joined r (get_or (bytes_of r m) i 0) (get_or new (i - at) 0) else get_or (bytes_of r m) i 0)
unfolding written
written_at Flash at new m i h = over_at bit_and m.flash at new i h
written_at Sram at new m i h = over_at newer m.sram at new i h
written_at Usd at new m i h = over_at newer m.usd at new i h
