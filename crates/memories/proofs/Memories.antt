-- Memories of their proper sizes have each region's length.
use mathlib.Core.Path.{◌≡◌}
use mathlib.Core.Bool.{Bool, ◌&&◌}
use lib.Dec.{T, eqb, eqb→eq}
use lib.ListN.{length}
use Rattle.words.proofs.Tests.{both_left, both_right}
use Rattle.board.specs.Board as B
use Rattle.board.specs.declared.Region.{Region}
use Rattle.board.specs.declared.Region.TheVariants.{Flash, Sram, Usd}
use Rattle.memories.specs.Memories.{Memories, bytes_of, proper}

pub proper_length : (m : Memories) → T (proper m) → (r : Region) → length (bytes_of r m) ≡ (B.extent_of r).bytes
proper_length m t r = eqb→eq (length (bytes_of r m)) (B.extent_of r).bytes (by_region r)
  where
    has : Region → Bool
    has r = eqb (length (bytes_of r m)) (B.extent_of r).bytes

    by_region : (r : Region) → T (has r)
    by_region Flash = both_left (has Flash) (has Sram) (both_left (has Flash && has Sram) (has Usd) t)
    by_region Sram = both_right (has Flash) (has Sram) (both_left (has Flash && has Sram) (has Usd) t)
    by_region Usd = both_right (has Flash && has Sram) (has Usd) t
