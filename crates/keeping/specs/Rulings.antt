-- How many bytes the memories are, and that what is taken down comes back.
use Rattle.std.specs.Prelude.{ℕ, ◌≡◌, List, T, length}
use Rattle.memories.specs.Memories.{Memories, proper}
use Rattle.keeping.specs.Kept.{memories_bytes, in_bytes, memories_in}

pub record ComesBack : Type 0 where
  pub bytes : memories_bytes ≡ 41024
  -- so many are those of memories that have their lengths
  pub long : (m : Memories) → T (proper m) → length (in_bytes m) ≡ memories_bytes
  -- these memories come back from their bytes
  pub memories : (m : Memories) → T (proper m) → memories_in (in_bytes m) ≡ m
  -- and so many bytes from the memories that they hold, which have their lengths
  pub room : (l : List ℕ) → length l ≡ memories_bytes → in_bytes (memories_in l) ≡ l
  pub lengths : (l : List ℕ) → length l ≡ memories_bytes → T (proper (memories_in l))
