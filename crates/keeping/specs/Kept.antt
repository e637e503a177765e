-- A board's memories as the bytes of a file: flash, SRAM and user system data, one behind the other.
use Rattle.std.specs.Prelude.{ℕ, ◌+◌, ◌≡◌, Bool, false, List, ◌++◌, T, ltb, length}
use Rattle.words.specs.Lists.{part}
use Rattle.board.specs.Board as B
use Rattle.memories.specs.Memories.{Memories, memories, fresh_memories}

-- where user system data begins, and how many bytes all are
abbrev pub usd_at : ℕ
usd_at = (B.flash).bytes + (B.sram).bytes

abbrev pub memories_bytes : ℕ
memories_bytes = usd_at + (B.usd).bytes

-- the bytes of memories
abbrev pub in_bytes : Memories → List ℕ
in_bytes m = m.flash ++ m.sram ++ m.usd

-- the memories that such bytes hold
abbrev pub memories_in : List ℕ → Memories
memories_in l =
    memories (part 0 (B.flash).bytes l) (part (B.flash).bytes (B.sram).bytes l) (part usd_at (B.usd).bytes l)

-- memories and a room for their bytes have their lengths
pub record Fits (m : Memories) (bytes : List ℕ) : Type 0 where
  pub flash : length m.flash ≡ (B.flash).bytes
  pub sram : length m.sram ≡ (B.sram).bytes
  pub usd : length m.usd ≡ (B.usd).bytes
  pub room : length bytes ≡ memories_bytes

-- a name of no character names no file
abbrev pub named : List ℕ → Bool
named name = ltb 0 (length name)

-- where a file is named, the room holds the memories
abbrev pub Kept : List ℕ → Memories → List ℕ → Type 0
Kept name m room = T (named name) → room ≡ in_bytes m

-- what a loop asks of the memories that it is lent, so that its promise speaks of a fresh board: they are the fresh ones where no file is named, and
-- else any, for what a file holds nothing says
abbrev pub Begins : List ℕ → Memories → Type 0
Begins name m = named name ≡ false → m ≡ fresh_memories
