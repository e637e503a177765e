-- What each change means for every byte of every memory: document 01, "Effects shared by both carriers", in its own numbers.
use Rattle.std.specs.Prelude.{ℕ, ◌-◌, ◌<◌, ◌≡◌, Bool, true, false, not, List, length, get_or, T}
use Rattle.std.specs.Int.Bits.{bit_and}
use Rattle.std.specs.Prelude.{if◌then◌else◌}
use Rattle.words.specs.Over.{newer, within}
use Rattle.board.specs.Quantities.{is_sector, named, sector_at, first_indexed, first_numbered}
use Rattle.board.specs.Usd.{protection_on}
use Rattle.board.specs.View.{view_of, write_protected}
use Rattle.board.specs.declared.Region.{Region}
use Rattle.board.specs.declared.Region.TheVariants.{Flash, Sram, Usd}
use Rattle.board.specs.declared.Sector.{Sector}
use Rattle.memories.specs.Memories.{Memories, bytes_of, proper}
use Rattle.memories.specs.Effects.{staged_bytes, effect, fits}
use Rattle.memories.specs.declared.Change.TheVariants.{Nothing, Write, EraseAll, EraseSectors, ProtectOnly, Release, Lock, Unlock}

-- where a test holds, a byte of a memory becomes what a rule gives; every other byte stays, and so does their number
pub record Becomes (test : ℕ → Bool) (rule : ℕ → ℕ) (old new : List ℕ) : Type 0 where
  pub byte : (i : ℕ) → i < length old → get_or new i 0 ≡ (if test i then rule i else get_or old i 0)
  pub size : length new ≡ length old

-- the test that holds of every byte
abbrev pub everywhere : ℕ → Bool
everywhere i = true

-- how a region joins an old byte and a new one: flash by AND, SRAM and user system data store the new one
abbrev pub joined : Region → ℕ → ℕ → ℕ
joined Flash = bit_and
joined Sram = newer
joined Usd = newer

-- the regions beside one stay
pub record Beside (r : Region) (m n : Memories) : Type 0 where
  pub flash : (r ≡ Flash → ⊥) → n.flash ≡ m.flash
  pub sram : (r ≡ Sram → ⊥) → n.sram ≡ m.sram
  pub usd : (r ≡ Usd → ⊥) → n.usd ≡ m.usd

-- what a write leaves of memories
pub record Writes (r : Region) (at x : ℕ) (staged : List ℕ) (m n : Memories) : Type 0 where
  -- the x bytes from an offset on are joined with the staged ones, and no other byte of the region changes
  pub region : Becomes (within at x) (λ i. joined r (get_or (bytes_of r m) i 0) (get_or staged (i - at) 0)) (bytes_of r m) (bytes_of r n)
  -- the other two memories stay
  pub beside : Beside r m n

-- what an erase leaves
pub record Erases (test : ℕ → Bool) (m n : Memories) : Type 0 where
  -- bytes of flash become 0xFF where a test holds
  pub flash : Becomes test (λ i. 0xFF) m.flash n.flash
  -- the other two memories stay
  pub beside : Beside Flash m n

-- what 0x63 leaves
pub record ProtectsOnly (ks : List Sector) (m n : Memories) : Type 0 where
  -- the named sectors become the only protected ones
  pub exactly : (k : Sector) → T (is_sector k) → write_protected (view_of n.usd) k ≡ named ks k
  -- bytes 8 to 11, which hold nothing but the bits of the 32 sectors, stay bytes
  pub bytes : (i : ℕ) → T (within 8 4 i) → get_or n.usd i 0 < 256
  -- every other byte of user system data stays
  pub others : (i : ℕ) → i < length m.usd → T (not (within 8 4 i)) → get_or n.usd i 0 ≡ get_or m.usd i 0
  pub size : length n.usd ≡ length m.usd
  -- the other two memories stay
  pub beside : Beside Usd m n

-- what 0x73 leaves
pub record Releases (m n : Memories) : Type 0 where
  -- bytes 8 to 11 of user system data become 0xFF, and no other byte of it changes
  pub usd : Becomes (within 8 4) (λ i. 0xFF) m.usd n.usd
  -- so that no sector is protected
  pub none : (k : Sector) → T (is_sector k) → write_protected (view_of n.usd) k ≡ false
  -- the other two memories stay
  pub beside : Beside Usd m n

-- what 0x82 leaves
pub record Locks (m n : Memories) : Type 0 where
  -- byte 0 of user system data becomes 0, and no other byte of it changes
  pub usd : Becomes (within 0 1) (λ i. 0) m.usd n.usd
  -- the other two memories stay
  pub beside : Beside Usd m n

-- what 0x92 leaves where protection is on
pub record Wipes (m n : Memories) : Type 0 where
  -- all flash becomes 0xFF
  pub flash : Becomes everywhere (λ i. 0xFF) m.flash n.flash
  -- all SRAM 0
  pub sram : Becomes everywhere (λ i. 0) m.sram n.sram
  -- and byte 0 of user system data 0xA5, whose other bytes stay
  pub usd : Becomes (within 0 1) (λ i. 0xA5) m.usd n.usd

-- each change of memories, of which the staged bytes tell the rest
pub record Changes (staged : List ℕ) (m : Memories) : Type 0 where
  -- no change
  pub nothing : effect Nothing staged m ≡ m
  -- so many staged bytes, from an offset of a region on
  pub write : (r : Region) (at x : ℕ) → T (fits (Write r at x) staged) → Writes r at x staged m (effect (Write r at x) staged m)
  -- all flash
  pub erase_all : Erases everywhere m (effect EraseAll staged m)
  -- the sectors that two-byte numbers name
  pub erase_sectors : (x : ℕ) → Erases (λ i. named (first_numbered x staged) (sector_at i)) m (effect (EraseSectors x) staged m)
  -- the sectors that one-byte indexes name
  pub protect_only : (x : ℕ) → T (fits (ProtectOnly x) staged) → ProtectsOnly (first_indexed x staged) m (effect (ProtectOnly x) staged m)
  -- 0x73 and 0x82
  pub release : Releases m (effect Release staged m)
  pub lock : Locks m (effect Lock staged m)
  -- 0x92
  pub unlock : T (protection_on m.usd) → Wipes m (effect Unlock staged m)
  -- if protection is off, no memory changes
  pub unlocked : T (not (protection_on m.usd)) → effect Unlock staged m ≡ m

-- the same of all staged bytes and all memories of their lengths
abbrev pub Meaning : Type 0
Meaning = (staged : List ℕ) (m : Memories) → length staged ≡ staged_bytes → T (proper m) → Changes staged m
