-- What each change does to the memories: document 01, "Effects shared by both carriers".
use Rattle.std.specs.Prelude.{ℕ, ◌+◌, Bool, true, ◌&&◌, List, [], ◌∷◌, take, replicate, leb}
use Rattle.std.specs.Int.Bits.{bit_and}
use Rattle.std.specs.Prelude.{if◌then◌else◌}
use Rattle.words.specs.Lists.{all}
use Rattle.words.specs.Over.{over, put}
use Rattle.board.specs.Board as B
use Rattle.board.specs.Quantities.{largest_count, start_of, is_sector, first_indexed, first_numbered}
use Rattle.board.specs.Usd.{protection_on}
use Rattle.board.specs.declared.Region.{Region}
use Rattle.board.specs.declared.Region.TheVariants.{Flash, Sram, Usd}
use Rattle.board.specs.declared.Sector.{Sector}
use Rattle.memories.specs.Memories.{Memories, with_bytes, erased_byte}
use Rattle.memories.specs.Protection.{released, only_protected, locked, unlocked}
use Rattle.memories.specs.declared.Change.{Change}
use Rattle.memories.specs.declared.Change.TheVariants.{Nothing, Write, EraseAll, EraseSectors, ProtectOnly, Release, Lock, Unlock}

-- how many staged bytes there are
abbrev pub staged_bytes : ℕ
staged_bytes = 257

-- every staged byte is 0
abbrev pub no_bytes : List ℕ
no_bytes = replicate staged_bytes 0

-- Write: a flash byte becomes old AND new, SRAM is stored, user system data is replaced
unfoldable pub written : Region → ℕ → List ℕ → Memories → Memories
written Flash at new m = with_bytes Flash (over bit_and m.flash at new) m
written Sram at new m = with_bytes Sram (put m.sram at new) m
written Usd at new m = with_bytes Usd (put m.usd at new) m

-- the bytes of an erased sector
unfoldable pub blank : List ℕ
blank = replicate (B.sectors).bytes erased_byte

-- Erase: named sectors become 0xFF
abbrev pub erased : List ℕ → List Sector → List ℕ
erased f [] = f
erased f (k ∷ ks) = erased (put f (start_of k) blank) ks

-- all flash becomes 0xFF
unfoldable pub erased_all : Memories → Memories
erased_all m = with_bytes Flash (replicate (B.flash).bytes erased_byte) m

-- flash becomes 0xFF, SRAM 0 and USD byte 0 0xA5
unfoldable pub wiped : Memories → Memories
wiped m = record {
  flash = (erased_all m).flash;
  sram = replicate (B.sram).bytes 0;
  usd = unlocked m.usd;
}

-- the memories after a change, of which the staged bytes tell the rest; 0x92 wipes only where protection is on
unfoldable pub effect : Change → List ℕ → Memories → Memories
effect Nothing staged m = m
effect (Write r at x) staged m = written r at (take x staged) m
effect EraseAll staged m = erased_all m
effect (EraseSectors x) staged m = with_bytes Flash (erased m.flash (first_numbered x staged)) m
effect (ProtectOnly x) staged m = with_bytes Usd (only_protected m.usd (first_indexed x staged)) m
effect Release staged m = with_bytes Usd (released m.usd) m
effect Lock staged m = with_bytes Usd (locked m.usd) m
effect Unlock staged m = if protection_on m.usd then wiped m else m

-- a change can be carried out: its bytes are in their region, and its sectors are some of the board's
abbrev pub fits : Change → List ℕ → Bool
fits Nothing staged = true
fits (Write r at x) staged = leb x largest_count && leb (at + x) (B.extent_of r).bytes
fits EraseAll staged = true
fits (EraseSectors x) staged = leb x (B.sectors).count && all is_sector (first_numbered x staged)
fits (ProtectOnly x) staged = leb x largest_count && all is_sector (first_indexed x staged)
fits Release staged = true
fits Lock staged = true
fits Unlock staged = true
