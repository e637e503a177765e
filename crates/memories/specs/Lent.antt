-- The three memories as a contract sees them: before a call, and as the call begins and returns.
use Rattle.std.specs.Prelude.{ℕ, ◌≡◌, List}
use Rattle.std.specs.Borrow.{MutBor}
use denote.Triple.Both.{Both}
use Rattle.memories.specs.Memories.{Memories, memories}
use Rattle.memories.specs.declared.Lent.{Lent}
use Rattle.memories.specs.declared.Shown.{Shown}

-- a slice that is lent to be changed, and the same at both ends of a call
abbrev pub Slice : Type 0
Slice = MutBor (List ℕ)

abbrev pub Ends : Type 0
Ends = Both Slice Slice

-- what three lent slices hold
abbrev pub held : Slice → Slice → Slice → Memories
held flash sram usd = memories flash.now sram.now usd.now

-- what they held as the call began
abbrev pub were : Ends → Ends → Ends → Memories
were flash sram usd = held flash.entry sram.entry usd.entry

-- what they hold as it returns
abbrev pub are : Ends → Ends → Ends → Memories
are flash sram usd = held flash.exit sram.exit usd.exit

-- ---- the three together

-- what they hold
abbrev pub holds : Lent → Memories
holds m = held m.flash m.sram m.usd

-- what they hold where they are only to be read
abbrev pub shows : Shown → Memories
shows m = memories m.flash.now m.sram.now m.usd.now

-- what is lent together to be changed, at both ends of a call
abbrev pub LentEnds : Type 0
LentEnds = Both (MutBor Lent) (MutBor Lent)

-- what it held as the call began
abbrev pub had : LentEnds → Memories
had lent = holds lent.entry.now

-- what it holds as the call returns
abbrev pub has : LentEnds → Memories
has lent = holds lent.exit.now

-- the same three slices are lent still
pub record StillLent (before after : Lent) : Type 0 where
  pub flash : after.flash.ghost_name ≡ before.flash.ghost_name
  pub sram : after.sram.ghost_name ≡ before.sram.ghost_name
  pub usd : after.usd.ghost_name ≡ before.usd.ghost_name

-- so they are as a call returns
abbrev pub Same : LentEnds → Type 0
Same lent = StillLent lent.entry.now lent.exit.now
