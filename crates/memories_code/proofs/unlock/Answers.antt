-- Everything is filled where protection is on, and nothing is touched where it is off.
use mathlib.Core.Path.{◌≡◌, sym, ap, ◌∙◌}
use mathlib.Core.Bool.{Bool, true, false}
use mathlib.Core.List.{List, []}
use Prim.Native.Nat.{ℕ}
use lib.Dec.{T}
use lib.ListN.{length, replicate, set}
use Rattle.board.specs.declared.Region.TheVariants.{Flash, Sram}
use Rattle.board.specs.Usd.{protection_on}
use Rattle.memories.specs.Lent.{holds}
use Rattle.memories.specs.Memories.{Memories, memories, proper}
use Rattle.memories.specs.Effects.{erased_all, wiped, effect}
use Rattle.memories.specs.declared.Change.TheVariants.{Unlock}
use Rattle.memories.proofs.Memories.{proper_length}
use Rattle.memories_code.proofs.unlock.Goals as goal

-- what is filled is what a board with protection on becomes
wipes : (m : Memories) {flash sram : List ℕ} → T (proper m) → protection_on m.usd ≡ true
    → flash ≡ replicate (length m.flash) 0xFF → sram ≡ replicate (length m.sram) 0
    → memories flash sram (set m.usd 0 0xA5) ≡ effect Unlock [] m
unfolding effect wiped erased_all
wipes m t on f s = rw (on, f, s, proper_length m t Flash, proper_length m t Sram)

-- and a board with protection off stays as it is
stays : (m : Memories) → protection_on m.usd ≡ false → m ≡ effect Unlock [] m
unfolding effect
stays m off = rw off

pub returns-then-on-clause-left : goal.returns-then-on-clause-left
returns-then-on-clause-left c =
    wipes (holds c.args.lent.now) c.requires (sym c.protection_on-on.ensures ∙ c.if-on.true) c.fill_all.ensures c.fill_all-then-on.ensures

pub returns-else-on-clause-left : goal.returns-else-on-clause-left
returns-else-on-clause-left c = stays (holds c.args.lent.now) (sym c.protection_on-on.ensures ∙ c.if-on.false)
