use Rattle.board.specs.declared.Region.TheVariants.{Flash}
use Rattle.memories.specs.Lent.{holds}
use Rattle.memories.specs.Effects.{erased_all, effect}
use Rattle.memories.proofs.Memories.{proper_length}
use Rattle.memories_code.proofs.carry_out.Goals as goal

pub returns-in-Nothing-clause-left : goal.returns-in-Nothing-clause-left
unfolding effect
returns-in-Nothing-clause-left c = rw c.in-Nothing.is

pub returns-in-Write-clause-left : goal.returns-in-Write-clause-left
unfolding effect
returns-in-Write-clause-left c = rw c.in-Write.is c.write.ensures.left

pub returns-in-EraseAll-clause-left : goal.returns-in-EraseAll-clause-left
unfolding effect erased_all
returns-in-EraseAll-clause-left c =
    rw (c.in-EraseAll.is, c.fill_all.ensures, proper_length (holds c.args.lent.now) c.requires.0 Flash)

pub returns-in-EraseSectors-clause-left : goal.returns-in-EraseSectors-clause-left
unfolding effect
returns-in-EraseSectors-clause-left c = rw (c.in-EraseSectors.is, c.erase_sectors.ensures)

pub returns-in-ProtectOnly-clause-left : goal.returns-in-ProtectOnly-clause-left
unfolding effect
returns-in-ProtectOnly-clause-left c = rw (c.in-ProtectOnly.is, c.protect_only.ensures)

pub returns-in-Release-clause-left : goal.returns-in-Release-clause-left
unfolding effect
returns-in-Release-clause-left c = rw (c.in-Release.is, c.release.ensures)

pub returns-in-Lock-clause-left : goal.returns-in-Lock-clause-left
unfolding effect
returns-in-Lock-clause-left c = rw (c.in-Lock.is, c.lock.ensures)

pub returns-in-Unlock-clause-left : goal.returns-in-Unlock-clause-left
unfolding effect
returns-in-Unlock-clause-left c = rw c.in-Unlock.is c.unlock.ensures.left
