use Rattle.memories.specs.Effects.{blank}
use Rattle.memories_code.proofs.erase_sector.Goals as goal

pub returns : goal.returns
unfolding blank
returns c = rw (c.fill.ensures, c.start.ensures)
