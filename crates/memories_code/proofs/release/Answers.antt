use Rattle.memories.specs.Protection.{released}
use Rattle.memories_code.proofs.release.Goals as goal

pub returns : goal.returns
unfolding released
returns c = c.fill.ensures
