-- By the two tests: another ID or no byte, and more to come.
use Rattle.std.proofs.Common.{rules}
use Rattle.command.specs.Decision.{if◌gives◌else◌}
use Rattle.can.proofs.gathering.Goals as goal

pub returns-then-other : goal.returns-then-other
unfolding if◌gives◌else◌
returns-then-other c = search rules

pub returns-then-more : goal.returns-then-more
unfolding if◌gives◌else◌
returns-then-more c = search rules

pub returns-else-more : goal.returns-else-more
unfolding if◌gives◌else◌
returns-else-more c = search rules
