-- By the test.
use Rattle.std.proofs.Common.{rules}
use Rattle.command.specs.Decision.{if◌gives◌else◌}
use Rattle.can.proofs.unless_extra.Goals as goal

pub returns-then-extra : goal.returns-then-extra
unfolding if◌gives◌else◌
returns-then-extra c = search rules

pub returns-else-extra : goal.returns-else-extra
unfolding if◌gives◌else◌
returns-else-extra c = search rules
