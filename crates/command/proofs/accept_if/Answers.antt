-- By the test.
use Rattle.std.proofs.Common.{refl}
use Rattle.command.specs.Decision.{if◌gives◌else◌}
use Rattle.command.proofs.accept_if.Goals as goal

pub returns-then-good : goal.returns-then-good
unfolding if◌gives◌else◌
returns-then-good c = rw c.if-good.true refl

pub returns-else-good : goal.returns-else-good
unfolding if◌gives◌else◌
returns-else-good c = rw c.if-good.false c.nack.ensures
