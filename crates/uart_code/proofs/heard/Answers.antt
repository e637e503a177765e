-- More bytes are gathered; the last one ends the step.
use Rattle.std.proofs.Common.{rules}
use Rattle.command.specs.Decision.{if◌gives◌else◌}
use Rattle.uart_code.proofs.heard.Goals as goal

pub returns-then-more : goal.returns-then-more
unfolding if◌gives◌else◌
returns-then-more c = search rules

pub returns-else-more : goal.returns-else-more
unfolding if◌gives◌else◌
returns-else-more c = search rules
