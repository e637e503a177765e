-- The test is the rule's.
use Rattle.command.specs.Decision.{if◌gives◌else◌}
use Rattle.rules.specs.Rules.{unless_protected}
use Rattle.rules_code.proofs.protected.unless_protected.Goals as goal

pub returns-then-forbidden : goal.returns-then-forbidden
unfolding unless_protected if◌gives◌else◌
returns-then-forbidden c = rw (← c.is_protected.ensures, c.if-forbidden.true) c.nack.ensures

pub returns-else-forbidden : goal.returns-else-forbidden
unfolding unless_protected if◌gives◌else◌
returns-else-forbidden c = rw (← c.is_protected.ensures, c.if-forbidden.false)
