-- By the DLC of a command that is known.
use Rattle.command.specs.Decision.{if◌gives◌else◌}
use Rattle.can.specs.Conversation.{commanded}
use Rattle.can_code.proofs.obey.commanded.Goals as goal

pub returns-then-not-right : goal.returns-then-not-right
unfolding commanded if◌gives◌else◌
returns-then-not-right c = rw (c.in-Some.is, ← c.dlc_fits-right.ensures, c.if-not-right.true) c.nack-then-not-right.ensures

pub returns : goal.returns
unfolding commanded if◌gives◌else◌
returns c =
    rw (c.in-Some.is, ← c.dlc_fits-right.ensures, c.if-not-right.false, ← c.obeyed.ensures) c.unless_protected.ensures
