-- The board was just powered.
use Rattle.port_loop.proofs.Reading.{left_by}
use Rattle.port_loop.proofs.sit.Goals as goal

pub returns-clause-left : goal.returns-clause-left
returns-clause-left g c = left_by _ _ c.power_on-session.ensures.session c.read_on-told.ensures.heard
