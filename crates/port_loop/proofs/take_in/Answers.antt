-- What was heard left the memories their lengths.
use Rattle.port_loop.proofs.Lengths.{heard_proper}
use Rattle.port_loop.proofs.take_in.Goals as goal

pub returns-clause-lengths : goal.returns-clause-lengths
returns-clause-lengths c = heard_proper c.hear.ensures.heard c.requires.lengths
