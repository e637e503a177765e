-- What was heard left the memories their lengths.
use Rattle.desk_loop.proofs.Lengths.{heard_proper}
use Rattle.desk_loop.proofs.take_in.Goals as goal

pub returns-clause-lengths : goal.returns-clause-lengths
returns-clause-lengths c = heard_proper _ _ c.hear.ensures.told c.requires.lengths
