-- The number stands between `? ` and LF.
use mathlib.Core.Path.{refl}
use Rattle.desk_print.proofs.Adding.{then}
use Rattle.desk_answers_code.proofs.Explaining.{numbered}
use Rattle.desk_answers_code.proofs.disobey.Goals as goal

pub returns-clause-text : goal.returns-clause-text
returns-clause-text c = (then (then c.add-begun.ensures (numbered {k = c.args.number} refl c.number-end.ensures)) c.add.ensures).written
