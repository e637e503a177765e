-- The bytes and the sectors stand one behind the other.
use Rattle.desk_print.proofs.Adding.{then}
use Rattle.image_says.proofs.text.amount.Goals as goal

pub returns-clause-added : goal.returns-clause-added
returns-clause-added c = then (then c.counted-first.ensures.added c.add-second.ensures) c.counted.ensures.added
