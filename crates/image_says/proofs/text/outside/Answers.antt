-- What is said, and the advice behind it.
use Rattle.desk_print.proofs.Adding.{then, nothing}
use Rattle.image_says.proofs.text.outside.Goals as goal

pub returns-then-others-clause-added : goal.returns-then-others-clause-added
returns-then-others-clause-added c = rw c.if-others.true (then c.add-end.ensures (nothing _ _))

pub returns-clause-added : goal.returns-clause-added
returns-clause-added c = rw c.if-others.false (then c.add-end.ensures c.add.ensures)
