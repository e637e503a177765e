-- The name, and a colon and the number behind it.
use Rattle.desk_print.proofs.Adding.{then}
use Rattle.image_says.proofs.text.name_line.Goals as goal

pub returns-in-Some-clause-added : goal.returns-in-Some-clause-added
returns-in-Some-clause-added c =
    rw c.in-Some.is (then c.add-end.ensures (then c.add-colon.ensures record { ends = c.number.ensures.0; written = c.number.ensures.2 }))
