-- The digits, a space, the name and an s stand one behind the other.
use borrow.Author.Tests.{eq-eqb, ne_eqb}
use Rattle.desk_print.proofs.Adding.{then, nothing}
use Rattle.image_says.proofs.text.counted.Goals as goal

pub returns-then-one-clause-added : goal.returns-then-one-clause-added
returns-then-one-clause-added c =
    rw (eq-eqb c.args.n 1 c.if-one.true) (then (then
    (then record { ends = c.number-digits.ensures.0; written = c.number-digits.ensures.2 } c.add-blank.ensures)
    c.add-end.ensures) (nothing _ _))

pub returns-clause-added : goal.returns-clause-added
returns-clause-added c =
    rw (ne_eqb c.args.n 1 c.if-one.false) (then (then
    (then record { ends = c.number-digits.ensures.0; written = c.number-digits.ensures.2 } c.add-blank.ensures)
    c.add-end.ensures) c.add.ensures)
