-- Each test is one of the definition's.
use Rattle.std.proofs.Common.{refl}
use Rattle.image_files.specs.Arguments.{number_in}
use Rattle.image_files.proofs.arguments.number.Goals as goal

pub returns-then-writes : goal.returns-then-writes
unfolding number_in
returns-then-writes c = rw (← c.are_decimal.ensures, c.if-writes.true, c.value.ensures) refl

pub returns-else-writes : goal.returns-else-writes
unfolding number_in
returns-else-writes c = rw (← c.are_decimal.ensures, c.if-writes.false) refl
