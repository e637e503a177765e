-- What is expected is computed for any number, and a count comes back from its double.
use mathlib.Core.Path.{refl}
use native.Mathlib.Omega.{arith}
use Rattle.can.specs.Rulings.{StepRulings}
use Rattle.can.proofs.Steps.{in_order, read_back}
use Rattle.can.proofs.held.steps.Statement.{statement}
use Rattle.can.proofs.held.steps.Tie as tie

ruled : StepRulings
ruled = record { in_order = in_order; read_back = read_back; expected = λ e. refl; numbers_back = λ x. omega arith }

pub steps_spec : {M : Type 1} → statement M
steps_spec = tie.close (tie.spec (λ c. ruled))
