-- What is expected is computed for any number, and a count comes back from one more than it, or than its double.
use mathlib.Core.Path.{refl}
use native.Mathlib.Omega.{arith}
use Rattle.uart.specs.Rulings.{StepRulings}
use Rattle.uart.proofs.Steps.{in_order, read_back}
use Rattle.uart.proofs.held.steps.Statement.{statement}
use Rattle.uart.proofs.held.steps.Tie as tie

ruled : StepRulings
ruled = record {
  in_order = in_order;
  read_back = read_back;
  expected = λ e. refl;
  bytes_back = λ x. omega arith;
  numbers_back = λ x. omega arith;
}

pub steps_spec : {M : Type 1} → statement M
steps_spec = tie.close (tie.spec (λ c. ruled))
