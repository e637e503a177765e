-- Each fact is computed.
use mathlib.Core.Path.{refl}
use Rattle.command.specs.Numbers.{Numbers}
use Rattle.command.proofs.held.numbers.Statement.{statement}
use Rattle.command.proofs.held.numbers.Tie as tie

numbered : Numbers
numbered = record {
  uart_list = refl;
  can_list = refl;
  uart_found = refl;
  can_found = refl;
  no_speed = refl;
  reasons = refl;
  version_told = refl;
  device_told = refl;
}

pub numbers_spec : {M : Type 1} → statement M
numbers_spec = tie.close (tie.spec (λ c. numbered))
