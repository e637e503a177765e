-- Each step tests its reasons in their order, and its rules do.
use Rattle.uart.proofs.First.{first_reasons}
use Rattle.uart.proofs.held.first_reasons.Statement.{statement}
use Rattle.uart.proofs.held.first_reasons.Tie as tie

pub first_reasons_spec : {M : Type 1} → statement M
first_reasons_spec = tie.close (tie.spec (λ c. first_reasons))
