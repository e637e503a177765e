-- Each byte leaves fewer to come.
use Rattle.theorems.proofs.Longest.{no_longer_command}
use Rattle.theorems.proofs.no_longer_command.Statement.{statement}
use Rattle.theorems.proofs.no_longer_command.Tie as tie

pub no_longer_command_spec : {M : Type 1} → statement M
no_longer_command_spec = tie.close (tie.spec (λ c. no_longer_command))
