-- Bytes are put only where they are expected.
use Rattle.command.proofs.Progress.{stages}
use Rattle.command.proofs.held.staging.Statement.{statement}
use Rattle.command.proofs.held.staging.Tie as tie

pub staging_spec : {M : Type 1} → statement M
staging_spec = tie.close (tie.spec (λ c. stages))
