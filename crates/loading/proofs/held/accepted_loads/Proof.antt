-- What a line lays stands, since no later line touches it.
use Rattle.loading.proofs.Bytes.{accepted}
use Rattle.loading.proofs.held.accepted_loads.Statement.{statement}
use Rattle.loading.proofs.held.accepted_loads.Tie as tie

pub accepted_loads_spec : {M : Type 1} → statement M
accepted_loads_spec = tie.close (tie.spec (λ c. accepted))
