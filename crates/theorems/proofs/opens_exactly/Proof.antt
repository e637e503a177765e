-- Only 0x92 unlocks.
use Rattle.theorems.proofs.Opening.{opens_exactly}
use Rattle.theorems.proofs.opens_exactly.Statement.{statement}
use Rattle.theorems.proofs.opens_exactly.Tie as tie

pub opens_exactly_spec : {M : Type 1} → statement M
opens_exactly_spec = tie.close (tie.spec (λ c. opens_exactly))
