-- Only Firmware CRC is answered with a CRC value, and it is answered with that or with a NACK.
use Rattle.theorems.proofs.Wire.{struck_exactly}
use Rattle.theorems.proofs.struck_exactly.Statement.{statement}
use Rattle.theorems.proofs.struck_exactly.Tie as tie

pub struck_exactly_spec : {M : Type 1} → statement M
struck_exactly_spec = tie.close (tie.spec (λ c. struck_exactly))
