-- What is sent tells NACKs and a lone ACK from every other reply, but for bytes that are read, which have a command of their own.
use Rattle.theorems.proofs.Wire.{on_the_wire}
use Rattle.theorems.proofs.on_the_wire.Statement.{statement}
use Rattle.theorems.proofs.on_the_wire.Tie as tie

pub on_the_wire_spec : {M : Type 1} → statement M
on_the_wire_spec = tie.close (tie.spec (λ c. on_the_wire))
