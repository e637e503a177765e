-- Only named bytes are written.
use Rattle.theorems.proofs.Write.{only_named_bytes}
use Rattle.theorems.proofs.only_named_bytes.Statement.{statement}
use Rattle.theorems.proofs.only_named_bytes.Tie as tie

pub only_named_bytes_spec : {M : Type 1} → statement M
only_named_bytes_spec = tie.close (tie.spec (λ c. only_named_bytes))
