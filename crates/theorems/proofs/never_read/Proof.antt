-- Nothing is read.
use Rattle.theorems.proofs.Read.{never_read}
use Rattle.theorems.proofs.never_read.Statement.{statement}
use Rattle.theorems.proofs.never_read.Tie as tie

pub never_read_spec : {M : Type 1} → statement M
never_read_spec = tie.close (tie.spec (λ c. never_read))
