-- Exactly the named sectors are protected.
use Rattle.theorems.proofs.Protect.{exactly_named}
use Rattle.theorems.proofs.exactly_named.Statement.{statement}
use Rattle.theorems.proofs.exactly_named.Tie as tie

pub exactly_named_spec : {M : Type 1} → statement M
exactly_named_spec = tie.close (tie.spec (λ c. exactly_named))
