-- Each part is fixed by its promise.
use Rattle.theorems.proofs.Determined.{determined}
use Rattle.theorems.proofs.determinism.Statement.{statement}
use Rattle.theorems.proofs.determinism.Tie as tie

pub determinism_spec : {M : Type 1} → statement M
determinism_spec = tie.close (tie.spec (λ c. determined))
