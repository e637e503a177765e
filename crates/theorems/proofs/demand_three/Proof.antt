-- Two boards keep the secret.
use Rattle.theorems.proofs.Secrecy.{secret}
use Rattle.theorems.proofs.demand_three.Statement.{statement}
use Rattle.theorems.proofs.demand_three.Tie as tie

pub demand_three_spec : {M : Type 1} → statement M
demand_three_spec = tie.close (tie.spec (λ c. secret))
