-- What is left is what the definitions say, and these keep the secret.
use Rattle.theorems.proofs.Runs.{secret_runs}
use Rattle.theorems.proofs.demand_three_of_code.Statement.{statement}
use Rattle.theorems.proofs.demand_three_of_code.Tie as tie

pub demand_three_of_code_spec : {M : Type 1} → statement M
demand_three_of_code_spec = tie.close (tie.spec (λ c. secret_runs))
