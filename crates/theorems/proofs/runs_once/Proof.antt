-- One call after the other, each part is fixed by its promise.
use Rattle.theorems.proofs.Runs.{runs_once}
use Rattle.theorems.proofs.runs_once.Statement.{statement}
use Rattle.theorems.proofs.runs_once.Tie as tie

pub runs_once_spec : {M : Type 1} → statement M
runs_once_spec = tie.close (tie.spec (λ c. runs_once))
