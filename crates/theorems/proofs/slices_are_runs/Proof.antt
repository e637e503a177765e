-- Both leave what the definitions say of the bytes.
use Rattle.theorems.proofs.Slices.{slices_are_runs}
use Rattle.theorems.proofs.slices_are_runs.Statement.{statement}
use Rattle.theorems.proofs.slices_are_runs.Tie as tie

pub slices_are_runs_spec : {M : Type 1} → statement M
slices_are_runs_spec = tie.close (tie.spec (λ c. slices_are_runs))
