-- Only an accepted file is laid.
use Rattle.loading.proofs.Bytes.{refused}
use Rattle.loading.proofs.held.error_leaves.Statement.{statement}
use Rattle.loading.proofs.held.error_leaves.Tie as tie

pub error_leaves_spec : {M : Type 1} → statement M
error_leaves_spec = tie.close (tie.spec (λ c. refused))
