-- By where the first LF stands, if there is one.
use Rattle.records.proofs.Feeds.{by_steps}
use Rattle.records.proofs.held.line_by_line.Statement.{statement}
use Rattle.records.proofs.held.line_by_line.Tie as tie

pub line_by_line_spec : {M : Type 1} → statement M
line_by_line_spec = tie.close (tie.spec (λ c. by_steps))
