-- The rows are computed.
use Rattle.theorems.proofs.Talk.{worked_talk}
use Rattle.theorems.proofs.worked_talk.Statement.{statement}
use Rattle.theorems.proofs.worked_talk.Tie as tie

pub worked_talk_spec : {M : Type 1} → statement M
worked_talk_spec = tie.close (tie.spec (λ c. worked_talk))
