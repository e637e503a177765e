-- By the four answers that there are, of which only one accepts.
use Rattle.loading.specs.Faults.{AcceptedExactly}
use Rattle.loading.proofs.Answers.{accepted_sound, sound_accepted}
use Rattle.loading.proofs.held.accepted_exactly.Statement.{statement}
use Rattle.loading.proofs.held.accepted_exactly.Tie as tie

accepted-exactly : AcceptedExactly
accepted-exactly shift text n = (accepted_sound shift text n, sound_accepted shift text n)

pub accepted_exactly_spec : {M : Type 1} → statement M
accepted_exactly_spec = tie.close (tie.spec (λ c. accepted-exactly))
