-- The tests are the rule's.
use borrow.Author.Rules.{rules}
use Rattle.boot.specs.Session.{sound}
use Rattle.boot.proofs.Session.sound.Statement.{statement}
use Rattle.boot.proofs.Session.sound.Tie as tie

pub sound_spec : {M : Type 1} → statement M
unfolding sound
sound_spec =
    tie.close
    (tie.spec
    (λ c κs. search rules)
    (λ c. rw c.before.step_sound.ensures))
