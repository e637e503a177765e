-- The test is the rule's.
use borrow.Author.Rules.{rules}
use Rattle.command.specs.Decision.{if◌gives◌else◌}
use Rattle.boot.proofs.Session.unconnected.Statement.{statement}
use Rattle.boot.proofs.Session.unconnected.Tie as tie

pub unconnected_spec : {M : Type 1} → statement M
unfolding if◌gives◌else◌
unconnected_spec =
    tie.close
    (tie.spec
    (λ c κs. search rules)
    (λ c κs. search rules)
    (λ c κs. search rules)
    (λ c. rw (← c.before.before.on.ensures, c.before.if-connects.true) c.answer.ensures)
    (λ c. rw (← c.before.before.on.ensures, c.before.if-connects.false) c.answer-else-connects.ensures))
