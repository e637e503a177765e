-- Both are what the definitions give.
use mathlib.Core.Path.{sym, ◌∙◌}
use Rattle.loading.specs.Promise.{Determined}
use Rattle.loading.proofs.held.determined.Statement.{statement}
use Rattle.loading.proofs.held.determined.Tie as tie

determined : Determined
determined shift text image r s a b p q = (p.answer ∙ sym q.answer, p.left ∙ sym q.left)

pub determined_spec : {M : Type 1} → statement M
determined_spec = tie.close (tie.spec (λ c. determined))
