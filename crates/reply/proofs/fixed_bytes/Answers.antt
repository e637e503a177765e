use mathlib.Core.Path.{◌∙◌}
use Rattle.reply.proofs.Told.{commands_joined}
use Rattle.reply.proofs.fixed_bytes.Goals as goal

pub returns-in-Commands-clause-told : goal.returns-in-Commands-clause-told
returns-in-Commands-clause-told c = λ list l. rw c.in-Commands.is (l.told ∙ commands_joined list)
