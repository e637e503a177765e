-- What holds of some decisions holds of every choice between them.
use mathlib.Core.Bool.{Bool, true, false, not}
use lib.Dec.{T}
use Rattle.std.specs.Prelude.{Ok, Err}
use Rattle.command.specs.Decision.{Verdict, if◌gives◌else◌, nack, judged}
use Rattle.command.specs.declared.Decision.{Decision}
use Rattle.command.specs.declared.Why.{Why}

-- something holds of a decision
pub record Holds (P : Decision → Type 0) (d : Decision) : Type 0 where
  pub holds : P d

module _ (P : Decision → Type 0) where
  -- a choice, whatever its test
  pub either : (t : Bool) {x y : Decision} → Holds P x → Holds P y → Holds P (if t gives x else y)
  unfolding if◌gives◌else◌
  either true px py = px
  either false px py = py

  -- a choice, with what its test says
  pub split : (t : Bool) {x y : Decision} → (T t → Holds P x) → (T (not t) → Holds P y) → Holds P (if t gives x else y)
  unfolding if◌gives◌else◌
  split true f g = f tt
  split false f g = g tt

  -- a decision that a rule may forbid
  pub judged_either : (v : Verdict) {d : Decision} → ((w : Why) → Holds P (nack w)) → Holds P d → Holds P (judged v d)
  unfolding judged
  judged_either (Ok u) pn pd = pd
  judged_either (Err w) pn pd = pn w
