-- What holds of a decision on a command and of every refusal holds whether protection is off or on.
use mathlib.Core.Bool.{Bool, true, false, not, ◌&&◌}
use lib.Dec.{T}
use Rattle.board.specs.declared.View.{View}
use Rattle.command.specs.Commands.{protected}
use Rattle.command.specs.Decision.{if◌gives◌else◌, nack}
use Rattle.command.specs.declared.Command.{Command}
use Rattle.command.specs.declared.Decision.{Decision}
use Rattle.command.specs.declared.Why.{Why}
use Rattle.command.specs.declared.Why.TheVariants.{AccessProtected}
use Rattle.command.proofs.Holds.{Holds, either}
use Rattle.rules.specs.Rules.{unless_protected}

module _ (P : Decision → Type 0) where
  -- a command, with protection off or on
  pub unless_either : (view : View) (c : Command) {d : Decision} → ((w : Why) → Holds P (nack w)) → Holds P d
      → Holds P (unless_protected view c d)
  unfolding unless_protected
  unless_either view c pn pd = either P (view.locked && protected c) (pn AccessProtected) pd

  -- a command while protection is on: only one that is not protected is obeyed
  pub unless_locked : (view : View) (c : Command) {d : Decision} → T view.locked → ((w : Why) → Holds P (nack w))
      → (T (not (protected c)) → Holds P d) → Holds P (unless_protected view c d)
  unfolding unless_protected if◌gives◌else◌
  unless_locked view c {d} l pn pd = by_tests view.locked l (protected c) pd
    where
      by_tests : (on : Bool) → T on → (g : Bool) → (T (not g) → Holds P d) → Holds P (if on && g gives nack AccessProtected else d)
      by_tests true h true f = pn AccessProtected
      by_tests true h false f = f tt
      by_tests false h g f = absurd h
