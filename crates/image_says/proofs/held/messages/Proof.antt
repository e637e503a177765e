-- Each line computes.
use mathlib.Core.Path.{refl}
use Rattle.image_says.specs.Rulings.{Messages}
use Rattle.image_says.specs.Messages.{message}
use Rattle.image_says.proofs.held.messages.Statement.{statement}
use Rattle.image_says.proofs.held.messages.Tie as tie

messages : Messages
unfolding message
messages = record {
  many = refl;
  one = refl;
  none = refl;
  length = refl;
  line = refl;
  checksum = refl;
  outside = refl;
  short = refl;
  overlap = refl;
  types = refl;
  no_end = refl;
}

pub messages_spec : {M : Type 1} → statement M
messages_spec = tie.close (tie.spec (λ c. messages))
