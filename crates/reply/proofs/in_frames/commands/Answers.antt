-- The listing ends with its ACK.
use mathlib.Core.Path.{refl}
use Rattle.reply.proofs.in_frames.commands.Goals as goal

pub returns : goal.returns
returns c = rw c.listing.ensures (record { told = refl })
