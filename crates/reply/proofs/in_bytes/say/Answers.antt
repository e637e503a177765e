-- The reply is said with UART's own list, behind which the listing's last byte is left out.
use mathlib.Core.Path.{refl}
use Rattle.uart.specs.Conversation.{command_bytes}
use Rattle.reply.proofs.in_bytes.say.Goals as goal

pub returns : goal.returns
returns c = c.say.ensures.0 command_bytes (rw c.listing-commands.ensures (record { told = refl }))
