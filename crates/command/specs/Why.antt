-- The reasons of a refusal, in the order in which they are tested: document 02, Wish 2.
use Rattle.std.specs.Prelude.{ℕ, Option, Some, None}
use Rattle.command.specs.declared.FixedReply.{FixedReply}
use Rattle.command.specs.declared.FixedReply.TheVariants.{Silence, Ack, AckAck, Nack, AckNack, Commands, Version, DeviceId}
use Rattle.command.specs.declared.Reply.{Reply}
use Rattle.command.specs.declared.Reply.TheVariants.{Fixed, Data, Crc}
use Rattle.command.specs.declared.Why.{Why}
use Rattle.command.specs.declared.Why.TheVariants.{BadComplement, UnknownCommand, AccessProtected, OtherFrame, BadChecksum, BadAddress}
use Rattle.command.specs.declared.Why.TheVariants.{BadRange, BadSector, WriteProtected, UnsupportedErase, BadSpeed}

-- the number of each reason
abbrev pub reason : Why → ℕ
reason BadComplement = 1
reason UnknownCommand = 2
reason AccessProtected = 3
reason OtherFrame = 4
reason BadChecksum = 5
reason BadAddress = 6
reason BadRange = 7
reason BadSector = 8
reason WriteProtected = 9
reason UnsupportedErase = 10
reason BadSpeed = 11

-- 0 where there is no NACK
abbrev pub no_reason : ℕ
no_reason = 0

-- the number of a reason that there may be
abbrev pub number_of : Option Why → ℕ
number_of (Some w) = reason w
number_of None = no_reason

-- the reason of the NACK in what is told, if there is one
abbrev pub why_in : FixedReply → Option Why
why_in Silence = None
why_in Ack = None
why_in AckAck = None
why_in (Nack w) = Some w
why_in (AckNack w) = Some w
why_in Commands = None
why_in Version = None
why_in DeviceId = None

-- and of that in a reply
abbrev pub why_of : Reply → Option Why
why_of (Fixed t) = why_in t
why_of (Data r at x) = None
why_of (Crc at n) = None

-- the number of this reason
abbrev pub reason_of : Reply → ℕ
reason_of r = number_of (why_of r)
