-- How decisions are made of tests.
use Rattle.std.specs.Prelude.{Bool, true, false, Result, Ok, Err}
use Rattle.memories.specs.declared.Change.{Change}
use Rattle.memories.specs.declared.Change.TheVariants.{Nothing}
use Rattle.command.specs.declared.Decision.{Decision}
use Rattle.command.specs.declared.Next.{Next}
use Rattle.command.specs.declared.Next.TheVariants.{GoIdle}
use Rattle.command.specs.declared.Reply.{Reply}
use Rattle.command.specs.declared.Reply.TheVariants.{Fixed}
use Rattle.command.specs.declared.FixedReply.{FixedReply}
use Rattle.command.specs.declared.FixedReply.TheVariants.{Nack}
use Rattle.command.specs.declared.Why.{Why}

infixr 5 if◌gives◌else◌
-- the first decision where the test holds, and the second where it does not; shut, so that a law speaks of the choice and not of its cases
unfoldable pub if◌gives◌else◌ : Bool → Decision → Decision → Decision
if true gives a else b = a
if false gives a else b = b

-- what is told and what becomes of the session; the memories stay
abbrev pub answer : FixedReply → Next → Decision
answer t n = record { reply = Fixed t; change = Nothing; next = n }

-- what is told of a change that is made
abbrev pub alter : FixedReply → Change → Next → Decision
alter t c n = record { reply = Fixed t; change = c; next = n }

-- what is read from a memory and what becomes of the session; the memories stay
abbrev pub show : Reply → Next → Decision
show r n = record { reply = r; change = Nothing; next = n }

-- after a NACK the session is idle
abbrev pub nack : Why → Decision
nack w = answer (Nack w) GoIdle

-- whether a rule lets a command pass: it is fine, or refused for a reason
abbrev pub Verdict : Type 0
Verdict = Result (Unit {0}) Why

abbrev pub fine : Verdict
fine = Ok tt

-- a decision that a rule may forbid
unfoldable pub judged : Verdict → Decision → Decision
judged (Ok u) d = d
judged (Err w) d = nack w
