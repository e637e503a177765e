-- No decision changes a memory unless it also accepts and ends the command.
use mathlib.Core.Bool.{Bool, true, false, not, ◌&&◌, ◌||◌}
use Prim.Native.Nat.{ℕ}
use lib.Dec.{T}
use Rattle.board.specs.declared.Region.{Region}
use Rattle.board.specs.declared.Region.TheVariants.{Flash, Sram, Usd}
use Rattle.board.specs.declared.View.{View}
use Rattle.memories.specs.declared.Change.{Change}
use Rattle.memories.specs.declared.Change.TheVariants.{Nothing, Write, EraseAll, EraseSectors, ProtectOnly, Release, Lock, Unlock}
use Rattle.command.specs.Decision.{alter}
use Rattle.command.specs.declared.Decision.{Decision}
use Rattle.command.specs.declared.Next.{Next}
use Rattle.command.specs.declared.Next.TheVariants.{Stay, Reset, Gather, GoIdle, SetSpeed, Enter, EnterAt, Run}
use Rattle.command.specs.declared.FixedReply.TheVariants.{Ack}
use Rattle.rules.specs.Rules.{after_write}
use Rattle.boot.specs.Calls.{Input, Power, Byte, Framed, decide}
use Rattle.boot.specs.declared.Session.{Session}
use Rattle.theorems.specs.Failures.{refuses}
use Rattle.command.proofs.Holds.{Holds}
use Rattle.theorems.proofs.Made.{Parts, Sole, OnInput, decide_made}

-- no memory changes
abbrev pub is_nothing : Change → Bool
is_nothing Nothing = true
is_nothing (Write r at x) = false
is_nothing EraseAll = false
is_nothing (EraseSectors x) = false
is_nothing (ProtectOnly x) = false
is_nothing Release = false
is_nothing Lock = false
is_nothing Unlock = false

-- the command is over, and the session idle or fresh
abbrev pub ends : Next → Bool
ends Stay = false
ends Reset = true
ends Gather = false
ends GoIdle = true
ends (SetSpeed v) = true
ends (Enter step e) = false
ends (EnterAt step e a) = false
ends (Run a) = false

-- a decision changes nothing, or accepts and ends the command
abbrev pub Honest : Decision → Type 0
Honest d = T (is_nothing d.change || (not (refuses d.reply) && ends d.next))

made : Parts Honest
made = record {
  told = λ h. record { holds = tt };
  written = written;
  erased = λ x. record { holds = tt };
  cleared = record { holds = tt };
  cleared_on_can = record { holds = tt };
  protected = λ x. record { holds = tt };
  released = record { holds = tt };
  locked = record { holds = tt };
}
  where
    written : (r : Region) (at x : ℕ) → Holds Honest (alter Ack (Write r at x) (after_write r))
    written Flash at x = record { holds = tt }
    written Sram at x = record { holds = tt }
    written Usd at x = record { holds = tt }

sole : {u r c e : Type 0} → Sole Honest u r c e
sole = record {
  unlocked = λ h. record { holds = tt };
  read = λ h r at x. record { holds = tt };
  summed = λ h at n. record { holds = tt };
  halved = λ h w. record { holds = tt };
}

pub decide_honest : (i : Input) (s : Session) (view : View) → Holds Honest (decide i s view)
decide_honest i s view = decide_made Honest made i s view (by_input i)
  where
    by_input : (i : Input) → OnInput Honest i s
    by_input Power = tt
    by_input (Byte room b) = λ o. sole
    by_input (Framed room l) = λ o. sole
