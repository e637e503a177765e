-- The board on a serial line: UART bytes come in, and their replies go out as they are, or in ST's dialect.
use Rattle.std.specs.Prelude.{ℕ, ◌≡◌, Bool, ◌&&◌, List, [], ◌∷◌, ◌++◌, eqb, length, get_or}
use Rattle.std.specs.Prelude.{if◌then◌else◌}
use Rattle.words.specs.Over.{put}
use Rattle.uart.specs.Conversation.{uart_room}
use Rattle.uart.specs.Steps.{step_no}
use Rattle.uart.specs.declared.Step.TheVariants.{Idle}
use Rattle.carriers.specs.declared.Carrier.TheVariants.{Uart}
use Rattle.boot.specs.Session.{on}
use Rattle.boot.specs.Calls.{State, Byte, call}
use Rattle.boot.specs.Slices.{after_bytes}
use Rattle.boot.specs.declared.Session.{Session}
use Rattle.port_loop.specs.St.{in_st}

-- a session that waits for a command
abbrev pub waits : Session → Bool
waits s = on Uart s && eqb s.step (step_no Idle)

-- a reply as it goes out: as it is, or in ST's dialect, where the session waited for a command, what that command is answered which it had staged
unfoldable pub spoken : Bool → Session → List ℕ → List ℕ
spoken st s reply = if st && waits s then in_st (get_or s.staged 0 0) reply else reply

-- what is said to a byte
abbrev pub said : Bool → ℕ → State → List ℕ
said st b p = spoken st p.session (call (Byte uart_room b) p).reply

-- what is said to bytes, one behind the other
unfoldable pub said_all : Bool → List ℕ → State → List ℕ
said_all st [] p = []
said_all st (b ∷ bs) p = said st b p ++ said_all st bs (call (Byte uart_room b) p).state

-- bytes were heard: what is said to them stands in a text from its front up to a place, the text is else unchanged, and the state is the one after them
pub record Hears (st : Bool) (bs : List ℕ) (before : State) (lent : List ℕ) (until : ℕ) (left : List ℕ) (after : State) : Type 0 where
  pub end : until ≡ length (said_all st bs before)
  pub text : left ≡ put lent 0 (said_all st bs before)
  pub state : after ≡ after_bytes bs before
