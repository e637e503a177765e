-- What an input is decided to do: session, input and view are seen, and no memory.
use Rattle.std.specs.Prelude.{ℕ, Bool, ◌&&◌, eqb}
use Rattle.board.specs.declared.View.{View}
use Rattle.command.specs.Decision.{if◌gives◌else◌, answer}
use Rattle.command.specs.declared.Decision.{Decision}
use Rattle.command.specs.declared.Next.TheVariants.{Stay, GoIdle}
use Rattle.command.specs.declared.FixedReply.TheVariants.{Silence, Ack}
use Rattle.uart.specs.Steps as U
use Rattle.uart.specs.Conversation as UC
use Rattle.can.specs.Steps as C
use Rattle.can.specs.Conversation as CC
use Rattle.frames.specs.Frames.{Frame}
use Rattle.boot.specs.Session.{on, progress}
use Rattle.carriers.specs.declared.Carrier.{Carrier}
use Rattle.carriers.specs.declared.Carrier.TheVariants.{None, Uart, Can}
use Rattle.boot.specs.declared.Session.{Session}

-- a session that is not connected hears only the call to connect; other input changes nothing
abbrev pub unconnected : Session → Bool → Decision
unconnected s calls = if on None s && calls gives answer Ack GoIdle else answer Silence Stay

-- a connected session hears its carrier
unfoldable pub connected : Carrier → Session → Bool → Decision → Decision
connected c s calls heard = if on c s gives heard else unconnected s calls

-- one UART byte
unfoldable pub decide_byte : Session → View → ℕ → Decision
decide_byte s view b =
    connected Uart s (eqb b UC.connect_byte) (UC.heard (U.step_of s.step) (progress s) view b)

-- one CAN frame
unfoldable pub decide_frame : Session → View → Frame → Decision
decide_frame s view f =
    connected Can s (eqb f.id CC.connect_id) (CC.heard (C.step_of s.step) (progress s) view f)
