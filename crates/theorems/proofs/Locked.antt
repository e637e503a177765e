-- Under protection no decision reads or changes a memory, save by Access Unprotect, and none enters a step of a protected command:
-- a protected command is refused at once, so the session is only ever idle or inside Firmware CRC.
use mathlib.Core.Bool.{Bool, true, false, not, ◌&&◌}
use mathlib.Core.List.{List}
use Prim.Native.Nat.{ℕ}
use lib.Dec.{T, eqb}
use Rattle.std.specs.Prelude.{if◌then◌else◌, Option, Some, None}
use Rattle.words.proofs.Tests.{both_left, both_right}
use Rattle.board.specs.declared.Address.{Address}
use Rattle.board.specs.declared.View.{View}
use Rattle.memories.specs.declared.Change.{Change}
use Rattle.memories.specs.declared.Change.TheVariants.{Nothing, Write, EraseAll, EraseSectors, ProtectOnly, Release, Lock, Unlock}
use Rattle.command.specs.Commands.{protected}
use Rattle.command.specs.Decision.{answer, nack}
use Rattle.command.specs.Progress.{Progress}
use Rattle.command.specs.Says.{fixed}
use Rattle.command.specs.declared.Command.{Command}
use Rattle.command.specs.declared.Command.TheVariants.{GetCommands, GetVersion, GetDeviceId, ReadMemory, Jump, WriteMemory, Erase, ProgramProtect}
use Rattle.command.specs.declared.Command.TheVariants.{ProgramUnprotect, AccessProtect, AccessUnprotect, FirmwareCrc, ResetDevice, Speed}
use Rattle.command.specs.declared.Decision.{Decision}
use Rattle.command.specs.declared.Next.{Next}
use Rattle.command.specs.declared.Next.TheVariants.{Stay, Reset, Gather, GoIdle, SetSpeed, Enter, EnterAt, Run}
use Rattle.command.specs.declared.FixedReply.{FixedReply}
use Rattle.command.specs.declared.Why.{Why}
use Rattle.rules.specs.Rules.{unlocking, summing}
use Rattle.uart.specs.Steps as U
use Rattle.uart.specs.Conversation as UC
use Rattle.uart.specs.declared.Step as US
use Rattle.can.specs.Steps as C
use Rattle.can.specs.Conversation as CC
use Rattle.frames.specs.Frames.{Frame, frame_in}
use Rattle.can.specs.declared.Step as CS
use Rattle.boot.specs.Session.{on, progress, gathered, after}
use Rattle.carriers.specs.Carriers.{carrier_no}
use Rattle.boot.specs.Decide.{connected, decide_byte, decide_frame}
use Rattle.boot.specs.Calls.{Input, Power, Byte, Framed, carrier_of, decide}
use Rattle.carriers.specs.declared.Carrier.{Carrier}
use Rattle.carriers.specs.declared.Carrier.TheVariants.{None, Uart, Can, Running}
use Rattle.boot.specs.declared.Session.{Session}
use Rattle.theorems.specs.Failures.{reads}
use Rattle.theorems.specs.Secrecy.{unlocks}
use Rattle.command.proofs.Holds.{Holds, either, split}
use Rattle.rules.proofs.Made.{summing_made}
use Rattle.rules.proofs.Unless.{unless_locked}

-- ---- sessions inside no protected command

abbrev pub calm_on_uart : US.Step → Bool
calm_on_uart US.Step.Idle = true
calm_on_uart US.Step.ReadAddress = false
calm_on_uart US.Step.JumpAddress = false
calm_on_uart US.Step.WriteAddress = false
calm_on_uart US.Step.CrcAddress = true
calm_on_uart US.Step.ReadLength = false
calm_on_uart US.Step.WriteLength = false
calm_on_uart US.Step.WriteData = false
calm_on_uart US.Step.EraseSelector = false
calm_on_uart US.Step.SpecialCheck = false
calm_on_uart US.Step.EraseList = false
calm_on_uart US.Step.ProtectLength = false
calm_on_uart US.Step.ProtectList = false
calm_on_uart US.Step.CrcCount = true

abbrev pub calm_on_can : CS.Step → Bool
calm_on_can CS.Step.Idle = true
calm_on_can CS.Step.WriteData = false
calm_on_can CS.Step.EraseList = false
calm_on_can CS.Step.ProtectList = false

-- a step of a carrier is in no protected command
abbrev pub calm_if_uart : ℕ → ℕ → Bool
calm_if_uart c step = if eqb c (carrier_no Uart) then calm_on_uart (U.step_of step) else true

abbrev pub calm_if_can : ℕ → ℕ → Bool
calm_if_can c step = if eqb c (carrier_no Can) then calm_on_can (C.step_of step) else true

abbrev pub calm_step : ℕ → ℕ → Bool
calm_step c step = calm_if_uart c step && calm_if_can c step

-- a session is
unfoldable pub calm : Session → Bool
calm s = calm_step s.carrier s.step

-- ---- decisions that keep a locked board's secret

-- no change, or Access Unprotect
abbrev pub harmless : Change → Bool
harmless Nothing = true
harmless (Write r at x) = false
harmless EraseAll = false
harmless (EraseSectors x) = false
harmless (ProtectOnly x) = false
harmless Release = false
harmless Lock = false
harmless Unlock = true

abbrev pub calm_next : Carrier → Next → Bool
calm_next c Stay = true
calm_next c Reset = true
calm_next c Gather = true
calm_next c GoIdle = true
calm_next c (SetSpeed v) = true
calm_next c (Enter step e) = calm_step (carrier_no c) step
calm_next c (EnterAt step e a) = calm_step (carrier_no c) step
calm_next c (Run a) = true

-- a decision on an input of a carrier reads nothing, changes nothing but by Access Unprotect, whose reply is fixed, and stays calm
pub record Discreet (c : Carrier) (d : Decision) : Type 0 where
  pub quiet : T (not (reads d.reply))
  pub harmless : T (harmless d.change)
  pub fixed : T (unlocks d.change) → T (fixed d.reply)
  pub calm : T (calm_next c d.next)

module _ (c : Carrier) where
  -- what is told, and no change
  told : {t : FixedReply} {n : Next} → T (calm_next c n) → Holds (Discreet c) (answer t n)
  told k = record { holds = record { quiet = tt; harmless = tt; fixed = λ o. tt; calm = k } }

  -- a refusal
  refusal : (w : Why) → Holds (Discreet c) (nack w)
  refusal w = told tt

  -- Access Unprotect
  unlocking_discreet : Holds (Discreet c) unlocking
  unlocking_discreet = record { holds = record { quiet = tt; harmless = tt; fixed = λ o. tt; calm = tt } }

  -- Firmware CRC
  summing_discreet : (a : Address) (x : ℕ) → Holds (Discreet c) (summing a x)
  summing_discreet a x =
      summing_made (Discreet c) refusal a x λ at e. record { holds = record { quiet = tt; harmless = tt; fixed = λ o. absurd o; calm = tt } }

-- ---- UART

uart_obeyed : (k : Command) → T (not (protected k)) → Holds (Discreet Uart) (UC.obeyed k)
unfolding UC.obeyed
uart_obeyed GetCommands h = told Uart tt
uart_obeyed GetVersion h = told Uart tt
uart_obeyed GetDeviceId h = told Uart tt
uart_obeyed ReadMemory h = absurd h
uart_obeyed Jump h = absurd h
uart_obeyed WriteMemory h = absurd h
uart_obeyed Erase h = absurd h
uart_obeyed ProgramProtect h = absurd h
uart_obeyed ProgramUnprotect h = absurd h
uart_obeyed AccessProtect h = absurd h
uart_obeyed AccessUnprotect h = unlocking_discreet Uart
uart_obeyed FirmwareCrc h = told Uart tt
uart_obeyed ResetDevice h = told Uart tt
uart_obeyed Speed h = told Uart tt

uart_commanded : (view : View) → T view.locked → (k : Option Command) → Holds (Discreet Uart) (UC.commanded view k)
unfolding UC.commanded
uart_commanded view l (Some k) = unless_locked (Discreet Uart) view k l (refusal Uart) (uart_obeyed k)
uart_commanded view l None = told Uart tt

uart_complete : (s : US.Step) → T (calm_on_uart s) → (e a : ℕ) (bytes : List ℕ) (view : View) → T view.locked
    → Holds (Discreet Uart) (UC.complete s e a bytes view)
unfolding UC.complete UC.addressed UC.kept_if
uart_complete US.Step.Idle h e a bytes view l = either (Discreet Uart) _ (uart_commanded view l _) (refusal Uart _)
uart_complete US.Step.ReadAddress h e a bytes view l = absurd h
uart_complete US.Step.JumpAddress h e a bytes view l = absurd h
uart_complete US.Step.WriteAddress h e a bytes view l = absurd h
uart_complete US.Step.CrcAddress h e a bytes view l =
    either (Discreet Uart) _ (either (Discreet Uart) _ (told Uart tt) (refusal Uart _)) (refusal Uart _)
uart_complete US.Step.ReadLength h e a bytes view l = absurd h
uart_complete US.Step.WriteLength h e a bytes view l = absurd h
uart_complete US.Step.WriteData h e a bytes view l = absurd h
uart_complete US.Step.EraseSelector h e a bytes view l = absurd h
uart_complete US.Step.SpecialCheck h e a bytes view l = absurd h
uart_complete US.Step.EraseList h e a bytes view l = absurd h
uart_complete US.Step.ProtectLength h e a bytes view l = absurd h
uart_complete US.Step.ProtectList h e a bytes view l = absurd h
uart_complete US.Step.CrcCount h e a bytes view l =
    either (Discreet Uart) _ (summing_discreet Uart _ _) (refusal Uart _)

uart_heard : (s : US.Step) → T (calm_on_uart s) → (p : Progress) (view : View) (b : ℕ) → T view.locked
    → Holds (Discreet Uart) (UC.heard s p view b)
unfolding UC.heard
uart_heard s h p view b l = either (Discreet Uart) _ (told Uart tt) (uart_complete s h _ _ _ view l)

-- ---- CAN

can_obeyed : (view : View) (d : List ℕ) (k : Command) → T (not (protected k)) → Holds (Discreet Can) (CC.obeyed view d k)
unfolding CC.obeyed
can_obeyed view d GetCommands h = told Can tt
can_obeyed view d GetVersion h = told Can tt
can_obeyed view d GetDeviceId h = told Can tt
can_obeyed view d ReadMemory h = absurd h
can_obeyed view d Jump h = absurd h
can_obeyed view d WriteMemory h = absurd h
can_obeyed view d Erase h = absurd h
can_obeyed view d ProgramProtect h = absurd h
can_obeyed view d ProgramUnprotect h = absurd h
can_obeyed view d AccessProtect h = absurd h
can_obeyed view d AccessUnprotect h = unlocking_discreet Can
can_obeyed view d FirmwareCrc h = summing_discreet Can _ _
can_obeyed view d ResetDevice h = told Can tt
can_obeyed view d Speed h = either (Discreet Can) _ (told Can tt) (refusal Can _)

can_commanded : (view : View) (d : List ℕ) → T view.locked → (k : Option Command) → Holds (Discreet Can) (CC.commanded view d k)
unfolding CC.commanded
can_commanded view d l (Some k) =
    either (Discreet Can) _ (unless_locked (Discreet Can) view k l (refusal Can) (can_obeyed view d k)) (refusal Can _)
can_commanded view d l None = told Can tt

can_heard : (s : CS.Step) → T (calm_on_can s) → (p : Progress) (view : View) (f : Frame) → T view.locked
    → Holds (Discreet Can) (CC.heard s p view f)
unfolding CC.heard CC.decided
can_heard CS.Step.Idle h p view f l = can_commanded view _ l _
can_heard CS.Step.WriteData h p view f l = absurd h
can_heard CS.Step.EraseList h p view f l = absurd h
can_heard CS.Step.ProtectList h p view f l = absurd h

-- ---- any input

-- a calm session on UART is in a calm step, and so on CAN
where_on : (t b : Bool) → T (if t then b else true) → T t → T b
where_on true b h o = h
where_on false b h o = absurd o

calm_uart : (s : Session) → T (calm s) → T (on Uart s) → T (calm_on_uart (U.step_of s.step))
unfolding calm
calm_uart s h o =
    where_on (on Uart s) (calm_on_uart (U.step_of s.step))
    (both_left (calm_if_uart s.carrier s.step) (calm_if_can s.carrier s.step) h) o

calm_can : (s : Session) → T (calm s) → T (on Can s) → T (calm_on_can (C.step_of s.step))
unfolding calm
calm_can s h o =
    where_on (on Can s) (calm_on_can (C.step_of s.step))
    (both_right (calm_if_uart s.carrier s.step) (calm_if_can s.carrier s.step) h) o

connected_discreet : (c : Carrier) (s : Session) (calls : Bool) {d : Decision} → (T (on c s) → Holds (Discreet c) d)
    → Holds (Discreet c) (connected c s calls d)
unfolding connected
connected_discreet c s calls f = split (Discreet c) (on c s) f (λ n. either (Discreet c) _ (told c tt) (told c tt))

pub decide_discreet : (i : Input) (s : Session) (view : View) → T view.locked → T (calm s)
    → Holds (Discreet (carrier_of i)) (decide i s view)
unfolding decide decide_byte decide_frame
decide_discreet Power s view l h = told None tt
decide_discreet (Byte room b) s view l h =
    connected_discreet Uart s _ (λ o. uart_heard (U.step_of s.step) (calm_uart s h o) (progress s) view b l)
decide_discreet (Framed room f) s view l h =
    connected_discreet Can s _ (λ o. can_heard (C.step_of s.step) (calm_can s h o) (progress s) view (frame_in f) l)

-- ---- the session stays calm

idle_calm : (c : Carrier) → T (calm_step (carrier_no c) 0)
idle_calm None = tt
idle_calm Uart = tt
idle_calm Can = tt
idle_calm Running = tt

pub after_calm : (c : Carrier) (g : Session) → T (calm g) → (n : Next) (s : Session) → T (calm_next c n) → T (calm s)
    → T (calm (after c g n s))
unfolding calm after
after_calm c g w Stay s k h = h
after_calm c g w Reset s k h = tt
after_calm c g w Gather s k h = w
after_calm c g w GoIdle s k h = idle_calm c
after_calm c g w (SetSpeed v) s k h = idle_calm c
after_calm c g w (Enter step e) s k h = k
after_calm c g w (EnterAt step e a) s k h = k
after_calm c g w (Run a) s k h = tt

-- taking bytes keeps a session calm
pub gathered_calm : (new : List ℕ) (s : Session) → T (calm s) → T (calm (gathered new s))
unfolding calm
gathered_calm new s h = h
