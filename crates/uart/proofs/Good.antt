-- What the end of a UART step decides can be carried out and said, and enters only steps that may expect what they do.
use mathlib.Core.Bool.{Bool, ◌&&◌}
use mathlib.Core.List.{List}
use Prim.Native.Nat.{ℕ, ◌+◌, ◌*◌, ◌%◌, ◌≤◌, ◌<◌}
use native.Mathlib.Omega.{arith}
use lib.Dec.{T, eqb, leb, ltb}
use lib.ListN.{length, get_or}
use borrow.Author.Tests.{le-leb, lt-ltb, eq-eqb}
use Rattle.std.specs.Prelude.{Option, Some, None}
use Rattle.board.specs.declared.Address.{Address}
use Rattle.board.specs.declared.View.{View}
use Rattle.command.specs.Decision.{answer, nack}
use Rattle.command.specs.declared.Command.{Command}
use Rattle.command.specs.declared.Command.TheVariants.{GetCommands, GetVersion, GetDeviceId, ReadMemory, Jump, WriteMemory, Erase, ProgramProtect}
use Rattle.command.specs.declared.Command.TheVariants.{ProgramUnprotect, AccessProtect, AccessUnprotect, FirmwareCrc, ResetDevice, Speed}
use Rattle.command.specs.declared.Decision.{Decision}
use Rattle.command.specs.declared.Next.{Next}
use Rattle.command.specs.declared.FixedReply.{FixedReply}
use Rattle.command.specs.declared.Why.{Why}
use Rattle.command.proofs.Holds.{Holds, either, judged_either}
use Rattle.rules.specs.Rules.{selector_of}
use Rattle.rules.proofs.Made.{selector_made}
use Rattle.rules.proofs.Unless.{unless_either}
use Rattle.rules.proofs.Good.{FirmNext, Good, told, made, refusal, reading_good, writing_good, erasing_good, protecting_good, jumping_good, summing_good}
use Rattle.uart.specs.Conversation.{obeyed, commanded, addressed, kept_if, selected, complete}
use Rattle.uart.specs.Steps.{step_no, steps, step_of, expects, count_in, numbers_in}
use Rattle.uart.specs.declared.Step.{Step}
use Rattle.uart.specs.declared.Step.TheVariants.{Idle, ReadAddress, JumpAddress, WriteAddress, CrcAddress, ReadLength, WriteLength, WriteData}
use Rattle.uart.specs.declared.Step.TheVariants.{EraseSelector, SpecialCheck, EraseList, ProtectLength, ProtectList, CrcCount}
use Rattle.uart.proofs.Steps.{counted, numbered}

-- a step of this number may be entered, and expect so many
abbrev pub enters : ℕ → ℕ → Type 0
enters step e = T (ltb step (length steps) && expects (step_of step) e && ltb 0 e)

module _ (more : Bool) (bytes : List ℕ) where
  -- with these bytes staged, of which the first is a byte where something is read
  abbrev pub GoodOnUart : Decision → Type 0
  GoodOnUart d = Good (get_or bytes 0 0 < 256) enters more bytes d

  -- a refusal, and what is told where the session stays sound
  refused : (w : Why) → Holds GoodOnUart (nack w)
  refused = refusal (get_or bytes 0 0 < 256) enters more bytes

  goes : {t : FixedReply} {n : Next} → FirmNext enters more n → Holds GoodOnUart (answer t n)
  goes = told (get_or bytes 0 0 < 256) enters more bytes

  obeyed_good : (k : Command) → Holds GoodOnUart (obeyed k)
  unfolding obeyed
  obeyed_good GetCommands = goes tt
  obeyed_good GetVersion = goes tt
  obeyed_good GetDeviceId = goes tt
  obeyed_good ReadMemory = goes tt
  obeyed_good Jump = goes tt
  obeyed_good WriteMemory = goes tt
  obeyed_good Erase = goes tt
  obeyed_good ProgramProtect = goes tt
  obeyed_good ProgramUnprotect = made _ _ _ _ tt tt
  obeyed_good AccessProtect = made _ _ _ _ tt tt
  obeyed_good AccessUnprotect = made _ _ _ _ tt tt
  obeyed_good FirmwareCrc = goes tt
  obeyed_good ResetDevice = goes tt
  obeyed_good Speed = goes tt

  commanded_good : (view : View) (k : Option Command) → Holds GoodOnUart (commanded view k)
  unfolding commanded
  commanded_good view (Some k) = unless_either GoodOnUart view k refused (obeyed_good k)
  commanded_good view None = goes tt

  addressed_good : (go : Address → Decision) → ((a : Address) → Holds GoodOnUart (go a)) → Holds GoodOnUart (addressed go bytes)
  unfolding addressed
  addressed_good go f = either GoodOnUart _ (f _) (goes tt)

  kept_good : (good : Address → Bool) (s : Step) (e : ℕ) → enters (step_no s) e → (a : Address) → Holds GoodOnUart (kept_if good s e a)
  unfolding kept_if
  kept_good good s e h a = either GoodOnUart _ (goes h) (goes tt)

  -- a byte X - 1 announces at most 256 bytes and their checksum
  awaited : get_or bytes 0 0 < 256 → T (leb 2 (get_or bytes 0 0 + 1 + 1) && leb (get_or bytes 0 0 + 1 + 1) 257 && ltb 0 (get_or bytes 0 0 + 1 + 1))
  awaited h =
      let e = get_or bytes 0 0 + 1 + 1 in
      rw (le-leb 2 e (omega arith), le-leb e 257 (omega arith), lt-ltb 0 e (omega arith)) tt

  -- a selector announces at most 32 numbers and their checksum
  selected_good : (m : ℕ) → Holds GoodOnUart (selected (selector_of m))
  unfolding selected
  selected_good m = selector_made (λ k. Holds GoodOnUart (selected k)) m (goes tt) (λ h. goes (listed h)) (goes tt)
    where
      listed : m + 1 ≤ 32 → enters (step_no EraseList) (2 * (m + 1) + 1)
      listed h =
          let e = 2 * (m + 1) + 1 in
          rw (le-leb 3 e (omega arith), le-leb e 65 (omega arith), eq-eqb (e % 2) 1 (omega arith), lt-ltb 0 e (omega arith)) tt

  -- where the step is one byte, that is below 256
  pub complete_good : (s : Step) (e : ℕ) → T (expects s e) → (T (eqb e 1) → get_or bytes 0 0 < 256) → (a : ℕ) (view : View)
      → Holds GoodOnUart (complete s e a bytes view)
  unfolding complete
  complete_good Idle e t b a view = either GoodOnUart _ (commanded_good view _) (goes tt)
  complete_good ReadAddress e t b a view = addressed_good _ (kept_good _ ReadLength 2 tt)
  complete_good JumpAddress e t b a view = addressed_good _ (jumping_good _ _ _ _)
  complete_good WriteAddress e t b a view = addressed_good _ (kept_good _ WriteLength 1 tt)
  complete_good CrcAddress e t b a view = addressed_good _ (kept_good _ CrcCount 3 tt)
  complete_good ReadLength e t b a view = either GoodOnUart _ (reading_good _ _ _ _ _ (get_or bytes 0 0 + 1) (λ h. omega arith)) (goes tt)
  complete_good WriteLength e t b a view = goes (awaited (b t))
  complete_good WriteData e t b a view =
      let h = counted e t in
      either GoodOnUart _ (writing_good _ _ _ _ view _ (count_in e) (omega arith)) (goes tt)
  complete_good EraseSelector e t b a view = selected_good _
  complete_good SpecialCheck e t b a view = either GoodOnUart _ (judged_either GoodOnUart _ refused (made _ _ _ _ tt tt)) (goes tt)
  complete_good EraseList e t b a view =
      let h = numbered e t in
      either GoodOnUart _ (erasing_good _ _ _ _ view (numbers_in e) (omega arith)) (goes tt)
  complete_good ProtectLength e t b a view = goes (awaited (b t))
  complete_good ProtectList e t b a view =
      let h = counted e t in
      either GoodOnUart _ (protecting_good _ _ _ _ (count_in e) (omega arith)) (goes tt)
  complete_good CrcCount e t b a view = either GoodOnUart _ (summing_good _ _ _ _ _ _) (goes tt)
