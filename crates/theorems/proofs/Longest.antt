-- Each step that a command enters leaves fewer bytes to come than the one before it and stands behind those that came, and whatever ends a command is
-- answered.
use mathlib.Core.Path.{◌≡◌, refl, sym, ap, ap₂, subst, ◌∙◌}
use mathlib.Core.Bool.{Bool, true, false, not, ◌&&◌, ◌||◌}
use mathlib.Core.List.{List, [], ◌∷◌, ◌++◌}
use mathlib.Core.Logic.{◌⊎◌, inl, inr, ⊎_elim}
use Prim.Native.Nat.{ℕ, ◌+◌, ◌*◌, ◌-◌, ◌≤◌, ◌<◌}
use native.Mathlib.Nat.{zero-lt-suc}
use native.Mathlib.Omega.{arith}
use lib.Dec.{T, T_not, eqb, ltb, leb, ltb→lt, nltb→le, leb→le, eqb→eq, lit<}
use lib.ListN.{length, get_or, take}
use lib.Seq.{take_all}
use borrow.Author.Tests.{le-leb, lt-ltb, leb-true, ne_eqb}
use Rattle.std.specs.Prelude.{if◌then◌else◌, Option, Some, None}
use Rattle.words.specs.Over.{put}
use Rattle.words.proofs.Tests.{both_left, both_right, holds_true}
use Rattle.board.specs.Quantities.{count_of, less_one}
use Rattle.board.specs.declared.Region.{Region}
use Rattle.board.specs.declared.Region.TheVariants.{Flash, Sram, Usd}
use Rattle.board.specs.declared.View.{View}
use Rattle.board.specs.declared.Address.{Address}
use Rattle.memories.specs.Memories.{Memories}
use Rattle.memories.specs.declared.Change.TheVariants.{Write}
use Rattle.command.specs.Decision.{alter, nack}
use Rattle.command.specs.Says.{says}
use Rattle.command.specs.Progress.{staged_with, short}
use Rattle.command.specs.declared.Command.{Command}
use Rattle.command.specs.declared.Command.TheVariants.{GetCommands, GetVersion, GetDeviceId, ReadMemory, Jump, WriteMemory, Erase, ProgramProtect}
use Rattle.command.specs.declared.Command.TheVariants.{ProgramUnprotect, AccessProtect, AccessUnprotect, FirmwareCrc, ResetDevice, Speed}
use Rattle.command.specs.declared.Decision.{Decision}
use Rattle.command.specs.declared.Next.{Next}
use Rattle.command.specs.declared.Next.TheVariants.{Stay, Reset, Gather, GoIdle, SetSpeed, Enter, EnterAt, Run}
use Rattle.command.specs.declared.Reply.{Reply}
use Rattle.command.specs.declared.Reply.TheVariants.{Fixed, Data, Crc}
use Rattle.command.specs.declared.FixedReply.TheVariants.{Silence, Ack, AckAck, Nack, AckNack, Commands, Version, DeviceId}
use Rattle.command.specs.declared.Why.{Why}
use Rattle.command.proofs.Holds.{Holds, either, split, judged_either}
use Rattle.rules.specs.Rules.{after_write, selector_of}
use Rattle.rules.specs.declared.Selector.TheVariants.{Listed, Special, Impossible}
use Rattle.rules.proofs.Made.{reading_made, writing_made, erasing_made, protecting_made, jumping_made, summing_made}
use Rattle.rules.proofs.Unless.{unless_either}
use Rattle.uart.specs.Conversation as UC
use Rattle.uart.specs.Steps.{step_of, step_no, expects, before}
use Rattle.uart.specs.declared.Step as US
use Rattle.boot.specs.Session.{on, sound, entered, progress, gathered, after}
use Rattle.boot.specs.Decide.{connected, decide_byte}
use Rattle.boot.specs.Causes.{accepts}
use Rattle.boot.specs.Calls.{State, Outcome, Byte, view_in, cause_for, decide, sent, perform, refused, call, run}
use Rattle.boot.proofs.Sound.{sound_taken, uart_expects}
use Rattle.carriers.specs.declared.Carrier.TheVariants.{Uart}
use Rattle.boot.specs.declared.Session.{Session}
use Rattle.board.specs.Regions as R
use Rattle.board.specs.View as W
use Rattle.memories.specs.Effects as E
use Rattle.command.specs.Decision as D
use Rattle.command.specs.Says as S
use Rattle.rules.specs.Rules as Q
use Rattle.boot.specs.Session as BS
use Rattle.boot.specs.Decide as BD
use Rattle.boot.specs.Causes as BC
use Rattle.boot.specs.Calls as BK
use Rattle.theorems.specs.Talk.{fresh_board}
use Rattle.theorems.proofs.InStep.{four, expects_at, accepted_sound}
use Rattle.theorems.specs.Longest.{longest_write, behind, bytes_left, between, is_over, is_byte, session_after, goes_on, NoLongerCommand}

-- ---- what a decision may do at the end of a step

-- the command is over
abbrev finishes : Next → Bool
finishes Stay = false
finishes Reset = true
finishes Gather = false
finishes GoIdle = true
finishes (SetSpeed v) = true
finishes (Enter step e) = false
finishes (EnterAt step e a) = false
finishes (Run a) = true

-- another step than idle is entered, which stands behind so many bytes of its command, and for which and behind which at most n bytes come
abbrev is_step : ℕ → ℕ → ℕ → ℕ → Bool
is_step n at step e =
    not (eqb step 0) && ltb 0 e && leb (e + behind (step_of step)) n && (ltb 0 at && eqb (before (step_of step)) at)

abbrev enters : ℕ → ℕ → Next → Bool
enters n at Stay = false
enters n at Reset = false
enters n at Gather = false
enters n at GoIdle = false
enters n at (SetSpeed v) = false
enters n at (Enter step e) = is_step n at step e
enters n at (EnterAt step e a) = is_step n at step e
enters n at (Run a) = false

-- something is answered
abbrev speaks : Reply → Bool
speaks (Fixed Silence) = false
speaks (Fixed Ack) = true
speaks (Fixed AckAck) = true
speaks (Fixed (Nack w)) = true
speaks (Fixed (AckNack w)) = true
speaks (Fixed Commands) = true
speaks (Fixed Version) = true
speaks (Fixed DeviceId) = true
speaks (Data r at x) = true
speaks (Crc at n) = true

-- the command is over and is answered, or goes on behind so many of its bytes with at most n
abbrev Goes : ℕ → ℕ → Decision → Type 0
Goes n at d = T ((finishes d.next && speaks d.reply) || enters n at d.next)

-- ---- the rules

module _ (n at : ℕ) where
  refusal : (w : Why) → Holds (Goes n at) (nack w)
  refusal w = record { holds = tt }

  written_goes : (r : Region) (from x : ℕ) → Holds (Goes n at) (alter Ack (Write r from x) (after_write r))
  written_goes Flash from x = record { holds = tt }
  written_goes Sram from x = record { holds = tt }
  written_goes Usd from x = record { holds = tt }

  -- an address and its checksum
  addressed_goes : (go : Address → Decision) → ((a : Address) → Holds (Goes n at) (go a)) → (bytes : List ℕ) → Holds (Goes n at) (UC.addressed go bytes)
  unfolding UC.addressed
  addressed_goes go f bytes = either (Goes n at) _ (f _) (refusal _)

  -- an address is kept for a step
  kept_goes : (good : Address → Bool) (s : US.Step) (e : ℕ) → T (is_step n at (step_no s) e) → (a : Address) → Holds (Goes n at) (UC.kept_if good s e a)
  unfolding UC.kept_if
  kept_goes good s e h a = either (Goes n at) _ (record { holds = h }) (refusal _)

-- ---- the steps of UART

-- how many bytes of its command have come at the end of a step that another may follow; 0 for one that ends its command
abbrev up_to : US.Step → ℕ
up_to US.Step.Idle = 2
up_to US.Step.ReadAddress = 7
up_to US.Step.JumpAddress = 0
up_to US.Step.WriteAddress = 7
up_to US.Step.CrcAddress = 7
up_to US.Step.ReadLength = 0
up_to US.Step.WriteLength = 8
up_to US.Step.WriteData = 0
up_to US.Step.EraseSelector = 4
up_to US.Step.SpecialCheck = 0
up_to US.Step.EraseList = 0
up_to US.Step.ProtectLength = 3
up_to US.Step.ProtectList = 0
up_to US.Step.CrcCount = 0

-- that is what comes before it, and what it expects
up_to_lem : (s : US.Step) (e : ℕ) → T (expects s e) → 0 < up_to s → up_to s ≡ before s + e
up_to_lem US.Step.Idle e h z = omega (arith, eqb→eq e 2 h)
up_to_lem US.Step.ReadAddress e h z = omega (arith, eqb→eq e 5 h)
up_to_lem US.Step.JumpAddress e h z = absurd (omega arith)
up_to_lem US.Step.WriteAddress e h z = omega (arith, eqb→eq e 5 h)
up_to_lem US.Step.CrcAddress e h z = omega (arith, eqb→eq e 5 h)
up_to_lem US.Step.ReadLength e h z = absurd (omega arith)
up_to_lem US.Step.WriteLength e h z = omega (arith, eqb→eq e 1 h)
up_to_lem US.Step.WriteData e h z = absurd (omega arith)
up_to_lem US.Step.EraseSelector e h z = omega (arith, eqb→eq e 2 h)
up_to_lem US.Step.SpecialCheck e h z = absurd (omega arith)
up_to_lem US.Step.EraseList e h z = absurd (omega arith)
up_to_lem US.Step.ProtectLength e h z = omega (arith, eqb→eq e 1 h)
up_to_lem US.Step.ProtectList e h z = absurd (omega arith)
up_to_lem US.Step.CrcCount e h z = absurd (omega arith)

obeyed_goes : (k : Command) → Holds (Goes (behind US.Step.Idle) (up_to US.Step.Idle)) (UC.obeyed k)
unfolding UC.obeyed
obeyed_goes GetCommands = record { holds = tt }
obeyed_goes GetVersion = record { holds = tt }
obeyed_goes GetDeviceId = record { holds = tt }
obeyed_goes ReadMemory = record { holds = tt }
obeyed_goes Jump = record { holds = tt }
obeyed_goes WriteMemory = record { holds = tt }
obeyed_goes Erase = record { holds = tt }
obeyed_goes ProgramProtect = record { holds = tt }
obeyed_goes ProgramUnprotect = record { holds = tt }
obeyed_goes AccessProtect = record { holds = tt }
obeyed_goes AccessUnprotect = record { holds = tt }
obeyed_goes FirmwareCrc = record { holds = tt }
obeyed_goes ResetDevice = record { holds = tt }
obeyed_goes Speed = record { holds = tt }

commanded_goes : (view : View) (k : Option Command) → Holds (Goes (behind US.Step.Idle) (up_to US.Step.Idle)) (UC.commanded view k)
unfolding UC.commanded
commanded_goes view (Some k) = unless_either (Goes (behind US.Step.Idle) (up_to US.Step.Idle)) view k (refusal (behind US.Step.Idle) (up_to US.Step.Idle)) (obeyed_goes k)
commanded_goes view None = refusal (behind US.Step.Idle) (up_to US.Step.Idle) _

-- a byte X - 1 announces at most 256 bytes and their checksum
awaits_goes : (s : US.Step) (at : ℕ) → T (not (eqb (step_no s) 0)) → behind (step_of (step_no s)) ≡ 0 → T (ltb 0 at && eqb (before (step_of (step_no s))) at)
    → (bytes : List ℕ) → get_or bytes 0 0 < 256 → Holds (Goes 257 at) (UC.awaits s bytes)
awaits_goes s at k z w bytes h =
    record {
      holds = rw (z, lt-ltb 0 (get_or bytes 0 0 + 1 + 1) (omega arith), le-leb (get_or bytes 0 0 + 1 + 1 + 0) 257 (omega arith))
          (with_true (not (eqb (step_no s) 0)) (ltb 0 at && eqb (before (step_of (step_no s))) at) k w);
    }
  where
    with_true : (t u : Bool) → T t → T u → T (t && true && true && u)
    with_true true u h k = k
    with_true false u h k = absurd h

-- a selector announces at most 32 sector numbers and their checksum
selected_goes : (m : ℕ) → Holds (Goes (behind US.Step.EraseSelector) (up_to US.Step.EraseSelector)) (UC.selected (selector_of m))
unfolding UC.selected selector_of
selected_goes m = by_tests (leb 0xFFFB m) (leb (m + 1) 32) refl
  where
    by_tests : (t u : Bool) → leb (m + 1) 32 ≡ u
        → Holds (Goes (behind US.Step.EraseSelector) (up_to US.Step.EraseSelector)) (UC.selected (if t then Special m else if u then Listed (less_one m) else Impossible))
    by_tests true u e = record { holds = tt }
    by_tests false true e =
        let h = leb-true (m + 1) 32 e in
        record { holds = rw (lt-ltb 0 (2 * (m + 1) + 1) (omega arith), le-leb (2 * (m + 1) + 1 + 0) 65 (omega arith)) tt }
    by_tests false false e = refusal (behind US.Step.EraseSelector) (up_to US.Step.EraseSelector) _

-- a step whose bytes are all there; where it is one byte, that is below 256
complete_goes : (s : US.Step) (e a : ℕ) (bytes : List ℕ) (view : View) → T (expects s e) → (T (eqb e 1) → get_or bytes 0 0 < 256)
    → Holds (Goes (behind s) (up_to s)) (UC.complete s e a bytes view)
unfolding UC.complete
complete_goes US.Step.Idle e a bytes view x h = either (Goes (behind US.Step.Idle) (up_to US.Step.Idle)) _ (commanded_goes view _) (refusal (behind US.Step.Idle) (up_to US.Step.Idle) _)
complete_goes US.Step.ReadAddress e a bytes view x h = addressed_goes (behind US.Step.ReadAddress) (up_to US.Step.ReadAddress) _ (kept_goes (behind US.Step.ReadAddress) (up_to US.Step.ReadAddress) _ _ _ tt) bytes
complete_goes US.Step.JumpAddress e a bytes view x h = addressed_goes (behind US.Step.JumpAddress) (up_to US.Step.JumpAddress) _ (λ z. jumping_made (Goes (behind US.Step.JumpAddress) (up_to US.Step.JumpAddress)) (refusal (behind US.Step.JumpAddress) (up_to US.Step.JumpAddress)) z (record { holds = tt })) bytes
complete_goes US.Step.WriteAddress e a bytes view x h = addressed_goes (behind US.Step.WriteAddress) (up_to US.Step.WriteAddress) _ (kept_goes (behind US.Step.WriteAddress) (up_to US.Step.WriteAddress) _ _ _ tt) bytes
complete_goes US.Step.CrcAddress e a bytes view x h = addressed_goes (behind US.Step.CrcAddress) (up_to US.Step.CrcAddress) _ (kept_goes (behind US.Step.CrcAddress) (up_to US.Step.CrcAddress) _ _ _ tt) bytes
complete_goes US.Step.ReadLength e a bytes view x h = either (Goes (behind US.Step.ReadLength) (up_to US.Step.ReadLength)) _ (reading_made (Goes (behind US.Step.ReadLength) (up_to US.Step.ReadLength)) (refusal (behind US.Step.ReadLength) (up_to US.Step.ReadLength)) _ _ (λ r at e. record { holds = tt })) (refusal (behind US.Step.ReadLength) (up_to US.Step.ReadLength) _)
complete_goes US.Step.WriteLength e a bytes view x h = awaits_goes US.Step.WriteData (up_to US.Step.WriteLength) tt refl tt bytes (h x)
complete_goes US.Step.WriteData e a bytes view x h =
    either (Goes (behind US.Step.WriteData) (up_to US.Step.WriteData)) _ (writing_made (Goes (behind US.Step.WriteData) (up_to US.Step.WriteData)) (refusal (behind US.Step.WriteData) (up_to US.Step.WriteData)) view _ _ (λ r at e. written_goes (behind US.Step.WriteData) (up_to US.Step.WriteData) r at _)) (refusal (behind US.Step.WriteData) (up_to US.Step.WriteData) _)
complete_goes US.Step.EraseSelector e a bytes view x h = selected_goes _
complete_goes US.Step.SpecialCheck e a bytes view x h = either (Goes (behind US.Step.SpecialCheck) (up_to US.Step.SpecialCheck)) _ (judged_either (Goes (behind US.Step.SpecialCheck) (up_to US.Step.SpecialCheck)) _ (refusal (behind US.Step.SpecialCheck) (up_to US.Step.SpecialCheck)) (record { holds = tt })) (refusal (behind US.Step.SpecialCheck) (up_to US.Step.SpecialCheck) _)
complete_goes US.Step.EraseList e a bytes view x h =
    either (Goes (behind US.Step.EraseList) (up_to US.Step.EraseList)) _ (erasing_made (Goes (behind US.Step.EraseList) (up_to US.Step.EraseList)) (refusal (behind US.Step.EraseList) (up_to US.Step.EraseList)) view bytes _ (λ t. record { holds = tt })) (refusal (behind US.Step.EraseList) (up_to US.Step.EraseList) _)
complete_goes US.Step.ProtectLength e a bytes view x h = awaits_goes US.Step.ProtectList (up_to US.Step.ProtectLength) tt refl tt bytes (h x)
complete_goes US.Step.ProtectList e a bytes view x h =
    either (Goes (behind US.Step.ProtectList) (up_to US.Step.ProtectList)) _ (protecting_made (Goes (behind US.Step.ProtectList) (up_to US.Step.ProtectList)) (refusal (behind US.Step.ProtectList) (up_to US.Step.ProtectList)) bytes _ (λ t. record { holds = tt })) (refusal (behind US.Step.ProtectList) (up_to US.Step.ProtectList) _)
complete_goes US.Step.CrcCount e a bytes view x h = either (Goes (behind US.Step.CrcCount) (up_to US.Step.CrcCount)) _ (summing_made (Goes (behind US.Step.CrcCount) (up_to US.Step.CrcCount)) (refusal (behind US.Step.CrcCount) (up_to US.Step.CrcCount)) _ _ (λ at e. record { holds = tt })) (refusal (behind US.Step.CrcCount) (up_to US.Step.CrcCount) _)

-- ---- the session after a byte

-- how many bytes of its command have come to a session on UART
abbrev pub wires : Session → ℕ
wires s = before (step_of s.step) + s.taken

-- what becomes of a session that a byte comes to: the command is over and answered, or goes on with one byte more, and with some left, fewer than before
abbrev Comes : Session → Session → Reply → Type 0
Comes s next r =
    (T (is_over next) × T (speaks r)) ⊎ (T (not (is_over next)) × (0 < bytes_left next) × (bytes_left next < bytes_left s) × (wires next ≡ wires s + 1))

-- the last byte of a step has come
record Last (s : Session) : Type 0 where
  below : s.taken < s.expected
  whole : s.expected ≤ s.taken + 1
  firm : T (expects (step_of s.step) s.expected)

-- a step is entered on UART
step_comes : (s : Session) → Last s → (step e a : ℕ) (r : Reply) → T (is_step (behind (step_of s.step)) (up_to (step_of s.step)) step e)
    → Comes s (entered Uart step e a s) r
step_comes s l step e a r h =
    let at = up_to (step_of s.step) in
    let (k, z, m, w) = four (not (eqb step 0)) (ltb 0 e) (leb (e + behind (step_of step)) (behind (step_of s.step))) (ltb 0 at && eqb (before (step_of step)) at) h in
    let i = ltb→lt 0 at (both_left (ltb 0 at) (eqb (before (step_of step)) at) w) in
    let j = eqb→eq (before (step_of step)) at (both_right (ltb 0 at) (eqb (before (step_of step)) at) w) in
    inr (
      another (eqb step 0) k,
      omega (arith, ltb→lt 0 e z),
      omega (arith, leb→le (e + behind (step_of step)) (behind (step_of s.step)) m, l.below),
      omega (arith, j, up_to_lem (step_of s.step) s.expected l.firm i, l.below, l.whole),
    )
  where
    another : (t : Bool) → T (not t) → T (not (t && true))
    another true h = absurd h
    another false h = tt

-- a test beside one that fails
alone : (t : Bool) → T (t || false) → T t
alone true h = tt
alone false h = h

-- a decision at the end of a step
end_comes : (s held : Session) → Last s → (next : Next) (r : Reply)
    → T ((finishes next && speaks r) || enters (behind (step_of s.step)) (up_to (step_of s.step)) next) → Comes s (after Uart held next s) r
unfolding after
end_comes s held l Stay r h = absurd h
end_comes s held l Reset r h = inl (tt, alone (speaks r) h)
end_comes s held l Gather r h = absurd h
end_comes s held l GoIdle r h = inl (tt, alone (speaks r) h)
end_comes s held l (SetSpeed v) r h = inl (tt, alone (speaks r) h)
end_comes s held l (Enter step e) r h = step_comes s l step e s.address r h
end_comes s held l (EnterAt step e a) r h = step_comes s l step e a r h
end_comes s held l (Run a) r h = inl (tt, alone (speaks r) h)

-- a byte is gathered
gather_comes : (s : Session) (b : ℕ) (r : Reply) → T (on Uart s) → s.taken + 1 < s.expected → Comes s (gathered (b ∷ []) s) r
gather_comes s b r o l =
    let k : length (take (s.expected - s.taken) (b ∷ [])) ≡ 1 = ap length (take_all (s.expected - s.taken) (b ∷ []) (omega arith)) in
    inr (rw (k, holds_true (on Uart s) o, ne_eqb (s.taken + 1) 0 (omega arith)) (none (eqb s.step 0)), rw k (omega arith), rw k (omega arith), rw k (omega arith))
  where
    none : (t : Bool) → T (not (t && false))
    none true = tt
    none false = tt

-- ---- a byte that is accepted

-- the one byte of a step of one
first_below : (m : List ℕ) (b : ℕ) → b < 256 → get_or (put m 0 (b ∷ [])) 0 0 < 256
first_below [] b h = lit< tt
first_below (x ∷ m) b h = h

module _ (s : Session) (t : T (sound s)) (o : T (on Uart s)) (view : View) (b : ℕ) (small : b < 256) where
  -- what a decision makes of the session
  abbrev Makes : Decision → Type 0
  Makes d = Comes s (after Uart (gathered (b ∷ []) s) d.next s) d.reply

  only_byte : T (eqb s.expected 1) → get_or (staged_with (progress s) (b ∷ [])) 0 0 < 256
  only_byte x =
      let e : s.expected ≡ 1 = eqb→eq s.expected 1 x in
      let z : s.taken ≡ 0 = omega (arith, sound_taken s t) in
      subst (λ (m : List ℕ). get_or m 0 0 < 256) (sym (ap₂ (λ (n e : ℕ). put s.staged n (take (e - n) (b ∷ []))) z e))
      (first_below s.staged b small)

  end_makes : {d : Decision} → s.expected ≤ s.taken + 1 → Holds (Goes (behind (step_of s.step)) (up_to (step_of s.step))) d → Holds Makes d
  end_makes {d} w h = record {
    holds = end_comes s (gathered (b ∷ []) s) (record { below = sound_taken s t; whole = w; firm = uart_expects s t o }) d.next d.reply h.holds;
  }

  byte_makes : Holds Makes (decide_byte s view b)
  unfolding decide_byte connected UC.heard after
  byte_makes =
      split Makes (on Uart s)
      (λ u. split Makes (short (progress s) (b ∷ []))
      (λ m. record { holds = gather_comes s b (Fixed Silence) o (ltb→lt (s.taken + 1) s.expected m) })
      (λ m. end_makes (nltb→le (s.taken + 1) s.expected m)
      (complete_goes (step_of s.step) s.expected s.address (staged_with (progress s) (b ∷ [])) view (uart_expects s t o) only_byte)))
      (λ u. absurd (T_not (on Uart s) u o))

-- a reply that says something has a byte
some_bytes : (room b : ℕ) (s : Session) (r : Reply) (m : Memories) → T (speaks r) → 0 < length (sent (Byte room b) s (says UC.command_bytes r m))
unfolding sent says
some_bytes room b s (Fixed Silence) m h = absurd h
some_bytes room b s (Fixed Ack) m h = lit< tt
some_bytes room b s (Fixed AckAck) m h = lit< tt
some_bytes room b s (Fixed (Nack w)) m h = lit< tt
some_bytes room b s (Fixed (AckNack w)) m h = lit< tt
some_bytes room b s (Fixed Commands) m h = lit< tt
some_bytes room b s (Fixed Version) m h = lit< tt
some_bytes room b s (Fixed DeviceId) m h = lit< tt
some_bytes room b s (Data r at x) m h = zero-lt-suc _
some_bytes room b s (Crc at n) m h = zero-lt-suc _

-- what comes of it: the command is over and has its answer, or goes on with some bytes, fewer than before
abbrev Brings : Session → Outcome → Type 0
Brings s r =
    (T (is_over r.state.session) × (0 < length r.reply))
    ⊎ (T (not (is_over r.state.session)) × (0 < bytes_left r.state.session) × (bytes_left r.state.session < bytes_left s)
    × (wires r.state.session ≡ wires s + 1))

pub call_brings : (room b : ℕ) (p : State) → T (is_byte b) → T (accepts (cause_for (Byte room b) p)) → T (on Uart p.session)
    → Brings p.session (call (Byte room b) p)
unfolding call perform decide
call_brings room b p small t o = by_test (accepts (cause_for (Byte room b) p)) t
  where
    by_test : (c : Bool) → T c
        → Brings p.session (if c then perform (Byte room b) p (decide (Byte room b) p.session (view_in p)) else refused (cause_for (Byte room b) p) p)
    by_test true k =
        ⊎_elim (λ (v, w). inl (v, some_bytes room b p.session _ p.memories w)) inr
        (byte_makes p.session (accepted_sound (Byte room b) p tt t) o (view_in p) b (ltb→lt b 256 small)).holds
    by_test false k = absurd k

-- ---- all bytes of a command

-- a command that is not over is on UART
pub still : (u v : Bool) → T (not (not u || v)) → T u
still true v h = tt
still false v h = absurd h

few_from : (room : ℕ) (bs : List ℕ) (p : State) → T (on Uart p.session) → 0 < bytes_left p.session → T (goes_on room bs p)
    → length bs < bytes_left p.session
unfolding goes_on
few_from room [] p o l h = l
few_from room (b ∷ bs) p o l h =
    let (small, t, n, k) = four (is_byte b) (accepts (cause_for (Byte room b) p)) (not (is_over (session_after room b p))) (goes_on room bs (call (Byte room b) p).state) h in
    ⊎_elim (λ (v, w). absurd (T_not (is_over (session_after room b p)) n v))
    (λ (v, w, x, u). let y = few_from room bs (call (Byte room b) p).state (still (on Uart (session_after room b p)) (between (session_after room b p)) n) w k in omega arith)
    (call_brings room b p small t o)

-- between two commands 265 bytes are left, or the session is unsound and takes none
few : (room : ℕ) (bs : List ℕ) (p : State) → T (between p.session) → T (goes_on room bs p) → length bs < 265
unfolding goes_on
few room [] p w h = lit< tt
few room (b ∷ bs) p w h =
    let s = p.session in
    let (small, t, n, k) = four (is_byte b) (accepts (cause_for (Byte room b) p)) (not (is_over (session_after room b p))) (goes_on room bs (call (Byte room b) p).state) h in
    let u : T (on Uart s && eqb s.step 0) = both_left (on Uart s && eqb s.step 0) (eqb s.taken 0) w in
    let o : T (on Uart s) = both_left (on Uart s) (eqb s.step 0) u in
    let e : s.step ≡ 0 = eqb→eq s.step 0 (both_right (on Uart s) (eqb s.step 0) u) in
    let z : s.taken ≡ 0 = eqb→eq s.taken 0 (both_right (on Uart s && eqb s.step 0) (eqb s.taken 0) w) in
    let x : s.expected ≡ 2 = eqb→eq s.expected 2 (expects_at s (accepted_sound (Byte room b) p tt t) 0 o e) in
    let l : bytes_left s ≡ 265 = ap₂ (λ (m n : ℕ). m - n + behind (step_of s.step)) x z ∙ ap (λ (n : ℕ). 2 - 0 + behind (step_of n)) e in
    let k = few_from room (b ∷ bs) p o (omega arith) h in
    omega arith

-- a write of 256 bytes, by computing
longest : T (goes_on UC.uart_room longest_write (run (Byte UC.uart_room 0x7F ∷ []) fresh_board))
unfolding goes_on BK.run BK.call BK.perform BK.sent BK.decide BK.cause_for BC.cause_of BD.connected BD.decide_byte BS.after BS.sound UC.obeyed UC.commanded UC.addressed UC.kept_if UC.complete UC.heard S.says Q.unless_protected D.if◌gives◌else◌ E.effect W.view_of R.regions R.place_of
longest = tt

pub no_longer_command : NoLongerCommand
no_longer_command = record {
  lowers = λ room b p small t o. ⊎_elim (λ (v, w). inl v) (λ (v, w, x, u). inr (w, x)) (call_brings room b p small t o);
  answered = λ room b p small t o e. ⊎_elim (λ (v, w). w) (λ (v, w, x, u). absurd (T_not (is_over (session_after room b p)) v e)) (call_brings room b p small t o);
  few = few;
  longest = longest;
}
