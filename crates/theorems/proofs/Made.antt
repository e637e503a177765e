-- Every decision is an answer, which changes nothing, or one of the changes that the rules make: what holds of these holds of every decision. What only
-- one command is answered or does comes only at the end of that command.
use mathlib.Core.Path.{◌≡◌, refl, sym, ◌∙◌}
use mathlib.Core.Bool.{Bool, true, false, not, ◌&&◌}
use mathlib.Core.List.{List, [], ◌∷◌}
use Prim.Native.Nat.{ℕ}
use lib.Dec.{T, eqb, eqb→eq, eqb_refl}
use lib.ListN.{get_or}
use Rattle.std.specs.Prelude.{if◌then◌else◌, Option, Some, None, Ok, Err}
use Rattle.board.specs.declared.Address.{Address}
use Rattle.board.specs.declared.Region.{Region}
use Rattle.board.specs.declared.View.{View}
use Rattle.memories.specs.declared.Change.TheVariants.{Write, EraseAll, EraseSectors, ProtectOnly}
use Rattle.command.specs.Commands.{code, uart_commands, can_commands, look_up}
use Rattle.command.specs.Decision.{Verdict, if◌gives◌else◌, answer, alter, show, nack}
use Rattle.command.specs.Progress.{Progress, staged_with, short}
use Rattle.command.specs.declared.Command.{Command}
use Rattle.command.specs.declared.Command.TheVariants.{GetCommands, GetVersion, GetDeviceId, ReadMemory, Jump, WriteMemory, Erase, ProgramProtect}
use Rattle.command.specs.declared.Command.TheVariants.{ProgramUnprotect, AccessProtect, AccessUnprotect, FirmwareCrc, ResetDevice, Speed}
use Rattle.command.specs.declared.Decision.{Decision}
use Rattle.command.specs.declared.Next.{Next}
use Rattle.command.specs.declared.Next.TheVariants.{GoIdle, Reset}
use Rattle.command.specs.declared.Reply.TheVariants.{Data, Crc}
use Rattle.command.specs.declared.FixedReply.{FixedReply}
use Rattle.command.specs.declared.FixedReply.TheVariants.{Silence, Ack, AckAck, Nack, AckNack, Commands, Version, DeviceId}
use Rattle.command.specs.declared.Why.{Why}
use Rattle.rules.specs.Rules.{after_write, writing, erasing, protecting, releasing, locking, unlocking, jumping}
use Rattle.rules.specs.declared.Selector.{Selector}
use Rattle.rules.specs.declared.Selector.TheVariants.{Listed, Special, Impossible}
use Rattle.uart.specs.Steps as U
use Rattle.uart.specs.Conversation as UC
use Rattle.uart.specs.declared.Step as US
use Rattle.can.specs.Steps as C
use Rattle.can.specs.Conversation as CC
use Rattle.frames.specs.Frames.{Frame, frame_in}
use Rattle.can.specs.declared.Step as CS
use Rattle.boot.specs.Session.{on, sound, progress}
use Rattle.boot.specs.Decide.{connected, decide_byte, decide_frame}
use Rattle.boot.specs.Calls.{Input, Power, Byte, Framed, decide}
use Rattle.carriers.specs.declared.Carrier.{Carrier}
use Rattle.carriers.specs.declared.Carrier.TheVariants.{Uart, Can}
use Rattle.boot.specs.declared.Session.{Session}
use Rattle.command.proofs.Holds.{Holds, either, split, judged_either}
use Rattle.rules.proofs.Made.{reading_made, writing_made, erasing_made, protecting_made, jumping_made, summing_made}
use Rattle.rules.proofs.Unless.{unless_either}
use Rattle.theorems.proofs.InStep.{uart_step, can_step}

-- what several commands are told
abbrev pub common : FixedReply → Bool
common Silence = true
common Ack = true
common AckAck = true
common (Nack w) = true
common (AckNack w) = false
common Commands = true
common Version = true
common DeviceId = true

-- what has to be shown of such answers and of each change, Access Unprotect apart
pub record Parts (P : Decision → Type 0) : Type 0 where
  pub told : {t : FixedReply} {n : Next} → T (common t) → Holds P (answer t n)
  pub written : (r : Region) (at x : ℕ) → Holds P (alter Ack (Write r at x) (after_write r))
  pub erased : (x : ℕ) → Holds P (alter Ack (EraseSectors x) GoIdle)
  pub cleared : Holds P (alter Ack EraseAll GoIdle)
  pub cleared_on_can : Holds P (alter AckAck EraseAll GoIdle)
  pub protected : (x : ℕ) → Holds P (alter Ack (ProtectOnly x) Reset)
  pub released : Holds P releasing
  pub locked : Holds P locking

-- and of what only Access Unprotect does, and only Read Memory, Firmware CRC and a special erase are answered, each where that command ends
pub record Sole (P : Decision → Type 0) (unprotects reads sums erases : Type 0) : Type 0 where
  pub unlocked : unprotects → Holds P unlocking
  pub read : reads → (r : Region) (at x : ℕ) → Holds P (show (Data r at x) GoIdle)
  pub summed : sums → (at n : ℕ) → Holds P (show (Crc at n) GoIdle)
  pub halved : erases → (w : Why) → Holds P (answer (AckNack w) GoIdle)

-- a byte is the last that a step of this number expects
pub record Last (s : US.Step) (p : Progress) (b k : ℕ) : Type 0 where
  pub step : U.step_no s ≡ k
  pub long : T (not (short p (b ∷ [])))

-- a byte is the second to an idle step, and with the first it is this command and its complement
pub record Second (s : US.Step) (p : Progress) (b n : ℕ) : Type 0 where
  pub last : Last s p b 0
  pub complemented : T (UC.complemented (staged_with p (b ∷ [])))
  pub command : get_or (staged_with p (b ∷ [])) 0 0 ≡ n

-- a frame to an idle step is of this ID
pub record Under (s : CS.Step) (f : Frame) (n : ℕ) : Type 0 where
  pub idle : C.step_no s ≡ 0
  pub command : f.id ≡ n

-- where the four commands end: on UART no special erase is answered so
abbrev pub OnUart : (Decision → Type 0) → US.Step → Progress → ℕ → Type 0
OnUart P s p b = Sole P (Second s p b 0x92) (Last s p b 5) (Last s p b 13) ⊥

abbrev pub OnCan : (Decision → Type 0) → CS.Step → Frame → Type 0
OnCan P s f = Sole P (Under s f 0x92) (Under s f 0x11) (Under s f 0xAC) (Under s f 0x44)

-- on an input to a session
abbrev pub OnInput : (Decision → Type 0) → Input → Session → Type 0
OnInput P Power s = Unit {0}
OnInput P (Byte room b) s = T (on Uart s) → OnUart P (U.step_of s.step) (progress s) b
OnInput P (Framed room l) s = T (on Can s) → OnCan P (C.step_of s.step) (frame_in l)

-- ---- a command that is looked up

module _ (P : Decision → Type 0) where
  looked : (go : Option Command → Decision) (n : ℕ) → ((k : Command) → n ≡ code k → Holds P (go (Some k))) → Holds P (go None) → (ks : List Command)
      → Holds P (go (look_up ks n))
  looked go n known unknown [] = unknown
  looked go n known unknown (k ∷ ks) = by_test (eqb n (code k)) (eqb→eq n (code k)) (looked go n known unknown ks)
    where
      by_test : (t : Bool) → (T t → n ≡ code k) → Holds P (go (look_up ks n)) → Holds P (go (if t then Some k else look_up ks n))
      by_test true e h = known k (e tt)
      by_test false e h = h

module _ (P : Decision → Type 0) (b : Parts P) where
  -- a refusal, a choice
  refusal : (w : Why) → Holds P (nack w)
  refusal w = b.told tt

  choice : (t : Bool) {x y : Decision} → Holds P x → Holds P y → Holds P (if t gives x else y)
  choice t = either P t

  -- ---- the rules

  written_made : (view : View) (a : Address) (x : ℕ) → Holds P (writing view a x)
  written_made view a x = writing_made P refusal view a x (λ r at e. b.written r at x)

  erased_made : (view : View) (staged : List ℕ) (x : ℕ) → Holds P (erasing view staged x)
  erased_made view staged x = erasing_made P refusal view staged x (λ t. b.erased x)

  protected_made : (staged : List ℕ) (x : ℕ) → Holds P (protecting staged x)
  protected_made staged x = protecting_made P refusal staged x (λ t. b.protected x)

  jumped_made : (a : Address) → Holds P (jumping a)
  jumped_made a = jumping_made P refusal a (b.told tt)

  -- ---- UART

  uart_obeyed : (k : Command) → (code k ≡ 0x92 → Holds P unlocking) → Holds P (UC.obeyed k)
  unfolding UC.obeyed
  uart_obeyed GetCommands f = b.told tt
  uart_obeyed GetVersion f = b.told tt
  uart_obeyed GetDeviceId f = b.told tt
  uart_obeyed ReadMemory f = b.told tt
  uart_obeyed Jump f = b.told tt
  uart_obeyed WriteMemory f = b.told tt
  uart_obeyed Erase f = b.told tt
  uart_obeyed ProgramProtect f = b.told tt
  uart_obeyed ProgramUnprotect f = b.released
  uart_obeyed AccessProtect f = b.locked
  uart_obeyed AccessUnprotect f = f refl
  uart_obeyed FirmwareCrc f = b.told tt
  uart_obeyed ResetDevice f = b.told tt
  uart_obeyed Speed f = refusal _

  uart_commanded : (view : View) (n : ℕ) → (n ≡ 0x92 → Holds P unlocking) → Holds P (UC.commanded view (look_up uart_commands n))
  unfolding UC.commanded
  uart_commanded view n f =
      looked P (UC.commanded view) n (λ k e. unless_either P view k refusal (uart_obeyed k (λ c. f (e ∙ c)))) (refusal _) uart_commands

  uart_selected : (k : Selector) → Holds P (UC.selected k)
  unfolding UC.selected
  uart_selected (Listed n) = b.told tt
  uart_selected (Special n) = b.told tt
  uart_selected Impossible = refusal _

  uart_addressed : (go : Address → Decision) → ((a : Address) → Holds P (go a)) → (bytes : List ℕ) → Holds P (UC.addressed go bytes)
  unfolding UC.addressed
  uart_addressed go f bytes = choice _ (f _) (refusal _)

  uart_kept : (good : Address → Bool) (s : US.Step) (e : ℕ) (a : Address) → Holds P (UC.kept_if good s e a)
  unfolding UC.kept_if
  uart_kept good s e a = choice _ (b.told tt) (refusal _)

  uart_complete : (s : US.Step) (p : Progress) (view : View) (n : ℕ) → T (not (short p (n ∷ []))) → OnUart P s p n
      → Holds P (UC.complete s p.expected p.address (staged_with p (n ∷ [])) view)
  unfolding UC.complete
  uart_complete US.Step.Idle p view n t f =
      split P _
      (λ c. uart_commanded view _ λ e. f.unlocked (record { last = record { step = refl; long = t }; complemented = c; command = e }))
      (λ c. refusal _)
  uart_complete US.Step.ReadAddress p view n t f = uart_addressed _ (uart_kept _ _ _) _
  uart_complete US.Step.JumpAddress p view n t f = uart_addressed _ jumped_made _
  uart_complete US.Step.WriteAddress p view n t f = uart_addressed _ (uart_kept _ _ _) _
  uart_complete US.Step.CrcAddress p view n t f = uart_addressed _ (uart_kept _ _ _) _
  uart_complete US.Step.ReadLength p view n t f =
      choice _ (reading_made P refusal _ _ (λ r at e. f.read (record { step = refl; long = t }) r at _)) (refusal _)
  uart_complete US.Step.WriteLength p view n t f = b.told tt
  uart_complete US.Step.WriteData p view n t f = choice _ (written_made view _ _) (refusal _)
  uart_complete US.Step.EraseSelector p view n t f = uart_selected _
  uart_complete US.Step.SpecialCheck p view n t f = choice _ (judged_either P _ refusal b.cleared) (refusal _)
  uart_complete US.Step.EraseList p view n t f = choice _ (erased_made view _ _) (refusal _)
  uart_complete US.Step.ProtectLength p view n t f = b.told tt
  uart_complete US.Step.ProtectList p view n t f = choice _ (protected_made _ _) (refusal _)
  uart_complete US.Step.CrcCount p view n t f =
      choice _ (summing_made P refusal _ _ (λ at e. f.summed (record { step = refl; long = t }) at _)) (refusal _)

  uart_heard : (s : US.Step) (p : Progress) (view : View) (n : ℕ) → OnUart P s p n → Holds P (UC.heard s p view n)
  unfolding UC.heard
  uart_heard s p view n f = split P _ (λ t. b.told tt) (λ t. uart_complete s p view n t f)

  -- ---- CAN

  can_special : (v : Verdict) → ((w : Why) → Holds P (answer (AckNack w) GoIdle)) → Holds P (CC.erased_or_not v)
  unfolding CC.erased_or_not
  can_special (Ok u) f = b.cleared_on_can
  can_special (Err w) f = f w

  can_selected : (view : View) (k : Selector) → ((w : Why) → Holds P (answer (AckNack w) GoIdle)) → Holds P (CC.selected view k)
  unfolding CC.selected
  can_selected view (Listed n) f = b.told tt
  can_selected view (Special n) f = can_special _ f
  can_selected view Impossible f = refusal _

  module _ (view : View) (d : List ℕ) (g : Frame) (f : OnCan P CS.Step.Idle g) where
    can_obeyed : (k : Command) → g.id ≡ code k → Holds P (CC.obeyed view d k)
    unfolding CC.obeyed
    can_obeyed GetCommands e = b.told tt
    can_obeyed GetVersion e = b.told tt
    can_obeyed GetDeviceId e = b.told tt
    can_obeyed ReadMemory e = reading_made P refusal _ _ (λ r at q. f.read (record { idle = refl; command = e }) r at _)
    can_obeyed Jump e = jumped_made _
    can_obeyed WriteMemory e = judged_either P _ refusal (b.told tt)
    can_obeyed Erase e = can_selected view _ (f.halved (record { idle = refl; command = e }))
    can_obeyed ProgramProtect e = b.told tt
    can_obeyed ProgramUnprotect e = b.released
    can_obeyed AccessProtect e = b.locked
    can_obeyed AccessUnprotect e = f.unlocked (record { idle = refl; command = e })
    can_obeyed FirmwareCrc e = summing_made P refusal _ _ (λ at q. f.summed (record { idle = refl; command = e }) at _)
    can_obeyed ResetDevice e = b.told tt
    can_obeyed Speed e = choice _ (b.told tt) (refusal _)

    can_commanded : Holds P (CC.commanded view d (look_up can_commands g.id))
    unfolding CC.commanded
    can_commanded =
        looked P (CC.commanded view d) g.id (λ k e. choice _ (unless_either P view k refusal (can_obeyed k e)) (refusal _)) (refusal _) can_commands

  can_gathering : (c : Command) (p : Progress) (f : Frame) {d : Decision} → Holds P d → Holds P (CC.gathering c p f d)
  unfolding CC.gathering
  can_gathering c p f h = choice _ (refusal _) (choice _ (b.told tt) h)

  can_unless : (p : Progress) (f : Frame) {d : Decision} → Holds P d → Holds P (CC.unless_extra p f d)
  unfolding CC.unless_extra
  can_unless p f h = choice _ (refusal _) h

  can_heard : (s : CS.Step) (p : Progress) (view : View) (g : Frame) → OnCan P s g → Holds P (CC.heard s p view g)
  unfolding CC.heard CC.decided
  can_heard CS.Step.Idle p view g f = can_commanded view _ g f
  can_heard CS.Step.WriteData p view g f = can_gathering _ _ _ (written_made view _ _)
  can_heard CS.Step.EraseList p view g f = can_gathering _ _ _ (can_unless _ _ (erased_made view _ _))
  can_heard CS.Step.ProtectList p view g f = can_gathering _ _ _ (can_unless _ _ (protected_made _ _))

  -- ---- any input

  connected_made : (c : Carrier) (s : Session) (calls : Bool) {d : Decision} → (T (on c s) → Holds P d) → Holds P (connected c s calls d)
  unfolding connected
  connected_made c s calls f = split P _ f (λ n. choice _ (b.told tt) (b.told tt))

  pub decide_made : (i : Input) (s : Session) (view : View) → OnInput P i s → Holds P (decide i s view)
  unfolding decide decide_byte decide_frame
  decide_made Power s view f = b.told tt
  decide_made (Byte room n) s view f = connected_made _ s _ (λ o. uart_heard _ (progress s) view n (f o))
  decide_made (Framed room l) s view f = connected_made _ s _ (λ o. can_heard _ (progress s) view (frame_in l) (f o))

-- ---- where a command ends, of a sound session

module _ (s : Session) (t : T (sound s)) where
  -- on UART its step
  pub last_step : (b k : ℕ) → T (on Uart s) → Last (U.step_of s.step) (progress s) b k → s.step ≡ k
  last_step b k o l = sym (uart_step s t o) ∙ l.step

  -- on CAN it is idle
  pub under_idle : (l : List ℕ) (n : ℕ) → T (on Can s) → Under (C.step_of s.step) (frame_in l) n
      → T (on Can s && eqb s.step 0 && eqb (frame_in l).id n)
  under_idle l n o k = rw (eqb→eq s.carrier 2 o, sym (can_step s t o) ∙ k.idle, k.command) (eqb_refl n)
