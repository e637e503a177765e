-- What it says of a session that it is in a step of a carrier: it is on no other carrier, and its step is that one.
use mathlib.Core.Path.{◌≡◌, sym, ◌∙◌, subst}
use mathlib.Core.Bool.{Bool, true, false, not, ◌&&◌, ◌||◌, or_comm}
use mathlib.Core.List.{List, [], ◌∷◌, map}
use Prim.Native.Nat.{ℕ, zero, suc, ◌+◌, ◌<◌}
use native.Mathlib.Nat.{le_of_suc-le-suc, not-suc-le-zero}
use native.Mathlib.Omega.{arith}
use lib.Dec.{T, not_T, T_not, eqb, leb, ltb, eqb→eq, ltb→lt, nltb→le}
use lib.ListN.{length, get_or}
use Rattle.std.specs.Prelude.{if◌then◌else◌, Ok, Err}
use Rattle.words.specs.Lists.{count_from}
use Rattle.words.proofs.Tests.{both_left, both_right, holds_true}
use Rattle.board.specs.declared.View.{View}
use Rattle.memories.specs.Memories.{proper}
use Rattle.command.specs.Decision.{if◌gives◌else◌, answer}
use Rattle.command.specs.Progress.{short}
use Rattle.command.specs.declared.Decision.{Decision}
use Rattle.command.specs.declared.Next.TheVariants.{Stay, GoIdle}
use Rattle.command.specs.declared.FixedReply.TheVariants.{Silence, Ack}
use Rattle.uart.specs.Steps as U
use Rattle.uart.specs.Conversation as UC
use Rattle.uart.specs.declared.Step as US
use Rattle.uart.proofs.Steps as UP
use Rattle.can.specs.Steps as C
use Rattle.can.specs.Conversation as CC
use Rattle.can.specs.declared.Step as CS
use Rattle.can.proofs.Steps as CP
use Rattle.frames.specs.Frames.{classic, is_frame, frame_in}
use Rattle.boot.specs.Session.{on, sound, progress}
use Rattle.carriers.specs.Carriers.{carrier_no, step_sound}
use Rattle.boot.specs.Decide.{connected, decide_byte, decide_frame}
use Rattle.boot.specs.Causes.{cause_of, accepts}
use Rattle.boot.specs.Calls.{State, Input, Power, Byte, Framed, cause_for, decide}
use Rattle.carriers.specs.declared.Carrier.{Carrier}
use Rattle.carriers.specs.declared.Carrier.TheVariants.{None, Uart, Can}
use Rattle.boot.specs.Causes.{Judged}
use Rattle.boot.specs.declared.Cause.TheVariants.{WrongMemory}
use Rattle.boot.specs.declared.Session.{Session}
use Rattle.boot.proofs.Causes.{accepted_clear}
use Rattle.boot.proofs.Sound.{sound_taken, sound_step, uart_expects}
use Rattle.command.proofs.Holds.{Holds, split}

-- four tests that hold together
pub four : (a b c d : Bool) → T (a && b && c && d) → T a × T b × T c × T d
four a b c d h =
    let three : T (a && b && c) = both_left (a && b && c) d h in
    let two : T (a && b) = both_left (a && b) c three in
    (both_left a b two, both_right a b two, both_right (a && b) c three, both_right (a && b && c) d h)

-- a session is on one carrier
pub one_carrier : (c k : Carrier) (s : Session) → (carrier_no c ≡ carrier_no k → ⊥) → T (on c s) → T (on k s) → ⊥
one_carrier c k s n o q = n (sym (eqb→eq s.carrier (carrier_no c) o) ∙ eqb→eq s.carrier (carrier_no k) q)

-- of a step on UART or a step on CAN, a session on one carrier is in that carrier's
pub step_on : (c k : Carrier) (s : Session) (m n : ℕ) → (carrier_no k ≡ carrier_no c → ⊥)
    → T ((on c s && eqb s.step m) || (on k s && eqb s.step n)) → T (on c s) → s.step ≡ m
step_on c k s m n d h o = by_tests (on c s) (eqb s.step m) (eqb→eq s.step m) (on k s) (λ q. one_carrier k c s d q o) h
  where
    by_tests : (t u : Bool) → (T u → s.step ≡ m) → (v : Bool) → (T v → ⊥) → T ((t && u) || (v && eqb s.step n)) → s.step ≡ m
    by_tests true true f v g h = f tt
    by_tests true false f true g h = absurd (g tt)
    by_tests true false f false g h = absurd h
    by_tests false u f true g h = absurd (g tt)
    by_tests false u f false g h = absurd h

-- a session in a step on UART or on CAN is connected
pub not_unconnected : (s : Session) (m n : ℕ) → T ((on Uart s && eqb s.step m) || (on Can s && eqb s.step n)) → T (on None s) → ⊥
not_unconnected s m n h q =
    by_tests (on Uart s) (λ o. one_carrier Uart None s (λ e. omega arith) o q) (on Can s) (λ o. one_carrier Can None s (λ e. omega arith) o q) h
  where
    by_tests : (t : Bool) → (T t → ⊥) → (u : Bool) → (T u → ⊥) → T ((t && eqb s.step m) || (u && eqb s.step n)) → ⊥
    by_tests true f u g h = f tt
    by_tests false f true g h = g tt
    by_tests false f false g h = h

-- what is decided on an input of a carrier: what the carrier hears, a connection, or nothing
pub connected_holds : (P : Decision → Type 0) (c : Carrier) (s : Session) (calls : Bool) {d : Decision} → (T (on c s) → Holds P d)
    → (T (on None s) → Holds P (answer Ack GoIdle)) → Holds P (answer Silence Stay) → Holds P (connected c s calls d)
unfolding connected
connected_holds P c s calls f g h =
    split P (on c s) f (λ n. split P (on None s && calls) (λ q. g (both_left (on None s) calls q)) (λ q. h))

-- ---- what is decided in a step of one carrier or the other

module _ (s : Session) (view : View) (m n : ℕ) (h : T ((on Uart s && eqb s.step m) || (on Can s && eqb s.step n))) where
  -- on a byte: what the step on UART hears, or nothing
  pub byte_in_lem : (P : Decision → Type 0) (room b : ℕ) → Holds P (answer Silence Stay)
      → (T (on Uart s) → Holds P (UC.heard (U.step_of m) (progress s) view b)) → Holds P (decide (Byte room b) s view)
  unfolding decide decide_byte
  byte_in_lem P room b q f =
      connected_holds P Uart s _ (λ o. rw (step_on Uart Can s m n (λ e. omega arith) h o) (f o))
      (λ o. absurd (not_unconnected s m n h o)) q

  -- on a frame: what the step on CAN hears, or nothing
  pub frame_in_lem : (P : Decision → Type 0) (room : ℕ) (l : List ℕ) → Holds P (answer Silence Stay)
      → (T (not (on Uart s)) → Holds P (CC.heard (C.step_of n) (progress s) view (frame_in l))) → Holds P (decide (Framed room l) s view)
  unfolding decide decide_frame
  frame_in_lem P room l q f =
      connected_holds P Can s _
      (λ o. rw (step_on Can Uart s n m (λ e. omega arith) (rw or_comm at h) o)
      (f (not_T (on Uart s) (λ u. one_carrier Uart Can s (λ e. omega arith) u o))))
      (λ o. absurd (not_unconnected s m n h o)) q

-- what is decided in a step of the input's own carrier is what the step hears
module _ (P : Decision → Type 0) (s : Session) (view : View) (k room : ℕ) where
  pub byte_at : (b : ℕ) → T (on Uart s && eqb s.step k) → Holds P (UC.heard (U.step_of k) (progress s) view b)
      → Holds P (decide (Byte room b) s view)
  unfolding decide decide_byte connected
  byte_at b h heard =
      split P (on Uart s) (λ o. rw (eqb→eq s.step k (both_right (on Uart s) (eqb s.step k) h)) heard)
      (λ n. absurd (T_not (on Uart s) n (both_left (on Uart s) (eqb s.step k) h)))

  pub frame_at : (l : List ℕ) → T (on Can s && eqb s.step k) → Holds P (CC.heard (C.step_of k) (progress s) view (frame_in l))
      → Holds P (decide (Framed room l) s view)
  unfolding decide decide_frame connected
  frame_at l h heard =
      split P (on Can s) (λ o. rw (eqb→eq s.step k (both_right (on Can s) (eqb s.step k) h)) heard)
      (λ n. absurd (T_not (on Can s) n (both_left (on Can s) (eqb s.step k) h)))

-- ---- the step of a sound session

-- of a list that is numbered in its order each element has the number of its place
numbered : {A : Type 0} (number : A → ℕ) (d : A) (l : List A) (k : ℕ) → map number l ≡ count_from k (length l) → (n : ℕ) → n < length l
    → number (get_or l n d) ≡ k + n
numbered number d [] k e n h = absurd (not-suc-le-zero h)
numbered number d (x ∷ l) k e zero h = let f : number x ≡ k = cc in omega arith
numbered number d (x ∷ l) k e (suc n) h =
    let f : map number l ≡ count_from (suc k) (length l) = cc in
    let g : number (get_or l n d) ≡ suc k + n = numbered number d l (suc k) f n (le_of_suc-le-suc h) in omega arith

module _ (s : Session) (t : T (sound s)) where
  -- the step that its number stands for has that number
  pub uart_step : T (on Uart s) → U.step_no (U.step_of s.step) ≡ s.step
  uart_step o =
      numbered U.step_no US.Step.Idle U.steps 0 UP.in_order s.step (ltb→lt s.step 14 (both_left (ltb s.step 14) _ here)) ∙ omega arith
    where
      here : T (ltb s.step 14 && U.expects (U.step_of s.step) s.expected)
      here = subst (λ (c : ℕ). T (step_sound c s.step s.expected)) (eqb→eq s.carrier 1 o) (sound_step s t)

  pub can_step : T (on Can s) → C.step_no (C.step_of s.step) ≡ s.step
  can_step o =
      numbered C.step_no CS.Step.Idle C.steps 0 CP.in_order s.step (ltb→lt s.step 4 (both_left (ltb s.step 4) _ here)) ∙ omega arith
    where
      here : T (ltb s.step 4 && C.expects (C.step_of s.step) s.expected)
      here = subst (λ (c : ℕ). T (step_sound c s.step s.expected)) (eqb→eq s.carrier 2 o) (sound_step s t)

  -- what a step of this number expects
  pub expects_at : (k : ℕ) → T (on Uart s) → s.step ≡ k → T (U.expects (U.step_of k) s.expected)
  expects_at k o e = subst (λ (n : ℕ). T (U.expects (U.step_of n) s.expected)) e (uart_expects s t o)

  -- the last byte that is expected
  pub last_taken : (b : ℕ) → T (not (short (progress s) (b ∷ []))) → s.taken + 1 ≡ s.expected
  last_taken b l = omega (arith, sound_taken s t, nltb→le (s.taken + 1) s.expected l)

-- ---- accepted inputs

-- what is done, by whether a call is accepted and its decision
abbrev pub done_by : Bool → Decision → Decision
done_by t d = if t gives d else answer Silence Stay

-- an input is a byte or a frame, and no power on
abbrev pub is_call : Input → Bool
is_call Power = false
is_call (Byte room b) = true
is_call (Framed room l) = true

first_cause : (t : Bool) (c : Judged) → T (accepts (if not t then Err WrongMemory else c)) → T t
first_cause true c h = tt
first_cause false c h = h

-- an accepted byte or frame finds memories of their proper sizes
pub accepted_proper : (i : Input) (p : State) → T (is_call i) → T (accepts (cause_for i p)) → T (proper p.memories)
unfolding cause_for cause_of
accepted_proper Power p h t = absurd h
accepted_proper (Byte room b) p h t = first_cause (proper p.memories) _ t
accepted_proper (Framed room l) p h t = first_cause (proper p.memories) _ t

-- and a sound session
pub accepted_sound : (i : Input) (p : State) → T (is_call i) → T (accepts (cause_for i p)) → T (sound p.session)
unfolding cause_for
accepted_sound Power p h t = absurd h
accepted_sound (Byte room b) p h t = (accepted_clear (proper p.memories) (leb UC.uart_room room) true p.session (holds_true _ t)).firm
accepted_sound (Framed room l) p h t =
    (accepted_clear (proper p.memories) (leb CC.can_room room) (is_frame classic l) p.session (holds_true _ t)).firm
