-- What a host sees tells what was decided. A CRC value, bytes that are read, and an ACK with a NACK behind it are each the answer to one command alone,
-- and every other reply is known by its bytes; a Firmware CRC is answered with its value or with a NACK.
use mathlib.Core.Path.{◌≡◌, refl, sym, ap, ap₂, ◌∙◌, subst}
use mathlib.Core.Bool.{Bool, true, false, not, ◌&&◌, ◌||◌, and-false, or_comm}
use mathlib.Core.List.{List, [], ◌∷◌}
use Prim.Native.Nat.{ℕ}
use native.Mathlib.Omega.{arith}
use lib.Dec.{T, T_not, eqb, eqb→eq}
use lib.ListN.{take, drop}
use Rattle.std.specs.Prelude.{if◌then◌else◌, Some, Ok, Err}
use Rattle.words.proofs.Tests.{both_left, both_right, holds_true}
use Rattle.board.specs.declared.Address.{Address}
use Rattle.board.specs.declared.View.{View}
use Rattle.memories.specs.Memories.{Memories}
use Rattle.command.specs.Commands.{can_commands, look_up}
use Rattle.command.specs.Decision.{if◌gives◌else◌, answer, nack}
use Rattle.command.specs.Progress.{Progress, short}
use Rattle.command.specs.Says.{says}
use Rattle.command.specs.Why.{no_reason, reason_of}
use Rattle.command.specs.declared.Command.TheVariants.{FirmwareCrc}
use Rattle.command.specs.declared.Decision.{Decision}
use Rattle.command.specs.declared.Next.{Next}
use Rattle.command.specs.declared.Reply.{Reply}
use Rattle.command.specs.declared.Reply.TheVariants.{Fixed, Data, Crc}
use Rattle.command.specs.declared.FixedReply.{FixedReply}
use Rattle.command.specs.declared.FixedReply.TheVariants.{Silence, Ack, AckAck, Nack, AckNack, Commands, Version, DeviceId}
use Rattle.command.specs.declared.Why.{Why}
use Rattle.rules.specs.Rules.{summing}
use Rattle.uart.specs.Conversation as UC
use Rattle.uart.specs.declared.Step as US
use Rattle.can.specs.Conversation as CC
use Rattle.can.specs.declared.Step as CS
use Rattle.frames.specs.Frames.{Frame, frame_in, carried}
use Rattle.carriers.specs.declared.Carrier.TheVariants.{Uart, Can}
use Rattle.boot.specs.Session.{on, sound, progress}
use Rattle.boot.specs.Causes.{cause_no, accepts}
use Rattle.boot.specs.Calls.{State, Input, Power, Byte, Framed, commands_of, view_in, cause_for, decide, sent, perform, refused, call, done}
use Rattle.boot.specs.Causes.{Judged}
use Rattle.boot.specs.declared.Cause.TheVariants.{WrongMemory, ShortReply, BadFrame, UnsoundSession, BoardRunning}
use Rattle.boot.specs.declared.Session.{Session}
use Rattle.command.proofs.First.{is_some}
use Rattle.command.proofs.Holds.{Holds, either, split}
use Rattle.rules.proofs.Made.{summing_made}
use Rattle.rules.proofs.Unless.{unless_either}
use Rattle.theorems.specs.Secrecy.{in_uart, in_can, sums, is_sum, begins_with_ack, StruckExactly}
use Rattle.theorems.specs.Failures.{acks, refuses, is_frame_of, is_one, acked, is_erase, nacked, in_erase_list, in_protect, sent_with, OnTheWire}
use Rattle.theorems.proofs.InStep.{step_on, byte_at, frame_at, expects_at, last_taken, done_by, is_call, accepted_sound}
use Rattle.theorems.proofs.Made.{common, Parts, OnInput, decide_made, last_step, under_idle}

-- ---- number and reply

-- a call's number is 0 exactly if it is accepted
pub number_accepts : (i : Input) (p : State) → eqb (cause_no (call i p).cause) 0 ≡ accepts (cause_for i p)
unfolding call perform
number_accepts i p = by_cause (cause_for i p)
  where
    by_cause : (c : Judged)
        → eqb (cause_no (if accepts c then perform i p (decide i p.session (view_in p)) else refused c p).cause) 0 ≡ accepts c
    by_cause (Ok u) = refl
    by_cause (Err WrongMemory) = refl
    by_cause (Err ShortReply) = refl
    by_cause (Err BadFrame) = refl
    by_cause (Err UnsoundSession) = refl
    by_cause (Err BoardRunning) = refl

-- a refused call replies nothing, an accepted one what it decided
pub replied : (i : Input) (p : State) → (call i p).reply ≡ sent_with p.memories i p
unfolding call done perform if◌gives◌else◌ sent says
replied i p = by_test (accepts (cause_for i p)) (decide i p.session (view_in p))
  where
    silent : (j : Input) → [] ≡ sent j p.session (says (commands_of j) (Fixed Silence) p.memories)
    silent Power = refl
    silent (Byte room b) = refl
    silent (Framed room l) = refl

    by_test : (t : Bool) (d : Decision) → (if t then perform i p d else refused (cause_for i p) p).reply
        ≡ sent i p.session (says (commands_of i) (done_by t d).reply p.memories)
    by_test true d = refl
    by_test false d = silent i

-- ---- replies that only one command is given

-- an input is the last of a read
abbrev is_read : Input → Session → Bool
is_read Power s = false
is_read (Byte room b) s = in_uart US.Step.ReadLength s
is_read (Framed room l) s = in_can CS.Step.Idle s && eqb (frame_in l).id 0x11

-- a reply may be given to an input
abbrev may_be : Input → Session → Reply → Bool
may_be i s (Fixed t) = common t || is_erase i s
may_be i s (Data r at x) = is_read i s
may_be i s (Crc at n) = is_sum i s

module _ (i : Input) (s : Session) where
  abbrev MayBe : Decision → Type 0
  MayBe d = T (may_be i s d.reply)

  parts : Parts MayBe
  parts = record {
    told = told;
    written = λ r at x. record { holds = tt };
    erased = λ x. record { holds = tt };
    cleared = record { holds = tt };
    cleared_on_can = record { holds = tt };
    protected = λ x. record { holds = tt };
    released = record { holds = tt };
    locked = record { holds = tt };
  }
    where
      told : {t : FixedReply} {n : Next} → T (common t) → Holds MayBe (answer t n)
      told {t} h = record { holds = rw (holds_true (common t) h) tt }

-- what is decided may be given, and so what is done
decide_may : (i : Input) (s : Session) (view : View) → (T (is_call i) → T (sound s)) → Holds (MayBe i s) (decide i s view)
decide_may i s view f = decide_made (MayBe i s) (parts i s) i s view (by_input i f)
  where
    by_input : (j : Input) → (T (is_call j) → T (sound s)) → OnInput (MayBe j s) j s
    by_input Power f = tt
    by_input (Byte room b) f = λ o. record {
      unlocked = λ k. record { holds = tt };
      read = λ k r at x. record { holds = rw (eqb→eq s.carrier 1 o, last_step s (f tt) b 5 o k) tt };
      summed = λ k at n.
          let e : s.step ≡ 13 = last_step s (f tt) b 13 o k in
          let w : s.expected ≡ 3 = eqb→eq s.expected 3 (expects_at s (f tt) 13 o e) in
          let c : s.taken ≡ 2 = omega (arith, last_taken s (f tt) b k.long) in
          record { holds = rw (eqb→eq s.carrier 1 o, e, c) tt };
      halved = λ k w. absurd k;
    }
    by_input (Framed room l) f = λ o. record {
      unlocked = λ k. record { holds = tt };
      read = λ k r at x. record { holds = under_idle s (f tt) l 0x11 o k };
      summed = λ k at n. record { holds = under_idle s (f tt) l 0xAC o k };
      halved = λ k w. record { holds = under_idle s (f tt) l 0x44 o k };
    }

done_may : (i : Input) (p : State) → T (may_be i p.session (done i p).reply)
unfolding done if◌gives◌else◌
done_may i p = by_test (accepts (cause_for i p)) (λ c t. accepted_sound i p c t)
  where
    by_test : (t : Bool) → (T (is_call i) → T t → T (sound p.session))
        → T (may_be i p.session (done_by t (decide i p.session (view_in p))).reply)
    by_test true f = (decide_may i p.session (view_in p) (λ c. f c tt)).holds
    by_test false f = tt

-- ---- a Firmware CRC is answered with its value or with a NACK

-- a reply is a CRC value or a NACK
abbrev value_or_nack : Reply → Bool
value_or_nack (Fixed Silence) = false
value_or_nack (Fixed Ack) = false
value_or_nack (Fixed AckAck) = false
value_or_nack (Fixed (Nack w)) = true
value_or_nack (Fixed (AckNack w)) = false
value_or_nack (Fixed Commands) = false
value_or_nack (Fixed Version) = false
value_or_nack (Fixed DeviceId) = false
value_or_nack (Data r at x) = false
value_or_nack (Crc at n) = true

abbrev Sums : Decision → Type 0
Sums d = T (value_or_nack d.reply)

refusal : (w : Why) → Holds Sums (nack w)
refusal w = record { holds = tt }

summing_sums : (a : Address) (x : ℕ) → Holds Sums (summing a x)
summing_sums a x = summing_made Sums refusal a x (λ at e. record { holds = tt })

uart_sums : (p : Progress) (view : View) (b : ℕ) → T (not (short p (b ∷ []))) → Holds Sums (UC.heard US.Step.CrcCount p view b)
unfolding UC.heard UC.complete
uart_sums p view b l =
    split Sums (short p (b ∷ [])) (λ h. absurd (T_not (short p (b ∷ [])) l h)) (λ h. either Sums _ (summing_sums _ _) (refusal _))

can_known : (view : View) (d : List ℕ) → Holds Sums (CC.commanded view d (Some FirmwareCrc))
unfolding CC.commanded CC.obeyed
can_known view d = either Sums _ (unless_either Sums view FirmwareCrc refusal (summing_sums _ _)) (refusal _)

can_sums : (p : Progress) (view : View) (f : Frame) → f.id ≡ 0xAC → Holds Sums (CC.heard CS.Step.Idle p view f)
unfolding CC.heard CC.decided
can_sums p view f e = subst (λ (n : ℕ). Holds Sums (CC.commanded view (carried f) (look_up can_commands n))) (sym e) (can_known view (carried f))

-- its last input is decided so
decide_sums : (i : Input) (s : Session) (view : View) → T (sound s) → T (is_sum i s) → Holds Sums (decide i s view)
decide_sums Power s view t h = absurd h
decide_sums (Byte room b) s view t h =
    let k : T (on Uart s && eqb s.step 13) = both_left (in_uart US.Step.CrcCount s) (eqb s.taken 2) h in
    let e : s.step ≡ 13 = eqb→eq s.step 13 (both_right (on Uart s) (eqb s.step 13) k) in
    let w : s.expected ≡ 3 = eqb→eq s.expected 3 (expects_at s t 13 (both_left (on Uart s) (eqb s.step 13) k) e) in
    let c : s.taken ≡ 2 = eqb→eq s.taken 2 (both_right (in_uart US.Step.CrcCount s) (eqb s.taken 2) h) in
    byte_at Sums s view 13 room b k (uart_sums (progress s) view b (rw (c, w) tt))
decide_sums (Framed room l) s view t h =
    let c : (frame_in l).id ≡ 0xAC = eqb→eq (frame_in l).id 0xAC (both_right (in_can CS.Step.Idle s) (eqb (frame_in l).id 0xAC) h) in
    frame_at Sums s view 0 room l (both_left (in_can CS.Step.Idle s) (eqb (frame_in l).id 0xAC) h) (can_sums (progress s) view (frame_in l) c)

-- ---- by the reply

-- what is sent of a reply
abbrev saying : Input → Session → Reply → Memories → List ℕ
saying i s r m = sent i s (says (commands_of i) r m)

-- a test whose first part fails
never : (a b : Bool) → (T a → ⊥) → (a && b) ≡ false
never true b f = absurd (f tt)
never false b f = refl

-- an ACK at the front of the answer to a Firmware CRC tells that its value follows
sum_seen : (i : Input) (s : Session) (r : Reply) (m : Memories) → T (may_be i s r) → (T (is_sum i s) → T (value_or_nack r))
    → (is_sum i s && begins_with_ack i (saying i s r m)) ≡ sums r
unfolding says sent
sum_seen i s (Fixed Silence) m h f = never (is_sum i s) _ f
sum_seen i s (Fixed Ack) m h f = never (is_sum i s) _ f
sum_seen i s (Fixed AckAck) m h f = never (is_sum i s) _ f
sum_seen Power s (Fixed (Nack w)) m h f = refl
sum_seen (Byte room b) s (Fixed (Nack w)) m h f = and-false (is_sum (Byte room b) s)
sum_seen (Framed room l) s (Fixed (Nack w)) m h f = and-false (is_sum (Framed room l) s)
sum_seen i s (Fixed (AckNack w)) m h f = never (is_sum i s) _ f
sum_seen i s (Fixed Commands) m h f = never (is_sum i s) _ f
sum_seen i s (Fixed Version) m h f = never (is_sum i s) _ f
sum_seen i s (Fixed DeviceId) m h f = never (is_sum i s) _ f
sum_seen i s (Data r at x) m h f = never (is_sum i s) _ f
sum_seen Power s (Crc at n) m h f = absurd h
sum_seen (Byte room b) s (Crc at n) m h f = rw (holds_true (is_sum (Byte room b) s) h) refl
sum_seen (Framed room l) s (Crc at n) m h f = rw (holds_true (is_sum (Framed room l) s) h) refl

-- a frame of one ID is not of another
read_no_erase : (i : Input) (s : Session) → T (is_read i s) → T (is_erase i s) → ⊥
read_no_erase Power s h k = h
read_no_erase (Byte room b) s h k = k
read_no_erase (Framed room l) s h k =
    let x : (frame_in l).id ≡ 0x11 = eqb→eq (frame_in l).id 0x11 (both_right (in_can CS.Step.Idle s) (eqb (frame_in l).id 0x11) h) in
    let y : (frame_in l).id ≡ 0x44 = eqb→eq (frame_in l).id 0x44 (both_right (in_can CS.Step.Idle s) (eqb (frame_in l).id 0x44) k) in omega arith

-- where an input is no erase, a NACK is one byte
lone_nack : (i : Input) (s : Session) (l : List ℕ) → (T (is_erase i s) → ⊥) → nacked i s l ≡ is_one 0x1F i l
lone_nack i s l f =
    by_tests (is_one 0x1F i l) (is_frame_of 0x79 (take 11 l) && is_frame_of 0x1F (drop 11 l)) (is_erase i s) f
  where
    by_tests : (a b c : Bool) → (T c → ⊥) → (a || (b && c)) ≡ a
    by_tests true b c f = refl
    by_tests false true true f = absurd (f tt)
    by_tests false true false f = refl
    by_tests false false c f = refl

-- a reply's bytes tell whether it is a NACK, and where nothing is read whether it is one ACK
record Tells (i : Input) (s : Session) (r : Reply) (l : List ℕ) : Type 0 where
  nack : nacked i s l ≡ refuses r
  ack : (T (is_read i s) → ⊥) → acked i l ≡ acks r

reply_seen : (i : Input) → T (is_call i) → (s : Session) (r : Reply) (m : Memories) → T (may_be i s r) → Tells i s r (saying i s r m)
unfolding says sent
reply_seen Power c s r m h = absurd c
reply_seen (Byte room b) c s (Fixed Silence) m h = record { nack = refl; ack = λ f. refl }
reply_seen (Byte room b) c s (Fixed Ack) m h = record { nack = refl; ack = λ f. refl }
reply_seen (Byte room b) c s (Fixed AckAck) m h = record { nack = refl; ack = λ f. refl }
reply_seen (Byte room b) c s (Fixed (Nack w)) m h = record { nack = refl; ack = λ f. refl }
reply_seen (Byte room b) c s (Fixed (AckNack w)) m h = absurd h
reply_seen (Byte room b) c s (Fixed Commands) m h = record { nack = refl; ack = λ f. refl }
reply_seen (Byte room b) c s (Fixed Version) m h = record { nack = refl; ack = λ f. refl }
reply_seen (Byte room b) c s (Fixed DeviceId) m h = record { nack = refl; ack = λ f. refl }
reply_seen (Byte room b) c s (Data r at x) m h = record {
  nack = lone_nack (Byte room b) s (saying (Byte room b) s (Data r at x) m) (λ k. k);
  ack = λ f. absurd (f h);
}
reply_seen (Byte room b) c s (Crc at n) m h = record { nack = lone_nack (Byte room b) s (saying (Byte room b) s (Crc at n) m) (λ k. k); ack = λ f. refl }
reply_seen (Framed room l) c s (Fixed Silence) m h = record { nack = refl; ack = λ f. refl }
reply_seen (Framed room l) c s (Fixed Ack) m h = record { nack = refl; ack = λ f. refl }
reply_seen (Framed room l) c s (Fixed AckAck) m h = record { nack = refl; ack = λ f. refl }
reply_seen (Framed room l) c s (Fixed (Nack w)) m h = record { nack = refl; ack = λ f. refl }
reply_seen (Framed room l) c s (Fixed (AckNack w)) m h = record { nack = holds_true (is_erase (Framed room l) s) h; ack = λ f. refl }
reply_seen (Framed room l) c s (Fixed Commands) m h = record { nack = refl; ack = λ f. refl }
reply_seen (Framed room l) c s (Fixed Version) m h = record { nack = refl; ack = λ f. refl }
reply_seen (Framed room l) c s (Fixed DeviceId) m h = record { nack = refl; ack = λ f. refl }
reply_seen (Framed room l) c s (Data r at x) m h = record {
  nack = lone_nack (Framed room l) s (saying (Framed room l) s (Data r at x) m) (read_no_erase (Framed room l) s h);
  ack = λ f. absurd (f h);
}
reply_seen (Framed room l) c s (Crc at n) m h = record { nack = refl; ack = λ f. refl }

-- a session inside a list is in no read
not_read : (i : Input) (s : Session) (m n : ℕ) → (m ≡ 5 → ⊥) → (n ≡ 0 → ⊥)
    → T ((on Uart s && eqb s.step m) || (on Can s && eqb s.step n)) → T (is_read i s) → ⊥
not_read Power s m n f g h k = k
not_read (Byte room b) s m n f g h k =
    let e : s.step ≡ m = step_on Uart Can s m n (λ e. omega arith) h (both_left (on Uart s) (eqb s.step 5) k) in
    f (sym e ∙ eqb→eq s.step 5 (both_right (on Uart s) (eqb s.step 5) k))
not_read (Framed room l) s m n f g h k =
    let q : T (on Can s && eqb s.step 0) = both_left (on Can s && eqb s.step 0) (eqb (frame_in l).id 0x11) k in
    let e : s.step ≡ n = step_on Can Uart s n m (λ e. omega arith) (rw or_comm at h) (both_left (on Can s) (eqb s.step 0) q) in
    g (sym e ∙ eqb→eq s.step 0 (both_right (on Can s) (eqb s.step 0) q))

list_not_read : (i : Input) (s : Session) → T (in_erase_list s || in_protect s) → T (is_read i s) → ⊥
list_not_read i s h k =
    by_test (in_erase_list s) (λ e. not_read i s 10 2 (λ z. omega arith) (λ z. omega arith) e k) (in_protect s)
    (λ e. not_read i s 12 3 (λ z. omega arith) (λ z. omega arith) e k) h
  where
    by_test : (a : Bool) → (T a → ⊥) → (b : Bool) → (T b → ⊥) → T (a || b) → ⊥
    by_test true f b g h = f tt
    by_test false f b g h = g h

-- ---- any call

pub struck_exactly : StruckExactly
unfolding done if◌gives◌else◌
struck_exactly i p =
    ap₂ (λ (t : Bool) (l : List ℕ). (t && is_sum i p.session) && begins_with_ack i l) (number_accepts i p) (replied i p)
    ∙ by_test (accepts (cause_for i p)) (λ c t. accepted_sound i p c t) (done_may i p)
  where
    d : Decision
    d = decide i p.session (view_in p)

    call_sums : (i : Input) → T (is_sum i p.session) → T (is_call i)
    call_sums Power h = h
    call_sums (Byte room b) h = tt
    call_sums (Framed room l) h = tt

    by_test : (t : Bool) → (T (is_call i) → T t → T (sound p.session)) → T (may_be i p.session (done_by t d).reply)
        → ((t && is_sum i p.session) && begins_with_ack i (sent i p.session (says (commands_of i) (done_by t d).reply p.memories)))
        ≡ sums (done_by t d).reply
    by_test true f h =
        sum_seen i p.session d.reply p.memories h
        (λ k. (decide_sums i p.session (view_in p) (f (call_sums i k) tt) k).holds)
    by_test false f h = refl

-- a call's reply tells what was done
by_reply : (i : Input) → T (is_call i) → (p : State) → Tells i p.session (done i p).reply (call i p).reply
by_reply i c p = rw (replied i p) (reply_seen i c p.session (done i p).reply p.memories (done_may i p))

call_seen : (i : Input) (p : State) → Tells i p.session (done i p).reply (call i p).reply
unfolding done cause_for decide call perform sent says if◌gives◌else◌
call_seen Power p = record { nack = refl; ack = λ f. refl }
call_seen (Byte room b) p = by_reply (Byte room b) tt p
call_seen (Framed room l) p = by_reply (Framed room l) tt p

-- ---- the reason and the place

-- a reply that refuses has one, and no other
some_reason : (r : Reply) → eqb (reason_of r) no_reason ≡ not (refuses r)
some_reason (Fixed Silence) = refl
some_reason (Fixed Ack) = refl
some_reason (Fixed AckAck) = refl
some_reason (Fixed (Nack w)) = is_some w
some_reason (Fixed (AckNack w)) = is_some w
some_reason (Fixed Commands) = refl
some_reason (Fixed Version) = refl
some_reason (Fixed DeviceId) = refl
some_reason (Data r at x) = refl
some_reason (Crc at n) = refl

-- a call tells the reason of what was decided
pub reasoned : (i : Input) (p : State) → (call i p).reason ≡ reason_of (done i p).reply
unfolding call done perform if◌gives◌else◌
reasoned i p = by_test (accepts (cause_for i p)) (decide i p.session (view_in p))
  where
    by_test : (t : Bool) (d : Decision) → (if t then perform i p d else refused (cause_for i p) p).reason ≡ reason_of (done_by t d).reply
    by_test true d = refl
    by_test false d = refl

-- and no place where it tells no reason
unplaced : (i : Input) (p : State) → T (eqb (call i p).reason no_reason) → (call i p).place ≡ 0
unfolding call perform
unplaced i p = by_test (accepts (cause_for i p)) (decide i p.session (view_in p))
  where
    by_test : (t : Bool) (d : Decision) → T (eqb (if t then perform i p d else refused (cause_for i p) p).reason no_reason)
        → (if t then perform i p d else refused (cause_for i p) p).place ≡ 0
    by_test true d h = rw (holds_true (eqb (reason_of d.reply) no_reason) h) refl
    by_test false d h = refl

pub on_the_wire : OnTheWire
on_the_wire = record {
  refusal = λ i p. (call_seen i p).nack;
  acceptance = λ i p h. (call_seen i p).ack (list_not_read i p.session h);
  reason = told;
  place = λ i p h. unplaced i p (subst T (sym (told i p)) h);
}
  where
    told : (i : Input) (p : State) → eqb (call i p).reason no_reason ≡ not (nacked i p.session (call i p).reply)
    told i p =
        ap (λ (n : ℕ). eqb n no_reason) (reasoned i p) ∙ some_reason (done i p).reply ∙ ap not (sym (call_seen i p).nack)
