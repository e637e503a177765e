-- An accepted call leaves a sound session, by what each decision may make of it, and memories of their lengths, which no change alters.
use mathlib.Core.Path.{◌≡◌, refl, sym, ◌∙◌}
use mathlib.Core.Bool.{true, ◌&&◌}
use mathlib.Core.List.{List, [], ◌∷◌}
use Prim.Native.Nat.{ℕ, zero, suc, ◌+◌, ◌-◌, ◌<◌}
use native.Mathlib.Omega.{arith}
use lib.Dec.{T, eqb, leb, ltb, ltb→lt, eqb→eq}
use lib.ListN.{length, drop, get_or}
use lib.Seq.{take_all}
use Rattle.words.specs.Over.{put}
use Rattle.words.proofs.Bytes.{still_byte}
use Rattle.words.proofs.Tests.{both_left, both_right, holds_true}
use Rattle.memories.specs.Memories.{proper}
use Rattle.memories.specs.Effects.{effect}
use Rattle.memories.proofs.Lengths.{effect_proper}
use Rattle.command.specs.Progress.{staged_with, short}
use Rattle.command.specs.declared.Next.{Next}
use Rattle.command.specs.declared.Next.TheVariants.{Stay, Reset, Gather, GoIdle, SetSpeed, Enter, EnterAt, Run}
use Rattle.rules.proofs.Good.{FirmNext}
use Rattle.uart.specs.Conversation.{uart_room}
use Rattle.can.specs.Conversation.{can_room}
use Rattle.frames.specs.Frames.{classic, is_frame, frame_in, carried}
use Rattle.boot.specs.Session.{sound, progress, entered, at_speed, gathered, after}
use Rattle.carriers.specs.Carriers.{carrier_no, step_sound}
use Rattle.boot.specs.Causes.{accepts}
use Rattle.boot.specs.Calls.{State, Input, Byte, Framed, view_in, cause_for, decide, perform, call, carrier_of, brings}
use Rattle.boot.specs.Firm.{Firm, AreBytes, LeavesFirm}
use Rattle.carriers.specs.declared.Carrier.{Carrier}
use Rattle.carriers.specs.declared.Carrier.TheVariants.{None, Uart, Can, Running}
use Rattle.boot.specs.declared.Session.{Session}
use Rattle.boot.proofs.Sound.{sound_taken, sound_speed}
use Rattle.boot.proofs.Good.{byte_good, frame_good}
use Rattle.boot.proofs.Causes.{call_cause, accepted_clear}
use Rattle.boot.proofs.Silent.{gathered_sound}

-- ---- the session that follows

-- a step that may be entered, and expects something, is sound at a speed that there is
entered_sound : (c : Carrier) (step e a : ℕ) (s : Session) → T (leb s.speed 3) → T (step_sound (carrier_no c) step e && ltb 0 e)
    → T (sound (entered c step e a s))
unfolding sound
entered_sound c step e a s v h =
    rw (
      small c,
      holds_true (leb s.speed 3) v,
      holds_true (step_sound (carrier_no c) step e) (both_left (step_sound (carrier_no c) step e) (ltb 0 e) h),
      holds_true (ltb 0 e) (both_right (step_sound (carrier_no c) step e) (ltb 0 e) h),
    ) tt
  where
    small : (c : Carrier) → leb (carrier_no c) 3 ≡ true
    small None = refl
    small Uart = refl
    small Can = refl
    small Running = refl

-- idle on any carrier
idle_sound : (c : Carrier) (s : Session) → T (leb s.speed 3) → T (sound (after c s GoIdle s))
unfolding after
idle_sound None s v = entered_sound None 0 1 0 s v tt
idle_sound Uart s v = entered_sound Uart 0 2 0 s v tt
idle_sound Can s v = entered_sound Can 0 1 0 s v tt
idle_sound Running s v = entered_sound Running 0 1 0 s v tt

-- whatever a decision may make of a sound session
after_sound : (c : Carrier) (new : List ℕ) (s : Session) → T (sound s) → {enters : ℕ → ℕ → Type 0}
    → ((step e : ℕ) → enters step e → T (step_sound (carrier_no c) step e && ltb 0 e))
    → (n : Next) → FirmNext enters (short (progress s) new) n → T (sound (after c (gathered new s) n s))
unfolding after sound
after_sound c new s t f Stay h = t
after_sound c new s t f Reset h = tt
after_sound c new s t f Gather h = gathered_sound new s t (ltb→lt (s.taken + length new) s.expected h)
after_sound c new s t f GoIdle h = idle_sound c s (sound_speed s t)
after_sound c new s t f (SetSpeed v) h = idle_sound c (at_speed v s) h
after_sound c new s t f (Enter step e) h = entered_sound c step e s.address s (sound_speed s t) (f step e h)
after_sound c new s t f (EnterAt step e a) h = entered_sound c step e a s (sound_speed s t) (f step e h)
after_sound c new s t f (Run a) h = tt

-- ---- the calls

-- what an accepted call leaves, where its decision leaves a sound session
accepted_firm : (i : Input) (p : State) → accepts (call i p).cause ≡ true → T (proper p.memories)
    → T (sound (after (carrier_of i) (gathered (brings i) p.session) (decide i p.session (view_in p)).next p.session)) → Firm (call i p).state
unfolding call perform
accepted_firm i p e m s =
    rw (sym (call_cause i p) ∙ e)
    (record { session = s; lengths = effect_proper (staged_with (progress p.session) (brings i)) p.memories m (decide i p.session (view_in p)).change })

-- where a step is one byte, that byte is the first one staged, if there is room for any
first_staged : (s : Session) (b : ℕ) → T (sound s) → b < 256 → T (eqb s.expected 1) → get_or (staged_with (progress s) (b ∷ [])) 0 0 < 256
first_staged s b t h e =
    let z = sound_taken s t in
    let one = eqb→eq s.expected 1 e in
    let none : s.taken ≡ 0 = omega arith in
    rw (take_all (s.expected - s.taken) (b ∷ []) (omega arith), none) (by_room s.staged)
  where
    by_room : (l : List ℕ) → get_or (put l 0 (b ∷ [])) 0 0 < 256
    by_room [] = omega arith
    by_room (x ∷ l) = h

-- a byte
byte_firm : (room b : ℕ) (p : State) → b < 256 → accepts (call (Byte room b) p).cause ≡ true → Firm (call (Byte room b) p).state
unfolding cause_for decide
byte_firm room b p h e =
    let s = p.session in
    let k = accepted_clear (proper p.memories) (leb uart_room room) true s (sym (call_cause (Byte room b) p) ∙ e) in
    let g = (byte_good s (view_in p) b k.firm (first_staged s b k.firm h)).holds in
    accepted_firm (Byte room b) p e k.lengths (after_sound Uart (b ∷ []) s k.firm (λ step e t. t) _ g.firm)

-- a list of bytes without its first ones is still one of bytes
bytes_behind : (n : ℕ) (l : List ℕ) → AreBytes l → AreBytes (drop n l)
bytes_behind zero l h = h
bytes_behind (suc n) [] h = h
bytes_behind (suc n) (x ∷ l) h = bytes_behind n l (λ i. h (suc i))

-- a frame
frame_firm : (room : ℕ) (l : List ℕ) (p : State) → AreBytes l → accepts (call (Framed room l) p).cause ≡ true → Firm (call (Framed room l) p).state
unfolding cause_for decide
frame_firm room l p h e =
    let s = p.session in
    let k = accepted_clear (proper p.memories) (leb can_room room) (is_frame classic l) s (sym (call_cause (Framed room l) p) ∙ e) in
    let d : AreBytes (carried (frame_in l)) = still_byte (frame_in l).dlc (drop 3 l) (bytes_behind 3 l h) in
    let g = (frame_good s (view_in p) (frame_in l) k.firm (d 4)).holds in
    accepted_firm (Framed room l) p e k.lengths (after_sound Can (carried (frame_in l)) s k.firm (λ step e t. t (d 0)) _ g.firm)

-- all three
pub leaves_firm : LeavesFirm
unfolding call cause_for decide perform after sound effect
leaves_firm = record { power = λ p. (tt, refl); byte = byte_firm; frame = frame_firm }
