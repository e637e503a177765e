-- An obeyed Access Unprotect is exactly 0x92 to an idle session, on UART with its complement behind it: no other step decides a change that unlocks, no
-- other command does, and this one is never hindered. What a sound session expects says that the complement is the second byte.
use mathlib.Core.Path.{◌≡◌, refl, sym, ap, ap₂, ◌∙◌, subst}
use mathlib.Core.Bool.{Bool, true, false, ◌&&◌}
use mathlib.Core.List.{List, [], ◌∷◌}
use Prim.Native.Nat.{ℕ, ◌-◌, ◌<◌}
use native.Mathlib.Omega.{arith}
use lib.Dec.{T, T_not, eqb, eqb→eq, lit<}
use lib.ListN.{length, get_or, take}
use Rattle.std.specs.Prelude.{if◌then◌else◌, Some}
use Rattle.words.specs.Bytes.{complement}
use Rattle.words.specs.Over.{newer, put}
use Rattle.words.proofs.Over.{length_over, over_within, over_before}
use Rattle.words.proofs.Tests.{both_left, both_right}
use Rattle.board.specs.declared.View.{View}
use Rattle.command.specs.Commands.{uart_commands, can_commands, look_up}
use Rattle.command.specs.Decision.{if◌gives◌else◌}
use Rattle.command.specs.Progress.{Progress, staged_with, short, fitting}
use Rattle.command.specs.declared.Command.TheVariants.{AccessUnprotect}
use Rattle.command.specs.declared.Decision.{Decision}
use Rattle.command.specs.declared.Next.{Next}
use Rattle.command.specs.declared.Next.TheVariants.{Stay, Reset, Gather, GoIdle, SetSpeed, Enter, EnterAt, Run}
use Rattle.rules.specs.Rules.{unless_protected}
use Rattle.uart.specs.Steps as U
use Rattle.uart.specs.Conversation as UC
use Rattle.uart.specs.declared.Step as US
use Rattle.can.specs.Conversation as CC
use Rattle.can.specs.declared.Step as CS
use Rattle.frames.specs.Frames.{Frame, frame_in, carried}
use Rattle.carriers.specs.declared.Carrier.{Carrier}
use Rattle.carriers.specs.declared.Carrier.TheVariants.{Uart}
use Rattle.boot.specs.Session.{on, sound, progress, gathered, after}
use Rattle.boot.specs.Causes.{accepts}
use Rattle.boot.specs.Calls.{State, powered, Input, Power, Byte, Framed, brings, carrier_of, view_in, cause_for, decide, perform, refused, call, done, run}
use Rattle.boot.specs.declared.Session.{Session}
use Rattle.command.proofs.Holds.{Holds, split}
use Rattle.theorems.specs.Secrecy.{in_can, unlocks, opens, is_unprotect, Exactly, OpensExactly}
use Rattle.theorems.proofs.InStep.{four, byte_at, frame_at, expects_at, last_taken, is_call, accepted_sound, done_by}
use Rattle.theorems.proofs.Made.{Parts, Sole, Second, decide_made, last_step, under_idle}

-- two tests that hold together are the same
same_test : (a b : Bool) → (T a → T b) → (T b → T a) → a ≡ b
same_test true true f g = refl
same_test true false f g = absurd (f tt)
same_test false true f g = absurd (g tt)
same_test false false f g = refl

-- ---- what unlocks is 0x92 to an idle session

-- a decision unlocks only where something holds
abbrev Only : Type 0 → Decision → Type 0
Only C d = T (unlocks d.change) → C

module _ (C : Type 0) where
  parts : Parts (Only C)
  parts = record {
    told = λ h. record { holds = λ o. absurd o };
    written = λ r at x. record { holds = λ o. absurd o };
    erased = λ x. record { holds = λ o. absurd o };
    cleared = record { holds = λ o. absurd o };
    cleared_on_can = record { holds = λ o. absurd o };
    protected = λ x. record { holds = λ o. absurd o };
    released = record { holds = λ o. absurd o };
    locked = record { holds = λ o. absurd o };
  }

  sole : {u r c e : Type 0} → (u → C) → Sole (Only C) u r c e
  sole f = record {
    unlocked = λ k. record { holds = λ o. f k };
    read = λ k r at x. record { holds = λ o. absurd o };
    summed = λ k at n. record { holds = λ o. absurd o };
    halved = λ k w. record { holds = λ o. absurd o };
  }

-- ---- and 0x92 to an idle session unlocks

-- a decision unlocks
abbrev Opens : Decision → Type 0
Opens d = T (unlocks d.change)

-- Access Unprotect is not protected
unhindered : (t : Bool) → T (t && false) → ⊥
unhindered true h = h
unhindered false h = h

uart_obeys : (view : View) → Holds Opens (UC.commanded view (Some AccessUnprotect))
unfolding UC.commanded UC.obeyed unless_protected
uart_obeys view = split Opens (view.locked && false) (λ h. absurd (unhindered view.locked h)) (λ h. record { holds = tt })

can_obeys : (view : View) (d : List ℕ) → Holds Opens (CC.commanded view d (Some AccessUnprotect))
unfolding CC.commanded CC.obeyed unless_protected
can_obeys view d =
    split Opens true
    (λ k. split Opens (view.locked && false) (λ h. absurd (unhindered view.locked h)) (λ h. record { holds = tt }))
    (λ k. absurd k)

byte_unlocks : (p : Progress) (view : View) (b : ℕ) → Second US.Step.Idle p b 0x92 → Holds Opens (UC.heard US.Step.Idle p view b)
unfolding UC.heard UC.complete
byte_unlocks p view b k =
    split Opens (short p (b ∷ [])) (λ h. absurd (T_not (short p (b ∷ [])) k.last.long h)) λ h.
    split Opens (UC.complemented (staged_with p (b ∷ [])))
    (λ c. subst (λ (n : ℕ). Holds Opens (UC.commanded view (look_up uart_commands n))) (sym k.command) (uart_obeys view))
    (λ c. absurd (T_not (UC.complemented (staged_with p (b ∷ []))) c k.complemented))

frame_unlocks : (p : Progress) (view : View) (f : Frame) → f.id ≡ 0x92 → Holds Opens (CC.heard CS.Step.Idle p view f)
unfolding CC.heard CC.decided
frame_unlocks p view f e =
    subst (λ (n : ℕ). Holds Opens (CC.commanded view (carried f) (look_up can_commands n))) (sym e) (can_obeys view (carried f))

-- what is staged with the second of two bytes
module _ (s : Session) (b : ℕ) (l : length s.staged ≡ 257) (one : s.taken ≡ 1) (two : s.expected ≡ 2) where
  staged : staged_with (progress s) (b ∷ []) ≡ put s.staged 1 (b ∷ [])
  staged = ap₂ (λ (n e : ℕ). put s.staged n (take (e - n) (b ∷ []))) one two

  byte0 : get_or (staged_with (progress s) (b ∷ [])) 0 0 ≡ get_or s.staged 0 0
  byte0 = ap (λ (m : List ℕ). get_or m 0 0) staged ∙ over_before newer s.staged 1 (b ∷ []) 0 (lit< tt)

  byte1 : get_or (staged_with (progress s) (b ∷ [])) 1 0 ≡ b
  byte1 = ap (λ (m : List ℕ). get_or m 1 0) staged ∙ over_within newer s.staged 1 (b ∷ []) 0 (lit< tt) (omega arith)

-- ---- one input to a sound session

module _ (s : Session) (t : T (sound s)) (view : View) where
  module _ (room b : ℕ) (l : length s.staged ≡ 257) where
    abbrev bytes : List ℕ
    bytes = staged_with (progress s) (b ∷ [])

    byte_opens : T (unlocks (decide (Byte room b) s view).change) → T (is_unprotect (Byte room b) s)
    byte_opens = (decide_made (Only Asked) (parts Asked) (Byte room b) s view (λ o. sole Asked (test o))).holds
      where
        Asked : Type 0
        Asked = T (is_unprotect (Byte room b) s)

        test : T (on Uart s) → Second (U.step_of s.step) (progress s) b 0x92 → Asked
        test o k =
            let e : s.step ≡ 0 = last_step s t b 0 o k.last in
            let w : s.expected ≡ 2 = eqb→eq s.expected 2 (expects_at s t 0 o e) in
            let n : s.taken ≡ 1 = omega (arith, last_taken s t b k.last.long) in
            let f : get_or s.staged 0 0 ≡ 0x92 = sym (byte0 s b l n w) ∙ k.command in
            let c : get_or bytes 1 0 ≡ complement (get_or bytes 0 0) = eqb→eq (get_or bytes 1 0) (complement (get_or bytes 0 0)) k.complemented in
            let g : b ≡ 0x6D = sym (byte1 s b l n w) ∙ c ∙ ap complement k.command in
            rw (eqb→eq s.carrier 1 o, e, n, f, g) tt

    byte_opened : T (is_unprotect (Byte room b) s) → T (unlocks (decide (Byte room b) s view).change)
    byte_opened h =
        let first = on Uart s && eqb s.step 0 && eqb s.taken 1 && eqb (get_or s.staged 0 0) 0x92 in
        let (o, i, k, c) = four (on Uart s) (eqb s.step 0) (eqb s.taken 1) (eqb (get_or s.staged 0 0) 0x92) (both_left first (eqb b 0x6D) h) in
        let d = both_right first (eqb b 0x6D) h in
        let e : s.step ≡ 0 = eqb→eq s.step 0 i in
        let w : s.expected ≡ 2 = eqb→eq s.expected 2 (expects_at s t 0 o e) in
        let n : s.taken ≡ 1 = eqb→eq s.taken 1 k in
        let f : get_or bytes 0 0 ≡ 0x92 = byte0 s b l n w ∙ eqb→eq (get_or s.staged 0 0) 0x92 c in
        let g : get_or bytes 1 0 ≡ 0x6D = byte1 s b l n w ∙ eqb→eq b 0x6D d in
        (byte_at Opens s view 0 room b (rw (eqb→eq s.carrier 1 o, e) tt)
        (byte_unlocks (progress s) view b (record {
          last = record { step = refl; long = rw (n, w) tt };
          complemented = rw (g, f) tt;
          command = f;
        }))).holds

  module _ (room : ℕ) (frame : List ℕ) where
    frame_opens : T (unlocks (decide (Framed room frame) s view).change) → T (is_unprotect (Framed room frame) s)
    frame_opens = (decide_made (Only Asked) (parts Asked) (Framed room frame) s view (λ o. sole Asked (under_idle s t frame 0x92 o))).holds
      where
        Asked : Type 0
        Asked = T (is_unprotect (Framed room frame) s)

    frame_opened : T (is_unprotect (Framed room frame) s) → T (unlocks (decide (Framed room frame) s view).change)
    frame_opened h =
        let c : (frame_in frame).id ≡ 0x92 = eqb→eq (frame_in frame).id 0x92 (both_right (in_can CS.Step.Idle s) (eqb (frame_in frame).id 0x92) h) in
        (frame_at Opens s view 0 room frame (both_left (in_can CS.Step.Idle s) (eqb (frame_in frame).id 0x92) h)
        (frame_unlocks (progress s) view (frame_in frame) c)).holds

-- ---- one call

opens_anywhere : (i : Input) (p : State) → length p.session.staged ≡ 257 → Exactly i p
unfolding opens done if◌gives◌else◌ decide
opens_anywhere i p l = by_test (accepts (cause_for i p)) (λ c t. accepted_sound i p c t)
  where
    decided : (i : Input) → (T (is_call i) → T (sound p.session)) → unlocks (decide i p.session (view_in p)).change ≡ is_unprotect i p.session
    decided Power f = refl
    decided (Byte room b) f =
        same_test _ _ (byte_opens p.session (f tt) (view_in p) room b l) (byte_opened p.session (f tt) (view_in p) room b l)
    decided (Framed room m) f =
        same_test _ _ (frame_opens p.session (f tt) (view_in p) room m) (frame_opened p.session (f tt) (view_in p) room m)

    by_test : (t : Bool) → (T (is_call i) → T t → T (sound p.session))
        → unlocks (done_by t (decide i p.session (view_in p))).change ≡ (t && is_unprotect i p.session)
    by_test true f = decided i (λ c. f c tt)
    by_test false f = refl

-- ---- after a run every session still has its staged bytes

after_staged : (c : Carrier) (held : Session) (n : Next) (s : Session) → length held.staged ≡ 257 → length s.staged ≡ 257
    → length (after c held n s).staged ≡ 257
unfolding after
after_staged c held Stay s h l = l
after_staged c held Reset s h l = refl
after_staged c held Gather s h l = h
after_staged c held GoIdle s h l = refl
after_staged c held (SetSpeed v) s h l = refl
after_staged c held (Enter step e) s h l = refl
after_staged c held (EnterAt step e a) s h l = refl
after_staged c held (Run a) s h l = refl

pub call_staged : (i : Input) (p : State) → length p.session.staged ≡ 257 → length (call i p).state.session.staged ≡ 257
unfolding call perform
call_staged i p l = by_test (accepts (cause_for i p)) (decide i p.session (view_in p))
  where
    by_test : (t : Bool) (d : Decision) → length (if t then perform i p d else refused (cause_for i p) p).state.session.staged ≡ 257
    by_test true d =
        after_staged (carrier_of i) (gathered (brings i) p.session) d.next p.session
        (length_over newer p.session.staged p.session.taken (fitting (progress p.session) (brings i)) ∙ l) l
    by_test false d = l

run_staged : (is : List Input) (p : State) → length p.session.staged ≡ 257 → length (run is p).session.staged ≡ 257
unfolding run
run_staged [] p l = l
run_staged (i ∷ is) p l = run_staged is (call i p).state (call_staged i p l)

pub opens_exactly : OpensExactly
opens_exactly = record {
  anywhere = opens_anywhere;
  after = λ m is i. opens_anywhere i (run is (powered m)) (run_staged is (powered m) refl);
}
