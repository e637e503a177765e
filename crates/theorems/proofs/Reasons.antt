-- A call's reason is that of what its carrier's step decides, which is the first; and the bytes of a command are counted as they come, since each step
-- stands behind those of the steps before it.
use mathlib.Core.Path.{◌≡◌, refl, sym, ap, ap₂, subst, ◌∙◌}
use mathlib.Core.Bool.{Bool, true, false, not, ◌&&◌}
use mathlib.Core.List.{List, [], ◌∷◌}
use mathlib.Core.Logic.{⊎_elim}
use Prim.Native.Nat.{ℕ, ◌+◌}
use native.Mathlib.Omega.{arith}
use lib.Dec.{T, T_not, eqb, eqb→eq}
use borrow.Author.Tests.{ltb-false}
use lib.ListN.{length}
use Rattle.std.specs.Prelude.{if◌then◌else◌}
use Rattle.words.proofs.Tests.{both_left, both_right}
use Rattle.command.specs.Decision.{if◌gives◌else◌, answer}
use Rattle.command.specs.Progress.{staged_with, short}
use Rattle.command.specs.Tests.{Test, only_if, first_reason, GivesFirst, IsFirst}
use Rattle.command.specs.Why.{no_reason, reason_of}
use Rattle.command.specs.declared.Decision.{Decision}
use Rattle.command.specs.declared.Next.TheVariants.{Stay, GoIdle}
use Rattle.command.specs.declared.FixedReply.TheVariants.{Silence, Ack}
use Rattle.command.proofs.First.{only_if_first, gives_the_first, unrefused}
use Rattle.uart.specs.Steps as U
use Rattle.uart.specs.Tests as UT
use Rattle.uart.proofs.First as UF
use Rattle.can.specs.Steps as C
use Rattle.can.proofs.First as CF
use Rattle.frames.specs.Frames.{frame_in}
use Rattle.carriers.specs.declared.Carrier.{Carrier}
use Rattle.carriers.specs.declared.Carrier.TheVariants.{None, Uart}
use Rattle.boot.specs.Session.{on, sound, progress, falls_at, placed}
use Rattle.boot.specs.Decide.{unconnected, connected, decide_byte, decide_frame}
use Rattle.boot.specs.Causes.{accepts}
use Rattle.boot.specs.Calls.{State, Input, Power, Byte, Framed, carrier_of, view_in, cause_for, decide, perform, refused, call, done, run}
use Rattle.boot.specs.declared.Session.{Session}
use Rattle.boot.proofs.Sound.{sound_taken}
use Rattle.theorems.specs.Longest.{between, is_over, is_byte, session_after, goes_on}
use Rattle.theorems.specs.Reasons.{heard_tests, call_tests, come, ReasonsAndPlaces}
use Rattle.theorems.proofs.InStep.{four, accepted_sound}
use Rattle.theorems.proofs.Longest.{wires, call_brings, still}
use Rattle.theorems.proofs.Wire.{reasoned}

-- ---- the reason

-- a decision that is made only where a test holds, and else is without a reason
only_where : (b : Bool) (ts : List Test) {d : Decision} (x : Decision) → GivesFirst d ts → reason_of x.reply ≡ no_reason
    → GivesFirst (if b gives d else x) (only_if b ts)
unfolding if◌gives◌else◌
only_where true ts x g e = record { first = g.first ∙ sym (only_if_first true ts) }
only_where false ts x g e = record { first = e ∙ sym (only_if_first false ts) }

-- a session that is not connected gives none
unconnected_none : (s : Session) (calls : Bool) → reason_of (unconnected s calls).reply ≡ no_reason
unfolding if◌gives◌else◌
unconnected_none s calls = by_test (on None s && calls)
  where
    by_test : (t : Bool) → reason_of (if t gives answer Ack GoIdle else answer Silence Stay).reply ≡ no_reason
    by_test true = refl
    by_test false = refl

decided_first : (i : Input) (p : State) → GivesFirst (decide i p.session (view_in p)) (heard_tests i p)
unfolding decide decide_byte decide_frame connected
decided_first Power p = unrefused refl
decided_first (Byte room b) p =
    only_where (on Uart p.session) _ _ ((UF.first_reasons).first (U.step_of p.session.step) (progress p.session) (view_in p) b)
    (unconnected_none p.session _)
decided_first (Framed room l) p =
    only_where _ _ _ ((CF.first_reasons).first (C.step_of p.session.step) (progress p.session) (view_in p) (frame_in l))
    (unconnected_none p.session _)

done_first : (i : Input) (p : State) → GivesFirst (done i p) (call_tests i p)
unfolding done
done_first i p = only_where (accepts (cause_for i p)) (heard_tests i p) (answer Silence Stay) (decided_first i p) refl

-- tests of which none refuses, under two conditions
none_under : (ts : List Test) → first_reason ts ≡ no_reason → (t u : Bool) → first_reason (only_if t (only_if u ts)) ≡ no_reason
none_under ts z true true = only_if_first true (only_if true ts) ∙ only_if_first true ts ∙ z
none_under ts z true false = only_if_first true (only_if false ts) ∙ only_if_first false ts
none_under ts z false u = only_if_first false (only_if u ts)

-- a byte that does not end its step gives none
awaited_none : (room b : ℕ) (p : State) → short (progress p.session) (b ∷ []) ≡ true → (call (Byte room b) p).reason ≡ no_reason
awaited_none room b p e =
    let s = p.session in
    let complete = UT.complete_tests (U.step_of s.step) s.expected s.address (staged_with (progress s) (b ∷ [])) (view_in p) in
    reasoned (Byte room b) p ∙ (done_first (Byte room b) p).first
    ∙ none_under (only_if (not (short (progress s) (b ∷ []))) complete)
    (only_if_first (not (short (progress s) (b ∷ []))) complete ∙ ap (λ (t : Bool). if not t then first_reason complete else no_reason) e)
    (accepts (cause_for (Byte room b) p)) (on Uart s)

-- ---- the place

-- a call's NACK falls where its carrier's sessions have it
place_falls : (i : Input) (p : State) → (call i p).place ≡ placed (call i p).reason (falls_at (carrier_of i) p.session)
unfolding call perform
place_falls i p = by_test (accepts (cause_for i p)) (decide i p.session (view_in p))
  where
    by_test : (t : Bool) (d : Decision) → (if t then perform i p d else refused (cause_for i p) p).place
        ≡ placed (if t then perform i p d else refused (cause_for i p) p).reason (falls_at (carrier_of i) p.session)
    by_test true d = refl
    by_test false d = refl

-- a refused call has none
refused_none : (i : Input) (p : State) → accepts (cause_for i p) ≡ false → (call i p).reason ≡ no_reason
unfolding call
refused_none i p e = rw e refl

-- the last byte of a step is one more than those that have come
last_falls : (s : Session) → T (sound s) → short (progress s) (0 ∷ []) ≡ false → falls_at Uart s ≡ wires s + 1
unfolding falls_at
last_falls s t e = omega (arith, sound_taken s t, ltb-false (s.taken + 1) s.expected e)

one_counted : (room b : ℕ) (p : State) → (call (Byte room b) p).place ≡ placed (call (Byte room b) p).reason (wires p.session + 1)
one_counted room b p = by_tests (accepts (cause_for (Byte room b) p)) (short (progress p.session) (b ∷ [])) refl refl
  where
    i : Input
    i = Byte room b

    -- without a reason there is no place
    without : (call i p).reason ≡ no_reason → (call i p).place ≡ placed (call i p).reason (wires p.session + 1)
    without z =
        place_falls i p ∙ ap (λ (n : ℕ). placed n (falls_at Uart p.session)) z ∙ sym (ap (λ (n : ℕ). placed n (wires p.session + 1)) z)

    by_tests : (t u : Bool) → accepts (cause_for i p) ≡ t → short (progress p.session) (b ∷ []) ≡ u
        → (call i p).place ≡ placed (call i p).reason (wires p.session + 1)
    by_tests true true k e = without (awaited_none room b p e)
    by_tests true false k e =
        place_falls i p ∙ ap (placed (call i p).reason) (last_falls p.session (accepted_sound i p tt (subst T (sym k) tt)) e)
    by_tests false u k e = without (refused_none i p k)

-- byte by byte, from any place in a command
counted_from_lem : (room : ℕ) (bs : List ℕ) (b : ℕ) (p : State) → T (on Uart p.session) → T (goes_on room bs p)
    → (call (Byte room b) (come room bs p)).place ≡ placed (call (Byte room b) (come room bs p)).reason (wires p.session + length bs + 1)
unfolding goes_on run
counted_from_lem room [] b p o h = one_counted room b p ∙ ap (placed (call (Byte room b) p).reason) (omega arith)
counted_from_lem room (c ∷ bs) b p o h =
    let q = (call (Byte room c) p).state in
    let (small, t, n, k) = four (is_byte c) (accepts (cause_for (Byte room c) p)) (not (is_over (session_after room c p))) (goes_on room bs q) h in
    ⊎_elim (λ (v, w). absurd (T_not (is_over (session_after room c p)) n v))
    (λ (v, w, x, u). counted_from_lem room bs b q (still (on Uart (session_after room c p)) (between (session_after room c p)) n) k
    ∙ ap (placed (call (Byte room b) (come room bs q)).reason) (omega arith))
    (call_brings room c p small t o)

-- from the first byte on
counted : (room : ℕ) (bs : List ℕ) (b : ℕ) (p : State) → T (between p.session) → T (goes_on room bs p)
    → (call (Byte room b) (come room bs p)).place ≡ placed (call (Byte room b) (come room bs p)).reason (length bs + 1)
counted room bs b p w h =
    let s = p.session in
    let u : T (on Uart s && eqb s.step 0) = both_left (on Uart s && eqb s.step 0) (eqb s.taken 0) w in
    let e : s.step ≡ 0 = eqb→eq s.step 0 (both_right (on Uart s) (eqb s.step 0) u) in
    let z : s.taken ≡ 0 = eqb→eq s.taken 0 (both_right (on Uart s && eqb s.step 0) (eqb s.taken 0) w) in
    let k : wires s ≡ 0 = ap₂ (λ (m n : ℕ). U.before (U.step_of m) + n) e z in
    counted_from_lem room bs b p (both_left (on Uart s) (eqb s.step 0) u) h
    ∙ ap (placed (call (Byte room b) (come room bs p)).reason) (omega arith)

gathered : (room : ℕ) (l : List ℕ) (p : State) → (call (Framed room l) p).place ≡ placed (call (Framed room l) p).reason p.session.taken
unfolding falls_at
gathered room l p = place_falls (Framed room l) p

pub reasons_and_places : ReasonsAndPlaces
reasons_and_places = record {
  first = λ i p. subst (λ (n : ℕ). IsFirst n (call_tests i p)) (sym (reasoned i p)) (gives_the_first (done_first i p));
  counted = counted;
  gathered = gathered;
}
