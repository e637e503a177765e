-- The club's failure (b): a refusal changes no memory, and neither does an input after which the erase is still coming in,
-- since a decision that changes one also accepts and ends the command.
use mathlib.Core.Path.{◌≡◌, refl, ap₂, ◌∙◌, subst}
use mathlib.Core.Bool.{Bool, true, false, not, ◌&&◌, ◌||◌}
use mathlib.Core.List.{List, [], ◌∷◌}
use Prim.Native.Nat.{ℕ}
use lib.Dec.{T, T_not}
use Rattle.std.specs.Prelude.{if◌then◌else◌}
use Rattle.words.specs.Lists.{any, all}
use Rattle.board.specs.Quantities.{is_sector}
use Rattle.board.specs.View.{write_protected}
use Rattle.words.proofs.Tests.{both_left, both_right, holds_true}
use Rattle.memories.specs.Memories.{Memories}
use Rattle.memories.specs.Effects.{effect}
use Rattle.memories.specs.declared.Change.{Change}
use Rattle.memories.specs.declared.Change.TheVariants.{Nothing, Write, EraseAll, EraseSectors, ProtectOnly, Release, Lock, Unlock}
use Rattle.command.specs.Decision.{if◌gives◌else◌, answer}
use Rattle.command.specs.Progress.{staged_with}
use Rattle.command.specs.declared.Decision.{Decision}
use Rattle.command.specs.declared.Next.{Next}
use Rattle.command.specs.declared.Next.TheVariants.{Stay, Reset, Gather, GoIdle, SetSpeed, Enter, EnterAt, Run}
use Rattle.command.specs.declared.FixedReply.TheVariants.{Silence}
use Rattle.boot.specs.Session.{idle, after, progress, gathered}
use Rattle.boot.specs.Causes.{accepts}
use Rattle.boot.specs.Calls.{done, State, Input, carrier_of, brings, view_in, cause_for, decide, perform, refused, call, run}
use Rattle.carriers.specs.declared.Carrier.{Carrier}
use Rattle.carriers.specs.declared.Carrier.TheVariants.{None, Uart, Can, Running}
use Rattle.boot.specs.Causes.{Judged}
use Rattle.boot.specs.declared.Session.{Session}
use Rattle.theorems.specs.Failures.{acks, acked, refuses, is_refused, in_erase, erase_pending, in_erase_list, to_erase, EraseAllOrNothing}
use Rattle.command.proofs.Holds.{Holds}
use Rattle.theorems.proofs.Listed.{erasable, decide_erase}
use Rattle.theorems.proofs.Wire.{number_accepts, on_the_wire}
use Rattle.theorems.proofs.Honest.{is_nothing, ends, Honest, decide_honest}

-- no change leaves the memories
leaves : (c : Change) → T (is_nothing c) → (staged : List ℕ) (m : Memories) → effect c staged m ≡ m
unfolding effect
leaves Nothing h staged m = refl
leaves (Write r at x) h staged m = absurd h
leaves EraseAll h staged m = absurd h
leaves (EraseSectors x) h staged m = absurd h
leaves (ProtectOnly x) h staged m = absurd h
leaves Release h staged m = absurd h
leaves Lock h staged m = absurd h
leaves Unlock h staged m = absurd h

-- an honest decision that refuses changes nothing, and neither does one that does not end the command
refusing_leaves : (d : Decision) → Holds Honest d → T (refuses d.reply) → T (is_nothing d.change)
refusing_leaves d h k = by_tests (is_nothing d.change) (refuses d.reply) (ends d.next) h.holds k
  where
    by_tests : (n r e : Bool) → T (n || (not r && e)) → T r → T n
    by_tests true r e h k = tt
    by_tests false true e h k = absurd h
    by_tests false false e h k = absurd k

pending_leaves : (d : Decision) → Holds Honest d → T (not (ends d.next)) → T (is_nothing d.change)
pending_leaves d h k = by_tests (is_nothing d.change) (refuses d.reply) (ends d.next) h.holds k
  where
    by_tests : (n r e : Bool) → T (n || (not r && e)) → T (not e) → T n
    by_tests true r e h k = tt
    by_tests false true e h k = absurd h
    by_tests false false true h k = absurd k
    by_tests false false false h k = absurd h

-- a session that is idle, fresh or running is in no erase
idle_out : (c : Carrier) (s : Session) → T (not (in_erase (idle c s)))
idle_out None s = tt
idle_out Uart s = tt
idle_out Can s = tt
idle_out Running s = tt

-- so a session inside an erase follows no decision that ends a command
in_erase_pending : (c : Carrier) (g : Session) (n : Next) (s : Session) → T (in_erase (after c g n s)) → T (not (ends n))
unfolding after
in_erase_pending c g Stay s h = tt
in_erase_pending c g Reset s h = absurd h
in_erase_pending c g Gather s h = tt
in_erase_pending c g GoIdle s h = absurd (T_not (in_erase (idle c s)) (idle_out c s) h)
in_erase_pending c g (SetSpeed v) s h = absurd (T_not (in_erase (idle c s)) (idle_out c s) h)
in_erase_pending c g (Enter step e) s h = tt
in_erase_pending c g (EnterAt step e a) s h = tt
in_erase_pending c g (Run a) s h = tt

-- ---- one call, by whether it is accepted

module _ (i : Input) (p : State) (c : Judged) (d : Decision) (f : Holds Honest d) where
  refused_leaves : (t : Bool) → T (not t || refuses (if t gives d else answer Silence Stay).reply)
      → (if t then perform i p d else refused c p).state.memories ≡ p.memories
  unfolding if◌gives◌else◌ perform
  refused_leaves true k =
      leaves d.change (refusing_leaves d f k) (staged_with (progress p.session) (brings i)) p.memories
  refused_leaves false k = refl

  erase_leaves : (t : Bool) → T (in_erase (if t then perform i p d else refused c p).state.session)
      → (if t then perform i p d else refused c p).state.memories ≡ p.memories
  unfolding perform
  erase_leaves true k =
      leaves d.change (pending_leaves d f (in_erase_pending (carrier_of i) (gathered (brings i) p.session) d.next p.session k))
      (staged_with (progress p.session) (brings i)) p.memories
  erase_leaves false k = refl

-- ---- any call, and a run

refused_call : (i : Input) (p : State) → T (is_refused i p) → (call i p).state.memories ≡ p.memories
unfolding done call
refused_call i p k =
    refused_leaves i p (cause_for i p) (decide i p.session (view_in p)) (decide_honest i p.session (view_in p))
    (accepts (cause_for i p)) (subst T seen_refused k)
  where
    seen_refused : is_refused i p ≡ (not (accepts (cause_for i p)) || refuses (done i p).reply)
    seen_refused = ap₂ (λ (t u : Bool). not t || u) (number_accepts i p) (on_the_wire.refusal i p)

erase_call : (i : Input) (p : State) → T (in_erase (call i p).state.session) → (call i p).state.memories ≡ p.memories
unfolding call
erase_call i p k =
    erase_leaves i p (cause_for i p) (decide i p.session (view_in p)) (decide_honest i p.session (view_in p))
    (accepts (cause_for i p)) k

erase_run : (is : List Input) (p : State) → T (erase_pending is p) → (run is p).memories ≡ p.memories
unfolding erase_pending run
erase_run [] p k = refl
erase_run (i ∷ is) p k =
    erase_run is (call i p).state (both_right (in_erase (call i p).state.session) (erase_pending is (call i p).state) k)
    ∙ erase_call i p (both_left (in_erase (call i p).state.session) (erase_pending is (call i p).state) k)

-- a list that is accepted
accepted_list : (i : Input) (p : State) → T (in_erase_list p.session) → T (acked i (call i p).reply)
    → T (all is_sector (to_erase i p.session)) × T (not (any (write_protected (view_in p)) (to_erase i p.session)))
unfolding done if◌gives◌else◌
accepted_list i p h a =
    let ks = to_erase i p.session in
    let e : acked i (call i p).reply ≡ acks (done i p).reply = on_the_wire.acceptance i p (rw (holds_true (in_erase_list p.session) h) tt) in
    let g : T (erasable (view_in p) ks) = decide_erase i p.session (view_in p) h (by_test (accepts (cause_for i p)) (subst T e a)) in (
      both_left (all is_sector ks) (not (any (write_protected (view_in p)) ks)) g,
      both_right (all is_sector ks) (not (any (write_protected (view_in p)) ks)) g,
    )
  where
    by_test : (t : Bool) → T (acks (if t gives decide i p.session (view_in p) else answer Silence Stay).reply)
        → T (acks (decide i p.session (view_in p)).reply)
    by_test true a = a
    by_test false a = absurd a

pub erase_all_or_nothing : EraseAllOrNothing
erase_all_or_nothing = record {
  refusal = refused_call;
  pending = erase_run;
  together = λ is i p k r. refused_call i (run is p) r ∙ erase_run is p k;
  accepted = accepted_list;
}
