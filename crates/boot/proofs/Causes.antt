-- What an accepted call has, and what an accepted and a refused call leave.
use mathlib.Core.Path.{◌≡◌, refl, sym, ap, subst, ◌∙◌}
use mathlib.Core.Bool.{Bool, true, false, not}
use mathlib.Core.List.{List}
use Prim.Native.Nat.{ℕ}
use lib.Dec.{T, eqb}
use Rattle.std.specs.Prelude.{if◌then◌else◌, Ok, Err}
use Rattle.boot.specs.Session.{on, sound}
use Rattle.boot.specs.Causes.{accepted, cause_no, accepts, cause_of}
use Rattle.boot.specs.Calls.{State, Input, Outcome, view_in, cause_for, decide, perform, refused, call}
use Rattle.boot.specs.Promise.{Given, Left, left, unanswered_taken, outcome, Leaves, Took}
use Rattle.carriers.specs.declared.Carrier.TheVariants.{Running}
use Rattle.boot.specs.Causes.{Judged}
use Rattle.boot.specs.declared.Cause.{Cause}
use Rattle.boot.specs.declared.Cause.TheVariants.{WrongMemory, ShortReply, BadFrame, UnsoundSession, BoardRunning}
use Rattle.boot.specs.declared.Session.{Session}
use Rattle.boot.specs.declared.Taken.{Taken}

-- memories with their lengths, room for the reply, a well-formed frame and a sound session
pub record Clear (memories room frame sounds : Bool) : Type 0 where
  pub lengths : T memories
  pub enough : T room
  pub formed : T frame
  pub firm : T sounds

-- a call is accepted exactly where its number is that of no cause
pub accepts_number : (c : Judged) → accepts c ≡ eqb (cause_no c) 0
accepts_number (Ok u) = refl
accepts_number (Err WrongMemory) = refl
accepts_number (Err ShortReply) = refl
accepts_number (Err BadFrame) = refl
accepts_number (Err UnsoundSession) = refl
accepts_number (Err BoardRunning) = refl

-- what comes of a call is for the cause that was found
pub call_cause : (i : Input) (p : State) → accepts (call i p).cause ≡ accepts (cause_for i p)
unfolding call perform
call_cause i p = by_test (accepts (cause_for i p)) refl
  where
    by_test : (b : Bool) → accepts (cause_for i p) ≡ b
        → accepts (if b then perform i p (decide i p.session (view_in p)) else refused (cause_for i p) p).cause ≡ b
    by_test true e = refl
    by_test false e = e

-- a call that is refused leaves everything
pub refused_call : (i : Input) (p : State) → accepts (call i p).cause ≡ false → call i p ≡ refused (cause_for i p) p
unfolding call
refused_call i p e = rw (sym (call_cause i p) ∙ e) refl

-- an accepted call is clear of every cause
pub accepted_clear : (m r f : Bool) (s : Session) → accepts (cause_of m r f s) ≡ true → Clear m r f (sound s)
unfolding cause_of
accepted_clear m r f s h = by_tests m r f (sound s) (subst T (sym h) tt)
  where
    by_tests : (m r f k : Bool)
        → T (accepts
        (if not m then Err WrongMemory else if not r then Err ShortReply else if not f then Err BadFrame
        else if not k then Err UnsoundSession else if on Running s then Err BoardRunning else accepted))
        → Clear m r f k
    by_tests true true true true h = record { lengths = tt; enough = tt; formed = tt; firm = tt }
    by_tests true true true false h = absurd h
    by_tests true true false k h = absurd h
    by_tests true false f k h = absurd h
    by_tests false r f k h = absurd h

-- the same of a call for which no cause was found
pub clear : (m r f : Bool) (s : Session) {c : Judged} {u : Unit {0}} → c ≡ cause_of m r f s → c ≡ Ok u → Clear m r f (sound s)
clear m r f s ec e = accepted_clear m r f s (ap accepts (sym ec ∙ e))

-- what comes of a call where it is accepted
abbrev pub performed : Given → Outcome
performed g = perform g.input g.state (decide g.input g.state.session (view_in g.state))

-- what is handed back for a cause leaves everything as it was
pub refused_leaves : {c : Judged} (p : State) (buffer : List ℕ) {r : Taken} → r ≡ unanswered_taken c p.session
    → Leaves (refused c p) buffer (left r p.memories buffer)
refused_leaves p buffer e = record {
  number = ap (λ (z : Taken). z.number) e;
  count = ap (λ (z : Taken). z.length) e;
  reason = ap (λ (z : Taken). z.reason) e;
  place = ap (λ (z : Taken). z.place) e;
  session = ap (λ (z : Taken). z.session) e;
  flash = refl;
  sram = refl;
  usd = refl;
  buffer = refl;
}

module _ (g : Given) (c : Judged) (ec : c ≡ cause_for g.input g.state) where
  -- an accepted call leaves what its decision does
  pub accepted_took : {l : Left} {u : Unit {0}} → c ≡ Ok u
      → Leaves (performed g) g.buffer l
      → Took g l
  unfolding outcome call
  accepted_took e k = rw (← ec, e) k

  -- a refused call leaves everything as it was
  pub refused_took : {r : Taken} {k : Cause} → c ≡ Err k → r ≡ unanswered_taken (Err k) g.state.session
      → Took g (left r g.state.memories g.buffer)
  unfolding outcome call
  refused_took e er = rw (← ec, e) (refused_leaves g.state g.buffer er)
