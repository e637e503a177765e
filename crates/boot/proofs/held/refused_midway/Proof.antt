-- Byte after byte the session stays sound and the memories keep their lengths, so that of the causes only that of a running board is left.
use mathlib.Core.Path.{◌≡◌, refl, sym, ap, subst, ◌∙◌}
use mathlib.Core.Bool.{Bool, true, false, not, ◌&&◌}
use mathlib.Core.List.{List, [], ◌∷◌}
use Prim.Native.Nat.{ℕ, zero, suc, ◌-◌, ◌<◌}
use native.Mathlib.Omega.{arith}
use lib.Dec.{T, leb}
use lib.ListN.{length, length-append}
use borrow.Author.Tests.{le-leb}
use Rattle.std.specs.Prelude.{if◌then◌else◌, Err}
use Rattle.words.proofs.Tests.{both_right, holds_true}
use Rattle.memories.specs.Memories.{proper}
use Rattle.boot.specs.Session.{on, sound}
use Rattle.boot.specs.Causes.{accepted, cause_of, accepts}
use Rattle.boot.specs.Calls.{State, Byte, Outcome, cause_for, call, outcomes, run}
use Rattle.boot.specs.Slices.{one_by_one, how_many, slice_cause}
use Rattle.boot.specs.Stops.{replies_before}
use Rattle.boot.specs.Firm.{Firm, AreBytes, RunsAt, RefusedMidway}
use Rattle.carriers.specs.declared.Carrier.TheVariants.{Running}
use Rattle.boot.specs.declared.Cause.TheVariants.{WrongMemory, UnsoundSession, BoardRunning}
use Rattle.boot.specs.declared.Session.{Session}
use Rattle.boot.proofs.Causes.{refused_call, accepted_clear}
use Rattle.boot.proofs.Firm.{leaves_firm}
use Rattle.boot.proofs.held.refused_midway.Statement.{statement}
use Rattle.boot.proofs.held.refused_midway.Tie as tie

-- of the five causes only the last refuses with right memories, room and a sound session
last_cause : (m : Bool) (s : Session) → T m → T (sound s) → accepts (cause_of m true true s) ≡ false → cause_of m true true s ≡ Err BoardRunning
unfolding cause_of
last_cause m s t k e = by_tests m (sound s) (on Running s) t k e
  where
    by_tests : (m k r : Bool) → T m → T k
        → accepts (if not m then Err WrongMemory else if not k then Err UnsoundSession else if r then Err BoardRunning else accepted) ≡ false
        → (if not m then Err WrongMemory else if not k then Err UnsoundSession else if r then Err BoardRunning else accepted) ≡ Err BoardRunning
    by_tests true true true t k e = refl
    by_tests true true false t k e = absurd (subst T e tt)
    by_tests true false r t k e = absurd k
    by_tests false k r t h e = absurd t

-- so a byte with room enough
refused_runs : (b : ℕ) (p : State) → Firm p → accepts (call (Byte 257 b) p).cause ≡ false → (call (Byte 257 b) p).cause ≡ Err BoardRunning
unfolding cause_for
refused_runs b p k e =
    let c = ap (λ (o : Outcome). o.cause) (refused_call (Byte 257 b) p e) in
    c ∙ last_cause (proper p.memories) p.session k.lengths k.session (ap accepts (sym c) ∙ e)

-- where the board is firm before the first byte, and it is so of those behind it, it is so of all
module _ (room b : ℕ) (bs : List ℕ) (p : State) (small : b < 256) (k : Firm p) where
  -- the first call
  abbrev first : Outcome
  first = call (Byte 257 b) p

  -- it is refused, or those behind it stop where they do by themselves
  all_run : (t : Bool) → leb 257 room && accepts first.cause ≡ t → {n : ℕ}
      → (Firm first.state → RunsAt (room - length first.reply) bs first.state n) → RunsAt room (b ∷ bs) p (if t then suc n else zero)
  unfolding outcomes run
  all_run false e rest h enough =
      refused_runs b p k (ap (λ (a : Bool). a && accepts first.cause) (sym (le-leb 257 room (omega (arith, enough)))) ∙ e)
  all_run true e {n} rest h enough =
      let a = holds_true (accepts first.cause) (both_right (leb 257 room) (accepts first.cause) (subst T (sym e) tt)) in
      let l = length-append first.reply (replies_before bs first.state n) in
      rest (leaves_firm.byte 257 b p small a) (omega (arith, h)) (omega (arith, enough))

-- the bytes of a slice, from a firm board on
runs : (room : ℕ) (bs : List ℕ) (p : State) → AreBytes bs → Firm p → RunsAt room bs p (how_many room (one_by_one bs p))
unfolding how_many outcomes run
runs room [] p small k = λ h enough. absurd (omega (arith, h))
runs room (b ∷ bs) p small k =
    all_run room b bs p (small 0) k (leb 257 room && accepts (call (Byte 257 b) p).cause) refl
    (runs (room - length (call (Byte 257 b) p).reply) bs (call (Byte 257 b) p).state (λ i. small (suc i)))

-- a slice that is not refused finds one
midway : RefusedMidway
unfolding slice_cause
midway room bs p small a =
    let k = accepted_clear (proper p.memories) true true p.session a in
    runs room bs p small (record { session = k.firm; lengths = k.lengths })

pub refused_midway_spec : {M : Type 1} → statement M
refused_midway_spec = tie.close (tie.spec (λ c. midway))
