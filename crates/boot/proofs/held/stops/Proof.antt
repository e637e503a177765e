-- A byte that may be taken is counted, and those behind it are counted with the room that its reply leaves.
use mathlib.Core.Path.{◌≡◌, refl, sym, ap, subst, ◌∙◌}
use mathlib.Core.Bool.{Bool, true, false, ◌&&◌}
use mathlib.Core.List.{List, [], ◌∷◌}
use Prim.Native.Nat.{ℕ, zero, suc, ◌-◌, ◌<◌}
use native.Mathlib.Omega.{arith}
use lib.Dec.{T, leb, leb→le}
use lib.ListN.{length, length-append}
use borrow.Author.Tests.{le-leb}
use Rattle.std.specs.Prelude.{if◌then◌else◌}
use Rattle.words.proofs.Tests.{both_left, both_right, holds_true}
use Rattle.boot.specs.Causes.{accepts}
use Rattle.boot.specs.Calls.{State, Byte, Outcome, call, outcomes, run}
use Rattle.boot.specs.Slices.{how_many}
use Rattle.boot.specs.Stops.{replies_before, MayBeTaken, StopsAt, Stops}
use Rattle.boot.proofs.held.stops.Statement.{statement}
use Rattle.boot.proofs.held.stops.Tie as tie

module _ (room b : ℕ) (bs : List ℕ) (p : State) where
  abbrev first : Outcome
  first = call (Byte 257 b) p

  -- the first byte
  at_first : T (leb 257 room && accepts first.cause) → MayBeTaken room (b ∷ bs) p 0
  unfolding outcomes run
  at_first t = record {
    enough = leb→le 257 room (both_left (leb 257 room) (accepts first.cause) t);
    clear = holds_true (accepts first.cause) (both_right (leb 257 room) (accepts first.cause) t);
  }

  not_first : leb 257 room && accepts first.cause ≡ false → MayBeTaken room (b ∷ bs) p 0 → ⊥
  unfolding outcomes run
  not_first e m = subst T (ap (λ (a : Bool). a && accepts first.cause) (sym (le-leb 257 room m.enough)) ∙ e) (subst T (sym m.clear) tt)

  -- and one behind it
  behind_first : (i : ℕ) → MayBeTaken (room - length first.reply) bs first.state i → MayBeTaken room (b ∷ bs) p (suc i)
  unfolding outcomes run
  behind_first i m = record {
    enough = let l = length-append first.reply (replies_before bs first.state i) in omega (arith, m.enough);
    clear = m.clear;
  }

  from_behind : (i : ℕ) → MayBeTaken room (b ∷ bs) p (suc i) → MayBeTaken (room - length first.reply) bs first.state i
  unfolding outcomes run
  from_behind i m = record {
    enough = let l = length-append first.reply (replies_before bs first.state i) in omega (arith, m.enough);
    clear = m.clear;
  }

  -- the bytes behind the first one stop where they do by themselves
  all_behind : leb 257 room && accepts first.cause ≡ true → {n : ℕ} → StopsAt (room - length first.reply) bs first.state n
      → StopsAt room (b ∷ bs) p (suc n)
  all_behind e {n} rest = record {
    within = omega (arith, rest.within);
    each = each_of;
    next = λ h m. rest.next (omega arith) (from_behind n m);
  }
    where
      each_of : (i : ℕ) → i < suc n → MayBeTaken room (b ∷ bs) p i
      each_of zero h = at_first (subst T (sym e) tt)
      each_of (suc i) h = behind_first i (rest.each i (omega arith))

  none_taken_lem : leb 257 room && accepts first.cause ≡ false → StopsAt room (b ∷ bs) p 0
  none_taken_lem e = record { within = omega arith; each = λ i h. absurd (omega arith); next = λ h m. not_first e m }

stop : Stops
unfolding how_many outcomes run
stop room [] p = record { within = omega arith; each = λ i h. absurd (omega arith); next = λ h m. absurd (omega arith) }
stop room (b ∷ bs) p =
    by_test (leb 257 room && accepts (call (Byte 257 b) p).cause) refl
    (stop (room - length (call (Byte 257 b) p).reply) bs (call (Byte 257 b) p).state)
  where
    by_test : (t : Bool) → leb 257 room && accepts (call (Byte 257 b) p).cause ≡ t → {n : ℕ}
        → StopsAt (room - length (call (Byte 257 b) p).reply) bs (call (Byte 257 b) p).state n
        → StopsAt room (b ∷ bs) p (if t then suc n else zero)
    by_test false e rest = none_taken_lem room b bs p e
    by_test true e rest = all_behind room b bs p e rest

pub stops_spec : {M : Type 1} → statement M
stops_spec = tie.close (tie.spec (λ c. stop))
