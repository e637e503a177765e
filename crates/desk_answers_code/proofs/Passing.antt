-- Bytes that a session only gathers are taken at once: nothing is told or noted of them, and the session is as if each had been taken by itself.
use mathlib.Core.Path.{◌≡◌, refl, subst}
use mathlib.Core.Bool.{◌&&◌}
use mathlib.Core.List.{List, [], ◌∷◌, map}
use Prim.Native.Nat.{ℕ, suc, ◌<◌}
use native.Mathlib.Omega.{arith}
use lib.Dec.{leb}
use lib.ListN.{length, get_or, take, drop}
use Rattle.memories.specs.Memories.{proper}
use Rattle.uart.specs.Conversation.{uart_room}
use Rattle.boot.specs.Calls.{State, Byte, call}
use Rattle.boot.specs.Gathering.{Gathers}
use Rattle.boot.proofs.Silent.{only_gathered, front_passed}
use Rattle.desk_answers.specs.Answers.{desk_room, Teller, made, makes}
use Rattle.desk_answers.specs.Promise.{Continues}
use Rattle.desk_answers.specs.Told.{Told, ◌then◌}
use Rattle.desk_answers.proofs.Telling.{all_left}

-- a list of no element
pub empty : (l : List ℕ) → length l ≡ 0 → l ≡ []
empty [] e = refl
empty (b ∷ l) e = absurd (omega arith)

-- what is told in another way is told
pub told_as : {A : Type 0} {t u : Told A} → t ≡ u → (at : ℕ) (out : List ℕ) → Continues u at out t at out
told_as {t = t} e at out = subst (λ (x : Told _). Continues x at out t at out) e (all_left t at out)

-- whatever is told of calls, if nothing is of those that only gather a byte
module _ (f : Teller) (none : (b : ℕ) (p : State) → f (Byte desk_room b) (only_gathered (b ∷ []) p) ≡ []) where
  -- one byte
  one_passed : (i b : ℕ) (bs : List ℕ) (p : State) → call (Byte desk_room b) p ≡ only_gathered (b ∷ []) p
      → makes f (map (Byte desk_room) (b ∷ bs)) p ≡ makes f (map (Byte desk_room) bs) (only_gathered (b ∷ []) p).state
  unfolding makes made
  one_passed i b bs p e = rw (e, none b p) refl

  -- the front of some bytes: of the byte behind those that are only gathered something may be told, and then of the others
  pub front_told : (bs : List ℕ) (n : ℕ) (p : State) → n < length bs
      → (0 < n → Gathers p.session (proper p.memories && leb uart_room desk_room) n)
      → makes f (map (Byte desk_room) bs) p
      ≡ (made f (Byte desk_room (get_or bs n 0)) (only_gathered (take n bs) p).state then makes f (map (Byte desk_room) (drop (suc n) bs)))
  unfolding makes
  front_told bs n p w g = front_passed (λ (i : ℕ) (cs : List ℕ) (q : State). makes f (map (Byte desk_room) cs) q) desk_room one_passed bs 0 n p w g
