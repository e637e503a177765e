-- What read after read has left is one fold, to which one read more is added behind.
use mathlib.Core.Path.{◌≡◌, refl, sym, ap, ap₂, ◌∙◌}
use mathlib.Core.Bool.{Bool}
use mathlib.Core.List.{List, [], ◌∷◌, ◌++◌, foldl, foldl-append}
use Prim.Native.Nat.{ℕ, ◌≤◌, ◌<◌}
use native.Mathlib.Omega.{arith}
use lib.Dec.{ltb}
use Rattle.std.specs.Prelude.{Result, IfOk}
use lib.ListN.{length, length-append}
use Rattle.keeping.specs.declared.Untold.{Untold}
use Rattle.memories.specs.Memories.{Memories}
use Rattle.boot.specs.Session.{fresh}
use Rattle.boot.specs.Calls.{State}
use Rattle.boot.specs.Promise.{state_of}
use Rattle.boot.specs.declared.Session.{Session}
use Rattle.port_loop.specs.Port.{Hears}
use Rattle.port_loop.specs.Turns.{read_bytes, Sitting, sitting, reading, Turns, HasHeard, LeftBy}

-- bytes that were read and heard
pub turned : {st : Bool} (bytes : List ℕ) {before after : State} {lent left : List ℕ} {end : ℕ} {going : Result Bool Untold} → length bytes ≤ read_bytes
    → IfOk going (λ more. more ≡ ltb 0 (length bytes)) → Hears st bytes before lent end left after
    → Turns st (sitting before lent) (sitting after left) going
turned bytes few more h = record { bytes = bytes; few = few; left = ap₂ sitting h.state h.text; more = more }

-- a board that has heard nothing
pub nothing_read : {st : Bool} (p : Sitting) → HasHeard st 0 p p
nothing_read p = record { reads = []; few = omega arith; left = refl }

-- one turn more
pub one_more : {st : Bool} {n m : ℕ} {o p q : Sitting} {going : Result Bool Untold} → HasHeard st n o p → Turns st p q going → n < m
    → HasHeard st m o q
one_more {st} {o = o} h t fits = record {
  reads = h.reads ++ t.bytes ∷ [];
  few = let l = length-append h.reads (t.bytes ∷ []) in omega (arith, l, h.few, fits);
  left =
      t.left ∙ ap (λ (s : Sitting). reading st s t.bytes) h.left
      ∙ sym (foldl-append (reading st) o h.reads (t.bytes ∷ []));
}

-- a board that was just powered, whatever it has read
pub left_by : {st : Bool} {most : ℕ} (m : Memories) (s : Session) {lent : List ℕ} {q : Sitting} → s ≡ fresh
    → HasHeard st most (sitting (state_of s m) lent) q → LeftBy st most m lent q
left_by {st} m s {lent} e h = record {
  reads = h.reads;
  few = h.few;
  left = h.left ∙ ap (λ (t : Session). foldl (reading st) (sitting (state_of t m) lent) h.reads) e;
}
