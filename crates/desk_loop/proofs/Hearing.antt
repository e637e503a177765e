-- What turn after turn has heard is one text, so at the end the board is what that text and the end of the input make of the one it began as.
use mathlib.Core.Path.{◌≡◌, refl, sym, ap, ◌∙◌}
use mathlib.Core.Bool.{Bool}
use mathlib.Core.List.{List, [], ◌++◌}
use Prim.Native.Nat.{ℕ, ◌+◌, ◌≤◌}
use native.Mathlib.Omega.{arith}
use lib.Dec.{ltb}
use Rattle.std.specs.Prelude.{Result, IfOk}
use lib.ListN.{length, length-append}
use Rattle.words.specs.Over.{put}
use Rattle.keeping.specs.declared.Untold.{Untold}
use Rattle.memories.specs.Memories.{Memories}
use Rattle.boot.specs.Session.{fresh}
use Rattle.boot.specs.declared.Session.{Session}
use Rattle.desk_answers.specs.Told.{Told}
use Rattle.desk_answers.specs.Desk.{Desk, hears, input_ends}
use Rattle.desk_answers.specs.Promise.{Tells}
use Rattle.desk_answers.proofs.Whole.{hears_parts}
use Rattle.desk_hearing.specs.Promise.{desk_of}
use Rattle.desk_loop.specs.Turns.{read_characters, Turns, desk_at, HasHeard, LeftBy}

-- a desk that sits down at a board, just powered
pub sits_down : (why : Bool) (s : Session) (line : List ℕ) (m : Memories) → s ≡ fresh
    → desk_of (record { session = s; why = why; lines = 0; kept = 0; end = 0 }) line m ≡ desk_at why m
sits_down why s line m e =
    ap (λ (t : Session). record { why = why; state = record { session = t; memories = m }; lines = 0; line = [] }) e

-- a desk that has heard nothing
pub nothing_heard : (d : Desk) → HasHeard 0 d d
unfolding hears
nothing_heard d = record { text = []; few = omega arith; desk = refl }

-- a text that was read and heard
pub turned : (text : List ℕ) {before after : Desk} {at until : ℕ} {lent left : List ℕ} {going : Result Bool Untold} → length text ≤ read_characters → at ≡ 0
    → IfOk going (λ more. more ≡ ltb 0 (length text)) → Tells (hears text before) at lent until left after → Turns before lent after left going
turned text {before} {lent = lent} few e more t = record {
  text = text;
  few = few;
  desk = t.state;
  told = t.text ∙ ap (λ (n : ℕ). put lent n (hears text before).text) e;
  more = more;
}

-- one turn more
pub one_more : {n m : ℕ} {b d e : Desk} {lent left : List ℕ} {going : Result Bool Untold} → HasHeard n b d → Turns d lent e left going
    → n + read_characters ≤ m → HasHeard m b e
one_more {b = b} h t fits = record {
  text = h.text ++ t.text;
  few = let l = length-append h.text t.text in omega (arith, l, h.few, t.few, fits);
  desk =
      t.desk ∙ ap (λ (x : Desk). (hears t.text x).state) h.desk
      ∙ sym (ap (λ (r : Told Desk). r.state) (hears_parts h.text t.text b));
}

-- the end of the input, whatever was heard
pub gets_up : {most : ℕ} {why : Bool} {m : Memories} {b d e : Desk} → b ≡ desk_at why m → HasHeard most b d → e ≡ (input_ends d).state
    → LeftBy most why m e
gets_up s h p = record {
  text = h.text;
  few = h.few;
  desk = p ∙ ap (λ (x : Desk). (input_ends x).state) (h.desk ∙ ap (λ (x : Desk). (hears h.text x).state) s);
}
