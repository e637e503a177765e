-- However an input is cut, what is printed character by character is what the paper says of its lines.
use mathlib.Core.Path.{◌≡◌, refl, sym, ap, subst, ◌∙◌}
use mathlib.Core.Bool.{Bool, true, false}
use mathlib.Core.List.{List, [], ◌∷◌, ◌++◌, append-nil, append_assoc}
use Prim.Native.Nat.{ℕ, suc, ◌<◌}
use native.Mathlib.Nat.{zero-lt-suc}
use native.Mathlib.Omega.{arith}
use lib.Dec.{eqb, leb}
use lib.ListN.{length, take, length-append}
use lib.Seq.{take_all, take-append-le, length-take-le}
use borrow.Author.Tests.{leb-true, leb-false, lt-ltb}
use Rattle.std.specs.Prelude.{if◌then◌else◌}
use Rattle.memories.specs.Memories.{fresh_memories}
use Rattle.boot.specs.Calls.{State, powered}
use Rattle.desk_lines.specs.Lines.{line_feed}
use Rattle.desk_answers.specs.Told.{Told, ◌then◌}
use Rattle.desk_answers.specs.Answers.{answer, answer_by}
use Rattle.desk_answers.specs.Desk.{lines_from, answers_from, prints, Desk, fresh_desk, kept_characters, keep, line_ends, kept, hears, input_ends}
use Rattle.desk_lines.proofs.Lines.{kind_beyond}

-- ---- cutting

-- characters that come in two parts
pub hears_parts : (a b : List ℕ) (d : Desk) → hears (a ++ b) d ≡ (hears a d then hears b)
unfolding hears
hears_parts [] b d = refl
hears_parts (c ∷ a) b d = by_test (eqb c line_feed) (hears_parts a b (line_ends d).state) (hears_parts a b (kept d c))
  where
    by_test : (t : Bool) → hears (a ++ b) (line_ends d).state ≡ (hears a (line_ends d).state then hears b)
        → hears (a ++ b) (kept d c) ≡ (hears a (kept d c) then hears b)
        → (if t then line_ends d then hears (a ++ b) else hears (a ++ b) (kept d c))
        ≡ ((if t then line_ends d then hears a else hears a (kept d c)) then hears b)
    by_test true e f =
        ap (λ (x : Told Desk). record { text = (line_ends d).text ++ x.text; state = x.state }) e
        ∙ ap (λ (t : List ℕ). record { text = t; state = (hears b (hears a (line_ends d).state).state).state })
        (sym (append_assoc (line_ends d).text (hears a (line_ends d).state).text (hears b (hears a (line_ends d).state).state).text))
    by_test false e f = f

-- ---- what is kept of a line is enough

-- of a line that goes on, what is kept goes on
keep_more : (begun : List ℕ) (c : ℕ) → keep (take kept_characters begun) c ≡ take kept_characters (begun ++ c ∷ [])
keep_more begun c = by_length (leb kept_characters (length begun)) refl
  where
    by_length : (t : Bool) → leb kept_characters (length begun) ≡ t → keep (take kept_characters begun) c ≡ take kept_characters (begun ++ c ∷ [])
    by_length true e =
        let h = leb-true kept_characters (length begun) e in
        rw (length-take-le kept_characters begun h) (sym (take-append-le kept_characters begun (c ∷ []) h))
    by_length false e =
        let h = leb-false kept_characters (length begun) e in
        rw (take_all kept_characters begun (omega arith), lt-ltb (length begun) kept_characters h)
        (sym (take_all kept_characters (begun ++ c ∷ []) (let l = length-append begun (c ∷ []) in omega arith)))

-- the answer to what is kept is the answer to the line
answer_kept : (why : Bool) (n : ℕ) (line : List ℕ) (p : State) → answer why n (take kept_characters line) p ≡ answer why n line p
unfolding answer answer_by
answer_kept why n line p = by_length (leb (length line) kept_characters) refl
  where
    by_length : (t : Bool) → leb (length line) kept_characters ≡ t → answer why n (take kept_characters line) p ≡ answer why n line p
    by_length true e = rw (take_all kept_characters line (leb-true (length line) kept_characters e)) refl
    by_length false e =
        let h = leb-false (length line) kept_characters e in
        let l = length-take-le kept_characters line (omega arith) in
        rw (sym (kind_beyond (take kept_characters line) (omega arith)), sym (kind_beyond line (omega arith))) refl

-- ---- the whole

-- from a desk that has kept a line that has begun
prints_from : (why : Bool) (cs begun : List ℕ) (n : ℕ) (p : State) (line : List ℕ) → line ≡ take kept_characters begun
    → (hears cs (record { why = why; state = p; lines = n; line = line }) then input_ends).text ≡ answers_from why (suc n) (lines_from begun cs) p
unfolding hears input_ends
prints_from why [] [] n p line e = rw e refl
prints_from why [] (b ∷ begun) n p line e =
    let l : 0 < length line = subst (λ (x : List ℕ). 0 < length x) (sym e) (zero-lt-suc _) in
    rw (lt-ltb 0 (length line) l)
    (ap (λ (t : Told State). t.text ++ []) (ap (λ (x : List ℕ). answer why (suc n) x p) e ∙ answer_kept why (suc n) (b ∷ begun) p))
prints_from why (c ∷ cs) begun n p line e = by_test (eqb c line_feed)
    (λ q. prints_from why cs [] (suc n) q [] refl) (λ l k. prints_from why cs (begun ++ c ∷ []) n p l k)
  where
    d : Desk
    d = record { why = why; state = p; lines = n; line = line }

    told : Told State
    told = answer why (suc n) line p

    rest : Told Desk
    rest = hears cs (record { why = why; state = told.state; lines = suc n; line = [] })

    last : Told Desk
    last = input_ends rest.state

    by_test : (t : Bool)
        → ((q : State) → (hears cs (record { why = why; state = q; lines = suc n; line = [] }) then input_ends).text ≡ answers_from why (suc (suc n)) (lines_from [] cs) q)
        → ((l : List ℕ) → l ≡ take kept_characters (begun ++ c ∷ []) → (hears cs (record { why = why; state = p; lines = n; line = l }) then input_ends).text ≡ answers_from why (suc n) (lines_from (begun ++ c ∷ []) cs) p)
        → ((if t then line_ends d then hears cs else hears cs (kept d c)) then input_ends).text
        ≡ answers_from why (suc n) (if t then begun ∷ lines_from [] cs else lines_from (begun ++ c ∷ []) cs) p
    by_test true f g =
        ap (λ (x : List ℕ). (x ++ rest.text) ++ last.text) (append-nil told.text)
        ∙ append_assoc told.text rest.text last.text ∙ ap (λ (x : List ℕ). told.text ++ x) (f told.state)
        ∙ ap (λ (t : Told State). t.text ++ answers_from why (suc (suc n)) (lines_from [] cs) t.state)
        (ap (λ (x : List ℕ). answer why (suc n) x p) e ∙ answer_kept why (suc n) begun p)
    by_test false f g = g (keep line c) (ap (λ (l : List ℕ). keep l c) e ∙ keep_more begun c)

-- what desk hears from the start, and then the end of the input, prints what the paper says
pub hears_whole : (why : Bool) (input : List ℕ) → (hears input (fresh_desk why) then input_ends).text ≡ prints why input
hears_whole why input = prints_from why input [] 0 (powered fresh_memories) [] refl
