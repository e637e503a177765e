-- What is kept of the lines before one: whether one of them has ended the file, and a mark at exactly the bytes that some of them touches.
use mathlib.Core.Path.{◌≡◌, refl, sym, subst, ◌∙◌}
use mathlib.Core.Bool.{Bool, true, false, ◌&&◌, ◌||◌}
use mathlib.Core.List.{List, [], ◌∷◌, ◌++◌, append-nil, append_assoc}
use mathlib.Core.Logic.{◌⊎◌, inl, inr}
use Prim.Native.Nat.{ℕ, ◌+◌, ◌-◌, ◌≤◌, ◌<◌}
use native.Mathlib.Omega.{arith}
use lib.Dec.{leb, ltb}
use lib.IntN.{ℤ}
use lib.ListN.{length, get_or, replicate, length-replicate, get_or-replicate}
use borrow.Author.Tests.{leb-true, ltb-true}
use Rattle.words.specs.Lists.{any}
use Rattle.words.specs.Over.{within}
use Rattle.records.specs.Records.{line_of}
use Rattle.loading.specs.Places.{bytes, place_of}
use Rattle.loading.specs.Loads.{mark, untouched, put_at, touched_by, all_touched}
use Rattle.loading.specs.Says.{Among, reaches, touches, Touched}
use Rattle.loading.specs.Faults.{is_ending}
use Rattle.std.specs.Prelude.{Option, Some, None, Result, Ok, Err}
use Rattle.loading.specs.declared.Cause.{Cause}
use Rattle.loading.proofs.Turns.{length-touched}
use Rattle.loading.proofs.Bytes.{clash, as_many, marked_there, beside, leaves, mark_kept, marked}

pub record Kept (shift : ℤ) (before : List (List ℕ)) (ended : Bool) (touched : List ℕ) : Type 0 where
  pub ends : ended ≡ any is_ending before
  pub size : length touched ≡ 32768
  pub earlier : (j : ℕ) → get_or touched j 0 ≡ mark → Touched shift before j
  pub marks : (k : List ℕ) → Among k before → (j : ℕ) → touches shift k j ≡ true → get_or touched j 0 ≡ mark

-- a line of several is one of more, and the last one is; every line of one more is one of these
pub among_more : (k : List ℕ) (before more : List (List ℕ)) → Among k before → Among k (before ++ more)
among_more k [] more a = absurd a
among_more k (x ∷ before) more (inl e) = inl e
among_more k (x ∷ before) more (inr a) = inr (among_more k before more a)

pub among_behind : (k : List ℕ) (before more : List (List ℕ)) → Among k more → Among k (before ++ more)
among_behind k [] more a = a
among_behind k (x ∷ before) more a = inr (among_behind k before more a)

among_either : (k l : List ℕ) (before : List (List ℕ)) → Among k (before ++ (l ∷ [])) → Among k before ⊎ (k ≡ l)
among_either k l [] (inl e) = inr e
among_either k l [] (inr a) = absurd a
among_either k l (x ∷ before) (inl e) = inl (inl e)
among_either k l (x ∷ before) (inr a) = by_side (among_either k l before a)
  where
    by_side : Among k before ⊎ (k ≡ l) → Among k (x ∷ before) ⊎ (k ≡ l)
    by_side (inl b) = inl (inr b)
    by_side (inr e) = inr e

-- a test of one line more
or_more : (a b c d : Bool) → b ≡ (c || d) → (a || b) ≡ ((a || c) || d)
or_more true b c d e = refl
or_more false b c d e = e

or_false : (b : Bool) → (b || false) ≡ b
or_false true = refl
or_false false = refl

any_more : (f : List ℕ → Bool) (before : List (List ℕ)) (l : List ℕ) → any f (before ++ (l ∷ [])) ≡ (any f before || f l)
any_more f [] l = or_false (f l)
any_more f (x ∷ before) l = or_more (f x) (any f (before ++ (l ∷ []))) (any f before) (f l) (any_more f before l)

-- a byte within n from a place lies between
pub inside : (at n j : ℕ) → within at n j ≡ true → (at ≤ j) × (j < at + n)
inside at n j h = by_tests (leb at j) refl (ltb j (at + n)) refl h
  where
    by_tests : (a : Bool) → leb at j ≡ a → (b : Bool) → ltb j (at + n) ≡ b → (a && b) ≡ true → (at ≤ j) × (j < at + n)
    by_tests true p true q h = (leb-true at j p, ltb-true j (at + n) q)
    by_tests true p false q h = clash true refl (sym h)
    by_tests false p b q h = clash true refl (sym h)

module _ (shift : ℤ) (l touched : List ℕ) (s : length touched ≡ 32768) (j : ℕ) where
  -- a line marks what it touches
  line_marks : touches shift l j ≡ true → get_or (touched_by shift (line_of l) touched) j 0 ≡ mark
  line_marks t = by_place (place_of shift (line_of l)) refl t
    where
      by_place : (p : Result (Option ℕ) Cause) → place_of shift (line_of l) ≡ p → reaches p (bytes (line_of l)) j ≡ true
          → get_or (touched_by shift (line_of l) touched) j 0 ≡ mark
      by_place (Ok None) e t = clash true refl (sym t)
      by_place (Err c) e t = clash true refl (sym t)
      by_place (Ok (Some at)) e t =
          let i = inside at (bytes (line_of l)) j t in
          let m = as_many l in
          let k : at + (j - at) ≡ j = omega arith in
          rw k at (marked shift l touched at e s (j - at) (omega arith))

  -- and nothing else
  line_leaves : touches shift l j ≡ false → get_or (touched_by shift (line_of l) touched) j 0 ≡ get_or touched j 0
  unfolding touched_by
  line_leaves t = by_place (place_of shift (line_of l)) (bytes (line_of l)) t
    where
      by_place : (p : Result (Option ℕ) Cause) (n : ℕ) → reaches p n j ≡ false → get_or (put_at p (replicate n mark) touched) j 0 ≡ get_or touched j 0
      by_place (Ok None) n t = refl
      by_place (Err c) n t = refl
      by_place (Ok (Some at)) n t = leaves touched (replicate n mark) at j (rw (← length-replicate n mark) at (beside at n j t))

  line_keeps : get_or touched j 0 ≡ mark → get_or (touched_by shift (line_of l) touched) j 0 ≡ mark
  unfolding touched_by
  line_keeps e = mark_kept (bytes (line_of l)) touched j e (place_of shift (line_of l))

-- before the first line nothing is marked, and nothing has ended
pub kept_none : (shift : ℤ) → Kept shift [] false untouched
unfolding untouched
kept_none shift = record {
  ends = refl;
  size = length-replicate {A = ℕ} 32768 0;
  earlier = λ j e.
      let t = marked_there untouched j e in
      let s = length-replicate {A = ℕ} 32768 0 in
      absurd (let z = sym e ∙ get_or-replicate {A = ℕ} 32768 j 0 0 (omega arith) in omega arith);
  marks = λ k a j t. absurd a;
}

-- what is kept behind one line more
pub kept_more : (shift : ℤ) (before : List (List ℕ)) (ended : Bool) (touched l : List ℕ) → Kept shift before ended touched
    → Kept shift (before ++ (l ∷ [])) (ended || is_ending l) (touched_by shift (line_of l) touched)
kept_more shift before ended touched l w = record {
  ends = rw w.ends (sym (any_more is_ending before l));
  size = length-touched shift (line_of l) touched ∙ w.size;
  earlier = λ j e. by_touch j e (touches shift l j) refl;
  marks = λ k a j t. by_side k j t (among_either k l before a);
}
  where
    by_touch : (j : ℕ) → get_or (touched_by shift (line_of l) touched) j 0 ≡ mark → (b : Bool) → touches shift l j ≡ b → Touched shift (before ++ (l ∷ [])) j
    by_touch j e true t = record { line = l; among = among_behind l before (l ∷ []) (inl refl); touched = t }
    by_touch j e false t =
        let o = w.earlier j (sym (line_leaves shift l touched w.size j t) ∙ e) in
        record { line = o.line; among = among_more o.line before (l ∷ []) o.among; touched = o.touched }

    by_side : (k : List ℕ) (j : ℕ) → touches shift k j ≡ true → Among k before ⊎ (k ≡ l) → get_or (touched_by shift (line_of l) touched) j 0 ≡ mark
    by_side k j t (inl a) = line_keeps shift l touched w.size j (w.marks k a j t)
    by_side k j t (inr e) = line_marks shift l touched w.size j (subst (λ (x : List ℕ). touches shift x j ≡ true) e t)

-- and behind several
pub kept_all : (shift : ℤ) (ls before : List (List ℕ)) (ended : Bool) (touched : List ℕ) → Kept shift before ended touched
    → Kept shift (before ++ ls) (any is_ending (before ++ ls)) (all_touched shift ls touched)
kept_all shift [] before ended touched w = rw (append-nil before) (rw w.ends at w)
kept_all shift (l ∷ ls) before ended touched w =
    rw (append_assoc before (l ∷ []) ls) at
    (kept_all shift ls (before ++ (l ∷ [])) (ended || is_ending l) (touched_by shift (line_of l) touched) (kept_more shift before ended touched l w))
