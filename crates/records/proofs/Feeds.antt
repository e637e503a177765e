-- The first line of a text, by the place of its LF.
use mathlib.Core.Path.{◌≡◌, refl, ap, sym, ◌∙◌}
use mathlib.Core.Bool.{Bool, true, false, ◌&&◌}
use mathlib.Core.List.{List, [], ◌∷◌}
use Prim.Native.Nat.{ℕ, zero, suc, ◌+◌, ◌-◌, ◌≤◌, ◌<◌, zero-le, suc-le-suc}
use native.Mathlib.Nat.{not-suc-le-zero, le_of_suc-le-suc}
use native.Mathlib.Omega.{arith}
use lib.Dec.{eqb, leb, ltb}
use lib.ListN.{length, get_or, take, drop, length-drop}
use lib.Seq.{get_or-drop, drop-drop, drop-length, take_all}
use borrow.Author.Tests.{eq-eqb, ne_eqb, lt-ltb, le-ltb, eqb-true, eqb-false, leb-true, leb-false, ltb-true, ltb-false}
use mathlib.Core.Bool.{cond, not}
use Rattle.std.specs.Prelude.{if◌then◌else◌, ◌==◌, Option, Some, None, unwrap_or, position}
use Rattle.std.specs.List.{position_or_len}
use Rattle.records.specs.Ends.{line_feed, carriage_return, longer, lines_of, feed_in, stop_before, stop_in, next_in, FirstFeed, Spans}

-- no text has no lines
no_lines : lines_of [] ≡ []
unfolding lines_of
no_lines = refl

stop_more : (c : ℕ) (cs : List ℕ) (i : ℕ) → stop_before (c ∷ cs) (suc (suc i)) ≡ suc (stop_before cs (suc i))
stop_more c cs i = by_test (eqb (get_or cs i 0) carriage_return)
  where
    by_test : (t : Bool) → (if t then suc i else suc (suc i)) ≡ suc (if t then i else suc i)
    by_test true = refl
    by_test false = refl

-- a character that neither is an LF nor stands before one belongs to the first line
longer_first : (c : ℕ) (cs : List ℕ) → (c ≡ line_feed → ⊥) → (get_or cs 0 0 ≡ line_feed → ⊥) → lines_of (c ∷ cs) ≡ longer c (lines_of cs)
unfolding lines_of
longer_first c cs n m = rw (ne_eqb c line_feed n, ne_eqb (get_or cs 0 0) line_feed m) (by_return (eqb c carriage_return) (lines_of cs))
  where
    by_return : (r : Bool) (ls : List (List ℕ)) → (if r && false then ls else longer c ls) ≡ longer c ls
    by_return true ls = refl
    by_return false ls = refl

-- a line that an LF ends, and the lines behind it
pub line_first : (s : List ℕ) (e : ℕ) → e < length s → ((k : ℕ) → k < e → get_or s k 0 ≡ line_feed → ⊥) → get_or s e 0 ≡ line_feed
    → lines_of s ≡ take (stop_before s e) s ∷ lines_of (drop (suc e) s)
unfolding lines_of
line_first [] e h none f = absurd (not-suc-le-zero h)
line_first (c ∷ cs) zero h none f = rw (eq-eqb c line_feed f) refl
line_first (c ∷ cs) (suc zero) h none f =
    rw (ne_eqb c line_feed (none 0 (omega arith)), eq-eqb (get_or cs 0 0) line_feed f)
    (by_return (line_first cs zero (le_of_suc-le-suc h) (λ k p. absurd (not-suc-le-zero p)) f) (eqb c carriage_return))
  where
    by_return : lines_of cs ≡ [] ∷ lines_of (drop 1 cs) → (r : Bool) → (if r && true then lines_of cs else longer c (lines_of cs))
        ≡ take (if r then zero else 1) (c ∷ cs) ∷ lines_of (drop 1 cs)
    by_return more true = more
    by_return more false = ap (λ (ls : List (List ℕ)). longer c ls) more
line_first (c ∷ cs) (suc (suc i)) h none f =
    longer_first c cs (none 0 (omega arith)) (none 1 (omega arith))
    ∙ ap (λ (ls : List (List ℕ)). longer c ls) (line_first cs (suc i) (le_of_suc-le-suc h) (λ k p. none (suc k) (suc-le-suc p)) f)
    ∙ rw (stop_more c cs i)

-- a last line that has no end
pub line_last : (s : List ℕ) → 0 < length s → ((k : ℕ) → k < length s → get_or s k 0 ≡ line_feed → ⊥) → lines_of s ≡ s ∷ []
unfolding lines_of
line_last [] h none = absurd (not-suc-le-zero h)
line_last (c ∷ []) h none = longer_first c [] (none 0 (omega arith)) (λ e. absurd (omega arith))
line_last (c ∷ d ∷ cs) h none =
    longer_first c (d ∷ cs) (none 0 (omega arith)) (none 1 (omega arith))
    ∙ ap (λ (ls : List (List ℕ)). longer c ls) (line_last (d ∷ cs) (omega arith) (λ k p. none (suc k) (suc-le-suc p)))

-- the first LF is where none stands before it
feed_is : (s : List ℕ) (e : ℕ) → e ≤ length s → ((k : ℕ) → k < e → get_or s k 0 ≡ line_feed → ⊥) → (e < length s → get_or s e 0 ≡ line_feed)
    → feed_in s ≡ e
feed_is [] e h none f = omega arith
feed_is (c ∷ cs) zero h none f = rw (eq-eqb c line_feed (f (omega arith))) refl
feed_is (c ∷ cs) (suc e) h none f =
    rw (ne_eqb c line_feed (none 0 (omega arith)))
    (ap suc (feed_is cs e (le_of_suc-le-suc h) (λ k p. none (suc k) (suc-le-suc p)) (λ p. f (suc-le-suc p))))

-- the first line from a place on, by where its LF stands
module _ (text : List ℕ) (at feed : ℕ) (f : FirstFeed text at feed) where
  none : (k : ℕ) → k < feed - at → get_or (drop at text) k 0 ≡ line_feed → ⊥
  none k h e = f.before (at + k) (omega arith) (omega arith) (sym (get_or-drop at text k 0) ∙ e)

  fed : feed_in (drop at text) ≡ feed - at
  fed =
      let d = length-drop at text in
      let o = f.from in
      let t = f.there in
      let k : at + (feed - at) ≡ feed = omega arith in
      feed_is (drop at text) (feed - at) (omega arith) none (λ p. get_or-drop at text (feed - at) 0 ∙ rw k (f.found (omega arith)))

  stop_last : length text ≤ feed → feed ≡ at + stop_in (drop at text)
  unfolding stop_in
  stop_last h =
      let d = length-drop at text in
      let o = f.from in
      rw (fed, le-ltb (feed - at) (length (drop at text)) (omega arith)) (omega arith)

  next_last : length text ≤ feed → feed ≡ at + next_in (drop at text)
  unfolding next_in
  next_last h =
      let d = length-drop at text in
      let o = f.from in
      rw (fed, le-ltb (feed - at) (length (drop at text)) (omega arith)) (omega arith)

  stop_here : (stop : ℕ) → feed < length text → at ≤ stop → stop_before (drop at text) (feed - at) ≡ stop - at → stop ≡ at + stop_in (drop at text)
  unfolding stop_in
  stop_here stop h a e =
      let d = length-drop at text in
      let o = f.from in
      rw (fed, lt-ltb (feed - at) (length (drop at text)) (omega arith), e) (omega arith)

  next_here : feed < length text → feed + 1 ≡ at + next_in (drop at text)
  unfolding next_in
  next_here h =
      let d = length-drop at text in
      let o = f.from in
      rw (fed, lt-ltb (feed - at) (length (drop at text)) (omega arith)) (omega arith)

  -- none is there
  pub ends_the_text : at < length text → length text ≤ feed → Spans text at feed feed
  ends_the_text h k =
      let t = f.there in
      let d = length-drop at text in
      let e : feed ≡ length text = omega arith in
      record {
        from = f.from;
        within = t;
        later = omega arith;
        there = t;
        stops = stop_last k;
        begins = next_last k;
        lines = line_last (drop at text) (omega arith) (λ k p. none k (omega arith))
            ∙ rw (e, drop-length text, take_all (length text - at) (drop at text) (omega arith)) (ap (λ (ls : List (List ℕ)). drop at text ∷ ls) (sym no_lines));
      }

  -- one is there, and the line stops where `stop_before` says
  pub ends_at : (stop : ℕ) → feed < length text → at ≤ stop → stop ≤ feed → stop_before (drop at text) (feed - at) ≡ stop - at
      → Spans text at stop (feed + 1)
  ends_at stop h a b e =
      let d = length-drop at text in
      let o = f.from in
      let k : at + (feed - at) ≡ feed = omega arith in
      let g : at + suc (feed - at) ≡ feed + 1 = omega arith in
      record {
        from = a;
        within = omega arith;
        later = omega arith;
        there = omega arith;
        stops = stop_here stop h a e;
        begins = next_here h;
        lines = line_first (drop at text) (feed - at) (omega arith) none (get_or-drop at text (feed - at) 0 ∙ rw k (f.found h))
            ∙ rw (e, drop-drop (suc (feed - at)) at text, g);
      }

  -- a line of no character, one before a CR, and one with no CR
  pub stops_empty : feed ≤ at → stop_before (drop at text) (feed - at) ≡ feed - at
  stops_empty h = let e : feed - at ≡ 0 = omega arith in rw e

  stops_before : at < feed → feed - at ≡ suc (feed - 1 - at)
  stops_before h = omega arith

  before_feed : at < feed → get_or (drop at text) (feed - 1 - at) 0 ≡ get_or text (feed - 1) 0
  before_feed h = get_or-drop at text (feed - 1 - at) 0 ∙ ap (λ (k : ℕ). get_or text k 0) (omega arith)

  pub stops_return : at < feed → get_or text (feed - 1) 0 ≡ carriage_return → stop_before (drop at text) (feed - at) ≡ feed - 1 - at
  stops_return h r = rw (stops_before h, eq-eqb (get_or (drop at text) (feed - 1 - at) 0) carriage_return (before_feed h ∙ r)) refl

  pub stops_full : at < feed → (get_or text (feed - 1) 0 ≡ carriage_return → ⊥) → stop_before (drop at text) (feed - at) ≡ feed - at
  stops_full h r =
      rw (stops_before h, ne_eqb (get_or (drop at text) (feed - 1 - at) 0) carriage_return (λ e. r (sym (before_feed h) ∙ e))) refl

-- one place more that holds no LF
pub none_more : (text : List ℕ) (at i : ℕ) → ((k : ℕ) → at ≤ k → k < i → get_or text k 0 ≡ line_feed → ⊥) → (get_or text i 0 ≡ line_feed → ⊥)
    → (k : ℕ) → at ≤ k → k < i + 1 → get_or text k 0 ≡ line_feed → ⊥
none_more text at i h n k a b e = by_place (leb i k) refl
  where
    by_place : (t : Bool) → leb i k ≡ t → ⊥
    by_place true p = let j : k ≡ i = omega (arith, leb-true i k p) in n (ap (λ (m : ℕ). get_or text m 0) (sym j) ∙ e)
    by_place false p = h k a (leb-false i k p) e

-- the first LF: it lies within the text or at its end, none stands before it, and it is one where it lies within
feed_there : (s : List ℕ) → feed_in s ≤ length s
feed_there [] = zero-le
feed_there (c ∷ cs) = by_test (feed_there cs) (eqb c line_feed)
  where
    by_test : feed_in cs ≤ length cs → (t : Bool) → (if t then 0 else suc (feed_in cs)) ≤ suc (length cs)
    by_test h true = zero-le
    by_test h false = suc-le-suc h

feed_none : (s : List ℕ) (k : ℕ) → k < feed_in s → get_or s k 0 ≡ line_feed → ⊥
feed_none [] k h e = not-suc-le-zero h
feed_none (c ∷ cs) k h e = by_test (feed_none cs) (eqb c line_feed) refl k h e
  where
    by_test : ((k : ℕ) → k < feed_in cs → get_or cs k 0 ≡ line_feed → ⊥) → (t : Bool) → eqb c line_feed ≡ t
        → (k : ℕ) → k < (if t then 0 else suc (feed_in cs)) → get_or (c ∷ cs) k 0 ≡ line_feed → ⊥
    by_test n true p k h e = not-suc-le-zero h
    by_test n false p zero h e = eqb-false c line_feed p e
    by_test n false p (suc k) h e = n k (le_of_suc-le-suc h) e

feed_found : (s : List ℕ) → feed_in s < length s → get_or s (feed_in s) 0 ≡ line_feed
feed_found [] h = absurd (not-suc-le-zero h)
feed_found (c ∷ cs) h = by_test (feed_found cs) (eqb c line_feed) refl h
  where
    by_test : (feed_in cs < length cs → get_or cs (feed_in cs) 0 ≡ line_feed) → (t : Bool) → eqb c line_feed ≡ t
        → (if t then 0 else suc (feed_in cs)) < suc (length cs) → get_or (c ∷ cs) (if t then 0 else suc (feed_in cs)) 0 ≡ line_feed
    by_test f true p h = eqb-true c line_feed p
    by_test f false p h = f (le_of_suc-le-suc h)

-- a search for the first LF finds it, and where it finds none there is none
pub feed_place : (s : List ℕ) → position_or_len (λ (c : ℕ). c == line_feed) s ≡ feed_in s
feed_place [] = refl
feed_place (c ∷ cs) = by_test (feed_place cs) (eqb c line_feed)
  where
    by_test : position_or_len (λ (c : ℕ). c == line_feed) cs ≡ feed_in cs → (t : Bool)
        → cond (not t) (1 + position_or_len (λ (c : ℕ). c == line_feed) cs) 0 ≡ (if t then 0 else suc (feed_in cs))
    by_test h true = refl
    by_test h false = rw h (omega arith)

pub feed_or_end : (s : List ℕ) (o : Option ℕ) → o ≡ position (λ (c : ℕ). c == line_feed) s → (unwrap_or o (length s) ≡ feed_in s) × (unwrap_or o (length s) ≤ length s)
feed_or_end s o e = by_test (ltb (feed_in s) (length s)) refl (rw (feed_place s) at e)
  where
    by_test : (t : Bool) → ltb (feed_in s) (length s) ≡ t → o ≡ cond (ltb (feed_in s) (length s)) (Some (feed_in s)) None
        → (unwrap_or o (length s) ≡ feed_in s) × (unwrap_or o (length s) ≤ length s)
    by_test true p q = rw (q, p) (refl, feed_there s)
    by_test false p q =
        let l = ltb-false (feed_in s) (length s) p in
        let t = feed_there s in
        rw (q, p) (omega arith, omega arith)

pub fed_from : (text : List ℕ) (at : ℕ) → at ≤ length text → FirstFeed text at (at + feed_in (drop at text))
fed_from text at h =
    let d = length-drop at text in
    let t = feed_there (drop at text) in
    let s = drop at text in
    record {
      from = omega arith;
      there = omega arith;
      before = λ k a b e.
          let m : at + (k - at) ≡ k = omega arith in
          feed_none s (k - at) (omega arith) (get_or-drop at text (k - at) 0 ∙ rw m e);
      found = λ p. sym (get_or-drop at text (feed_in s) 0) ∙ feed_found s (omega arith);
    }

-- line by line, by where each stops and the next begins, a text is read as its lines
pub by_steps : (s : List ℕ) → 0 < length s → lines_of s ≡ take (stop_in s) s ∷ lines_of (drop (next_in s) s)
unfolding stop_in next_in
by_steps s h = by_test (ltb (feed_in s) (length s)) refl
  where
    by_test : (t : Bool) → ltb (feed_in s) (length s) ≡ t
        → lines_of s ≡ take (if t then stop_before s (feed_in s) else feed_in s) s ∷ lines_of (drop (if t then suc (feed_in s) else feed_in s) s)
    by_test true e = let l = ltb-true (feed_in s) (length s) e in line_first s (feed_in s) l (feed_none s) (feed_found s l)
    by_test false e =
        let g = ltb-false (feed_in s) (length s) e in
        let t = feed_there s in
        let n : feed_in s ≡ length s = omega arith in
        line_last s h (λ k p. feed_none s k (omega arith))
        ∙ rw (n, take_all (length s) s (omega arith), drop-length s) (ap (λ (ls : List (List ℕ)). s ∷ ls) (sym no_lines))
