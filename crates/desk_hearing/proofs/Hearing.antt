-- What comes of a character: it is kept, or ends a line that is answered.
use mathlib.Core.Path.{◌≡◌, refl, sym, ap, ◌∙◌}
use mathlib.Core.Bool.{true, false}
use mathlib.Core.List.{List, [], ◌∷◌, ◌++◌}
use Prim.Native.Nat.{ℕ, zero, suc, ◌+◌, ◌-◌, ◌≤◌, ◌<◌}
use native.Mathlib.Nat.{not-suc-le-zero, le_of_suc-le-suc}
use native.Mathlib.Numerals.{add-one}
use native.Mathlib.Omega.{arith}
use lib.Dec.{eqb}
use lib.ListN.{length, get_or, take, drop, set, length-drop}
use lib.Seq.{length-take-le}
use Rattle.words.proofs.Slices.{to_the_end}
use borrow.Author.Tests.{lt-ltb, le-ltb}
use Rattle.memories.specs.Memories.{Memories}
use Rattle.boot.specs.Promise.{state_of}
use Rattle.desk_lines.specs.Lines.{line_feed}
use Rattle.desk_answers.specs.Told.{quiet, ◌then◌}
use Rattle.desk_answers.specs.Desk.{Desk, kept_characters, keep, kept, line_ends, hears}
use Rattle.desk_passing.specs.Passing.{at_line}
use Rattle.desk_hearing.specs.Promise.{desk_of}
use Rattle.desk_hearing.specs.declared.Desk as C

-- a character stored behind others is kept behind them
stored_behind : (l : List ℕ) (j c : ℕ) → j < length l → take (suc j) (set l j c) ≡ take j l ++ c ∷ []
stored_behind [] j c h = absurd (not-suc-le-zero h)
stored_behind (x ∷ l) zero c h = refl
stored_behind (x ∷ l) (suc j) c h = ap (λ (r : List ℕ). x ∷ r) (stored_behind l j c (le_of_suc-le-suc h))

-- while there is room it is kept, and then it is not
pub kept_stored : (l : List ℕ) (j c : ℕ) → length l ≡ kept_characters → j < kept_characters → take (j + 1) (set l j c) ≡ keep (take j l) c
kept_stored l j c e h =
    rw (length-take-le j l (omega arith), lt-ltb j kept_characters h, add-one) (stored_behind l j c (omega arith))

pub kept_full : (l : List ℕ) (j c : ℕ) → length l ≡ kept_characters → j ≤ kept_characters → kept_characters ≤ j → take j l ≡ keep (take j l) c
kept_full l j c e k h = rw (length-take-le j l (omega arith), le-ltb j kept_characters h) refl

-- a desk of which nothing is kept is before a line
pub nothing_kept : (d : C.Desk) (line : List ℕ) (m : Memories) → d.kept ≡ 0 → desk_of d line m ≡ at_line d.why d.session m d.lines
nothing_kept d line m e = ap (λ (n : ℕ). record { why = d.why; state = state_of d.session m; lines = d.lines; line = take n line }) e

-- what is behind the first character
abbrev pub others : List ℕ → List ℕ
others s = take (length s - 1) (drop 1 s)

pub length-others : (s : List ℕ) → length (others s) ≡ length s - 1
length-others s = ap length (to_the_end 1 s) ∙ length-drop 1 s

-- the next character ends a line, or is kept
module _ (s : List ℕ) (d : Desk) (h : 0 < length s) where
  next : s ≡ get_or s 0 0 ∷ others s
  next = by_case s h
    where
      by_case : (l : List ℕ) → 0 < length l → l ≡ get_or l 0 0 ∷ others l
      by_case [] k = absurd (not-suc-le-zero k)
      by_case (c ∷ l) k = ap (λ (r : List ℕ). c ∷ r) (sym (to_the_end 1 (c ∷ l)))

  pub hears_end : eqb (get_or s 0 0) line_feed ≡ true → hears s d ≡ (line_ends d then hears (others s))
  unfolding hears
  hears_end e = ap (λ (l : List ℕ). hears l d) next ∙ first (get_or s 0 0) e
    where
      first : (c : ℕ) → eqb c line_feed ≡ true → hears (c ∷ others s) d ≡ (line_ends d then hears (others s))
      first c e = rw e refl

  pub hears_kept : eqb (get_or s 0 0) line_feed ≡ false → hears s d ≡ hears (others s) (kept d (get_or s 0 0))
  unfolding hears
  hears_kept e = ap (λ (l : List ℕ). hears l d) next ∙ first (get_or s 0 0) e
    where
      first : (c : ℕ) → eqb c line_feed ≡ false → hears (c ∷ others s) d ≡ hears (others s) (kept d c)
      first c e = rw e refl

-- where no character is left nothing is heard
pub hears_none : (s : List ℕ) (d : Desk) → length s < 1 → hears s d ≡ quiet d
unfolding hears
hears_none [] d h = refl
hears_none (c ∷ s) d h = absurd (omega arith)
