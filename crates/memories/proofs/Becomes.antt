-- Bytes laid over a memory stand where they were laid, and every other byte stays.
use mathlib.Core.Path.{◌≡◌, refl, sym, ◌∙◌}
use mathlib.Core.Bool.{Bool, true, false}
use mathlib.Core.List.{List}
use Prim.Native.Nat.{ℕ, ◌+◌, ◌-◌, ◌≤◌, ◌<◌}
use native.Mathlib.Omega.{arith}
use lib.Dec.{T, leb, ltb, leb→le, ltb→lt}
use lib.ListN.{length, get_or, take, replicate, length-replicate, get_or-replicate}
use lib.Seq.{get_or-take, length-take-le}
use Rattle.std.specs.Prelude.{if◌then◌else◌}
use Rattle.words.specs.Over.{over, newer, put, within}
use Rattle.words.proofs.Over.{over_at, length_over}
use Rattle.words.proofs.Tests.{both_left, both_right}
use Rattle.memories.specs.Meaning.{Becomes, everywhere}

-- two rules that agree where the test holds say the same
by_rule : (test : ℕ → Bool) (rule rule' : ℕ → ℕ) (old new : List ℕ) → ((i : ℕ) → T (test i) → rule i ≡ rule' i)
    → Becomes test rule old new → Becomes test rule' old new
by_rule test rule rule' old new f p = record { byte = λ i h. p.byte i h ∙ by_test (test i) i (f i); size = p.size }
  where
    by_test : (t : Bool) (i : ℕ) → (T t → rule i ≡ rule' i) → (if t then rule i else get_or old i 0) ≡ (if t then rule' i else get_or old i 0)
    by_test true i e = e tt
    by_test false i e = refl

-- n bytes laid from a place on, of which each is known
pub laid : (f : ℕ → ℕ → ℕ) (l : List ℕ) (at n : ℕ) (new : List ℕ) (b : ℕ → ℕ) → length new ≡ n → ((j : ℕ) → j < n → get_or new j 0 ≡ b j)
    → Becomes (within at n) (λ i. f (get_or l i 0) (b (i - at))) l (over f l at new)
laid f l at n new b e g =
    by_rule (within at n) (λ i. f (get_or l i 0) (get_or new (i - at) 0)) (λ i. f (get_or l i 0) (b (i - at))) l (over f l at new)
    (λ i t. rw (g (i - at) (in_part i t)))
    (record { byte = λ i h. rw e at (over_at f l at new i h); size = length_over f l at new })
  where
    in_part : (i : ℕ) → T (within at n i) → i - at < n
    in_part i t =
        let p = leb→le at i (both_left (leb at i) (ltb i (at + n)) t) in
        let q = ltb→lt i (at + n) (both_right (leb at i) (ltb i (at + n)) t) in
        omega arith

-- the first n of some bytes
pub laid_first : (f : ℕ → ℕ → ℕ) (l : List ℕ) (at n : ℕ) (new : List ℕ) → n ≤ length new
    → Becomes (within at n) (λ i. f (get_or l i 0) (get_or new (i - at) 0)) l (over f l at (take n new))
laid_first f l at n new h = laid f l at n (take n new) (λ j. get_or new j 0) (length-take-le n new h) (λ j k. get_or-take n new j 0 k)

-- one byte, n times
pub filled : (l : List ℕ) (at n b : ℕ) → Becomes (within at n) (λ i. b) l (put l at (replicate n b))
filled l at n b =
    laid newer l at n (replicate n b) (λ j. b) (length-replicate {A = ℕ} n b) (λ j k. get_or-replicate {A = ℕ} n j b 0 k)

-- a memory that is one byte throughout
pub all_filled : (l : List ℕ) (n b : ℕ) → length l ≡ n → Becomes everywhere (λ i. b) l (replicate n b)
all_filled l n b e = record {
  byte = λ i h. get_or-replicate {A = ℕ} n i b 0 (omega arith);
  size = length-replicate {A = ℕ} n b ∙ sym e;
}
