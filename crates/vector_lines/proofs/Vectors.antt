-- Laws of bytes by seed and stride, and of bytes put as far as a memory reaches.
use mathlib.Core.Path.{◌≡◌, refl, ap, sym, ◌∙◌}
use mathlib.Core.List.{List, [], ◌∷◌, ◌++◌}
use Prim.Native.Nat.{ℕ, zero, suc, ◌+◌, ◌≤◌, ◌<◌, ◌%◌, min}
use native.Mathlib.Nat.{le_of_suc-le-suc, not-suc-le-zero}
use native.Mathlib.Omega.{arith}
use lib.ListN.{length, set, take, length-append}
use Rattle.words.specs.Over.{put}
use Rattle.words.proofs.Over.{put_all, put_one, put_then}
use Rattle.vector_lines.specs.Vectors.{filled}

-- as many as are asked for
pub length_filled : (v s n : ℕ) → length (filled v s n) ≡ n
length_filled v s zero = refl
length_filled v s (suc n) = ap suc (length_filled ((v + s) % 256) s n)

-- no more than there is room for
pub filled_fits : (v s n room : ℕ) → length (filled v s (min n room)) ≤ room
filled_fits v s n room = let e = length_filled v s (min n room) in omega (arith, e)

-- a turn stores the first of those that are left
pub filled_more : (m : List ℕ) (i v s n k : ℕ) → n ≡ suc k
    → put (set m i v) (i + 1) (filled ((v + s) % 256) s k) ≡ put m i (filled v s n)
filled_more m i v s n k e =
    ap (λ (o : List ℕ). put o (i + 1) (filled ((v + s) % 256) s k)) (sym (put_one m i v))
    ∙ put_then m i (i + 1) (v ∷ []) (filled ((v + s) % 256) s k) refl
    ∙ ap (λ (j : ℕ). put m i (filled v s j)) (sym e)

-- behind its end nothing is put
pub put_behind : (m : List ℕ) (at : ℕ) (new : List ℕ) → length m ≤ at → put m at new ≡ m
put_behind [] at new h = refl
put_behind (x ∷ m) zero new h = absurd (not-suc-le-zero h)
put_behind (x ∷ m) (suc at) new h = ap (λ (r : List ℕ). x ∷ r) (put_behind m at new (le_of_suc-le-suc h))

-- the bytes that reach its end are put as all are
pub put_cut : (m : List ℕ) (at : ℕ) (new : List ℕ) (n : ℕ) → (n < length new → length m ≤ at + n) → put m at (take n new) ≡ put m at new
put_cut [] at new n h = refl
put_cut (x ∷ m) (suc at) new n h = ap (λ (r : List ℕ). x ∷ r) (put_cut m at new n (λ k. let g = h k in omega arith))
put_cut (x ∷ m) zero [] zero h = refl
put_cut (x ∷ m) zero [] (suc n) h = refl
put_cut (x ∷ m) zero (b ∷ new) zero h = absurd (not-suc-le-zero (h (omega arith)))
put_cut (x ∷ m) zero (b ∷ new) (suc n) h = ap (λ (r : List ℕ). b ∷ r) (put_cut m zero new n (λ k. let g = h (omega arith) in omega arith))

-- two pieces put one behind the other in place of all that was there
pub put_both : (m a b : List ℕ) (at : ℕ) → length a ≡ at → length m ≡ at + length b → put (put m 0 a) at b ≡ a ++ b
put_both m a b at e h =
    put_then m 0 at a b (omega (arith, e)) ∙ put_all m (a ++ b) (omega (arith, length-append a b, e, h))
