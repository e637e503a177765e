-- Laws of a list cut into pieces: the first piece, and what remains.
use mathlib.Core.Path.{◌≡◌, refl, sym, ap, ◌∙◌}
use mathlib.Core.Bool.{Bool, true, false}
use mathlib.Core.List.{List, [], ◌∷◌, ◌++◌, append-nil}
use Prim.Native.Nat.{ℕ, zero, suc, ◌+◌, ◌-◌, ◌≤◌, ◌<◌, min}
use native.Mathlib.Nat.{not-suc-le-zero, le_of_suc-le-suc, min-eq_left, min-eq_right}
use native.Mathlib.Omega.{arith}
use lib.Dec.{leb}
use lib.ListN.{length, take, drop, length-append, length-drop, drop_of_length-le}
use lib.Seq.{take_all, take_at, drop_at}
use borrow.Author.Tests.{leb-true, leb-false}
use Rattle.words.specs.Lists.{cut_up_to, cut}

-- as many pieces as there are bytes are enough
enough : (f g n : ℕ) (l : List ℕ) → length l ≤ f → length l ≤ g → 0 < n → cut_up_to f n l ≡ cut_up_to g n l
enough zero zero n l h k p = refl
enough zero (suc g) n [] h k p = refl
enough zero (suc g) n (x ∷ xs) h k p = absurd (not-suc-le-zero h)
enough (suc f) zero n [] h k p = refl
enough (suc f) zero n (x ∷ xs) h k p = absurd (not-suc-le-zero k)
enough (suc f) (suc g) n [] h k p = refl
enough (suc f) (suc g) n (x ∷ xs) h k p =
    let d = length-drop n (x ∷ xs) in
    ap (λ (ls : List (List ℕ)). take n (x ∷ xs) ∷ ls) (enough f g n (drop n (x ∷ xs)) (omega arith) (omega arith) p)

-- the first piece, and what remains
pub cut_more : (n : ℕ) (l : List ℕ) → 0 < n → 0 < length l → cut n l ≡ take n l ∷ cut n (drop n l)
cut_more n [] p h = absurd (not-suc-le-zero h)
cut_more n (x ∷ xs) p h =
    let d = length-drop n (x ∷ xs) in
    ap (λ (ls : List (List ℕ)). take n (x ∷ xs) ∷ ls) (enough (length xs) (length (drop n (x ∷ xs))) n (drop n (x ∷ xs)) (omega arith) (omega arith) p)

-- a list without length has nothing
pub nothing : (t : List ℕ) → length t ≡ 0 → t ≡ []
nothing [] g = refl
nothing (x ∷ t) g = absurd (omega arith)

-- a chunk that comes off the front is the first piece, and short only where less is left
pub cut_chunk : (n : ℕ) (p l : List ℕ) → 0 < n → 0 < length (p ++ l) → length p ≡ min n (length (p ++ l)) → cut n (p ++ l) ≡ p ∷ cut n l
cut_chunk n p l z h e = by_order (leb n (length (p ++ l))) refl
  where
    by_order : (t : Bool) → leb n (length (p ++ l)) ≡ t → cut n (p ++ l) ≡ p ∷ cut n l
    by_order true f =
        let k : length p ≡ n = e ∙ min-eq_left (leb-true n (length (p ++ l)) f) in
        cut_more n (p ++ l) z h ∙ rw (take_at p l n k, drop_at p l n k) refl
    by_order false f =
        let k : length p ≡ length (p ++ l) = e ∙ min-eq_right (omega (arith, leb-false n (length (p ++ l)) f)) in
        let none : l ≡ [] = nothing l (omega (arith, length-append p l)) in
        cut_more n (p ++ l) z h ∙ rw (none, append-nil, take_all n p (omega (arith, leb-false n (length (p ++ l)) f)), drop_of_length-le p {i = n} (omega (arith, leb-false n (length (p ++ l)) f))) refl
