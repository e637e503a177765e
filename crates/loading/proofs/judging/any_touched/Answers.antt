-- The test that each mark is put to is the definition's, and every mark is put to it.
use Rattle.std.proofs.Common.{ℕ, ◌≡◌, Bool, ◌||◌, List, [], ◌∷◌, eqb, refl, ap, ◌∙◌, ◌-◌, length, take, drop, rules, tests, arith}
use lib.Seq.{take_all}
use Rattle.std.proofs.lemmas.Iterator.{YieldsList-from_slice}
use Rattle.std.proofs.lemmas.Iterator.Search.{any_from_yields_List}
use Rattle.std.specs.List.{list_any}
use Rattle.words.specs.Lists.{any}
use Rattle.loading.specs.Loads.{mark}
use Rattle.loading.proofs.judging.any_touched.Goals as goal

same_any : (f : ℕ → Bool) (l : List ℕ) → list_any f l ≡ any f l
same_any f [] = refl
same_any f (x ∷ l) = ap (λ b. f x || b) (same_any f l)

-- marks from the first one on are all of them
all_from : (n : ℕ) (l : List ℕ) → n ≡ 0 → take (length l - n) (drop n l) ≡ l
all_from n l e = rw e (take_all (length l - 0) l (omega arith))

pub returns : goal.returns
returns c =
    let s = c.iter.result.rest.now in
    let e = any_from_yields_List (eqb mark) _ _ _ c.any.ensures.ran (YieldsList-from_slice s refl) (λ x b q k. search (rules, tests)) in
    let whole : s ≡ c.args.touched.now = search (rules, all_from) in
    e ∙ same_any (eqb mark) s ∙ ap (any (eqb mark)) whole
