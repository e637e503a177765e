-- Notes are explained two by two, and what is explained stands one behind the other.
use mathlib.Core.Path.{◌≡◌, refl, ap, ◌∙◌}
use mathlib.Core.List.{List, [], ◌∷◌, ◌++◌}
use Prim.Native.Nat.{ℕ, zero, suc, ◌+◌, ◌≤◌, ◌<◌}
use native.Mathlib.Omega.{arith}
use lib.ListN.{length, get_or, take, get_or-eq_default}
use Rattle.words.proofs.Over.{at_front}
use Rattle.words.specs.Texts.{characters}
use Rattle.desk_print.specs.Adds.{Adds}
use Rattle.desk_print.specs.Digits.{decimal}
use Rattle.desk_print.specs.Prints.{number_room}
use Rattle.words.specs.Over.{put}
use Rattle.desk_answers.specs.Told.{Told}
use Rattle.desk_answers.specs.Promise.{Tells, Continues}
use Rattle.desk_answers.specs.Why.{words, words_for, explanation, explanations}
use Rattle.desk_answers.proofs.Telling.{one_told, none_left}

-- a number that is 0, or past the last reason, has no words
pub no_words : (n : ℕ) → (0 < n → 12 ≤ n) → words_for n ≡ []
no_words zero h = refl
no_words (suc n) h = ap characters (get_or-eq_default words "" {n = suc n} (h (omega arith)))

-- the first two notes of what is left, and the others
first_two : (s f t : List ℕ) → s ≡ f ++ t → length f ≡ 2 → explanations s ≡ explanation (get_or f 0 0) (get_or f 1 0) ++ explanations t
first_two s (r ∷ p ∷ []) t e n = ap explanations e
first_two s [] t e n = absurd (omega arith)
first_two s (r ∷ []) t e n = absurd (omega arith)
first_two s (r ∷ p ∷ x ∷ f) t e n = absurd (omega arith)

-- a number that was printed is added
pub numbered : {m m' : List ℕ} {at e k n : ℕ} → k ≡ n → (e ≡ at + length (decimal k)) × (e ≤ at + number_room) × (m' ≡ put m at (decimal k))
    → Adds m at e m' (decimal n)
numbered {m = m} {at = at} f h = record {
  ends = h.0 ∙ ap (λ (j : ℕ). at + length (decimal j)) f;
  written = h.2 ∙ ap (λ (j : ℕ). put m at (decimal j)) f;
}

-- no two are left
none_of_one : (notes : List ℕ) → length notes ≤ 1 → explanations notes ≡ []
none_of_one [] h = refl
none_of_one (r ∷ []) h = refl
none_of_one (r ∷ p ∷ l) h = absurd (omega arith)

-- notes that were told from the front on stand there
pub front_noted : {A : Type 0} (t : Told A) {until : ℕ} {before after : List ℕ} {a : A} → Tells t 0 before until after a → until ≤ length before
    → take until after ≡ t.text
front_noted t {until} {before} h k = rw h.text (at_front t.text before until (omega (arith, h.end)) k)

-- a text that is told
abbrev pub saying : List ℕ → Told ℕ
saying l = record { text = l; state = 0 }

-- one explanation more is added
pub one_explained : (s f t : List ℕ) → s ≡ f ++ t → length f ≡ 2 → {from to at : ℕ} {out out' before : List ℕ} {whole : Told ℕ}
    → Continues (saying (explanations s)) from out whole at before → Adds out from to out' (explanation (get_or f 0 0) (get_or f 1 0))
    → Continues (saying (explanations t)) to out' whole at before
one_explained s f t e n k a =
    one_told (saying (explanation (get_or f 0 0) (get_or f 1 0))) (λ (n : ℕ). saying (explanations t))
    (rw (first_two s f t e n) at k) (record { end = a.ends; text = a.written; state = refl })

-- all are
pub all_explained : (s notes : List ℕ) → length s ≤ 1 → {from at : ℕ} {out before : List ℕ}
    → Continues (saying (explanations s)) from out (saying (explanations notes)) at before → Adds before at from out (explanations notes)
all_explained s notes h k =
    let t = none_left 0 (rw (none_of_one s h) at k) in
    record { ends = t.end; written = t.text }
