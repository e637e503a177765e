-- What an answer tells, and when it is given: by the four answers that there are.
use mathlib.Core.Path.{◌≡◌, refl, sym, ap, subst, ◌∙◌}
use mathlib.Core.Bool.{true, false}
use mathlib.Core.List.{List}
use mathlib.Core.Logic.{◌⊎◌, inl, inr}
use Prim.Native.Nat.{ℕ, suc}
use native.Mathlib.Omega.{arith}
use lib.IntN.{ℤ}
use lib.ListN.{length}
use Rattle.std.specs.Prelude.{Option, Some, None, IsSome, is_some, Result, Ok, Err, is_ok}
use Rattle.words.specs.Lists.{any}
use Rattle.records.specs.Ends.{lines_of}
use Rattle.loading.specs.Loads.{cause_no, whole, answer_to}
use Rattle.loading.specs.Faults.{is_ending, Fault, Sound, FirstFault}
use Rattle.loading.specs.declared.Cause.{Cause}
use Rattle.loading.specs.declared.Cause.TheVariants.{WrongLength, NoEnd}
use Rattle.loading.specs.declared.Refused.{Refused}
use Rattle.loading.proofs.Bytes.{clash}
use Rattle.loading.proofs.Outcomes.{Answered, other, taken, endless, faulty, answered, sound_none}

-- an accepted file is not refused
not_both : {P : Type 0} (r : Result (Unit {0}) Refused) (f : Refused) → r ≡ Ok tt → r ≡ Err f → P
not_both r f e h = clash (is_ok r) (ap is_ok e) (ap is_ok h)

-- two refusals of one answer are the same
same_refusal : (r : Result (Unit {0}) Refused) (f g : Refused) → r ≡ Err f → r ≡ Err g → f ≡ g
same_refusal r f g e h = let p : ◌≡◌ {A = Result (Unit {0}) Refused} (Err f) (Err g) = sym e ∙ h in cc

-- the numbers of their causes are the same
told : (r : Result (Unit {0}) Refused) (f g : Refused) → r ≡ Err f → r ≡ Err g → cause_no f.cause ≡ cause_no g.cause
told r f g e h = ap (λ (x : Refused). cause_no x.cause) (same_refusal r f g e h)

-- only a refusal at a line names one
names_none : {P : Type 0} (r : Refused) (c : Cause) → r ≡ whole c → IsSome r.line → P
names_none r c e h = clash true refl (sym (subst (λ (o : Option ℕ). is_some o ≡ true) (ap (λ (x : Refused). x.line) e) h))

some_none : {P : Type 0} (o : Option ℕ) (k : ℕ) → o ≡ Some k → o ≡ None → P
some_none o k e h = absurd (let z : ◌≡◌ {A = ℕ} 0 1 = cc in omega arith)

module _ (shift : ℤ) (text : List ℕ) (n : ℕ) where
  abbrev answer : Result (Unit {0}) Refused
  answer = answer_to shift text n

  -- a fault by another name of its cause
  fault_as : (r : Refused) (f : FirstFault shift text r) (c : Cause) → r.cause ≡ c → Fault shift f.before f.line c
  fault_as r f c e = subst (λ (x : Cause). Fault shift f.before f.line x) e f.fault

  pub accepted_sound : answer ≡ Ok tt → (n ≡ 32768) × Sound shift text true
  accepted_sound a = by_answer (answered shift text n)
    where
      by_answer : Answered shift text n answer → (n ≡ 32768) × Sound shift text true
      by_answer (other h e) = not_both answer (whole WrongLength) a e
      by_answer (taken h s e) = (h, s)
      by_answer (endless h s e) = not_both answer (whole NoEnd) a e
      by_answer (faulty h r e f) = not_both answer r a e

  pub sound_accepted : (n ≡ 32768) × Sound shift text true → answer ≡ Ok tt
  sound_accepted (k, t) = by_answer (answered shift text n)
    where
      by_answer : Answered shift text n answer → answer ≡ Ok tt
      by_answer (other h e) = absurd (h k)
      by_answer (taken h s e) = e
      by_answer (endless h s e) = clash (any is_ending (lines_of text)) t.ending s.ending
      by_answer (faulty h r e f) = absurd (sound_none shift text true r t f)

  pub short_other : answer ≡ Err (whole WrongLength) → n ≡ 32768 → ⊥
  short_other a k = by_answer (answered shift text n)
    where
      by_answer : Answered shift text n answer → ⊥
      by_answer (other h e) = h k
      by_answer (taken h s e) = not_both answer (whole WrongLength) e a
      by_answer (endless h s e) = let z = told answer (whole NoEnd) (whole WrongLength) e a in omega arith
      by_answer (faulty h r e f) = fault_as r f WrongLength (ap (λ (x : Refused). x.cause) (same_refusal answer r (whole WrongLength) e a))

  pub other_short : (n ≡ 32768 → ⊥) → answer ≡ Err (whole WrongLength)
  other_short k = by_answer (answered shift text n)
    where
      by_answer : Answered shift text n answer → answer ≡ Err (whole WrongLength)
      by_answer (other h e) = e
      by_answer (taken h s e) = absurd (k h)
      by_answer (endless h s e) = absurd (k h)
      by_answer (faulty h r e f) = absurd (k h)

  pub endless_sound : answer ≡ Err (whole NoEnd) → (n ≡ 32768) × Sound shift text false
  endless_sound a = by_answer (answered shift text n)
    where
      by_answer : Answered shift text n answer → (n ≡ 32768) × Sound shift text false
      by_answer (other h e) = absurd (let z = told answer (whole WrongLength) (whole NoEnd) e a in omega arith)
      by_answer (taken h s e) = not_both answer (whole NoEnd) e a
      by_answer (endless h s e) = (h, s)
      by_answer (faulty h r e f) = absurd (fault_as r f NoEnd (ap (λ (x : Refused). x.cause) (same_refusal answer r (whole NoEnd) e a)))

  pub sound_endless : (n ≡ 32768) × Sound shift text false → answer ≡ Err (whole NoEnd)
  sound_endless (k, t) = by_answer (answered shift text n)
    where
      by_answer : Answered shift text n answer → answer ≡ Err (whole NoEnd)
      by_answer (other h e) = absurd (h k)
      by_answer (taken h s e) = clash (any is_ending (lines_of text)) s.ending t.ending
      by_answer (endless h s e) = e
      by_answer (faulty h r e f) = absurd (sound_none shift text false r t f)

  module _ (r : Refused) (a : answer ≡ Err r) where
    pub line_first : IsSome r.line → FirstFault shift text r
    line_first k = by_answer (answered shift text n)
      where
        by_answer : Answered shift text n answer → FirstFault shift text r
        by_answer (other h e) = names_none r WrongLength (same_refusal answer r (whole WrongLength) a e) k
        by_answer (taken h s e) = not_both answer r e a
        by_answer (endless h s e) = names_none r NoEnd (same_refusal answer r (whole NoEnd) a e) k
        by_answer (faulty h s e f) = subst (λ (x : Refused). FirstFault shift text x) (same_refusal answer s r e a) f

    pub no_line_cause : r.line ≡ None → (r.cause ≡ WrongLength) ⊎ (r.cause ≡ NoEnd)
    no_line_cause k = by_answer (answered shift text n)
      where
        by_answer : Answered shift text n answer → (r.cause ≡ WrongLength) ⊎ (r.cause ≡ NoEnd)
        by_answer (other h e) = inl (ap (λ (x : Refused). x.cause) (same_refusal answer r (whole WrongLength) a e))
        by_answer (taken h s e) = not_both answer r e a
        by_answer (endless h s e) = inr (ap (λ (x : Refused). x.cause) (same_refusal answer r (whole NoEnd) a e))
        by_answer (faulty h s e f) =
            let q = ap (λ (x : Refused). x.line) (same_refusal answer s r e a) in
            some_none r.line (suc (length f.before)) (sym q ∙ f.number) k

    pub cause_no_line : (r.cause ≡ WrongLength) ⊎ (r.cause ≡ NoEnd) → r.line ≡ None
    cause_no_line u = by_answer (answered shift text n)
      where
        no_fault : FirstFault shift text r → (r.cause ≡ WrongLength) ⊎ (r.cause ≡ NoEnd) → ⊥
        no_fault f (inl e) = fault_as r f WrongLength e
        no_fault f (inr e) = fault_as r f NoEnd e

        by_answer : Answered shift text n answer → r.line ≡ None
        by_answer (other h e) = ap (λ (x : Refused). x.line) (same_refusal answer r (whole WrongLength) a e)
        by_answer (taken h s e) = not_both answer r e a
        by_answer (endless h s e) = ap (λ (x : Refused). x.line) (same_refusal answer r (whole NoEnd) a e)
        by_answer (faulty h s e f) = absurd (no_fault (subst (λ (x : Refused). FirstFault shift text x) (same_refusal answer s r e a) f) u)
