-- What judging lines finds: the first faulty one, or that none is. Each line's cause is its first fault, so this follows line by line.
use mathlib.Core.Path.{◌≡◌, refl, sym, ap, ◌∙◌}
use mathlib.Core.Bool.{Bool, true, false, ◌||◌}
use mathlib.Core.List.{List, [], ◌∷◌, ◌++◌, append-nil, append_assoc}
use mathlib.Core.Logic.{◌⊎◌, inl, inr}
use Prim.Native.Nat.{ℕ, suc, ◌+◌}
use native.Mathlib.Omega.{arith}
use lib.Dec.{eqb, ltb}
use lib.IntN.{ℤ}
use lib.ListN.{length, get_or}
use borrow.Author.Tests.{ltb-true, ltb-false, eqb-true, eq-eqb}
use Rattle.std.specs.Prelude.{if◌then◌else◌, Option, Some, Result, Ok, Err}
use Rattle.words.specs.Lists.{any}
use Rattle.records.specs.Ends.{lines_of}
use Rattle.records.specs.Records.{line_of}
use Rattle.loading.specs.Loads.{cause_no, untouched, verdict_of, touched_by, whole, at_line, judged, answer_to}
use Rattle.loading.specs.Faults.{is_ending, Fault, Faultless, NoFaults, Sound, FirstFault}
use Rattle.loading.specs.declared.Cause.{Cause}
use Rattle.loading.specs.declared.Cause.TheVariants.{WrongLength, BadLine, BadChecksum, OutsideFlash, Overlap, NoEnd}
use Rattle.loading.specs.declared.Refused.{Refused}
use Rattle.loading.proofs.Bytes.{clash}
use Rattle.loading.proofs.Turns.{goes_on, decides}
use Rattle.loading.proofs.Marks.{Kept, kept_none, kept_more}
use Rattle.loading.proofs.Verdicts.{First, Verdict, verdict}

-- a cause is told by its number
by_number : ℕ → Cause
by_number n = get_or (WrongLength ∷ WrongLength ∷ BadLine ∷ BadChecksum ∷ OutsideFlash ∷ Overlap ∷ []) n NoEnd

numbered : (c : Cause) → by_number (cause_no c) ≡ c
unfolding by_number
numbered WrongLength = refl
numbered BadLine = refl
numbered BadChecksum = refl
numbered OutsideFlash = refl
numbered Overlap = refl
numbered NoEnd = refl

same_cause : (c d : Cause) → cause_no c ≡ cause_no d → c ≡ d
same_cause c d e = sym (numbered c) ∙ ap by_number e ∙ numbered d

-- no line is faulty: the last thing asked is whether there was an ending record
record Free (shift : ℤ) (before ls : List (List ℕ)) (r : Result (Unit {0}) Refused) : Type 0 where
  ended : Bool
  result : r ≡ (if ended then Ok tt else Err (whole NoEnd))
  faultless : NoFaults shift before ls
  ending : any is_ending (before ++ ls) ≡ ended

-- a line is the first faulty one
record Found (shift : ℤ) (before ls : List (List ℕ)) (n : ℕ) (r : Result (Unit {0}) Refused) : Type 0 where
  lines : List (List ℕ)
  line : List ℕ
  behind : List (List ℕ)
  cause : Cause
  split : ls ≡ lines ++ (line ∷ behind)
  result : r ≡ Err (at_line cause (suc (n + length lines)))
  faultless : NoFaults shift before lines
  fault : Fault shift (before ++ lines) line cause
  first : First shift (before ++ lines) line cause

-- the one or the other
abbrev Outcome : ℤ → List (List ℕ) → List (List ℕ) → ℕ → Result (Unit {0}) Refused → Type 0
Outcome shift before ls n r = Free shift before ls r ⊎ Found shift before ls n r

module _ (shift : ℤ) where
  -- a line without a fault before others
  one_more : (before : List (List ℕ)) (l : List ℕ) (ls : List (List ℕ)) (n : ℕ) (r s : Result (Unit {0}) Refused) → Faultless shift before l → s ≡ r
      → Outcome shift (before ++ (l ∷ [])) ls (suc n) r → Outcome shift before (l ∷ ls) n s
  one_more before l ls n r s f e (inl o) = inl record {
    ended = o.ended;
    result = e ∙ o.result;
    faultless = (f, o.faultless);
    ending = rw (append_assoc before (l ∷ []) ls) at o.ending;
  }
  one_more before l ls n r s f e (inr o) = inr record {
    lines = l ∷ o.lines;
    line = o.line;
    behind = o.behind;
    cause = o.cause;
    split = ap (λ (x : List (List ℕ)). l ∷ x) o.split;
    result = e ∙ o.result ∙ ap (λ (k : ℕ). Err (at_line o.cause k)) (omega arith);
    faultless = (f, o.faultless);
    fault = rw (append_assoc before (l ∷ []) o.lines) at o.fault;
    first = rw (append_assoc before (l ∷ []) o.lines) at o.first;
  }

  outcome : (ls before : List (List ℕ)) (n : ℕ) (ended : Bool) (touched : List ℕ) → Kept shift before ended touched
      → Outcome shift before ls n (judged shift n ended touched ls)
  outcome [] before n ended touched w =
      inl record { ended = ended; result = refl; faultless = tt; ending = rw (append-nil before) (sym w.ends) }
  outcome (l ∷ ls) before n ended touched w =
      by_verdict (outcome ls (before ++ (l ∷ [])) (suc n) (ended || is_ending l) (touched_by shift (line_of l) touched) (kept_more shift before ended touched l w))
      (verdict_of shift ended touched (line_of l)) refl (verdict shift before ended touched w l)
    where
      by_verdict : Outcome shift (before ++ (l ∷ [])) ls (suc n) (judged shift (suc n) (ended || is_ending l) (touched_by shift (line_of l) touched) ls)
          → (v : Result (Unit {0}) Cause) → verdict_of shift ended touched (line_of l) ≡ v → Verdict shift before l v
          → Outcome shift before (l ∷ ls) n (judged shift n ended touched (l ∷ ls))
      by_verdict o (Ok u) a f = one_more before l ls n _ _ f (goes_on shift n ended touched l ls a) o
      by_verdict o (Err c) a (f, g) = inr record {
        lines = [];
        line = l;
        behind = ls;
        cause = c;
        split = refl;
        result = decides shift n ended touched l ls c a ∙ ap (λ (k : ℕ). Err (at_line c k)) (omega arith);
        faultless = tt;
        fault = rw (append-nil before) f;
        first = rw (append-nil before) g;
      }

  -- lines without a fault have none at any place
  pub faultless_at : (before xs : List (List ℕ)) (l : List ℕ) (ys : List (List ℕ)) → NoFaults shift before (xs ++ (l ∷ ys))
      → Faultless shift (before ++ xs) l
  faultless_at before [] l ys f = rw (append-nil before) f.0
  faultless_at before (x ∷ xs) l ys f = rw (append_assoc before (x ∷ []) xs) at (faultless_at (before ++ (x ∷ [])) xs l ys f.1)

  -- a line that has a fault, and none before it, is what is found, by its first cause
  same_first : (before : List (List ℕ)) (l : List ℕ) (c d : Cause) → Fault shift before l c → First shift before l c → Fault shift before l d
      → First shift before l d → c ≡ d
  same_first before l c d f g h k = by_order (ltb (cause_no c) (cause_no d)) refl (ltb (cause_no d) (cause_no c)) refl
    where
      by_order : (a : Bool) → ltb (cause_no c) (cause_no d) ≡ a → (b : Bool) → ltb (cause_no d) (cause_no c) ≡ b → c ≡ d
      by_order true p b q = absurd (k c (ltb-true (cause_no c) (cause_no d) p) f)
      by_order false p true q = absurd (g d (ltb-true (cause_no d) (cause_no c) q) h)
      by_order false p false q =
          let u = ltb-false (cause_no c) (cause_no d) p in
          let v = ltb-false (cause_no d) (cause_no c) q in
          same_cause c d (omega arith)

  finds : (xs before : List (List ℕ)) (l : List ℕ) (ys : List (List ℕ)) (c : Cause) (n : ℕ) (ended : Bool) (touched : List ℕ)
      → Kept shift before ended touched → NoFaults shift before xs → Fault shift (before ++ xs) l c → First shift (before ++ xs) l c
      → judged shift n ended touched (xs ++ (l ∷ ys)) ≡ Err (at_line c (suc (n + length xs)))
  finds [] before l ys c n ended touched w s f g =
      by_verdict (verdict_of shift ended touched (line_of l)) refl (verdict shift before ended touched w l)
    where
      by_verdict : (v : Result (Unit {0}) Cause) → verdict_of shift ended touched (line_of l) ≡ v → Verdict shift before l v
          → judged shift n ended touched (l ∷ ys) ≡ Err (at_line c (suc (n + 0)))
      by_verdict (Ok u) a h = absurd (h c (rw (append-nil before) at f))
      by_verdict (Err d) a (h, k) =
          let e = same_first before l d c h k (rw (append-nil before) at f) (rw (append-nil before) at g) in
          decides shift n ended touched l ys d a ∙ ap (λ (b : Cause). Err (at_line b (suc n))) e ∙ ap (λ (m : ℕ). Err (at_line c m)) (omega arith)
  finds (x ∷ xs) before l ys c n ended touched w s f g =
      by_verdict (finds xs (before ++ (x ∷ [])) l ys c (suc n) (ended || is_ending x) (touched_by shift (line_of x) touched)
      (kept_more shift before ended touched x w) s.1 (rw (append_assoc before (x ∷ []) xs) f) (rw (append_assoc before (x ∷ []) xs) g))
      (verdict_of shift ended touched (line_of x)) refl (verdict shift before ended touched w x)
    where
      by_verdict : judged shift (suc n) (ended || is_ending x) (touched_by shift (line_of x) touched) (xs ++ (l ∷ ys)) ≡ Err (at_line c (suc (suc n + length xs)))
          → (v : Result (Unit {0}) Cause) → verdict_of shift ended touched (line_of x) ≡ v → Verdict shift before x v
          → judged shift n ended touched (x ∷ (xs ++ (l ∷ ys))) ≡ Err (at_line c (suc (n + suc (length xs))))
      by_verdict r (Ok u) a h = goes_on shift n ended touched x (xs ++ (l ∷ ys)) a ∙ r ∙ ap (λ (m : ℕ). Err (at_line c m)) (omega arith)
      by_verdict r (Err d) a (h, k) = absurd (s.0 d h)

-- what is answered to a text and an image of n bytes
pub data Answered (shift : ℤ) (text : List ℕ) (n : ℕ) (r : Result (Unit {0}) Refused) : Type 0 where
  other : (n ≡ 32768 → ⊥) → r ≡ Err (whole WrongLength) → Answered shift text n r
  taken : n ≡ 32768 → Sound shift text true → r ≡ Ok tt → Answered shift text n r
  endless : n ≡ 32768 → Sound shift text false → r ≡ Err (whole NoEnd) → Answered shift text n r
  faulty : n ≡ 32768 → (f : Refused) → r ≡ Err f → FirstFault shift text f → Answered shift text n r

module _ (shift : ℤ) (text : List ℕ) where
  found : (n : ℕ) (r : Result (Unit {0}) Refused) → n ≡ 32768 → Outcome shift [] (lines_of text) 0 r → Answered shift text n r
  found n r e (inl o) = by_end o.ended o.result o.ending
    where
      by_end : (b : Bool) → r ≡ (if b then Ok tt else Err (whole NoEnd)) → any is_ending (lines_of text) ≡ b → Answered shift text n r
      by_end true p q = taken e record { faultless = o.faultless; ending = q } p
      by_end false p q = endless e record { faultless = o.faultless; ending = q } p
  found n r e (inr o) = faulty e (at_line o.cause (suc (0 + length o.lines))) o.result record {
    before = o.lines;
    line = o.line;
    behind = o.behind;
    lines = o.split;
    number = ap (λ (k : ℕ). Some (suc k)) (omega arith);
    faultless = o.faultless;
    fault = o.fault;
    first = o.first;
  }

  pub answered : (n : ℕ) → Answered shift text n (answer_to shift text n)
  unfolding answer_to
  answered n = by_length (eqb n 32768) refl
    where
      by_length : (b : Bool) → eqb n 32768 ≡ b → Answered shift text n (if b then judged shift 0 false untouched (lines_of text) else Err (whole WrongLength))
      by_length true e = found n (judged shift 0 false untouched (lines_of text)) (eqb-true n 32768 e)
          (outcome shift (lines_of text) [] 0 false untouched (kept_none shift))
      by_length false e = other (λ (h : n ≡ 32768). clash (eqb n 32768) (eq-eqb n 32768 h) e) refl

  -- where there is a first faulty line, it decides
  pub first_decides : (n : ℕ) → n ≡ 32768 → (r : Refused) → FirstFault shift text r → answer_to shift text n ≡ Err r
  unfolding answer_to
  first_decides n e r f =
      rw (eq-eqb n 32768 e, f.lines)
      (finds shift f.before [] f.line f.behind r.cause 0 false untouched (kept_none shift) f.faultless f.fault f.first
      ∙ ap (λ (k : Option ℕ). Err record { cause = r.cause; line = k }) (ap (λ (m : ℕ). Some (suc m)) (omega arith) ∙ sym f.number))

  -- lines that have no fault have no first faulty one
  pub sound_none : (b : Bool) (r : Refused) → Sound shift text b → FirstFault shift text r → ⊥
  sound_none b r s f =
      faultless_at shift [] f.before f.line f.behind (rw f.lines at s.faultless) r.cause f.fault
