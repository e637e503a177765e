-- A chain of tests gives the first reason, since each test has a reason that is not behind those of the tests made after it.
use Prim.Native.Nat.{ℕ}
use mathlib.Core.Path.{◌≡◌, refl, sym, ap, subst, ◌∙◌}
use mathlib.Core.Bool.{Bool, true, false, not, ◌&&◌, ◌||◌}
use mathlib.Core.List.{List, [], ◌∷◌}
use native.Mathlib.Omega.{arith}
use lib.Dec.{T, eqb, leb, leb→le, le→leb, eqb_refl}
use borrow.Author.Tests.{leb-true, leb-false}
use Rattle.std.specs.Prelude.{if◌then◌else◌, Ok, Err}
use Rattle.words.specs.Lists.{any, all}
use Rattle.words.proofs.Tests.{both_left, both_right, chosen}
use Rattle.command.specs.Decision.{Verdict, if◌gives◌else◌, nack, judged}
use Rattle.command.specs.Tests.{Test, ◌when◌, only_if, precedes, earlier, first_reason, GivesFirst, IsFirst, one_of, reasons_of}
use Rattle.command.specs.Why.{reason, no_reason, reason_of}
use Rattle.command.specs.declared.Decision.{Decision}
use Rattle.command.specs.declared.Why.{Why}
use Rattle.command.specs.declared.Why.TheVariants.{BadComplement, UnknownCommand, AccessProtected, OtherFrame, BadChecksum, BadAddress}
use Rattle.command.specs.declared.Why.TheVariants.{BadRange, BadSector, WriteProtected, UnsupportedErase, BadSpeed}

-- ---- one test before others

-- `precedes`, of a number in place of a reason
abbrev number_precedes : ℕ → ℕ → Bool
number_precedes m n = eqb n no_reason || leb m n

-- a number is not behind the reason of any test
abbrev pub precedes_all : ℕ → List Test → Bool
precedes_all m ts = all (λ (t : Test). leb m (reason t.why)) ts

-- one of two that hold
either_left : (a b : Bool) → T a → T (a || b)
either_left true b t = tt
either_left false b t = absurd t

either_right : (a b : Bool) → T b → T (a || b)
either_right true b t = tt
either_right false b t = t

-- what is not behind two numbers is not behind the earlier one
not_behind : (m a n : ℕ) (b c : Bool) → T (leb m a) → T (number_precedes m n) → T (number_precedes m (if b then if c then a else n else n))
not_behind m a n true true h k = either_right (eqb a no_reason) (leb m a) h
not_behind m a n true false h k = k
not_behind m a n false c h k = k

-- so what is not behind the reason of any test is not behind the first one
precedes_first : (m : ℕ) (ts : List Test) → T (precedes_all m ts) → T (number_precedes m (first_reason ts))
unfolding first_reason
precedes_first m [] h = tt
precedes_first m (t ∷ ts) h =
    not_behind m (reason t.why) (first_reason ts) t.refuses (precedes t.why (first_reason ts))
    (both_left (leb m (reason t.why)) (precedes_all m ts) h)
    (precedes_first m ts (both_right (leb m (reason t.why)) (precedes_all m ts) h))

-- ---- decisions

-- a decision without a reason, where nothing is tested
pub unrefused : {d : Decision} → reason_of d.reply ≡ no_reason → GivesFirst d []
unfolding first_reason
unrefused e = record { first = e }

-- a refusal, before others
pub refused_first : (w : Why) (ts : List Test) → T (precedes_all (reason w) ts) → GivesFirst (nack w) ((w when true) ∷ ts)
unfolding first_reason
refused_first w ts h =
    record { first = sym (chosen (precedes w (first_reason ts)) (reason w) (first_reason ts) (precedes_first (reason w) ts h)) }

-- a test that was passed
pub passed : (w : Why) {ts : List Test} {d : Decision} → GivesFirst d ts → GivesFirst d ((w when false) ∷ ts)
unfolding first_reason
passed w g = record { first = g.first }

-- a decision that is made where a test holds, and is else refused
pub forbidden : (b : Bool) (w : Why) (ts : List Test) {d : Decision} → T (precedes_all (reason w) ts) → GivesFirst d ts
    → GivesFirst (if b gives d else nack w) ((w when not b) ∷ ts)
unfolding if◌gives◌else◌
forbidden true w ts h g = passed w g
forbidden false w ts h g = refused_first w ts h

-- a decision that is refused where a test holds
pub guarded : (b : Bool) (w : Why) (ts : List Test) {d : Decision} → T (precedes_all (reason w) ts) → GivesFirst d ts
    → GivesFirst (if b gives nack w else d) ((w when b) ∷ ts)
unfolding if◌gives◌else◌
guarded true w ts h g = refused_first w ts h
guarded false w ts h g = passed w g

-- tests that refuse only where something holds: they are all there, or none refuses
pub only_if_first : (b : Bool) (ts : List Test) → first_reason (only_if b ts) ≡ (if b then first_reason ts else no_reason)
unfolding first_reason
only_if_first true [] = refl
only_if_first true (t ∷ ts) =
    ap (λ (n : ℕ). if t.refuses then earlier t.why n else n) (only_if_first true ts)
only_if_first false [] = refl
only_if_first false (t ∷ ts) = only_if_first false ts

-- a decision that waits, without a reason, where a test holds
pub awaited : (b : Bool) (ts : List Test) (x : Decision) {y : Decision} → reason_of x.reply ≡ no_reason → GivesFirst y ts
    → GivesFirst (if b gives x else y) (only_if (not b) ts)
unfolding if◌gives◌else◌
awaited true ts x e g = record { first = e ∙ sym (only_if_first false ts) }
awaited false ts x e g = record { first = g.first ∙ sym (only_if_first true ts) }

-- ---- verdicts

-- the reason of a verdict
abbrev pub verdict_reason : Verdict → ℕ
verdict_reason (Ok u) = no_reason
verdict_reason (Err w) = reason w

-- a verdict refuses for the first one of these tests
pub record RefusesFirst (v : Verdict) (ts : List Test) : Type 0 where
  pub first : verdict_reason v ≡ first_reason ts

-- and so does a decision that it may forbid
pub judged_first : (v : Verdict) (d : Decision) {ts : List Test} → reason_of d.reply ≡ no_reason → RefusesFirst v ts
    → GivesFirst (judged v d) ts
unfolding judged
judged_first (Ok u) d e r = record { first = e ∙ r.first }
judged_first (Err w) d e r = record { first = r.first }

-- ---- what the first reason is

-- a reason is not none
pub is_some : (w : Why) → eqb (reason w) no_reason ≡ false
is_some BadComplement = refl
is_some UnknownCommand = refl
is_some AccessProtected = refl
is_some OtherFrame = refl
is_some BadChecksum = refl
is_some BadAddress = refl
is_some BadRange = refl
is_some BadSector = refl
is_some WriteProtected = refl
is_some UnsupportedErase = refl
is_some BadSpeed = refl

-- the earlier of a reason and a number is a reason
some_earlier : (a n : ℕ) → eqb a no_reason ≡ false → (z l : Bool) → eqb n no_reason ≡ z → eqb (if z || l then a else n) no_reason ≡ false
some_earlier a n h true l e = h
some_earlier a n h false true e = h
some_earlier a n h false false e = e

none_first : (ts : List Test) → eqb (first_reason ts) no_reason ≡ not (any (λ (t : Test). t.refuses) ts)
unfolding first_reason
none_first [] = refl
none_first (t ∷ ts) = by_test t.refuses (none_first ts)
  where
    by_test : (b : Bool) → eqb (first_reason ts) no_reason ≡ not (any (λ (u : Test). u.refuses) ts)
        → eqb (if b then earlier t.why (first_reason ts) else first_reason ts) no_reason ≡ not (b || any (λ (u : Test). u.refuses) ts)
    by_test true h =
        some_earlier (reason t.why) (first_reason ts) (is_some t.why) (eqb (first_reason ts) no_reason) (leb (reason t.why) (first_reason ts)) refl
    by_test false h = h

-- some test that refuses has a number
abbrev had : ℕ → List Test → Bool
had n ts = any (λ (t : Test). t.refuses && eqb n (reason t.why)) ts

-- one of two that hold is one of three
one_of_three : (a b c : Bool) → T (a || c) → T (a || (b || c))
one_of_three true b c t = tt
one_of_three false true c t = tt
one_of_three false false c t = t

among_first : (ts : List Test) → T (eqb (first_reason ts) no_reason || had (first_reason ts) ts)
unfolding first_reason
among_first [] = tt
among_first (t ∷ ts) = by_tests (reason t.why) (first_reason ts) t.refuses (precedes t.why (first_reason ts)) (among_first ts)
  where
    by_tests : (a n : ℕ) (b c : Bool) → T (eqb n no_reason || had n ts)
        → T (eqb (if b then if c then a else n else n) no_reason
        || (b && eqb (if b then if c then a else n else n) a || had (if b then if c then a else n else n) ts))
    by_tests a n true true h = either_right (eqb a no_reason) (eqb a a || had a ts) (either_left (eqb a a) (had a ts) (eqb_refl a))
    by_tests a n true false h = one_of_three (eqb n no_reason) (eqb n a) (had n ts) h
    by_tests a n false c h = h

-- the other of two, one of which does not hold
the_other : (a b : Bool) → a ≡ false → T (a || b) → T b
the_other true b e t = absurd (subst T e tt)
the_other false b e t = t

both : (a b : Bool) → T a → T b → T (a && b)
both true b s t = t
both false b s t = absurd s

-- what is not behind the earlier of a reason and a number is not behind either
behind_neither : (m : ℕ) (w : Why) (n : ℕ) → T (number_precedes m (earlier w n)) → T (leb m (reason w)) × T (number_precedes m n)
behind_neither m w n h = by_tests (eqb n no_reason) (leb (reason w) n) refl refl h
  where
    by_tests : (z l : Bool) → eqb n no_reason ≡ z → leb (reason w) n ≡ l → T (number_precedes m (if z || l then reason w else n))
        → T (leb m (reason w)) × T (number_precedes m n)
    by_tests true l ez el h =
        (the_other (eqb (reason w) no_reason) (leb m (reason w)) (is_some w) h, either_left (eqb n no_reason) (leb m n) (subst T (sym ez) tt))
    by_tests false true ez el h =
        let k = the_other (eqb (reason w) no_reason) (leb m (reason w)) (is_some w) h in
        (k, either_right (eqb n no_reason) (leb m n) (le→leb m n (omega (arith, leb→le m (reason w) k, leb-true (reason w) n el))))
    by_tests false false ez el h =
        let k = the_other (eqb n no_reason) (leb m n) ez h in
        (le→leb m (reason w) (omega (arith, leb→le m n k, leb-false (reason w) n el)), h)

-- what is not behind the first reason is not behind that of a test that refuses
behind_none : (m : ℕ) (ts : List Test) → T (number_precedes m (first_reason ts))
    → T (all (λ (t : Test). not t.refuses || leb m (reason t.why)) ts)
unfolding first_reason
behind_none m [] h = tt
behind_none m (t ∷ ts) h = by_test t.refuses (behind_none m ts) h
  where
    by_test : (b : Bool)
        → (T (number_precedes m (first_reason ts)) → T (all (λ (u : Test). not u.refuses || leb m (reason u.why)) ts))
        → T (number_precedes m (if b then earlier t.why (first_reason ts) else first_reason ts))
        → T ((not b || leb m (reason t.why)) && all (λ (u : Test). not u.refuses || leb m (reason u.why)) ts)
    by_test true f h =
        let k = behind_neither m t.why (first_reason ts) h in
        both (leb m (reason t.why)) _ k.0 (f k.1)
    by_test false f h = f h

is_first : (ts : List Test) → IsFirst (first_reason ts) ts
is_first ts = record {
  none = none_first ts;
  among = among_first ts;
  foremost = behind_none (first_reason ts) ts
      (either_right (eqb (first_reason ts) no_reason) (leb (first_reason ts) (first_reason ts)) (le→leb (first_reason ts) (first_reason ts) (omega arith)));
}

-- ---- the same of a decision

-- it has one of the reasons that are tested, or none
pub gives_one : {d : Decision} {ts : List Test} → GivesFirst d ts → T (one_of (reasons_of ts) (reason_of d.reply))
gives_one {d} {ts} g =
    subst (λ (n : ℕ). T (one_of (reasons_of ts) n)) (sym g.first)
    (listed (eqb (first_reason ts) no_reason) (first_reason ts) ts (among_first ts))
  where
    listed : (z : Bool) (n : ℕ) (ts : List Test) → T (z || had n ts) → T (z || any (λ (w : Why). eqb n (reason w)) (reasons_of ts))
    listed true n ts h = tt
    listed false n [] h = h
    listed false n (t ∷ ts) h = by_tests t.refuses (eqb n (reason t.why)) h (listed false n ts)
      where
        by_tests : (b c : Bool) → T (b && c || had n ts) → (T (had n ts) → T (any (λ (w : Why). eqb n (reason w)) (reasons_of ts)))
            → T (c || any (λ (w : Why). eqb n (reason w)) (reasons_of ts))
        by_tests b true h k = tt
        by_tests true false h k = k h
        by_tests false false h k = k h

-- it is the first one
pub gives_the_first : {d : Decision} {ts : List Test} → GivesFirst d ts → IsFirst (reason_of d.reply) ts
gives_the_first {d} {ts} g = subst (λ (n : ℕ). IsFirst n ts) (sym g.first) (is_first ts)
