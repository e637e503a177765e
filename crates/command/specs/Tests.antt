-- Which of several reasons is given: document 02, Wish 2, "Reasons are tested in this order".
use Rattle.std.specs.Prelude.{ℕ, ◌≡◌, Bool, true, not, ◌&&◌, ◌||◌, List, [], ◌∷◌, map, T, eqb, leb, ltb}
use Rattle.std.specs.Prelude.{if◌then◌else◌}
use Rattle.words.specs.Lists.{any, all}
use Rattle.command.specs.Why.{reason, no_reason, reason_of}
use Rattle.command.specs.declared.Decision.{Decision}
use Rattle.command.specs.declared.Why.{Why}

-- a test: the reason that it has, and whether it refuses
pub record Test : Type 0 where
  pub why : Why
  pub refuses : Bool

infix 20 ◌when◌
-- a reason, with what it is given for
abbrev pub ◌when◌ : Why → Bool → Test
w when b = record { why = w; refuses = b }

-- tests that refuse only where something else holds
abbrev pub only_if : Bool → List Test → List Test
only_if b ts = map (λ (t : Test). t.why when b && t.refuses) ts

-- a reason comes before a number: the number stands for no reason, or for one that is not tested earlier
abbrev pub precedes : Why → ℕ → Bool
precedes w n = eqb n no_reason || leb (reason w) n

-- of a reason and a number, which may stand for none, the number of the reason that is tested first
abbrev pub earlier : Why → ℕ → ℕ
earlier w n = if precedes w n then reason w else n

-- of the tests that refuse, the reason that is tested first, in whatever order the tests stand; 0 where none refuses
unfoldable pub first_reason : List Test → ℕ
first_reason [] = no_reason
first_reason (t ∷ ts) = if t.refuses then earlier t.why (first_reason ts) else first_reason ts

-- the reason in a decision's reply is the first one of these tests
pub record GivesFirst (d : Decision) (ts : List Test) : Type 0 where
  pub first : reason_of d.reply ≡ first_reason ts

-- what it is to be the first one, said of each test by itself
pub record IsFirst (n : ℕ) (ts : List Test) : Type 0 where
  -- there is none exactly where no test refuses
  pub none : eqb n no_reason ≡ not (any (λ (t : Test). t.refuses) ts)
  -- a test that refuses has it
  pub among : T (eqb n no_reason || any (λ (t : Test). t.refuses && eqb n (reason t.why)) ts)
  -- and no test that refuses has a reason before it
  pub foremost : T (all (λ (t : Test). not t.refuses || leb n (reason t.why)) ts)

-- reasons stand in the order in which they are tested, each once
abbrev pub in_order : List Why → Bool
in_order [] = true
in_order (w ∷ ws) = all (λ (v : Why). ltb (reason w) (reason v)) ws && in_order ws

-- a number is that of one of these reasons, or of none
abbrev pub one_of : List Why → ℕ → Bool
one_of ws n = eqb n no_reason || any (λ (w : Why). eqb n (reason w)) ws

-- the reasons that tests have, whether they refuse or not
abbrev pub reasons_of : List Test → List Why
reasons_of ts = map (λ (t : Test). t.why) ts
