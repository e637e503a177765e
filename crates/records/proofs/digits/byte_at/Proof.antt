-- The byte's pair is there and has two digits.
use borrow.Author.Rules.{rules}
use native.Mathlib.Omega.{arith}
use Rattle.records.proofs.Pairs.{Paired, pair_at}
use Rattle.records.proofs.digits.byte_at.Statement.{statement}
use Rattle.records.proofs.digits.byte_at.Tie as tie

paired : (c : tie.Start) → Paired c.args.digits.now c.args.i
paired c = pair_at c.args.digits.now c.args.i c.requires.0 c.requires.1

returns : tie.Need-returns
returns c =
    let after-value = c.before.before in
    let start = after-value.before.before.before in
    (rw (← (paired start).byte, ← after-value.value.ensures.0, ← c.value-2.ensures.0), omega arith)

pub byte_at_spec : {M : Type 1} → statement M
byte_at_spec =
    tie.close
    (tie.spec
    (λ c. search rules)
    (λ c. search rules)
    (λ c κs. (paired c.before.before).high)
    (λ c. search rules)
    (λ c. search rules)
    (λ c. search rules)
    (λ c. (paired c.before.before.before.before).there)
    (λ c κs. (paired c.before.before.before.before).low)
    (λ c. search rules)
    returns)
