-- The digits of a good line stand behind its address and before its checksum.
use borrow.Author.Rules.{rules}
use native.Mathlib.Omega.{arith}
use mathlib.Core.Path.{◌≡◌, ap}
use Prim.Native.Nat.{ℕ, ◌-◌, ◌+◌, ◌*◌}
use lib.ListN.{length, get_or}
use Rattle.words.specs.Lists.{part}
use Rattle.words.proofs.Tests.{holds_true}
use Rattle.records.specs.Records.{is_good, address_bytes, count_in, least}
use Rattle.records.proofs.Good.{Good, good}
use Rattle.records.proofs.reading.data_of_good.Statement.{statement}
use Rattle.records.proofs.reading.data_of_good.Tie as tie

known : (c : tie.Start) → Good c.args.line.now
known c = good c.args.line.now c.requires

returns : tie.Need-returns
returns c =
    let after-address-bytes = c.before in
    let start = after-address-bytes.before.before.before in
    let l = start.args.line.now in
    let g = known start in
    let e : length l - 2 - (4 + 2 * address_bytes (get_or l 1 0)) ≡ 2 * (count_in l - least l) = omega (arith, g.long, g.counts) in
    rw (holds_true (is_good l) start.requires, after-address-bytes.address_bytes.ensures.0)
    (ap (λ (n : ℕ). part (4 + 2 * address_bytes (get_or l 1 0)) n l) e)

pub data_of_good_spec : {M : Type 1} → statement M
data_of_good_spec =
    tie.close
    (tie.spec
    (λ c. let g = known c.before.before in omega (arith, g.long))
    (λ c κs. search rules)
    (λ c. search rules)
    (λ c. search rules)
    (λ c. let g = known c.before.before.before in omega (arith, g.long))
    (λ c. let g = known c.before.before.before in omega (arith, g.long, g.counts, c.address_bytes.ensures.0))
    (λ c. let g = known c.before.before.before in omega (arith, g.long, g.counts, c.address_bytes.ensures.0))
    (λ c. search rules)
    returns)
