-- Each turn takes two words, and what is left at the end is fewer.
use native.Mathlib.Omega.{arith}
use mathlib.Core.Path.{◌≡◌, refl, sym, ap, ◌∙◌}
use mathlib.Core.List.{List, ◌++◌}
use Rattle.std.proofs.Common.{rules, ℕ, ◌<◌}
use lib.ListN.{get_or, length}
use Rattle.crc.specs.Crc.{crc_from}
use Rattle.word_crc.specs.Words.{fours_reversed, word_fed}
use Rattle.word_crc.proofs.Words.{all_left, eight_taken, eights_end}
use Rattle.word_crc.proofs.crc.Goals as goal

pub loop-pair-init : goal.loop-pair-init
loop-pair-init c =
    let e : c.into_iter-pair-iterator.result.rest.now ≡ c.args.bytes.now = search rules in
    (omega arith, search rules, rw e (all_left c.args.bytes.now), rw e refl)

pub loop-pair-preserved : goal.loop-pair-preserved
loop-pair-preserved c =
    let s = c.args.bytes.now in
    let rest = c.loop-pair.pair-iterator.rest.now in
    let p = c.in-Some.pair.now in
    let l = c.next.new.self.rest.now in
    let b : (j : ℕ) → get_or s j 0 < 256 = λ j. omega (arith, c.type_inv.bytes j) in
    let e : rest ≡ p ++ l = search rules in
    let n : length p ≡ 8 = search rules in
    let t = eight_taken s p l rest c.loop-pair.register b c.loop-pair.invariant.0 c.loop-pair.invariant.2 e n in
    let fed : c.take_two-register.result ≡ word_fed (word_fed c.loop-pair.register c.word-first.result) c.word-second.result = c.take_two-register.ensures in
    (c.take_two-register.type_inv, search rules, t.0, rw (fed, c.word-first.ensures, c.word-second.ensures) (sym t.1 ∙ c.loop-pair.invariant.3))

pub returns : goal.returns
returns c =
    let s = c.args.bytes.now in
    let short : length c.loop-pair.pair-iterator.rest.now < 8 = search rules in
    let e : c.remainder-rest.result.now ≡ c.loop-pair.pair-iterator.rest.now =
    c.remainder-rest.ensures ∙ c.chunks_exact-pairs.ensures.remainder ∙ eights_end s c.loop-pair.pair-iterator.rest.now c.loop-pair.invariant.2 short in
    c.take_rest.ensures ∙ ap (λ (t : List ℕ). crc_from c.loop-pair.register (fours_reversed t)) e ∙ c.loop-pair.invariant.3
