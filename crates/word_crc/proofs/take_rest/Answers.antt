-- A whole word goes in at once, and fewer than four bytes keep their order.
use native.Mathlib.Omega.{arith}
use mathlib.Core.Path.{◌≡◌, sym, ap, ap₂, ◌∙◌}
use Rattle.std.proofs.Common.{ℕ, ◌<◌}
use lib.Bits.{bit_xor}
use lib.ListN.{get_or}
use Rattle.crc.specs.Crc.{crc_from, shifted_by}
use Rattle.word_crc.specs.Tables.{word_at}
use Rattle.word_crc.specs.Words.{word_fed}
use Rattle.word_crc.proofs.Words.{word_taken, rest_stays}
use Rattle.word_crc.proofs.take_rest.Goals as goal

pub returns-then-whole : goal.returns-then-whole
unfolding word_fed
returns-then-whole c =
    let s = c.args.bytes.now in
    let r = c.args.register in
    let b : (j : ℕ) → get_or s j 0 < 256 = λ j. omega (arith, c.type_inv.bytes j) in
    let e : c.shift_word-sum.result ≡ word_fed r (word_at 0 s) =
    c.shift_word-sum.ensures ∙ ap (λ (w : ℕ). shifted_by 32 (bit_xor r w)) c.word.ensures in
    c.crc_from.ensures ∙ ap₂ crc_from e (rest_stays s 4 (omega arith) (omega arith)) ∙ sym (word_taken s r 0 b (omega arith) (omega arith))
