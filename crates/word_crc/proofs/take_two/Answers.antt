-- The shifts of the second word are also the first's.
use native.Mathlib.Omega.{arith}
use mathlib.Core.Path.{sym, ap₂, ◌∙◌}
use lib.Bits.{bit_xor}
use Rattle.word_crc.proofs.Entries.{two_in}
use Rattle.word_crc.proofs.take_two.Goals as goal

pub returns : goal.returns
returns c =
    ap₂ bit_xor c.shift_word.ensures c.shift_word-2.ensures
    ∙ sym (two_in c.args.register c.args.first c.args.second (omega arith) (omega arith) (omega arith))
