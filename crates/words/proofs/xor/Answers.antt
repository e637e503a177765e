-- The XOR of all is the fold of XOR.
use mathlib.Core.Path.{◌∙◌}
use Rattle.std.proofs.Common.{◌≡◌, rules}
use Rattle.std.specs.List.{fold}
use Rattle.std.specs.Int.Bits.{bit_xor}
use Rattle.words.proofs.Bytes.{fold_xor}
use Rattle.words.proofs.xor.Goals as goal

pub returns : goal.returns
returns c =
    let folded : c.fold.result ≡ fold bit_xor c.args.start c.args.bytes.now = search rules in
    folded ∙ fold_xor c.args.start c.args.bytes.now
