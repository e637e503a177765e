-- The checksum of all is the fold of feeding.
use mathlib.Core.Path.{◌∙◌}
use Rattle.std.proofs.Common.{rules, ◌≡◌}
use Rattle.std.specs.List.{fold}
use Rattle.crc.specs.Crc.{fed}
use Rattle.crc.proofs.Fed.{fold_fed}
use Rattle.crc.proofs.crc_from.Goals as goal

pub returns : goal.returns
returns c =
    let folded : c.fold.result ≡ fold fed c.args.register c.args.bytes.now = search rules in
    folded ∙ fold_fed c.args.register c.args.bytes.now
