-- The bytes are walked one by one.
use Rattle.std.proofs.Common.{◌∙◌}
use Rattle.board.specs.Quantities.{is_sector}
use Rattle.list_rules_code.proofs.Listed.{all_indexed}
use Rattle.list_rules_code.proofs.protect.all_indexed.Goals as goal

pub returns : goal.returns
returns c = c.all_exist.ensures ∙ all_indexed is_sector c.args.indexes.now
