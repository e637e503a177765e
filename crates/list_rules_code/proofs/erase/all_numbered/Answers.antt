-- The bytes are walked two by two.
use Rattle.std.proofs.Common.{◌/◌, length, ◌∙◌, arith}
use Rattle.board.specs.Quantities.{is_sector}
use Rattle.list_rules_code.proofs.Listed.{all_numbered}
use Rattle.list_rules_code.proofs.erase.all_numbered.Goals as goal

pub returns : goal.returns
returns c =
    let l = c.args.bytes.now in
    rw c.as_chunks.ensures.front at c.all_exist.ensures ∙ all_numbered is_sector (length l / 2) l (omega arith)
