-- The bytes are walked two by two.
use Rattle.std.proofs.Common.{◌/◌, length, ◌∙◌, arith}
use Rattle.board.specs.View.{write_protected}
use Rattle.list_rules_code.proofs.Listed.{any_numbered}
use Rattle.list_rules_code.proofs.erase.any_numbered_protected.Goals as goal

pub returns : goal.returns
returns c =
    let l = c.args.bytes.now in
    rw c.as_chunks.ensures.front at c.any_protected.ensures ∙ any_numbered (write_protected c.args.view) (length l / 2) l (omega arith)
