-- The bytes of the memories that came back are those that they came from.
use Rattle.std.proofs.Common.{◌∙◌}
use Rattle.keeping.proofs.Rooms.{parts_held, proper_back}
use Rattle.keeping.proofs.restore.Goals as goal

pub returns-clause-taken : goal.returns-clause-taken
returns-clause-taken c = c.copy_from_slice.ensures.after ∙ parts_held _ c.args.bytes.now c.if-bytes-ne-MEMORIES_BYTES.false c.bring_back.ensures.back

pub returns-clause-lengths : goal.returns-clause-lengths
returns-clause-lengths c = proper_back c.args.bytes.now c.if-bytes-ne-MEMORIES_BYTES.false c.bring_back.ensures.back
