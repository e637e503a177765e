-- Its three digits are read.
use Rattle.desk_lines.proofs.Lines.{frame_good}
use Rattle.desk_written.proofs.id.Goals as goal

pub byte_in-requires : goal.byte_in-requires
byte_in-requires c = let g = frame_good c.args.rest.now c.requires in (g.middle, g.low)
