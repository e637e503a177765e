-- The head, the bytes and zeros are written one behind the other.
use mathlib.Core.Path.{◌∙◌}
use Rattle.frames.proofs.Cutting.{frame_written}
use Rattle.frames.proofs.put.put_frame.Goals as goal

pub returns : goal.returns
returns c =
    c.fill.ensures ∙ rw (c.lay-2.ensures, c.lay.ensures, c.to_be_bytes.ensures)
    (frame_written c.args.buffer.now c.args.at c.args.id c.args.size c.args.bytes.now)
