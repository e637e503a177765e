-- How a reply is cut into frames behind its first byte.
use Rattle.std.specs.Prelude.{ℕ}
use Rattle.std.specs.Prelude.{if◌then◌else◌}
use Rattle.command.specs.Says.{fixed}
use Rattle.command.specs.declared.Reply.{Reply}
use Rattle.frames.specs.Frames.{classic}

-- how many bytes of a reply go into one frame: what is fixed is sent one byte a frame
abbrev pub piece_of : Reply → ℕ
piece_of r = if fixed r then 1 else classic.largest
