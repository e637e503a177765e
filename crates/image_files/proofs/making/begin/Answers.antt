-- The whole of the room is erased flash.
use Rattle.std.proofs.Common.{arith}
use Rattle.files.proofs.Prefixes.{first_bytes}
use Rattle.image_files.proofs.making.begin.Goals as goal

pub returns-then-old-eq0 : goal.returns-then-old-eq0
returns-then-old-eq0 g c = first_bytes 32768 c.args.room.now (omega (arith, c.requires))
