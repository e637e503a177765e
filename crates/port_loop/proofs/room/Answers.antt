-- So many zeros have that length.
use Rattle.files.proofs.Prefixes.{so_many}
use Rattle.port_loop.specs.Turns.{out_bytes}
use Rattle.port_loop.proofs.room.Goals as goal

pub returns : goal.returns
returns c = so_many out_bytes 0
