-- So many zeros have that length.
use Rattle.files.proofs.Prefixes.{so_many}
use Rattle.desk_loop.specs.Turns.{out_characters}
use Rattle.desk_loop.proofs.room.Goals as goal

pub returns : goal.returns
returns c = so_many out_characters 0
