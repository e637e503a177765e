-- As many bytes as there is room for.
use lib.ListN.{length, get_or}
use Rattle.words.specs.Bytes.{number}
use Rattle.words.specs.Lists.{part}
use Rattle.numbers.specs.Numbers.{short_bytes}
use Rattle.vector_lines.proofs.Vectors.{filled_fits}
use Rattle.vector_lines.proofs.vector.Vector.buffer.Goals as goal

pub returns-clause-fits : goal.returns-clause-fits
returns-clause-fits c =
    let bytes = c.args.self.now.bytes in
    rw c.memory.ensures (filled_fits (get_or bytes 68 0) _ (number (part 64 short_bytes bytes)) (length c.args.room.now))
