-- The complement is put behind the head.
use Rattle.std.proofs.Common.{arith, ◌∙◌, refl}
use Rattle.words.proofs.Over.{put_front}
use Rattle.host.specs.Commands.{read_command}
use Rattle.host.specs.Ranges.{flash_address}
use Rattle.host_code.proofs.Behind.{read_in_parts}
use Rattle.host_code.proofs.putting.put_read.Goals as goal

pub returns : goal.returns
returns c =
    let a = flash_address c.args.offset in
    rw (c.lay-2.ensures, c.lay.ensures, c.head-head.ensures)
    (record { count = refl; room = read_in_parts c.args.room.now a c.args.n ∙ put_front c.args.room.now (read_command a c.args.n) (omega arith) })
