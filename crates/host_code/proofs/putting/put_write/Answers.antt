-- Head, data and checksum are put one behind the other.
use Rattle.std.proofs.Common.{arith, ◌≡◌, ◌∙◌, ◌+◌, ◌-◌}
use Rattle.words.specs.Lists.{part}
use Rattle.words.proofs.Over.{put_front}
use Rattle.words.proofs.Slices.{length_part}
use Rattle.host.specs.Commands.{write_command}
use Rattle.host.specs.Ranges.{flash_address}
use Rattle.host_code.proofs.Behind.{length-write, write_in_parts}
use Rattle.host_code.proofs.putting.put_write.Goals as goal

pub returns : goal.returns
returns c =
    let a = flash_address c.args.offset in
    let bytes = part c.args.offset c.args.n c.args.image.now in
    let j = length_part c.args.image.now c.args.offset c.args.n (omega arith) in
    let l = length-write a bytes in
    let e : c.args.offset + c.args.n - c.args.offset ≡ c.args.n = omega arith in
    rw (c.lay-3.ensures, c.lay-2.ensures, c.lay.ensures, c.xor-sum.ensures, c.head-head.ensures, e)
    (record { count = omega arith; room = write_in_parts c.args.room.now a c.args.n bytes j ∙ put_front c.args.room.now (write_command a bytes) (omega arith) })
