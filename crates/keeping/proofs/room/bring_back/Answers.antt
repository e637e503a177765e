-- Each part of the room is its memory.
use Rattle.std.proofs.Common.{sym, ◌∙◌, arith}
use lib.Seq.{length-take-le}
use Rattle.memories.specs.Memories.{memories}
use Rattle.keeping.proofs.Rooms.{usd_part}
use Rattle.keeping.proofs.room.bring_back.Goals as goal

pub slice_bounds-copy_from_slice-end-2 : goal.slice_bounds-copy_from_slice-end-2
slice_bounds-copy_from_slice-end-2 c = omega (arith, length-take-le 32768 c.args.room.now (omega (arith, c.requires.room)))

pub copy_from_slice-requires : goal.copy_from_slice-requires
copy_from_slice-requires c = c.requires.flash ∙ sym (length-take-le 32768 c.args.room.now (omega (arith, c.requires.room)))

pub returns-clause-back : goal.returns-clause-back
returns-clause-back c =
    let f = c.copy_from_slice.ensures.after in
    let s = c.copy_from_slice-2.ensures.after in
    let u = c.copy_from_slice-3.ensures.after ∙ usd_part c.args.room.now c.requires.room in
    λ i. memories (f i) (s i) (u i)
