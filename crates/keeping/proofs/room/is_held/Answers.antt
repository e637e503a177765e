-- Each part of the room is compared with the memory that stands there.
use Rattle.std.proofs.Common.{◌≡◌, true, ◌&&◌, arith}
use lib.Seq.{length-take-le}
use Rattle.memories.specs.Lent.{shows}
use Rattle.keeping.specs.Kept.{in_bytes}
use Rattle.keeping.proofs.Rooms.{lengths_fit, each_held}
use Rattle.keeping.proofs.room.is_held.Goals as goal

pub slice_bounds-same-end : goal.slice_bounds-same-end
slice_bounds-same-end c = omega (arith, c.requires.room, length-take-le 32768 c.args.room.now (omega (arith, c.requires.room)))

pub slice_bounds-same-end-2 : goal.slice_bounds-same-end-2
slice_bounds-same-end-2 c = omega (arith, length-take-le 32768 c.args.room.now (omega (arith, c.requires.room)))

-- what the three tests tell together
held : (c : goal.After-same-third)
    → ((c.same-first.result && c.same-second.result && c.same-third.result) ≡ true → c.args.room.now ≡ in_bytes (shows c.args.shown))
    × (c.args.room.now ≡ in_bytes (shows c.args.shown) → (c.same-first.result && c.same-second.result && c.same-third.result) ≡ true)
held c =
    each_held _ c.args.room.now (lengths_fit c.requires) c.requires.room c.same-first.result c.same-second.result c.same-third.result
    c.same-first.ensures c.same-second.ensures c.same-third.ensures

pub returns-clause-held : goal.returns-clause-held
returns-clause-held c = (held c).0

pub returns-clause-only : goal.returns-clause-only
returns-clause-only c = (held c).1
