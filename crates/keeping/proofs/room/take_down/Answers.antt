-- The memories are laid one behind the other over a room of their length.
use Rattle.memories.specs.Lent.{shows}
use Rattle.keeping.proofs.Rooms.{lengths, laid}
use Rattle.keeping.proofs.room.take_down.Goals as goal

pub returns : goal.returns
returns c =
    laid (shows c.args.shown) c.zeros-room.result (lengths _ c.requires) c.zeros-room.ensures.length c.lay.ensures c.lay-2.ensures c.lay-3.ensures
