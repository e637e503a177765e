-- A slice is refused for a cause that holds whatever its bytes and the room are, and else taken.
use Rattle.memories.specs.Lent.{holds}
use Rattle.boot.specs.Slices.{given_bytes}
use Rattle.boot.proofs.Slices.{slice_taken, slice_refused}
use Rattle.boot.proofs.Session.take_bytes.Goals as goal

pub returns-in-Err-clause-took : goal.returns-in-Err-clause-took
returns-in-Err-clause-took c =
    slice_refused (given_bytes c.args.self c.args.bytes.now (holds c.args.lent.now) c.args.buffer.now) c.slice_cause.result
    c.slice_cause.ensures c.in-Err.is c.unanswered.ensures

pub returns-clause-took : goal.returns-clause-took
returns-clause-took c =
    slice_taken (given_bytes c.args.self c.args.bytes.now (holds c.args.lent.now) c.args.buffer.now) c.slice_cause.result
    c.slice_cause.ensures c.in_default.is c.take_on.ensures.leaves
