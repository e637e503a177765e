-- The front is taken, and its reply is turned in its place.
use Rattle.memories.specs.Lent.{holds}
use Rattle.port_loop.proofs.Fronts.{front_says}
use Rattle.port_loop.proofs.hearing.hear_front.Goals as goal

pub returns-clause-heard : goal.returns-clause-heard
returns-clause-heard c =
    let front = c.take_front-front in
    (front_says _ _ _ (holds c.args.lent.now) _ _ _ (holds front.new.lent) _
    c.requires.out_len c.requires.bytes_len front.auto.buffer front.ensures.took).heard c.speak.ensures
