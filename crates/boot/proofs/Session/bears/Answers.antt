-- By the test whether CAN is connected.
use Rattle.boot.proofs.Session.bears.Goals as goal

pub returns-then-here : goal.returns-then-here
returns-then-here c = rw (← c.on-here.ensures, c.if-here.true) c.bears.ensures
