-- By what becomes of the session.
use Rattle.boot.specs.Session.{after}
use Rattle.boot.proofs.Session.after.Goals as goal

pub returns-in-Stay : goal.returns-in-Stay
unfolding after
returns-in-Stay c = rw c.in-Stay.is

pub returns-in-Reset : goal.returns-in-Reset
unfolding after
returns-in-Reset c = rw c.in-Reset.is c.rest.ensures

pub returns-in-Gather : goal.returns-in-Gather
unfolding after
returns-in-Gather c = rw c.in-Gather.is

pub returns-in-GoIdle : goal.returns-in-GoIdle
unfolding after
returns-in-GoIdle c = rw c.in-GoIdle.is c.idle.ensures

pub returns-in-SetSpeed : goal.returns-in-SetSpeed
unfolding after
returns-in-SetSpeed c = rw c.in-SetSpeed.is (rw c.at_speed.ensures at c.idle-in-SetSpeed.ensures)

pub returns-in-Enter : goal.returns-in-Enter
unfolding after
returns-in-Enter c = rw c.in-Enter.is c.enter.ensures

pub returns-in-EnterAt : goal.returns-in-EnterAt
unfolding after
returns-in-EnterAt c = rw c.in-EnterAt.is c.enter-in-EnterAt.ensures

pub returns-in-Run : goal.returns-in-Run
unfolding after
returns-in-Run c = rw c.in-Run.is c.rest-in-Run.ensures
