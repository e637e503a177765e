-- On UART the step's bytes come behind those before it, on CAN the frame behind what was gathered; both are few in a sound session.
use native.Mathlib.Omega.{arith}
use Rattle.uart.proofs.Steps.{before_few}
use Rattle.boot.proofs.Sound.{sound_taken, sound_expected}
use Rattle.boot.specs.Session.{falls_at}
use Rattle.boot.proofs.Session.falls_at.Goals as goal

pub overflow_add-result : goal.overflow_add-result
unfolding falls_at
overflow_add-result c =
    let s = c.args.self in
    omega (arith, before_few c.of.result, sound_expected s c.requires)

pub overflow_cast-result : goal.overflow_cast-result
unfolding falls_at
overflow_cast-result c =
    let s = c.args.self in
    omega (arith, before_few c.of.result, sound_expected s c.requires)

pub overflow_cast-result-in-Can : goal.overflow_cast-result-in-Can
unfolding falls_at
overflow_cast-result-in-Can c =
    let s = c.args.self in
    omega (arith, sound_taken s c.requires, sound_expected s c.requires)

pub returns-in-None : goal.returns-in-None
unfolding falls_at
returns-in-None c = rw c.in-None.is

pub returns-in-Uart : goal.returns-in-Uart
unfolding falls_at
returns-in-Uart c = rw (c.in-Uart.is, c.before-in-Uart.ensures, c.of.ensures)

pub returns-in-Can : goal.returns-in-Can
unfolding falls_at
returns-in-Can c = rw c.in-Can.is

pub returns-in-Running : goal.returns-in-Running
unfolding falls_at
returns-in-Running c = rw c.in-Running.is
