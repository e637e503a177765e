-- A sound session expects more than it has taken.
use native.Mathlib.Omega.{arith}
use Rattle.boot.specs.Session.{on, sound}
use Rattle.carriers.specs.declared.Carrier.TheVariants.{Uart}
use Rattle.boot.proofs.Sound.{sound_taken}
use Rattle.boot.proofs.Silent.{all_three}
use Rattle.boot.proofs.gathering.silent_bytes.Goals as goal

pub overflow_sub-session : goal.overflow_sub-session
overflow_sub-session c =
    let s = c.args.session in
    let t = all_three c.args.ready (on Uart s) (sound s) (rw (c.on.ensures, c.sound.ensures) at c.if-gathers.true) in
    omega (arith, sound_taken s t.2)

pub overflow_sub-session-then-gathers : goal.overflow_sub-session-then-gathers
overflow_sub-session-then-gathers c =
    let s = c.args.session in
    let t = all_three c.args.ready (on Uart s) (sound s) (rw (c.on.ensures, c.sound.ensures) at c.if-gathers.true) in
    omega (arith, sound_taken s t.2)
