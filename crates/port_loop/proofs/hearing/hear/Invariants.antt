-- Before each front, the bytes up to it were heard, and no byte of them was said more than a reply may have.
use Rattle.std.proofs.Common.{◌-◌, ◌≤◌, ◌*◌, take}
use Rattle.memories.specs.Lent.{holds, StillLent}
use Rattle.uart.specs.Conversation.{uart_room}
use Rattle.boot.specs.Promise.{state_of}
use Rattle.port_loop.specs.Port.{Hears}
use Rattle.port_loop.proofs.hearing.hear.Given as goal

abbrev pub invariant-loop-i : goal.invariant-loop-i
invariant-loop-i l =
    (l.i ≤ l.n)
    × (l.end ≤ uart_room * l.i)
    × Hears l.st (take l.i l.bytes) (state_of l.initial.here (holds l.initial.lent)) l.initial.out l.end l.out (state_of l.here (holds l.lent))
    × StillLent l.initial.lent l.lent

abbrev pub decreases-loop-i : goal.decreases-loop-i
decreases-loop-i l = l.n - l.i
