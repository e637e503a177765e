-- Before each turn, taking what is left ends as the whole does.
use Rattle.std.proofs.Common.{◌-◌, ◌≡◌, ◌≤◌, length}
use Rattle.memories.specs.Lent.{holds, StillLent}
use Rattle.boot.proofs.Slices.{left_over}
use Rattle.boot.proofs.Session.take_on.Given as goal

abbrev pub invariant-loop-count : goal.invariant-loop-count
invariant-loop-count l =
    (l.count ≤ l.n)
    × (l.done.number ≡ l.initial.done.number)
    × (l.done.length ≤ length l.buffer)
    × (left_over l.bytes (holds l.initial.lent) l.initial.buffer l.initial.done l.initial.count
    ≡ left_over l.bytes (holds l.lent) l.buffer l.done l.count)
    × (length l.buffer ≡ length l.initial.buffer)
    × StillLent l.initial.lent l.lent

abbrev pub decreases-loop-count : goal.decreases-loop-count
decreases-loop-count l = l.n - l.count
