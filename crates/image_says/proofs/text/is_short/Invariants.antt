-- Before each turn, the line of the number that is left, among the lines that are left, is the one asked for.
use Rattle.std.proofs.Common.{◌≡◌, ◌≤◌, ◌-◌, [], length, get_or, drop}
use Rattle.records.specs.Ends.{lines_of}
use Rattle.image_says.proofs.text.is_short.Given as goal

abbrev pub invariant-loop-at : goal.invariant-loop-at
invariant-loop-at l =
    (l.at ≤ length l.text) × (get_or (lines_of (drop l.at l.text)) (l.left - 1) [] ≡ get_or (lines_of l.text) (l.number - 1) [])

abbrev pub decreases-loop-at : goal.decreases-loop-at
decreases-loop-at l = length l.text - l.at
