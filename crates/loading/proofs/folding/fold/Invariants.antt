-- Before each turn, judging, marking and laying the lines that are left by what is kept gives what it gives of all of them.
use Rattle.std.proofs.Common.{◌≡◌, ◌≤◌, ◌-◌, false, length, drop}
use Rattle.records.specs.Ends.{lines_of}
use Rattle.loading.specs.Loads.{all_touched, all_loaded, judged}
use Rattle.loading.proofs.folding.fold.Given as goal

abbrev pub invariant-loop-at : goal.invariant-loop-at
invariant-loop-at l =
    (l.at ≤ length l.text)
    × (l.number ≤ l.at)
    × (length l.touched ≡ 32768)
    × (length l.image ≡ 32768)
    × (judged l.shift l.number l.ended l.touched (lines_of (drop l.at l.text)) ≡ judged l.shift 0 false l.initial.touched (lines_of l.text))
    × (all_touched l.shift (lines_of (drop l.at l.text)) l.touched ≡ all_touched l.shift (lines_of l.text) l.initial.touched)
    × (all_loaded l.shift (lines_of (drop l.at l.text)) l.image ≡ all_loaded l.shift (lines_of l.text) l.initial.image)

abbrev pub decreases-loop-at : goal.decreases-loop-at
decreases-loop-at l = length l.text - l.at
