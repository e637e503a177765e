-- The bytes so far are laid.
use Rattle.std.proofs.Common.{◌≡◌, take}
use Rattle.std.specs.Int.Bits.{bit_and}
use Rattle.words.specs.Over.{over}
use Rattle.words.proofs.lay_by_and.Given as goal

abbrev pub invariant-loop-i : goal.invariant-loop-i
invariant-loop-i l = l.memory ≡ over bit_and l.initial.memory l.at (take l.i l.bytes)
