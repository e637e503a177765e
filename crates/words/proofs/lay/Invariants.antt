-- The bytes so far are laid.
use Rattle.std.proofs.Common.{◌≡◌, take}
use Rattle.words.specs.Over.{put}
use Rattle.words.proofs.lay.Given as goal

abbrev pub invariant-loop-i : goal.invariant-loop-i
invariant-loop-i l = l.memory ≡ put l.initial.memory l.at (take l.i l.bytes)
