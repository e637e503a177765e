-- The entries so far stand behind the others.
use Rattle.word_crc.specs.Tables.{Doubled}
use Rattle.word_crc.proofs.tables.double.Given as goal

abbrev pub invariant-loop-i : goal.invariant-loop-i
invariant-loop-i l = Doubled l.at l.n l.i l.bit l.initial.tables l.tables
