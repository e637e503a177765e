-- The table grows bit by bit.
use Rattle.word_crc.proofs.Entries.{Growing}
use Rattle.word_crc.proofs.tables.fill.Given as goal

abbrev pub invariant-loop : goal.invariant-loop
invariant-loop l = Growing l.at l.first l.counter l.initial.tables l.tables l.bit l.n
