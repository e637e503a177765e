-- The tables so far are filled, and first is the next one's entry for the byte 1.
use Rattle.word_crc.proofs.Entries.{Begun}
use Rattle.word_crc.proofs.tables.tables.Given as goal

abbrev pub invariant-loop-m : goal.invariant-loop-m
invariant-loop-m l = Begun l.m l.tables l.first
