-- Each turn fills one table, and the shifts of one byte more make the next one's first.
use Rattle.word_crc.proofs.Entries.{table_more}
use Rattle.word_crc.proofs.tables.tables.Goals as goal

pub loop-m-preserved : goal.loop-m-preserved
loop-m-preserved c =
    rw c.shift_byte-first-in-loop-m.ensures (table_more _ _ _ _ c.loop-m.invariant c.fill.ensures)
