-- Each of the register's four bytes has an entry.
use native.Mathlib.Omega.{arith}
use Rattle.word_crc.proofs.Entries.{by_entries}
use Rattle.word_crc.proofs.shift_word.Goals as goal

pub returns : goal.returns
returns c = by_entries c.args.tables.now c.requires.tables c.args.more c.args.register (omega arith) (omega arith)
