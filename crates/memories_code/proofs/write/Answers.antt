use Rattle.memories.specs.Effects.{written}
use Rattle.memories_code.proofs.write.Goals as goal

pub returns-in-Flash-clause-left : goal.returns-in-Flash-clause-left
unfolding written
returns-in-Flash-clause-left c = rw (c.in-Flash.is, c.lay_by_and.ensures)

pub returns-in-Sram-clause-left : goal.returns-in-Sram-clause-left
unfolding written
returns-in-Sram-clause-left c = rw (c.in-Sram.is, c.lay.ensures)

pub returns-in-Usd-clause-left : goal.returns-in-Usd-clause-left
unfolding written
returns-in-Usd-clause-left c = rw (c.in-Usd.is, c.lay-in-Usd.ensures)
