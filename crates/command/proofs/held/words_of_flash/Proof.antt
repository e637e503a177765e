-- Whole sectors are whole words, and four bytes that go in are a word that goes in whole.
use Rattle.command.proofs.BenchBoard.{words_of_flash}
use Rattle.command.proofs.held.words_of_flash.Statement.{statement}
use Rattle.command.proofs.held.words_of_flash.Tie as tie

pub words_of_flash_spec : {M : Type 1} → statement M
words_of_flash_spec = tie.close (tie.spec (λ c. words_of_flash))
