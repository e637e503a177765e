-- What is lent still after two calls, one behind the other.
use mathlib.Core.Path.{◌∙◌}
use Rattle.memories.specs.Lent.{StillLent}
use Rattle.memories.specs.declared.Lent.{Lent}

pub still_lent : {l m n : Lent} → StillLent l m → StillLent m n → StillLent l n
still_lent p q = record { flash = q.flash ∙ p.flash; sram = q.sram ∙ p.sram; usd = q.usd ∙ p.usd }
