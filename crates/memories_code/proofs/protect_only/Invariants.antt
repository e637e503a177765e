-- Before each turn, protecting the sectors that are left gives what protecting all of them gives, and they are sectors of the board.
use mathlib.Core.Path.{◌≡◌}
use lib.Dec.{T}
use lib.ListN.{length, drop}
use Rattle.words.specs.Lists.{all}
use Rattle.board.specs.Quantities.{is_sector, indexed}
use Rattle.memories.specs.Protection.{all_protected}
use Rattle.memories_code.proofs.protect_only.Given as goal

abbrev pub invariant-loop-index : goal.invariant-loop-index
invariant-loop-index l =
    (length l.usd ≡ length l.initial.usd)
    × T (all is_sector (indexed (drop l.index-index l.indexes)))
    × (all_protected l.usd (indexed (drop l.index-index l.indexes)) ≡ all_protected l.initial.usd (indexed l.indexes))
