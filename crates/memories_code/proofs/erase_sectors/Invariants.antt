-- Before each turn, erasing the sectors that are left gives what erasing all of them gives, and they are sectors of the board.
use mathlib.Core.Path.{◌≡◌}
use Prim.Native.Nat.{◌%◌}
use lib.Dec.{T}
use lib.ListN.{length}
use Rattle.std.specs.Slice.Iter.{chunks_exact_rest, chunks_exact_size}
use Rattle.words.specs.Lists.{all}
use Rattle.board.specs.Quantities.{is_sector, numbered}
use Rattle.memories.specs.Effects.{erased}
use Rattle.memories_code.proofs.erase_sectors.Given as goal

abbrev pub invariant-loop-number : goal.invariant-loop-number
invariant-loop-number l =
    (chunks_exact_size l.number-iterator ≡ 2)
    × (length (chunks_exact_rest l.number-iterator) % 2 ≡ 0)
    × (length l.flash ≡ length l.initial.flash)
    × T (all is_sector (numbered (chunks_exact_rest l.number-iterator)))
    × (erased l.flash (numbered (chunks_exact_rest l.number-iterator)) ≡ erased l.initial.flash (numbered l.numbers))
