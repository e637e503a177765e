-- Before each turn the total and the sum of what is left are the sum of all, and each pair has added less than 256.
use Rattle.std.proofs.Common.{T, ◌≡◌, ◌+◌, ◌*◌, ◌≤◌, length}
use Rattle.std.specs.Slice.Iter.{chunks_exact_rest, chunks_exact_size}
use Rattle.records.specs.Digits.{are_pairs, bytes_in}
use Rattle.records.specs.Records.{sum}
use Rattle.records.proofs.digits.sum_of.Given as goal

abbrev pub invariant-loop-pair : goal.invariant-loop-pair
invariant-loop-pair l = (chunks_exact_size l.pair-iterator ≡ 2)
    × T (are_pairs (chunks_exact_rest l.pair-iterator))
    × (l.total + sum (bytes_in (chunks_exact_rest l.pair-iterator)) ≡ sum (bytes_in l.digits))
    × (l.total + 128 * length (chunks_exact_rest l.pair-iterator) ≤ 128 * length l.digits)
