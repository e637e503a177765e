-- Before each turn what is left to lay ends as the whole does.
use Rattle.std.proofs.Common.{◌≡◌, ◌+◌, T, length}
use Rattle.std.specs.Slice.Iter.{chunks_exact_rest, chunks_exact_size}
use Rattle.words.specs.Over.{put}
use Rattle.records.specs.Digits.{are_pairs, bytes_in}
use Rattle.loading.proofs.laying.decode.Given as goal

abbrev pub invariant-loop-i : goal.invariant-loop-i
invariant-loop-i l = (chunks_exact_size l.i-iterator.iter ≡ 2)
    × T (are_pairs (chunks_exact_rest l.i-iterator.iter))
    × (l.i-iterator.count + length (bytes_in (chunks_exact_rest l.i-iterator.iter)) ≡ length (bytes_in l.digits))
    × (put l.image (l.at + l.i-iterator.count) (bytes_in (chunks_exact_rest l.i-iterator.iter)) ≡ put l.initial.image l.at (bytes_in l.digits))
