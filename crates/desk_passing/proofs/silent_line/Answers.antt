-- The line is found, its data and its ID are read, and the test of the frame is that of the line.
use native.Mathlib.Omega.{arith}
use mathlib.Core.Path.{◌≡◌, refl, sym, ap, subst, ◌∙◌}
use mathlib.Core.List.{List}
use Prim.Native.Nat.{ℕ}
use lib.Dec.{T}
use lib.ListN.{length, drop}
use Rattle.desk_lines.specs.Lines.{fields}
use Rattle.desk_lines.proofs.Lines.{frame_good, data_fits, length_fields}
use Rattle.desk_written.specs.First.{behind_letter}
use Rattle.desk_written.proofs.FrameFirst.{data_part_lem}
use Rattle.words.proofs.Over.{at_front}
use Rattle.desk_passing.proofs.silent_line.Goals as goal

pub bytes-count-requires : goal.bytes-count-requires
bytes-count-requires c =
    let f = rw c.in_ok-end.was at c.frame_first.ensures in
    let t = c.args.text.now in
    let n = c.in_ok-end.end in
    let g = frame_good (behind_letter n t) f.frame in
    let e = data_part_lem t n f in (
      rw e at g.behind,
      omega (arith, ap length e, length_fields (drop 4 (behind_letter n t)) g.behind, data_fits (behind_letter n t) g, c.requires.len),
    )

pub returns-then-silent : goal.returns-then-silent
returns-then-silent c =
    let f = rw c.in_ok-end.was at c.frame_first.ensures in
    let t = c.args.text.now in
    let n = c.in_ok-end.end in
    let g = frame_good (behind_letter n t) f.frame in
    let e = data_part_lem t n f in
    let x = fields (drop 4 (behind_letter n t)) in
    let k : c.bytes-count.result ≡ length x = c.bytes-count.ensures.0 ∙ ap (λ (l : List ℕ). length (fields l)) (sym e) in
    record {
      first = f;
      silent = rw c.id-id.ensures at (c.silent_frame-silent.ensures (subst T (sym c.if-silent.true) tt));
      counted = k;
      bytes = rw (k, c.bytes-count.ensures.1, ← e)
          (at_front x c.args.new.now (length x) refl (omega (arith, data_fits (behind_letter n t) g, c.requires.len)));
    }
