-- The data bytes and the ID are read, and make the frame.
use native.Mathlib.Omega.{arith}
use mathlib.Core.Path.{refl, sym, ◌∙◌}
use Prim.Native.Nat.{◌≤◌}
use lib.ListN.{replicate, length-drop}
use lib.Seq.{length-take-le}
use Rattle.words.proofs.Slices.{to_the_end}
use Rattle.desk_lines.proofs.Lines.{frame_good, frame_made, data_fits}
use Rattle.desk_written.proofs.frame.Goals as goal
use Rattle.desk_written.proofs.frame.Goals.{After-bytes-n}

-- no more data bytes are read than a frame carries
few : (c : After-bytes-n) → c.bytes-n.result ≤ 8
few c =
    let l = c.args.rest.now in
    omega (arith, data_fits l (frame_good l c.requires.0), rw (to_the_end 4 l) at c.bytes-n.ensures.0)

pub bytes-n-requires : goal.bytes-n-requires
bytes-n-requires c =
    let l = c.args.rest.now in
    let g = frame_good l c.requires.0 in
    rw (to_the_end 4 l) (g.behind, simp length-drop (omega (arith, g.fits)))

pub slice_bounds-data-end : goal.slice_bounds-data-end
slice_bounds-data-end c = omega (arith, few (goal.at.slice_bounds-data-end c).After-bytes-n, c.bytes-n.auto.out)

pub slice_bounds-put_frame-end : goal.slice_bounds-put_frame-end
slice_bounds-put_frame-end c =
    sym (length-take-le c.bytes-n.result c.bytes-n.new.out
    (omega (arith, few (goal.at.slice_bounds-put_frame-end c).After-bytes-n, c.bytes-n.auto.out)))

pub returns : goal.returns
returns c =
    let l = c.args.rest.now in
    c.put_frame.ensures ∙ rw (c.bytes-n.ensures.1, to_the_end 4 l)
    (frame_made l c.args.out.now (replicate 8 0) c.bytes-n.result c.id.result (frame_good l c.requires.0) c.requires.1 refl
    (rw (to_the_end 4 l) at c.bytes-n.ensures.0) c.id.ensures)
