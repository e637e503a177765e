-- The bytes that the fields write stand at the front of the room for them.
use native.Mathlib.Omega.{arith}
use mathlib.Core.Path.{◌≡◌, sym, ap, ◌∙◌}
use mathlib.Core.List.{List}
use Prim.Native.Nat.{ℕ}
use lib.ListN.{length, take, replicate, length-replicate}
use Rattle.desk_lines.specs.Lines.{fields}
use Rattle.desk_lines.proofs.Lines.{length_fields}
use Rattle.words.proofs.Over.{at_front}
use Rattle.desk_answers_code.proofs.tell_bytes.Goals as goal
use Rattle.desk_answers_code.proofs.tell_bytes.Goals.{After-bytes-n}

-- the bytes at the front of the room are those that the fields write
stand : (c : After-bytes-n) → take c.bytes-n.result c.bytes-n.new.out ≡ fields c.args.rest.now
stand c =
    let rest = c.args.rest.now in
    let n = c.bytes-n.ensures.0 in
    ap (λ (l : List ℕ). take c.bytes-n.result l) c.bytes-n.ensures.1
    ∙ at_front (fields rest) (replicate 266 0) c.bytes-n.result (sym n)
    (omega (arith, length_fields rest c.requires.t.0, c.requires.t.1, length-replicate {A = ℕ} 266 0))

pub bytes-n-requires : goal.bytes-n-requires
bytes-n-requires c = (c.requires.t.0, omega (arith, length_fields c.args.rest.now c.requires.t.0, c.requires.t.1))

pub slice_bounds-written-end : goal.slice_bounds-written-end
slice_bounds-written-end c = omega (arith, c.bytes-n.ensures.0, length_fields c.args.rest.now c.requires.t.0, c.requires.t.1)

pub slice_bounds-tell_all-end : goal.slice_bounds-tell_all-end
slice_bounds-tell_all-end c =
    sym (ap length (stand (goal.at.slice_bounds-tell_all-end c).After-bytes-n) ∙ sym c.bytes-n.ensures.0)

pub tell_all-requires : goal.tell_all-requires
tell_all-requires c =
    let l = length_fields c.args.rest.now c.requires.t.0 in
    let s = stand (goal.at.tell_all-requires c).After-bytes-n in
    record {
      bytes_in_bounds = rw s (omega (arith, c.bytes-n.ensures.0, l, c.requires.rest_in_bounds));
      bytes_in_bounds_2 = rw s (omega (arith, c.bytes-n.ensures.0, l, c.requires.rest_in_bounds_2));
    }

pub returns : goal.returns
returns c =
    let l = length_fields c.args.rest.now c.requires.t.0 in
    let s = stand (goal.at.returns c).After-bytes-n in
    let e = c.tell_all.ensures in
    let f = rw s at e.fits in
    record { told = rw s at e.told; noted = rw s at e.noted; fits = (omega (arith, f.0), omega (arith, f.1)); same = e.same }
