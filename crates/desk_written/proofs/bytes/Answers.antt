-- Each turn stores the byte of one field; before it, what is left to store ends as the whole does.
use native.Mathlib.Omega.{arith}
use mathlib.Core.Path.{refl, sym, ap, ◌∙◌}
use mathlib.Core.List.{List, [], ◌∷◌}
use Prim.Native.Nat.{ℕ, ◌+◌}
use lib.ListN.{length}
use Rattle.std.specs.Slice.Iter.{chunks_exact_rest}
use Rattle.words.specs.Over.{put, newer}
use Rattle.words.proofs.Over.{over_none, put_one, put_then}
use Rattle.desk_lines.specs.Lines.{fields}
use Rattle.desk_lines.proofs.Lines.{FieldFirst, field_first, no_fields, length_fields}
use Rattle.desk_written.proofs.bytes.Goals as goal
use Rattle.desk_written.proofs.bytes.Goals.{In-Some}

-- the field that a turn takes, and what is behind it
taken : (c : In-Some) → FieldFirst (chunks_exact_rest c.loop-field.field-iterator) c.in-Some.field.now (chunks_exact_rest c.next.new.self)
taken c =
    let steps = c.in-Some.ensures.steps in
    field_first (chunks_exact_rest c.loop-field.field-iterator) c.in-Some.field.now (chunks_exact_rest c.next.new.self)
    steps.1.0 (steps.1.1 ∙ c.loop-field.invariant.0) c.loop-field.invariant.1

pub bounds-out-count : goal.bounds-out-count
bounds-out-count c =
    let t = taken (goal.at.bounds-out-count c).In-Some in
    omega (arith, c.loop-field.invariant.2, ap length t.byte, length_fields c.args.rest.now c.requires.0, c.requires.1, c.loop-field.auto.out)

pub overflow_add-count : goal.overflow_add-count
overflow_add-count c =
    let t = taken (goal.at.overflow_add-count c).In-Some in
    omega (arith, c.loop-field.invariant.2, ap length t.byte, length_fields c.args.rest.now c.requires.0)

pub loop-field-preserved : goal.loop-field-preserved
loop-field-preserved c =
    let loop = c.loop-field in
    let t = taken (goal.at.loop-field-preserved c).In-Some in
    let left = fields (chunks_exact_rest c.next.new.self) in
    let byte = c.byte_in.result in (
      c.in-Some.ensures.steps.0 ∙ loop.invariant.0,
      t.behind,
      omega (arith, loop.invariant.2, ap length t.byte),
      ap (λ (o : List ℕ). put o (loop.count + 1) left) (sym (put_one loop.out loop.count byte))
          ∙ put_then loop.out loop.count (loop.count + 1) (byte ∷ []) left refl
          ∙ ap (λ (b : ℕ). put loop.out loop.count (b ∷ left)) c.byte_in.ensures
          ∙ ap (λ (l : List ℕ). put loop.out loop.count l) (sym t.byte)
          ∙ loop.invariant.3,
    )

pub returns : goal.returns
returns c =
    let loop = c.loop-field in
    let e = no_fields (chunks_exact_rest loop.field-iterator) loop.invariant.1 (omega (arith, c.in-None.ensures.steps.1.0, loop.invariant.0)) in
    (omega (arith, loop.invariant.2, ap length e), sym (over_none newer loop.out loop.count) ∙ rw e at loop.invariant.3)
