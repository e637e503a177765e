-- Each turn takes one field; before it what is left is fields exactly where the whole is.
use native.Mathlib.Omega.{arith}
use mathlib.Core.Path.{◌≡◌, ap, ◌∙◌}
use Prim.Native.Nat.{◌+◌, ◌%◌}
use lib.ListN.{length, length-append}
use Rattle.std.specs.Slice.Iter.{chunks_exact_rest}
use Rattle.words.specs.Hex.{field_characters}
use Rattle.desk_lines.proofs.Lines.{field_told, short_fields}
use Rattle.desk_lines.proofs.line.are_fields.Goals as goal

pub returns-then-not-good : goal.returns-then-not-good
returns-then-not-good c =
    let steps = c.in-Some.ensures.steps in
    field_told (chunks_exact_rest c.loop-field.field-iterator) c.in-Some.field.now (chunks_exact_rest c.next.new.self) c.args.rest.now _ steps.1.0 (steps.1.1 ∙ c.loop-field.invariant.0)
    c.if-not-good.ensures c.loop-field.invariant.2

pub loop-field-preserved : goal.loop-field-preserved
loop-field-preserved c =
    let steps = c.in-Some.ensures.steps in
    let f = c.in-Some.field.now in
    let t = chunks_exact_rest c.next.new.self in
    let n : length f ≡ field_characters = steps.1.1 ∙ c.loop-field.invariant.0 in
    let l : length (chunks_exact_rest c.loop-field.field-iterator) ≡ length f + length t = ap length steps.1.0 ∙ length-append f t in (
      steps.0 ∙ c.loop-field.invariant.0,
      omega (arith, c.loop-field.invariant.1),
      field_told (chunks_exact_rest c.loop-field.field-iterator) f t c.args.rest.now _ steps.1.0 n c.if-not-good.ensures c.loop-field.invariant.2,
    )

pub returns : goal.returns
returns c =
    let short = c.in-None.ensures.steps.1.0 in
    short_fields (chunks_exact_rest c.loop-field.field-iterator) (length c.args.rest.now % field_characters)
    (omega (arith, c.loop-field.invariant.1, c.loop-field.invariant.0)) (omega (arith, c.loop-field.invariant.0))
    ∙ c.loop-field.invariant.2
