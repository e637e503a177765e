-- Five digits at most write a small number.
use Rattle.std.proofs.Common.{T, sym, subst, arith}
use Rattle.image_files.proofs.Decimals.{digit_lies, still_small}
use Rattle.image_files.proofs.arguments.value.Goals as goal

pub overflow_mul-value : goal.overflow_mul-value
overflow_mul-value c =
    let k = c.loop-digit in
    let s = still_small k.value k.digit-index (omega (arith, c.requires.1)) k.invariant.0 in
    omega arith

pub overflow_add-value : goal.overflow_add-value
overflow_add-value c =
    let k = c.loop-digit in
    let s = still_small k.value k.digit-index (omega (arith, c.requires.1)) k.invariant.0 in
    let d = digit_lies c.args.digits.now k.digit-index (subst T (sym c.requires.0) tt) (omega arith) in
    omega (arith, c.from.ensures)
