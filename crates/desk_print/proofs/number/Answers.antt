-- The fewest digits are the number's decimal, and they are added.
use native.Mathlib.Omega.{arith}
use mathlib.Core.Path.{◌≡◌, ap, ◌∙◌}
use mathlib.Core.List.{List}
use Prim.Native.Nat.{ℕ, ◌+◌}
use lib.ListN.{length, take}
use Rattle.words.specs.Over.{put}
use Rattle.desk_print.specs.Digits.{decimal}
use Rattle.desk_print.proofs.Spelling.{number_spelled}
use Rattle.desk_print.proofs.number.Goals as goal

pub returns : goal.returns
returns c =
    let s = number_spelled c.decimal-k.result c.args.n (omega arith) c.decimal-k.ensures.len in
    let text : take c.decimal-k.result c.decimal-k.new.out ≡ decimal c.args.n = c.decimal-k.ensures.digits ∙ s.0 in
    let e = c.add.ensures.ends ∙ ap (λ (t : List ℕ). c.args.at + length t) text in
    (e, omega (arith, e, s.1, s.2), c.add.ensures.written ∙ ap (λ (t : List ℕ). put c.args.out.now c.args.at t) text)
