-- Each turn stores one byte more.
use native.Mathlib.Omega.{arith}
use mathlib.Core.Path.{◌≡◌, ap, sym, ◌∙◌}
use Prim.Native.Nat.{ℕ, ◌+◌, ◌-◌, ◌%◌}
use lib.ListN.{length, set, length-set}
use Rattle.words.specs.Over.{put}
use Rattle.words.proofs.Over.{put_all}
use Rattle.vector_lines.specs.Vectors.{filled}
use Rattle.vector_lines.proofs.Vectors.{length_filled, filled_more, put_behind}
use Rattle.vector_lines.proofs.vector.fill.Goals as goal

pub loop-slot-init : goal.loop-slot-init
loop-slot-init c =
    let m = c.args.memory.now in
    let whole : length m - 0 ≡ length m = omega arith in
    ap (λ (n : ℕ). put m 0 (filled c.args.seed c.args.stride n)) whole
    ∙ put_all m (filled c.args.seed c.args.stride (length m)) (length_filled c.args.seed c.args.stride (length m))

pub loop-slot-preserved : goal.loop-slot-preserved
loop-slot-preserved c =
    let loop = c.loop-slot in
    let m = loop.memory in
    let i = loop.slot-index in
    let v = loop.value in
    let s = c.args.stride in
    let stays : length (set m i v) ≡ length m = length-set m i v in
    ap (λ (n : ℕ). put (set m i v) (i + 1) (filled ((v + s) % 256) s (n - (i + 1)))) stays
    ∙ filled_more m i v s (length m - i) (length m - (i + 1)) (omega (arith, loop.auto.memory, c.loop-slot-test.true))
    ∙ loop.invariant
    ∙ ap (λ (n : ℕ). filled c.args.seed s n) (sym stays)

pub returns : goal.returns
returns c =
    let loop = c.loop-slot in
    let left = filled loop.value c.args.stride (length loop.memory - loop.slot-index) in
    sym (put_behind loop.memory loop.slot-index left (omega (arith, loop.auto.memory, c.loop-slot-test.false)))
    ∙ loop.invariant
    ∙ ap (λ (n : ℕ). filled c.args.seed c.args.stride n) loop.auto.memory
