-- The byte stands n times in the place of as many.
use native.Mathlib.Omega.{arith}
use lib.ListN.{length-replicate}
use Rattle.words.proofs.Over.{put_part}
use Rattle.std.proofs.Common.{◌≡◌, replicate, rules}
use Rattle.words.proofs.fill.Goals as goal

pub returns : goal.returns
returns c =
    let filled : c.fill.new.self ≡ replicate c.args.n c.args.byte = search rules in
    rw filled (put_part c.args.memory.now c.args.at _ (replicate c.args.n c.args.byte) (omega (arith, length-replicate c.args.n c.args.byte)) (omega arith))
