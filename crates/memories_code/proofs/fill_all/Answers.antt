use mathlib.Core.Path.{◌∙◌}
use lib.ListN.{length, replicate, length-replicate}
use Rattle.words.proofs.Over.{put_all}
use Rattle.memories_code.proofs.fill_all.Goals as goal

pub returns : goal.returns
returns c =
    let m = c.args.memory.now in
    c.fill.ensures ∙ put_all m (replicate (length m) c.args.byte) (length-replicate (length m) c.args.byte)
