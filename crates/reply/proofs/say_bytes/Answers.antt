-- ACK is stored first, and the bytes are laid behind it.
use native.Mathlib.Omega.{arith}
use mathlib.Core.Path.{refl, ◌∙◌}
use Rattle.words.proofs.Over.{put_cons}
use Rattle.reply.proofs.say_bytes.Goals as goal

pub returns : goal.returns
returns c = (refl, c.lay.ensures ∙ put_cons c.args.buffer.now 121 c.args.bytes.now (omega arith))
