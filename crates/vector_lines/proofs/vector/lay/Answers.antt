-- What does not reach the memory's end is laid whole, else what reaches it.
use native.Mathlib.Omega.{arith}
use mathlib.Core.Path.{sym, ◌∙◌}
use Rattle.vector_lines.proofs.Vectors.{put_behind, put_cut}
use Rattle.vector_lines.proofs.vector.lay.Goals as goal

pub returns-then-at-memory : goal.returns-then-at-memory
returns-then-at-memory c =
    c.lay.ensures ∙ put_cut c.args.memory.now c.args.at c.args.bytes.now c.min-n.result (λ k. omega (arith, c.min-n.ensures, k))

pub returns-else-at-memory : goal.returns-else-at-memory
returns-else-at-memory c = sym (put_behind c.args.memory.now c.args.at c.args.bytes.now (omega arith))
