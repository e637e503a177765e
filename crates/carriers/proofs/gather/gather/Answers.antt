-- As many bytes as are still expected, or as there are, are put at index taken.
use Rattle.command.specs.Progress.{progress_at}
use Rattle.command.proofs.Progress.{so_many_fit}
use Rattle.carriers.proofs.gather.gather.Goals as goal

pub returns : goal.returns
returns c =
    let p = progress_at c.args.taken c.args.expected 0 c.args.staged.now in
    let f = so_many_fit p c.args.new.now c.min-fit.result c.min-fit.ensures in
    (rw f.0, rw (c.lay.ensures, f.1))
