-- The desk sat down at a board, just powered, heard some text, and got up.
use Rattle.keeping.proofs.Rooms.{fits_again}
use Rattle.desk_loop.proofs.Hearing.{sits_down, gets_up}
use Rattle.desk_loop.proofs.sit.Goals as goal

pub get_up-told-requires-clause-fits : goal.get_up-told-requires-clause-fits
get_up-told-requires-clause-fits g c = fits_again c.requires.fits c.read_on-told.ensures.lengths c.read_on-told.auto.kept

pub returns-clause-left : goal.returns-clause-left
returns-clause-left g c =
    gets_up (sits_down c.args.why _ c.args.line.now _ c.power_on.ensures.session) c.read_on-told.ensures.heard c.get_up-told.ensures.left
