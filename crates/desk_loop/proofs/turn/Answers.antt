-- What was heard left the memories their lengths.
use Rattle.std.proofs.Common.{T, refl, sym, subst}
use Rattle.memories.specs.Memories.{Memories, proper}
use Rattle.keeping.proofs.Rooms.{proper_fit, fits_again}
use Rattle.desk_loop.proofs.turn.Goals as goal

pub take_in-requires-clause-lengths : goal.take_in-requires-clause-lengths
take_in-requires-clause-lengths g c = proper_fit c.requires.fits

pub tell-requires : goal.tell-requires
tell-requires g c = fits_again c.requires.fits (subst (λ (m : Memories). T (proper m)) (sym c.shown.ensures) c.take_in.ensures.lengths) refl
