-- The end of the input left the memories their lengths.
use Rattle.std.proofs.Common.{T, refl, sym, subst}
use Rattle.memories.specs.Memories.{Memories, proper}
use Rattle.keeping.proofs.Rooms.{proper_fit, fits_again}
use Rattle.desk_loop.proofs.Lengths.{ended_proper}
use Rattle.desk_loop.proofs.get_up.Goals as goal

pub tell-requires : goal.tell-requires
tell-requires g c =
    let lengths = ended_proper _ c.finish.ensures.told (proper_fit c.requires.fits) in
    fits_again c.requires.fits (subst (λ (m : Memories). T (proper m)) (sym c.shown.ensures) lengths) refl
