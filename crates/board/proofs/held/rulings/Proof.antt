-- Each ruling is computed.
use mathlib.Core.Path.{refl}
use Rattle.board.specs.Regions.{regions, place_of}
use Rattle.board.specs.View.{view_of}
use Rattle.board.specs.Rulings.{Rulings}
use Rattle.board.proofs.held.rulings.Statement.{statement}
use Rattle.board.proofs.held.rulings.Tie as tie

ruled : Rulings
unfolding place_of regions view_of
ruled = record {
  flash = refl;
  sram = refl;
  usd = refl;
  flash_ends = refl;
  sram_ends = refl;
  usd_ends = refl;
  before_flash = refl;
  before_sram = refl;
  before_usd = refl;
  sectors = refl;
  starts = refl;
  view = refl;
}

pub rulings_spec : {M : Type 1} → statement M
rulings_spec = tie.close (tie.spec (λ c. ruled))
