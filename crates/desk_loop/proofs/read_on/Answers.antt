-- A turn heard one text more, and kept what it left where all was told.
use Rattle.std.proofs.Common.{refl, arith, rules}
use Rattle.keeping.proofs.Counting.{fewer}
use Rattle.keeping.proofs.Rooms.{proper_fit, fits_again}
use Rattle.keeping.proofs.Lending.{still_lent}
use Rattle.desk_loop.proofs.Hearing.{nothing_heard, one_more}
use Rattle.desk_loop.proofs.read_on.Goals as goal

pub loop-turns-init : goal.loop-turns-init
loop-turns-init g c = (
  c.requires.ready_2,
  omega (arith, c.requires.no_lines),
  nothing_heard _,
  c.requires.kept_2,
  record { flash = refl; sram = refl; usd = refl },
  proper_fit c.requires.fits,
)

pub turn-requires-clause-fits : goal.turn-requires-clause-fits
turn-requires-clause-fits g c = fits_again c.requires.fits c.loop-turns.invariant.5 c.loop-turns.auto.kept

pub returns-in_err-more-clause-heard : goal.returns-in_err-more-clause-heard
returns-in_err-more-clause-heard g c =
    let i = c.loop-turns.invariant in
    one_more i.2 c.turn.ensures.heard (omega (arith, c.loop-turns-test.true, i.1))

pub loop-turns-preserved : goal.loop-turns-preserved
loop-turns-preserved g c =
    let i = c.loop-turns.invariant in
    let e = c.turn.ensures in
    let left = c.left-turns.ensures in
    let less = fewer _ _ _ c.loop-turns-test.true (left.going, left.ended) in (
      e.ready,
      omega (arith, e.few, less, i.1),
      one_more i.2 e.heard (omega (arith, less, i.1)),
      search rules,
      still_lent i.4 e.same,
      e.lengths,
    )
