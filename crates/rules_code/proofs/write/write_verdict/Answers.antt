-- The region has room for the bytes at their place.
use Rattle.std.proofs.Common.{◌+◌, ◌≤◌, sym, ◌∙◌, subst, arith}
use Rattle.board.specs.Board.{extent_of}
use Rattle.board.specs.declared.Region.{Region}
use Rattle.board.proofs.Regions.{room}
use Rattle.rules_code.proofs.write.write_verdict.Goals as goal

pub flash_verdict-requires : goal.flash_verdict-requires
flash_verdict-requires c =
    let p = c.in-Some.place in
    let h = room c.args.address c.args.x p.region p.at (sym c.place.ensures ∙ c.in-Some.is) in
    (omega arith, subst (λ (r : Region). p.at + c.args.x ≤ (extent_of r).bytes) c.in-Flash.is h)
