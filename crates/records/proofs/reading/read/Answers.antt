-- A good line has an address and a checksum where the code reads them.
use Rattle.std.proofs.Common.{◌≡◌, refl, ℕ, List, true, T, sym, subst, ◌∙◌, arith, length-drop}
use Rattle.words.proofs.Slices.{to_the_end}
use Rattle.records.specs.Records.{is_good}
use Rattle.records.proofs.Good.{Good, good}
use Rattle.records.proofs.reading.read.Goals as goal

known : (l : List ℕ) → is_good l ≡ true → Good l
known l e = good l (subst T (sym e) tt)

pub bounds-line-1 : goal.bounds-line-1
bounds-line-1 c = let g = known c.args.line.now (sym c.is_good-good.ensures ∙ c.if-not-good.false) in omega (arith, g.long)

pub slice_bounds-rest-count : goal.slice_bounds-rest-count
slice_bounds-rest-count c = let g = known c.args.line.now (sym c.is_good-good.ensures ∙ c.if-not-good.false) in omega (arith, g.long)

pub slice_bounds-rest-start : goal.slice_bounds-rest-start
slice_bounds-rest-start c = let g = known c.args.line.now (sym c.is_good-good.ensures ∙ c.if-not-good.false) in omega (arith, g.long)

pub byte_at-requires : goal.byte_at-requires
byte_at-requires c =
    let l = c.args.line.now in
    let g = known l (sym c.is_good-good.ensures ∙ c.if-not-good.false) in
    rw (to_the_end 2 l) (g.pairs, simp length-drop (omega (arith, g.long)))

pub address-requires : goal.address-requires
address-requires c =
    let l = c.args.line.now in
    let g = known l (sym c.is_good-good.ensures ∙ c.if-not-good.false) in
    let w = c.address_bytes-wide.ensures in
    rw (to_the_end 2 l) (g.pairs, w.1, w.2, simp length-drop (omega (arith, g.long, g.counts, w.0)))

-- the count takes in address and checksum
pub overflow_sub-result : goal.overflow_sub-result
overflow_sub-result c =
    let l = c.args.line.now in
    let g = known l (sym c.is_good-good.ensures ∙ c.if-not-good.false) in
    let b = rw (to_the_end 2 l) at c.byte_at.ensures.0 in
    omega (arith, g.counts, c.address_bytes-wide.ensures.0, c.from-count.ensures, b)

pub is_right-requires : goal.is_right-requires
is_right-requires c =
    let l = c.args.line.now in
    let g = known l (sym c.is_good-good.ensures ∙ c.if-not-good.false) in
    rw (to_the_end 2 l) (g.pairs, simp length-drop (omega (arith, g.long)))

pub returns : goal.returns
returns c =
    rw (
      sym c.is_good-good.ensures ∙ c.if-not-good.false,
      sym c.kind_by.ensures ∙ c.in_ok-kind.was,
      c.address.ensures,
      c.is_right.ensures,
      c.from-count.ensures,
      c.byte_at.ensures.0,
      c.address_bytes-wide.ensures.0,
      to_the_end 2 c.args.line.now,
    ) refl
