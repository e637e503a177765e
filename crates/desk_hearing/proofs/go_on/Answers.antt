-- The line is answered; the lines behind it are passed, and each is answered by `>`.
use native.Mathlib.Omega.{arith}
use mathlib.Core.Path.{refl, sym, subst}
use Rattle.memories.specs.Lent.{holds}
use Rattle.desk_answers.specs.Desk.{Desk, line_ends}
use Rattle.desk_answers.specs.Promise.{Tells}
use Rattle.desk_hearing.specs.Promise.{desk_of}
use Rattle.desk_passing.proofs.Passing.{gone_on}
use Rattle.desk_hearing.proofs.Hearing.{nothing_kept}
use Rattle.desk_hearing.proofs.go_on.Goals as goal

pub end_line-next-requires : goal.end_line-next-requires
end_line-next-requires c = record {
  kept_in_bounds = c.requires.kept_in_bounds;
  lines_bound = omega (arith, c.requires.rest_bound);
  kept_in_bounds_2 = omega (arith, c.requires.rest_in_bounds);
}

pub nod-end-requires : goal.nod-end-requires
nod-end-requires c =
    let p = c.gather-gathered.ensures in
    omega (arith, p.few, p.within, c.end_line-next.ensures.fits, c.end_line-next.auto.out, c.requires.rest_in_bounds)

pub overflow_add-result : goal.overflow_add-result
overflow_add-result c =
    let p = c.gather-gathered.ensures in
    omega (arith, p.few, p.within, c.end_line-next.ensures.counts.1, c.requires.rest_bound)

pub returns : goal.returns
returns c =
    let p = c.gather-gathered.ensures in
    let next = c.end_line-next in
    let b = next.ensures in
    let d = desk_of c.args.desk c.args.line.now (holds c.args.lent.now) in
    let m = holds next.new.lent in
    record {
      told = rw c.nod-end.ensures.text
          (gone_on d c.args.rest.now next.result.why next.result.session c.gather-gathered.result.session m
          c.lengths_right-right.result next.result.lines c.gather-gathered.result.lines
          c.gather-gathered.result.characters c.args.desk.end next.result.end c.nod-end.result c.args.out.now next.new.out
          (subst (λ (x : Desk). Tells (line_ends d) c.args.desk.end c.args.out.now next.result.end next.new.out x)
          (nothing_kept next.result c.args.line.now m b.counts.0) b.told)
          (sym c.lengths_right-right.ensures) p c.nod-end.ensures.end);
      within = p.within;
      fits = omega (arith, b.fits, p.few, c.nod-end.ensures.end);
      counts = (refl, omega (arith, b.counts.1, p.few));
      same = b.same;
    }
