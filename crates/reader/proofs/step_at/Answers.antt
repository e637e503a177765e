-- A line begins at the place: its span is the definition's, and what is read of it.
use Rattle.std.proofs.Common.{◌≡◌, refl, ◌+◌, ◌-◌, length, drop, arith}
use Rattle.std.proofs.lemmas.Bool.{lt-ltb}
use Rattle.records.specs.Ends.{stop_in}
use Rattle.reader.proofs.step_at.Goals as goal

pub returns : goal.returns
returns c =
    let text = c.args.text.now in
    let at = c.args.at in
    let s = c.line_at-span.ensures in
    let n : at + stop_in (drop at text) - at ≡ stop_in (drop at text) = omega arith in
    rw (lt-ltb at (length text) c.if-text-at.false, c.read-line.ensures, s.stops, s.begins, n) refl
