-- A slice of a session's length gets the fresh session's bytes, and any other is refused.
use borrow.Author.Rules.{rules}
use mathlib.Core.Path.{ap, ◌∙◌}
use borrow.Author.Tests.{eq-eqb, ne_eqb}
use Rattle.session_bytes.specs.Sessions.{session_bytes}
use Rattle.exports.proofs.oilthicket_power_on.Statement.{statement}
use Rattle.exports.proofs.oilthicket_power_on.Tie as tie

returns_2 : tie.Need-returns
returns_2 c =
    let after_write = c.before.before in
    let after-power-on = after_write.before.before in
    let else1 = after-power-on.before in
    record {
      number = rw (eq-eqb _ 280 else1.if-session-ne-LENGTH.false);
      session = rw (eq-eqb _ 280 else1.if-session-ne-LENGTH.false)
          (after_write.write.ensures.0 ∙ ap session_bytes after-power-on.power_on.ensures.session);
    }

pub oilthicket_power_on_spec : {M : Type 1} → statement M
oilthicket_power_on_spec =
    tie.close
    (tie.spec
    (λ c. record { number = rw (ne_eqb _ 280 c.if-session-ne-LENGTH.true); session = rw (ne_eqb _ 280 c.if-session-ne-LENGTH.true) })
    (λ c κs. search rules)
    (λ c κs. search rules)
    (λ c. search rules)
    returns_2)
