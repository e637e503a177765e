-- Each computes.
use mathlib.Core.Path.{refl}
use Rattle.port_loop.specs.St.{in_st}
use Rattle.port_loop.proofs.held.st_says.Statement.{statement}
use Rattle.port_loop.proofs.held.st_says.Tie as tie

pub st_says_spec : {M : Type 1} → statement M
unfolding in_st
st_says_spec =
    tie.close
    (tie.spec
    (λ c. record { commands = refl; device = refl; nacked = refl; unknown = refl; version = refl }))
