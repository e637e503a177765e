-- A view holds the bytes that hold the sectors' bits, in their order.
use mathlib.Core.Path.{refl}
use Rattle.board.specs.View.{view_of}
use Rattle.board.specs.Rulings.{ByItsBits}
use Rattle.board.proofs.Bits.{by_its_bit}
use Rattle.board.proofs.held.by_its_bits.Statement.{statement}
use Rattle.board.proofs.held.by_its_bits.Tie as tie

by-its-bits : ByItsBits
unfolding view_of
by-its-bits = record { locked = λ u. refl; sector = by_its_bit }

pub by_its_bits_spec : {M : Type 1} → statement M
by_its_bits_spec = tie.close (tie.spec (λ c. by-its-bits))
