-- What a step expects is one number, or one more than a count or than its double, and so many bytes come behind those before the step.
use native.Mathlib.Omega.{arith}
use lib.Dec.{eqb→eq}
use Rattle.uart.specs.Rulings.{PlaceRulings}
use Rattle.uart.proofs.held.places.Statement.{statement}
use Rattle.uart.proofs.held.places.Tie as tie

ruled : PlaceRulings
ruled = record {
  command = λ e t. omega (arith, eqb→eq e 2 t);
  read_address = λ e t. omega (arith, eqb→eq e 5 t);
  jump_address = λ e t. omega (arith, eqb→eq e 5 t);
  write_address = λ e t. omega (arith, eqb→eq e 5 t);
  crc_address = λ e t. omega (arith, eqb→eq e 5 t);
  read_length = λ e t. omega (arith, eqb→eq e 2 t);
  write_data = λ x. omega arith;
  erase_selector = λ e t. omega (arith, eqb→eq e 2 t);
  special_check = λ e t. omega (arith, eqb→eq e 1 t);
  erase_list = λ x. omega arith;
  protect_list = λ x. omega arith;
  crc_count = λ e t. omega (arith, eqb→eq e 3 t);
}

pub places_spec : {M : Type 1} → statement M
places_spec = tie.close (tie.spec (λ c. ruled))
