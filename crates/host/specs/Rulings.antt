-- What document 02, Wish 5, and the worked talk of document 01 say of commands, in their own bytes and numbers.
use Rattle.std.specs.Prelude.{◌≡◌, List, [], ◌∷◌, map, ℕ, length, replicate}
use Rattle.words.specs.Hex.{hex}
use Rattle.board.specs.Quantities.{sector}
use Rattle.host.specs.Commands.{write_command, read_command, erase_command}
use Rattle.host.specs.Ranges.{flash_address, writes_of, reads_of, erases_of}
use Rattle.host.specs.Refusals.{tested_no, write_refusal, range_refusal}
use Rattle.host.specs.Promise.{done_reply, erased_reply, read_reply}

-- the lengths of the write commands for so many bytes from offset 300 on
abbrev pub lengths : ℕ → List ℕ
lengths count = map length (writes_of (replicate 1000 0x5A) 300 count)

-- the number of what is tested of a write, and of a read or an erase
abbrev pub write_no : ℕ → ℕ → ℕ → ℕ → ℕ
write_no image offset count room = tested_no (write_refusal image offset count room)

abbrev pub range_no : ℕ → ℕ → ℕ → ℕ
range_no offset count room = tested_no (range_refusal offset count room)

pub record Rulings : Type 0 where
  -- the commands of the talk
  pub first_byte : write_command (flash_address 0) (hex "F0") ≡ hex "31 CE 08 00 00 00 08 00 F0 F0"
  pub across_sectors : write_command (flash_address 1023) (hex "AA 0F") ≡ hex "31 CE 08 00 03 FF F4 01 AA 0F A4"
  pub last_byte : write_command (flash_address 32767) (hex "12") ≡ hex "31 CE 08 00 7F FF 88 00 12 12"
  pub four_read : read_command (flash_address 0) 4 ≡ hex "11 EE 08 00 00 00 08 03 FC"
  pub two_erased : erase_command (sector 3 ∷ sector 31 ∷ []) ≡ hex "44 BB 00 01 00 03 00 1F 1D"
  -- the sectors that a range touches: two bytes across a boundary touch two
  pub touching : erases_of 1023 2 ≡ hex "44 BB 00 01 00 00 00 01 00" ∷ []
  pub within : erases_of 1024 1024 ≡ hex "44 BB 00 00 00 01 01" ∷ []
  -- what is answered
  pub done : done_reply ≡ hex "79 79 79"
  pub erased : erased_reply ≡ hex "79 79"
  pub read : read_reply (hex "A5") ≡ hex "79 79 79 A5"
  -- 256 data bytes each but for a shorter last one, from the offset on; none for an empty range
  pub cut_at256 : lengths 256 ≡ 265 ∷ []
  pub cut_behind256 : lengths 600 ≡ 265 ∷ 265 ∷ 97 ∷ []
  pub no_write : lengths 0 ≡ []
  pub no_read : reads_of 32768 0 ≡ []
  pub no_erase : erases_of 32768 0 ≡ []
  pub read_twice : reads_of 0 257 ≡ hex "11 EE 08 00 00 00 08 FF 00" ∷ hex "11 EE 08 00 01 00 09 00 FF" ∷ []
  -- the refusals in their order, for an empty range too
  pub accepted : write_no 32768 32768 0 265 ∷ write_no 32768 0 32768 265 ∷ range_no 0 32768 265 ∷ [] ≡ 0 ∷ 0 ∷ 0 ∷ []
  pub refused : write_no 32767 1 32768 264 ∷ write_no 32768 1 32768 264 ∷ write_no 32768 0 0 264 ∷ [] ≡ 1 ∷ 2 ∷ 3 ∷ []
  pub range_refused : range_no 1 32768 264 ∷ range_no 32769 0 265 ∷ range_no 0 0 264 ∷ [] ≡ 2 ∷ 2 ∷ 3 ∷ []
