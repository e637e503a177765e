-- What is said of a file, whole, of each cause.
use Rattle.std.specs.Prelude.{ℕ, ◌≡◌, Bool, true, false, List, [], ◌∷◌, map, Ok, Err}
use Rattle.words.specs.Texts.{characters}
use Rattle.loading.specs.Loads.{whole, at_line}
use Rattle.loading.specs.declared.Refused.{Refused}
use Rattle.loading.specs.declared.Cause.TheVariants.{WrongLength, BadLine, BadChecksum, OutsideFlash, Overlap, NoEnd}
use Rattle.image_says.specs.Messages.{message, is_short}

-- what is said of scale.s37 that is accepted, with so many bytes and sectors loaded; and of one that has a cause at a line
abbrev pub loaded : ℕ → ℕ → List ℕ
loaded bytes sectors = message (characters "scale.s37") (Ok tt) record { bytes = bytes; sectors = sectors } false

abbrev pub refused : Refused → Bool → List ℕ
refused r short = message (characters "scale.s37") (Err r) record { bytes = 0; sectors = 0 } short

pub record Messages : Type 0 where
  pub many : loaded 5000 4 ≡ characters "scale.s37: 5000 bytes in 4 sectors\n"
  pub one : loaded 1 1 ≡ characters "scale.s37: 1 byte in 1 sector\n"
  pub none : loaded 0 0 ≡ characters "scale.s37: 0 bytes in 0 sectors\n"
  pub length : refused (whole WrongLength) false ≡ characters "scale.s37: wrong image length: 32768 bytes wanted\n"
  pub line : refused (at_line BadLine 1) true ≡ characters "scale.s37:1: bad line\n"
  pub checksum : refused (at_line BadChecksum 12) false ≡ characters "scale.s37:12: bad checksum\n"
  pub outside : refused (at_line OutsideFlash 12) false ≡ characters "scale.s37:12: address outside flash\n"
  pub short : refused (at_line OutsideFlash 3) true
      ≡ characters "scale.s37:3: address outside flash: S1 and S2 records cannot reach it; link at 0x08000000 and write S3 records\n"
  pub overlap : refused (at_line Overlap 120) false ≡ characters "scale.s37:120: overlap with an earlier line\n"
  -- S1 and S2 records are those that get advice
  pub types : map (λ t. is_short (characters t)) ("S104000012E9" ∷ "S20500000012E8" ∷ "S3060000000012E7" ∷ "S9030000FC" ∷ "S" ∷ [])
      ≡ true ∷ true ∷ false ∷ false ∷ false ∷ []
  pub no_end : refused (whole NoEnd) false ≡ characters "scale.s37: no ending record\n"
