-- What a reader finds in a text of three lines, and behind it.
use Rattle.std.specs.Prelude.{◌≡◌, true, List, [], ℕ, Some, None}
use Rattle.words.specs.Texts.{characters}
use Rattle.records.specs.declared.Kind.TheVariants.{Data, End}
use Rattle.reader.specs.Steps.{step_at, data_from}

-- data that end in LF, an ending record that ends in CR LF, and a line that is bad and has no end
abbrev pub text : List ℕ
text = characters "S307080000001a3B9B\nS9030000FC\r\nS"

-- at each place: what the line says, where it stops, where the next one begins, and its data's digits
pub record Rulings : Type 0 where
  pub first : step_at text 0
      ≡ Some record { line = Some record { kind = Data; address = 0x08000000; bytes = 2; right = true }; stop = 18; next = 19 }
  pub digits : data_from text 0 ≡ characters "1a3B"
  pub second : step_at text 19
      ≡ Some record { line = Some record { kind = End; address = 0; bytes = 0; right = true }; stop = 29; next = 31 }
  pub third : step_at text 31 ≡ Some record { line = None; stop = 32; next = 32 }
  pub none : data_from text 31 ≡ []
  pub over : step_at text 32 ≡ None
  pub nothing : data_from text 32 ≡ []
