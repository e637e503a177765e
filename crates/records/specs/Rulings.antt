-- What lines and line ends give, in the characters of public examples: document 02, Wish 1.
use Rattle.std.specs.Prelude.{◌≡◌, true, false, List, [], ◌∷◌, ◌++◌, map, ℕ, ◌≤◌, ◌<◌, length, take, drop, replicate, Some, None}
use Rattle.words.specs.Texts.{characters}
use Rattle.records.specs.Digits.{bytes_in}
use Rattle.records.specs.Ends.{lines_of, stop_in, next_in}
use Rattle.records.specs.Records.{digit, is_good, line_of, data_part}
use Rattle.records.specs.declared.Kind.TheVariants.{Header, Data, Count, End}

-- what lines say
pub record Lines : Type 0 where
  -- S1, S2 and S3 carry data, behind an address of two, three and four bytes
  pub two : line_of (characters "S1137AF00A0A0D0000000000000000000000000061") ≡ Some record { kind = Data; address = 0x7AF0; bytes = 16; right = true }
  pub three : line_of (characters "S205012345AAE7") ≡ Some record { kind = Data; address = 0x012345; bytes = 1; right = true }
  pub four : line_of (characters "S307080000001234AA") ≡ Some record { kind = Data; address = 0x08000000; bytes = 2; right = true }
  -- S0 and S5 are noted
  pub header : line_of (characters "S00600004844521B") ≡ Some record { kind = Header; address = 0; bytes = 3; right = true }
  pub number : line_of (characters "S5030003F9") ≡ Some record { kind = Count; address = 3; bytes = 0; right = true }
  -- S7, S8 and S9 end the file
  pub seven : line_of (characters "S70508000000F2") ≡ Some record { kind = End; address = 0x08000000; bytes = 0; right = true }
  pub eight : line_of (characters "S80401234592") ≡ Some record { kind = End; address = 0x012345; bytes = 0; right = true }
  pub nine : line_of (characters "S9030000FC") ≡ Some record { kind = End; address = 0; bytes = 0; right = true }
  -- digits in either case, mixed too, write the same
  pub mixed : line_of (characters "S1137aF00a0A0d0000000000000000000000000061") ≡ line_of (characters "S1137AF00A0A0D0000000000000000000000000061")
  -- a line whose checksum is wrong is not bad
  pub wrong : line_of (characters "S9030000FB") ≡ Some record { kind = End; address = 0; bytes = 0; right = false }
  -- a count leaves at least address and checksum, and S3 may be without data
  pub bare : line_of (characters "S30508000000F2") ≡ Some record { kind = Data; address = 0x08000000; bytes = 0; right = true }
  pub few : line_of (characters "S00200FD") ≡ None
  -- the longest line has a count of 255, and 514 characters
  pub longest : line_of (characters "S1FF" ++ replicate 510 (digit 0)) ≡ Some record { kind = Data; address = 0; bytes = 252; right = true }
  pub longest_length : length (characters "S1FF" ++ replicate 510 (digit 0)) ≡ 514
  -- no other line is good: a small s, types 4 and 6, S9 and S5 with data, a count too small and too large for the line, half a pair, no digit
  pub bad : map (λ t. is_good (characters t))
      ("s9030000FC" ∷ "S4030000FC" ∷ "S6030003F9" ∷ "S904000000FB" ∷ "S504000300F8" ∷ "S9020000FC" ∷ "S9040000FC" ∷ "S9030000F" ∷ "S903000GFC" ∷ [])
      ≡ false ∷ false ∷ false ∷ false ∷ false ∷ false ∷ false ∷ false ∷ false ∷ []
  -- nor one with a space, a tab, a NUL or a comment, the letter alone, nor the empty line
  pub strange : map is_good
      (characters "S9030000FC " ∷ characters " S9030000FC" ∷ (characters "S9030000FC" ++ (0x09 ∷ [])) ∷ (characters "S9030000FC" ++ (0x00 ∷ []))
      ∷ characters "S9030000FC;" ∷ characters "S" ∷ [] ∷ [])
      ≡ false ∷ false ∷ false ∷ false ∷ false ∷ false ∷ false ∷ []
  -- nor one with a CR in it, in place of a digit or behind them
  pub returned : map (λ t. is_good (characters t)) ("S9030000F\r" ∷ "S903\r000FC" ∷ "S9030000FC\r" ∷ []) ≡ false ∷ false ∷ false ∷ []

-- which digits of data are given
pub record Digits : Type 0 where
  -- those of S3, in whatever case, and of S0
  pub given : data_part (characters "S307080000001a3B9B") ≡ characters "1a3B"
  pub bytes : bytes_in (characters "1a3B") ≡ 0x1A ∷ 0x3B ∷ []
  pub header : data_part (characters "S00600004844521B") ≡ characters "484452"
  -- of a line with a wrong checksum too
  pub wrong : data_part (characters "S307080000001234AB") ≡ characters "1234"
  -- none of a record without data, of S5, of S9 and of a bad line
  pub none : map data_part
      (characters "S30508000000F2" ∷ characters "S5030003F9" ∷ characters "S9030000FC" ∷ characters "s307080000001234AA" ∷ [] ∷ [])
      ≡ [] ∷ [] ∷ [] ∷ [] ∷ [] ∷ []

-- where lines end
pub record Ends : Type 0 where
  -- in LF or CR LF, the last one optionally
  pub feeds : lines_of (characters "A\nB\n") ≡ characters "A" ∷ characters "B" ∷ []
  pub returns : lines_of (characters "A\r\nB\r\n") ≡ characters "A" ∷ characters "B" ∷ []
  pub unended : lines_of (characters "A\r\nB") ≡ characters "A" ∷ characters "B" ∷ []
  -- every other CR is a character of its line: alone, before CR LF, and as the last one of the text
  pub alone : lines_of (characters "A\rB\n") ≡ characters "A\rB" ∷ []
  pub twice : lines_of (characters "A\r\r\nB") ≡ characters "A\r" ∷ characters "B" ∷ []
  pub last : lines_of (characters "A\nB\r") ≡ characters "A" ∷ characters "B\r" ∷ []
  -- a line may be empty, and an empty text has no line
  pub empties : lines_of (characters "\n\r\nA\n\n") ≡ [] ∷ [] ∷ characters "A" ∷ [] ∷ []
  pub nothing : lines_of [] ≡ []

pub record Rulings : Type 0 where
  pub lines : Lines
  pub digits : Digits
  pub ends : Ends

-- no good line is longer than 514 characters
abbrev pub Longest : Type 0
Longest = (l : List ℕ) → is_good l ≡ true → length l ≤ 514

-- a text that is not empty is its first line, up to where it stops, and the lines from where the next one begins
abbrev pub LineByLine : Type 0
LineByLine = (text : List ℕ) → 0 < length text → lines_of text ≡ take (stop_in text) text ∷ lines_of (drop (next_in text) text)
