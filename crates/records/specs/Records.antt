-- What one line of an S-record file is: document 02, Wish 1.
use Rattle.std.specs.Prelude.{ℕ, ◌+◌, ◌*◌, ◌-◌, ◌%◌, Bool, false, ◌&&◌, ◌||◌, List, [], ◌∷◌, eqb, leb, length, get_or, take, drop}
use Rattle.std.specs.Prelude.{Option, Some, None, option_map}
use Rattle.words.specs.Bytes.{complement, number}
use Rattle.std.specs.Prelude.{if◌then◌else◌}
use Rattle.words.specs.Lists.{part}
use Rattle.records.specs.Digits.{are_pairs, bytes_in}
use Rattle.records.specs.declared.Kind.{Kind}
use Rattle.records.specs.declared.Kind.TheVariants.{Header, Data, Count, End}
use Rattle.records.specs.declared.Line.{Line}

-- the characters that lines begin with: S, and a decimal digit
abbrev pub letter_s : ℕ
letter_s = 0x53

abbrev pub digit : ℕ → ℕ
digit n = 0x30 + n

-- what a type digit says: S1, S2, S3 carry data, S0 and S5 are noted, S7 to S9 end the file, and there is no other
abbrev pub kind_by : ℕ → Option Kind
kind_by t =
    if eqb t (digit 0) then Some Header
    else if eqb t (digit 1) || eqb t (digit 2) || eqb t (digit 3) then Some Data
    else if eqb t (digit 5) then Some Count
    else if eqb t (digit 7) || eqb t (digit 8) || eqb t (digit 9) then Some End
    else None

-- the bytes of a type's address: two for 0, 1, 5, 9; three for 2, 8; four for 3, 7
abbrev pub address_bytes : ℕ → ℕ
address_bytes t =
    if eqb t (digit 2) || eqb t (digit 8) then 3
    else if eqb t (digit 3) || eqb t (digit 7) then 4
    else 2

-- a count leaves as many bytes for data as a kind may carry: S5 and S7 to S9 carry none, and a digit that is no type fits nothing
abbrev pub fits_kind : Option Kind → ℕ → ℕ → Bool
fits_kind (Some Header) least count = leb least count
fits_kind (Some Data) least count = leb least count
fits_kind (Some Count) least count = eqb count least
fits_kind (Some End) least count = eqb count least
fits_kind None least count = false

-- the characters before the pairs, S and a type digit; and with the pair of the count
abbrev pub head_characters : ℕ
head_characters = 2

abbrev pub counted_from : ℕ
counted_from = head_characters + 2

-- the type digit of a line, and the bytes that its pairs write: count, address, data, checksum
abbrev pub type_in : List ℕ → ℕ
type_in l = get_or l 1 0

abbrev pub bytes_of : List ℕ → List ℕ
bytes_of l = bytes_in (drop head_characters l)

abbrev pub count_in : List ℕ → ℕ
count_in l = get_or (bytes_of l) 0 0

-- the fewest bytes that are counted: the address and the checksum
abbrev pub least : List ℕ → ℕ
least l = address_bytes (type_in l) + 1

-- a line that is not bad: S, a type digit, pairs of hex digits, and a count that fits the line and the type's address
unfoldable pub is_good : List ℕ → Bool
is_good l =
    eqb (get_or l 0 0) letter_s && are_pairs (drop head_characters l)
    && eqb (length l) (counted_from + 2 * count_in l) && fits_kind (kind_by (type_in l)) (least l) (count_in l)

-- the sum of bytes
abbrev pub sum : List ℕ → ℕ
sum [] = 0
sum (b ∷ bs) = b + sum bs

-- of a line's bytes, the last one counted is the ones' complement of the low byte of the sum of count, address and data bytes
abbrev pub right_in : List ℕ → Bool
right_in bytes = eqb (get_or bytes (get_or bytes 0 0) 0) (complement (sum (take (get_or bytes 0 0) bytes) % 256))

-- the number that the address bytes write
abbrev pub address_in : List ℕ → ℕ
address_in l = number (part 1 (address_bytes (type_in l)) (bytes_of l))

-- a line's kind, address and number of data bytes, and whether its checksum is right; none of a bad line
abbrev pub line_as : List ℕ → Kind → Line
line_as l kind = record { kind = kind; address = address_in l; bytes = count_in l - least l; right = right_in (bytes_of l) }

abbrev pub line_of : List ℕ → Option Line
line_of l = if is_good l then option_map (line_as l) (kind_by (type_in l)) else None

-- the hex digits of a line's data: where they begin, and how many they are; none of a bad line
abbrev pub data_at : List ℕ → ℕ
data_at l = if is_good l then counted_from + 2 * address_bytes (type_in l) else 0

abbrev pub data_digits : List ℕ → ℕ
data_digits l = if is_good l then 2 * (count_in l - least l) else 0

abbrev pub data_part : List ℕ → List ℕ
data_part l = part (data_at l) (data_digits l) l
