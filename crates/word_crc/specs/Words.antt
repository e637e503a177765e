-- The checksum of the bench board: document 02, Wish 3.
use Rattle.std.specs.Prelude.{ℕ, zero, suc, ◌%◌, ◌<◌, ◌≡◌, length, get_or}
use mathlib.Core.List.{List, [], ◌∷◌, ◌++◌, foldl}
use Rattle.std.specs.Int.Bits.{bit_xor}
use Rattle.words.specs.Bytes.{number, four_bytes}
use Rattle.words.specs.Hex.{hex}
use Rattle.crc.specs.Crc.{start, shifted_by, crc}

-- within each group of four bytes document 01's order is reversed; behind the last group fewer than four, which no sector has, keep it
abbrev pub fours_reversed : List ℕ → List ℕ
fours_reversed [] = []
fours_reversed (a ∷ []) = a ∷ []
fours_reversed (a ∷ b ∷ []) = a ∷ b ∷ []
fours_reversed (a ∷ b ∷ c ∷ []) = a ∷ b ∷ c ∷ []
fours_reversed (a ∷ b ∷ c ∷ d ∷ l) = d ∷ c ∷ b ∷ a ∷ fours_reversed l

-- the checksum of bytes in that order
abbrev pub word_crc : List ℕ → ℕ
word_crc l = crc (fours_reversed l)

-- ---- what the bench board does

-- the word that four bytes write, little-endian
abbrev pub little_word : ℕ → ℕ → ℕ → ℕ → ℕ
little_word a b c d = number (d ∷ c ∷ b ∷ a ∷ [])

-- the words that bytes write
abbrev pub little_words : List ℕ → List ℕ
little_words [] = []
little_words (a ∷ []) = []
little_words (a ∷ b ∷ []) = []
little_words (a ∷ b ∷ c ∷ []) = []
little_words (a ∷ b ∷ c ∷ d ∷ l) = little_word a b c d ∷ little_words l

-- the bytes of words, each word from its highest byte down
abbrev pub from_highest : List ℕ → List ℕ
from_highest [] = []
from_highest (w ∷ ws) = four_bytes w ++ from_highest ws

-- a word is joined to the whole register by XOR, and the register moves up by its 32 bits
unfoldable pub word_fed : ℕ → ℕ → ℕ
word_fed c w = shifted_by 32 (bit_xor c w)

-- bytes that make up whole words
pub record WholeWords (l : List ℕ) : Type 0 where
  pub byte : (i : ℕ) → get_or l i 0 < 256
  pub whole : length l % 4 ≡ 0

-- the order is that of the little-endian words, each from its highest byte down
abbrev pub HighestByteFirst : Type 0
HighestByteFirst = (l : List ℕ) → WholeWords l → fours_reversed l ≡ from_highest (little_words l)

-- the checksum is a fold of whole words over the little-endian words
abbrev pub FoldOfWords : Type 0
FoldOfWords = (l : List ℕ) → WholeWords l → word_crc l ≡ foldl word_fed start (little_words l)

-- ---- what programs of others give (expected/crc.md)

-- n bytes 00 01 .. FF over and over, from one of them on
abbrev pub counting : ℕ → ℕ → List ℕ
counting zero b = []
counting (suc n) b = b ∷ counting n (suc b % 256)

-- the checksums of the word 0x12345678, and of a sector that holds 00 01 .. FF over and over
abbrev pub OutsideValues : Type 0
OutsideValues = (word_crc (hex "78 56 34 12") ≡ 0xDF8A8A2B) × (word_crc (counting 1024 0) ≡ 0x8ADA4578)
