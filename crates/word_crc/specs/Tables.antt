-- The word at a place, and the tables by which two words are taken at a time: for the code, document 02 has neither.
use Rattle.std.specs.Prelude.{ℕ, ◌+◌, ◌*◌, ◌^◌, ◌<◌, ◌≡◌, List, length, get_or}
use Rattle.std.specs.Int.Bits.{bit_xor}
use Rattle.crc.specs.Crc.{shifted_by}
use Rattle.word_crc.specs.Words.{little_word}

-- the word that stands at a place
abbrev pub word_at : ℕ → List ℕ → ℕ
word_at i l = little_word (get_or l i 0) (get_or l (i + 1) 0) (get_or l (i + 2) 0) (get_or l (i + 3) 0)

-- the entries of a table, one for each byte, and how many tables stand one behind the other, one for each byte of two words
abbrev pub table_size : ℕ
table_size = 256

abbrev pub table_count : ℕ
table_count = 8

-- at a place, the entries of the first k bytes: what n shifts make of a register that has the byte at its high end, and nothing else
abbrev pub Entries : ℕ → ℕ → ℕ → List ℕ → Type 0
Entries n at k t = (b : ℕ) → b < k → get_or t (at + b) 0 ≡ shifted_by n (b * 2 ^ 24)

-- table m is for the shifts of m + 1 bytes
pub record Tables (t : List ℕ) : Type 0 where
  pub size : length t ≡ table_count * table_size
  pub entries : (m : ℕ) → m < table_count → Entries (m * 8 + 8) (m * table_size) table_size t

-- behind n entries at a place stand the first k of them again, each XOR bit; all before are as they were
pub record Doubled (at n k bit : ℕ) (t u : List ℕ) : Type 0 where
  pub size : length u ≡ length t
  pub before : (i : ℕ) → i < at + n → get_or u i 0 ≡ get_or t i 0
  pub behind : (i : ℕ) → i < k → get_or u (at + n + i) 0 ≡ bit_xor (get_or t (at + i) 0) bit

-- a table stands at a place, whose entry for the byte 1 is first; all before are as they were
pub record Filled (at first : ℕ) (t u : List ℕ) : Type 0 where
  pub size : length u ≡ length t
  pub before : (i : ℕ) → i < at → get_or u i 0 ≡ get_or t i 0
  pub entries : (n : ℕ) → first ≡ shifted_by n (2 ^ 24) → Entries n at table_size u
