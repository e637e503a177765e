-- Firmware CRC as the bench board works it out: document 02, Wish 3.
use Rattle.std.specs.Prelude.{ℕ, ◌+◌, ◌/◌, ◌≤◌, ◌<◌, ◌≡◌, length, get_or}
use mathlib.Core.List.{List, [], ◌∷◌, foldl}
use Rattle.words.specs.Bytes.{four_bytes}
use Rattle.words.specs.Lists.{part}
use Rattle.board.specs.Quantities.{bytes_in}
use Rattle.crc.specs.Crc.{start}
use Rattle.word_crc.specs.Words.{little_words, word_fed}
use Rattle.memories.specs.Memories.{Memories}
use Rattle.command.specs.Says.{ack_message, says}
use Rattle.command.specs.declared.Reply.TheVariants.{Crc}

-- the words of x whole sectors
abbrev pub words_in : ℕ → ℕ
words_in x = bytes_in x / 4

-- of x sectors from sector k on, all in flash, the board tells a fold of whole words over those little-endian words of flash
abbrev pub WordsOfFlash : Type 0
WordsOfFlash =
    (commands : List ℕ) (m : Memories) (k x : ℕ) → ((i : ℕ) → get_or m.flash i 0 < 256) → bytes_in (k + x) ≤ length m.flash
    → says commands (Crc (bytes_in k) (bytes_in x)) m
    ≡ ack_message ∷ four_bytes (foldl word_fed start (part (words_in k) (words_in x) (little_words m.flash))) ∷ []
