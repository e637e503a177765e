-- Whole sectors are whole words, and parts of flash at whole words are parts of its words, so a checksum of sectors is a fold of words.
use mathlib.Core.Path.{◌≡◌, ap, ◌∙◌}
use mathlib.Core.List.{List, [], ◌∷◌, foldl}
use Prim.Native.Nat.{ℕ, ◌+◌, ◌*◌, ◌≤◌, ◌<◌}
use native.Mathlib.Omega.{arith}
use lib.ListN.{length, get_or, take, drop, length-drop}
use lib.Seq.{get_or-drop, length-take-le}
use Rattle.words.specs.Bytes.{four_bytes}
use Rattle.words.specs.Lists.{part}
use Rattle.words.proofs.Bytes.{still_byte}
use Rattle.board.specs.Quantities.{bytes_in}
use Rattle.crc.specs.Crc.{start}
use Rattle.word_crc.specs.Words.{little_words, word_fed, WholeWords}
use Rattle.word_crc.proofs.Words.{fold_of_words, words_behind, words_before}
use Rattle.command.specs.Says.{ack_message, says}
use Rattle.command.specs.BenchBoard.{words_in, WordsOfFlash}

-- sectors of flash are whole words
whole_words : (l : List ℕ) (k x : ℕ) → ((i : ℕ) → get_or l i 0 < 256) → bytes_in (k + x) ≤ length l → WholeWords (part (bytes_in k) (bytes_in x) l)
whole_words l k x h b = record {
  byte = still_byte (bytes_in x) (drop (bytes_in k) l) (λ i. rw (get_or-drop (bytes_in k) l i 0) (h (bytes_in k + i)));
  whole = rw (length-take-le (bytes_in x) (drop (bytes_in k) l) (omega (arith, length-drop (bytes_in k) l))) (omega arith);
}

-- their words are words of flash
words_of_part : (l : List ℕ) (k x : ℕ) → little_words (part (bytes_in k) (bytes_in x) l) ≡ part (words_in k) (words_in x) (little_words l)
words_of_part l k x =
    let p : bytes_in k ≡ words_in k * 4 = omega arith in
    let q : bytes_in x ≡ words_in x * 4 = omega arith in
    ap (λ (n : ℕ). little_words (take n (drop (bytes_in k) l))) q ∙ words_before (words_in x) (drop (bytes_in k) l)
    ∙ ap (λ (n : ℕ). take (words_in x) (little_words (drop n l))) p ∙ ap (take (words_in x)) (words_behind (words_in k) l)

pub words_of_flash : WordsOfFlash
unfolding says
words_of_flash commands m k x h b =
    ap (λ (c : ℕ). ack_message ∷ four_bytes c ∷ []) (fold_of_words (part (bytes_in k) (bytes_in x) m.flash) (whole_words m.flash k x h b)
    ∙ ap (foldl word_fed start) (words_of_part m.flash k x))
