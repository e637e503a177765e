-- The first line of a text, where it is one that writes a frame.
use Rattle.std.specs.Prelude.{ℕ, ◌-◌, ◌<◌, ◌≡◌, Bool, not, List, T, eqb, length, get_or, take, drop}
use Rattle.words.specs.Lists.{all}
use Rattle.desk_lines.specs.Lines.{line_feed, letter_c, are_frame}

-- no character of a text ends a line
abbrev pub endless : List ℕ → Bool
endless l = all (λ c. not (eqb c line_feed)) l

-- what stands behind the letter of a first line of n characters
abbrev pub behind_letter : ℕ → List ℕ → List ℕ
behind_letter n text = take (n - 1) (drop 1 text)

-- the first n characters are a line that writes a frame, and LF ends it
pub record FrameFirst (text : List ℕ) (n : ℕ) : Type 0 where
  pub within : n < length text
  pub ends : get_or text n 0 ≡ line_feed
  pub letter : get_or text 0 0 ≡ letter_c
  pub frame : T (are_frame (behind_letter n text))
