-- What is promised of a text that is added to others. Assumes nothing.
use Rattle.std.specs.Prelude.{ℕ, ◌+◌, ◌≡◌, List, length}
use Rattle.words.specs.Over.{put}

-- a text is added to a buffer at a place: where it ends, and every byte of the buffer
pub record Adds (before : List ℕ) (at end : ℕ) (after text : List ℕ) : Type 0 where
  pub ends : end ≡ at + length text
  pub written : after ≡ put before at text
