-- The lines of a text: document 02, Wish 1, "Lines end in LF or CR LF, the last one optionally". Assumes nothing.
use Rattle.std.specs.Prelude.{◌≡◌, ℕ, zero, suc, ◌+◌, ◌-◌, ◌≤◌, ◌<◌, ◌&&◌, List, [], ◌∷◌, eqb, ltb, length, get_or, drop}
use Rattle.std.specs.Prelude.{if◌then◌else◌}
use Rattle.words.specs.Lists.{part}

abbrev pub line_feed : ℕ
line_feed = 0x0A

abbrev pub carriage_return : ℕ
carriage_return = 0x0D

-- a character put before the first line
abbrev pub longer : ℕ → List (List ℕ) → List (List ℕ)
longer c [] = (c ∷ []) ∷ []
longer c (l ∷ ls) = (c ∷ l) ∷ ls

-- the lines of a text, without their ends: an LF ends a line, a CR right before it belongs to that end, and the last line may lack one
unfoldable pub lines_of : List ℕ → List (List ℕ)
lines_of [] = []
lines_of (c ∷ cs) =
    if eqb c line_feed then [] ∷ lines_of cs
    else if eqb c carriage_return && eqb (get_or cs 0 0) line_feed then lines_of cs
    else longer c (lines_of cs)

-- how many characters stand before the first LF, or in all where there is none
abbrev pub feed_in : List ℕ → ℕ
feed_in [] = 0
feed_in (c ∷ cs) = if eqb c line_feed then 0 else suc (feed_in cs)

-- where a line stops whose LF stands at a place: before a CR right before it
abbrev pub stop_before : List ℕ → ℕ → ℕ
stop_before s zero = zero
stop_before s (suc e) = if eqb (get_or s e 0) carriage_return then e else suc e

-- where the first line of a text stops, and where the next one begins
unfoldable pub stop_in : List ℕ → ℕ
stop_in s = if ltb (feed_in s) (length s) then stop_before s (feed_in s) else feed_in s

unfoldable pub next_in : List ℕ → ℕ
next_in s = if ltb (feed_in s) (length s) then suc (feed_in s) else feed_in s

-- from a place on, a place is the first LF's, or the text's end where there is none
pub record FirstFeed (text : List ℕ) (at feed : ℕ) : Type 0 where
  pub from : at ≤ feed
  pub there : feed ≤ length text
  pub before : (k : ℕ) → at ≤ k → k < feed → get_or text k 0 ≡ line_feed → ⊥
  pub found : feed < length text → get_or text feed 0 ≡ line_feed

-- from a place on, the first line runs to stop, and the other lines are those from next on
pub record Spans (text : List ℕ) (at stop next : ℕ) : Type 0 where
  pub from : at ≤ stop
  pub within : stop ≤ length text
  pub later : at < next
  pub there : next ≤ length text
  pub stops : stop ≡ at + stop_in (drop at text)
  pub begins : next ≡ at + next_in (drop at text)
  pub lines : lines_of (drop at text) ≡ part at (stop - at) text ∷ lines_of (drop next text)
