-- The desk of which the functions that hear promise.
use Rattle.std.specs.Prelude.{ℕ, List, take}
use Rattle.memories.specs.Memories.{Memories}
use Rattle.boot.specs.Promise.{state_of}
use Rattle.desk_answers.specs.Desk as D
use Rattle.desk_hearing.specs.declared.Desk.{Desk}

-- the desk of the code's numbers and what is lent to it
abbrev pub desk_of : Desk → List ℕ → Memories → D.Desk
desk_of d line m = record {
  why = d.why;
  state = state_of d.session m;
  lines = d.lines;
  line = take d.kept line;
}
