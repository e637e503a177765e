-- By the length: there is a letter and what follows it, or the line is none.
use native.Mathlib.Omega.{arith}
use mathlib.Core.Path.{◌∙◌, ap}
use mathlib.Core.List.{List}
use Prim.Native.Nat.{ℕ}
use lib.ListN.{get_or}
use Rattle.words.proofs.Slices.{to_the_end}
use Rattle.desk_lines.specs.Lines.{kind_by}
use Rattle.desk_lines.proofs.Lines.{kind_empty, kind_within, kind_beyond}
use Rattle.desk_lines.proofs.line.kind.Goals as goal

pub returns-in-len1-up : goal.returns-in-len1-up
returns-in-len1-up c =
    c.kind_by.ensures ∙ ap (λ (l : List ℕ). kind_by (get_or c.args.line.now 0 0) l) (to_the_end 1 c.args.line.now)
    ∙ kind_within c.args.line.now (omega arith) c.if-line-le-MOST_CHARACTERS.true

pub returns-in_default : goal.returns-in_default
returns-in_default c = kind_empty c.args.line.now (omega arith)

pub returns-in_default-2 : goal.returns-in_default-2
returns-in_default-2 c = kind_beyond c.args.line.now (omega arith)
