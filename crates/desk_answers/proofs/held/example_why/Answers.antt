-- The example is computed, over the whole board.
use mathlib.Core.Path.{refl}
use Rattle.board.specs.Regions as R
use Rattle.board.specs.View as W
use Rattle.memories.specs.Effects as E
use Rattle.command.specs.Decision as D
use Rattle.command.specs.Says as S
use Rattle.rules.specs.Rules as Q
use Rattle.uart.specs.Conversation as UC
use Rattle.boot.specs.Session as BS
use Rattle.boot.specs.Decide as BD
use Rattle.boot.specs.Causes as BC
use Rattle.boot.specs.Calls as BK
use Rattle.desk_lines.specs.Lines.{kind_of}
use Rattle.desk_answers.specs.Answers.{made, makes, answer_by, answer}
use Rattle.desk_answers.specs.Example.{ExampleWhy}
use Rattle.desk_answers.proofs.held.example_why.Goals as goal

example-why : ExampleWhy
unfolding kind_of made makes answer_by answer BK.call BK.perform BK.sent BK.decide BK.cause_for BC.cause_of BD.connected BD.decide_byte BD.decide_frame BS.after BS.sound UC.obeyed UC.commanded UC.addressed UC.kept_if UC.complete UC.heard S.says Q.unless_protected D.if◌gives◌else◌ E.effect BS.falls_at W.view_of W.write_protected R.regions R.place_of
example-why = refl

pub returns : goal.returns
returns c = example-why
