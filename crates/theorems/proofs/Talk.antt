-- Every starred row of the worked talk holds, by computing the definitions over the whole board.
use mathlib.Core.Path.{refl}
use Rattle.board.specs.Regions as R
use Rattle.board.specs.View as W
use Rattle.memories.specs.Protection as P
use Rattle.memories.specs.Effects as E
use Rattle.command.specs.Decision as D
use Rattle.command.specs.Says as S
use Rattle.rules.specs.Rules as Q
use Rattle.uart.specs.Conversation as UC
use Rattle.can.specs.Conversation as CC
use Rattle.boot.specs.Session as BS
use Rattle.boot.specs.Decide as BD
use Rattle.boot.specs.Causes as BC
use Rattle.boot.specs.Calls as BK
use Rattle.theorems.specs.Talk.{board, ends, exchanges_of, WorkedTalk}

pub worked_talk : WorkedTalk
unfolding board exchanges_of ends BK.outcomes BK.run BK.call BK.perform BK.sent BK.decide BK.cause_for BC.cause_of BD.connected BD.decide_byte BD.decide_frame BS.after BS.sound CC.erased_or_not CC.selected CC.obeyed CC.commanded CC.gathering CC.unless_extra CC.heard CC.decided UC.obeyed UC.commanded UC.addressed UC.kept_if UC.selected UC.complete UC.heard S.says Q.unless_protected Q.read_at Q.reading Q.write_verdict_at Q.write_verdict Q.write_at Q.writing Q.selector_of Q.erase_verdict Q.erasing Q.erase_all_verdict Q.protect_verdict Q.protecting Q.jumping Q.sum_at Q.summing D.if◌gives◌else◌ D.judged E.written E.erased_all E.wiped E.effect P.released P.also_protected P.only_protected W.view_of W.write_protected R.regions R.place_of
worked_talk = refl
