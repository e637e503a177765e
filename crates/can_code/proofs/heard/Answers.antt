-- A list of indexes is judged whatever the view.
use Rattle.can.specs.Conversation.{gathering, unless_extra, decided}
use Rattle.can_code.proofs.heard.Goals as goal

pub returns-in-ProtectList : goal.returns-in-ProtectList
unfolding gathering unless_extra decided
returns-in-ProtectList c = rw (← c.in-ProtectList.ensures) (c.protect_frame.ensures c.args.view)
