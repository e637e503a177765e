-- What is refused leaves everything; what is clear of every cause is decided on, said and carried out with the memories as they were lent.
use mathlib.Core.Path.{sym, subst}
use lib.Dec.{T, leb→le}
use lib.ListN.{length}
use Rattle.words.specs.Lists.{join}
use Rattle.memories.specs.Lent.{holds}
use Rattle.memories.specs.Memories.{Memories, proper}
use Rattle.command.specs.Says.{says, Said}
use Rattle.uart.specs.Conversation.{uart_room, command_bytes}
use Rattle.boot.specs.Calls.{cause_for, decide, sent}
use Rattle.boot.specs.Promise.{given_byte}
use Rattle.boot.proofs.Accept.{input_leaves}
use Rattle.boot.proofs.Sound.{sound_taken, sound_expected}
use Rattle.boot.proofs.Causes.{clear, accepted_took, refused_took}
use Rattle.boot.proofs.Session.take_byte.Goals as goal

pub returns-in-Err-clause-took : goal.returns-in-Err-clause-took
unfolding cause_for
returns-in-Err-clause-took c =
    refused_took (given_byte c.args.self c.args.byte (holds c.args.lent.now) c.args.buffer.now) c.byte_cause.result c.byte_cause.ensures
    c.in-Err.is c.unanswered.ensures

pub gather_byte-taken-requires : goal.gather_byte-taken-requires
gather_byte-taken-requires c =
    let k = clear _ _ _ c.args.self c.byte_cause.ensures c.in_default.is in (sound_taken c.args.self k.firm, sound_expected c.args.self k.firm)

pub view-requires : goal.view-requires
view-requires c = (clear _ _ _ c.args.self c.byte_cause.ensures c.in_default.is).lengths

pub decide_byte-decision-requires : goal.decide_byte-decision-requires
decide_byte-decision-requires c =
    ((clear _ _ _ c.args.self c.byte_cause.ensures c.in_default.is).firm, c.gather_byte-taken.ensures.0, c.gather_byte-taken.ensures.1)

pub say-length-requires : goal.say-length-requires
say-length-requires c =
    let k = clear _ _ _ c.args.self c.byte_cause.ensures c.in_default.is in
    let lengths = subst (λ (m : Memories). T (proper m)) (sym c.shown.ensures) k.lengths in
    (lengths, c.decide_byte-decision.ensures.1, leb→le uart_room (length c.args.buffer.now) k.enough)

pub carry_out-requires : goal.carry_out-requires
carry_out-requires c = ((clear _ _ _ c.args.self c.byte_cause.ensures c.in_default.is).lengths, c.decide_byte-decision.ensures.2)

pub accepted-requires : goal.accepted-requires
accepted-requires c = (clear _ _ _ c.args.self c.byte_cause.ensures c.in_default.is).firm

pub returns-clause-took : goal.returns-clause-took
unfolding cause_for decide sent
returns-clause-took c =
    let g = given_byte c.args.self c.args.byte (holds c.args.lent.now) c.args.buffer.now in
    let reply = c.decide_byte-decision.result.reply in
    let said =
    subst (λ (m : Memories). Said (join (says command_bytes reply m)) c.say-length.result c.args.buffer.now c.say-length.new.buffer)
    c.shown.ensures c.say-length.ensures in
    accepted_took g c.byte_cause.result c.byte_cause.ensures c.in_default.is
    (input_leaves g.input g.state c.view.result c.view.ensures c.gather_byte-taken.result c.gather_byte-taken.ensures.0
    c.decide_byte-decision.result c.decide_byte-decision.ensures.0 c.args.buffer.now said c.carry_out.ensures.left
    c.accepted.ensures)
