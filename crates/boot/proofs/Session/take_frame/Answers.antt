-- What is refused leaves everything; what is clear of every cause is decided on, said and carried out with the memories as they were lent.
use native.Mathlib.Omega.{arith}
use mathlib.Core.Path.{sym, ap, subst, ◌∙◌}
use mathlib.Core.List.{List}
use Prim.Native.Nat.{ℕ}
use lib.Dec.{T, leb→le}
use lib.ListN.{length}
use Rattle.memories.specs.Lent.{holds}
use Rattle.memories.specs.Memories.{Memories, proper}
use Rattle.command.specs.Says.{says, Said}
use Rattle.can.specs.Conversation.{can_room, command_bytes}
use Rattle.frames.specs.Frames.{classic, framed}
use Rattle.frames.proofs.Frames.{frame_length, frame_dlc, carried_length}
use Rattle.boot.specs.Session.{gathered}
use Rattle.boot.specs.Calls.{bears, cause_for, decide, sent}
use Rattle.boot.specs.Promise.{given_frame}
use Rattle.boot.proofs.Accept.{frame_decided, said_under, input_leaves}
use Rattle.boot.proofs.Sound.{sound_taken, sound_expected}
use Rattle.boot.proofs.Causes.{clear, accepted_took, refused_took}
use Rattle.boot.proofs.Session.take_frame.Goals as goal

pub returns-in-Err-clause-took : goal.returns-in-Err-clause-took
unfolding cause_for
returns-in-Err-clause-took c =
    refused_took (given_frame c.args.self c.args.frame.now (holds c.args.lent.now) c.args.buffer.now) c.frame_cause.result
    c.frame_cause.ensures c.in-Err.is c.unanswered.ensures

pub id-id-requires : goal.id-id-requires
id-id-requires c = omega (arith, frame_length c.args.frame.now (clear _ _ _ c.args.self c.frame_cause.ensures c.in_default.is).formed)

pub carried-carried-requires : goal.carried-carried-requires
carried-carried-requires c = (clear _ _ _ c.args.self c.frame_cause.ensures c.in_default.is).formed

pub gather-taken-requires : goal.gather-taken-requires
gather-taken-requires c =
    let k = clear _ _ _ c.args.self c.frame_cause.ensures c.in_default.is in (sound_taken c.args.self k.firm, sound_expected c.args.self k.firm)

pub view-requires : goal.view-requires
view-requires c = (clear _ _ _ c.args.self c.frame_cause.ensures c.in_default.is).lengths

pub decide_frame-decision-requires : goal.decide_frame-decision-requires
decide_frame-decision-requires c =
    let k = clear _ _ _ c.args.self c.frame_cause.ensures c.in_default.is in
    let few = ap length c.carried-carried.ensures.0 ∙ carried_length c.args.frame.now k.formed in
    (k.firm, c.gather-taken.ensures, omega (arith, few, frame_dlc c.args.frame.now k.formed), c.carried-carried.ensures.1)

pub say-length-requires : goal.say-length-requires
say-length-requires c =
    let k = clear _ _ _ c.args.self c.frame_cause.ensures c.in_default.is in
    let lengths = subst (λ (m : Memories). T (proper m)) (sym c.shown.ensures) k.lengths in
    (lengths, c.decide_frame-decision.ensures.1, leb→le can_room (length c.args.buffer.now) k.enough)

pub carry_out-requires : goal.carry_out-requires
carry_out-requires c = ((clear _ _ _ c.args.self c.frame_cause.ensures c.in_default.is).lengths, c.decide_frame-decision.ensures.2)

pub accepted-requires : goal.accepted-requires
accepted-requires c = (clear _ _ _ c.args.self c.frame_cause.ensures c.in_default.is).firm

pub returns-clause-took : goal.returns-clause-took
unfolding cause_for decide sent
returns-clause-took c =
    let k = clear _ _ _ c.args.self c.frame_cause.ensures c.in_default.is in
    let session = c.args.self in
    let view = c.view.result in
    let decision = c.decide_frame-decision.result in
    let g = given_frame session c.args.frame.now (holds c.args.lent.now) c.args.buffer.now in
    let gathers = c.gather-taken.ensures ∙ ap (λ (b : List ℕ). gathered b session) c.carried-carried.ensures.0 in
    let decides =
    frame_decided session view c.args.frame.now k.formed c.id-id.ensures c.carried-carried.ensures.0 c.decide_frame-decision.ensures.0 in
    let said =
    subst (λ (m : Memories). Said (framed classic c.bears.result (says command_bytes decision.reply m)) c.say-length.result
    c.args.buffer.now c.say-length.new.buffer) c.shown.ensures c.say-length.ensures in
    let under = c.bears.ensures ∙ ap (λ (n : ℕ). bears session n) c.id-id.ensures in
    accepted_took g c.frame_cause.result c.frame_cause.ensures c.in_default.is
    (input_leaves g.input g.state view c.view.ensures c.gather-taken.result gathers decision decides c.args.buffer.now
    (said_under (says command_bytes decision.reply g.state.memories) _ _ under said) c.carry_out.ensures.left
    c.accepted.ensures)
