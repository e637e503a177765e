-- The reply's bytes are said, and then written frame by frame, for which there is room.
use native.Mathlib.Omega.{arith}
use mathlib.Core.Path.{ap}
use lib.ListN.{length, take, replicate}
use Rattle.words.specs.Lists.{join}
use Rattle.memories.specs.Lent.{shows}
use Rattle.command.specs.Says.{says}
use Rattle.can.specs.Conversation.{command_bytes}
use Rattle.reply.proofs.Alone.{reply_alone, alone_room, said_taken}
use Rattle.reply.proofs.in_frames.say.Goals as goal

pub put_reply-requires : goal.put_reply-requires
put_reply-requires c =
    let room = c.say-n.new.buffer in
    let said = c.say-n.ensures.0 command_bytes c.commands-listed.ensures in
    let reply = join (says command_bytes c.args.reply (shows c.args.shown)) in
    let long = ap length (said_taken reply c.say-n.result (replicate 257 0) room said) in
    let r =
    alone_room c.args.id c.args.reply (take c.say-n.result room) (omega (arith, long, said.count, c.say-n.ensures.1))
    (λ f. omega (arith, long, said.count, c.say-n.ensures.2 f)) in
    rw c.piece_of.ensures (r.0, r.1, omega (arith, r.2, c.requires.2))

pub returns : goal.returns
returns c =
    let m = shows c.args.shown in
    let said = c.say-n.ensures.0 command_bytes c.commands-listed.ensures in
    let front = said_taken (join (says command_bytes c.args.reply m)) c.say-n.result (replicate 257 0) c.say-n.new.buffer said in
    rw (reply_alone c.args.id command_bytes c.args.reply m) (rw (front, c.piece_of.ensures) at c.put_reply.ensures)
