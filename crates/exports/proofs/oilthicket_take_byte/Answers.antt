-- The board takes a byte with the session that the slice holds, and the session that follows is handed on.
use Rattle.std.proofs.Common.{rules}
use Rattle.memories.specs.Lent.{held}
use Rattle.boot.specs.Promise.{given_byte, outcome}
use Rattle.session_bytes.specs.Sessions.{session_in}
use Rattle.exports.proofs.Takes.{of_input, accepted_length, handed_on_lem}
use Rattle.exports.proofs.oilthicket_take_byte.Goals as goal

pub hand_on-requires : goal.hand_on-requires
unfolding outcome
hand_on-requires c =
    let g = given_byte (session_in c.args.session.now) c.args.byte (held c.args.flash c.args.sram c.args.usd) c.args.buffer.now in
    accepted_length (outcome g) c.args.buffer.now c.args.session.now (of_input g.input g.state tt)
    (rw c.read.ensures at c.take_byte-taken.ensures.took)

pub returns : goal.returns
unfolding outcome
returns c =
    let g = given_byte (session_in c.args.session.now) c.args.byte (held c.args.flash c.args.sram c.args.usd) c.args.buffer.now in
    rw c.hand_on.ensures.0
    (handed_on_lem (outcome g) c.args.buffer.now c.args.session.now (of_input g.input g.state tt)
    (rw c.read.ensures at c.take_byte-taken.ensures.took) c.hand_on.ensures.1 (search rules) (search rules) (search rules))
