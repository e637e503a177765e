-- The board takes the bytes with the session that the slice holds, and the session that follows is handed on.
use Rattle.std.proofs.Common.{rules}
use Rattle.memories.specs.Lent.{held}
use Rattle.boot.specs.Slices.{given_bytes, slice_outcome}
use Rattle.session_bytes.specs.Sessions.{session_in}
use Rattle.exports.proofs.Takes.{of_slice, accepted_length, handed_on_lem}
use Rattle.exports.proofs.oilthicket_take_bytes.Goals as goal

pub hand_on-requires : goal.hand_on-requires
hand_on-requires c =
    let g = given_bytes (session_in c.args.session.now) c.args.bytes.now (held c.args.flash c.args.sram c.args.usd) c.args.buffer.now in
    accepted_length (slice_outcome g).outcome c.args.buffer.now c.args.session.now (of_slice g)
    (rw c.read.ensures at c.take_bytes-took.ensures.took).leaves

pub returns : goal.returns
returns c =
    let g = given_bytes (session_in c.args.session.now) c.args.bytes.now (held c.args.flash c.args.sram c.args.usd) c.args.buffer.now in
    let took = rw c.read.ensures at c.take_bytes-took.ensures.took in
    rw c.hand_on.ensures.0
    (record {
      count = took.count;
      takes = handed_on_lem (slice_outcome g).outcome c.args.buffer.now c.args.session.now (of_slice g) took.leaves
          c.hand_on.ensures.1 (search rules) (search rules) (search rules);
    })
