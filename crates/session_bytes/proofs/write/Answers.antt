-- The parts are stored one behind the other, from the first byte to the last.
use native.Mathlib.Omega.{arith}
use Rattle.session_bytes.proofs.Sessions.{all_stored, read_back}
use Rattle.session_bytes.proofs.write.Goals as goal

pub returns : goal.returns
returns c = (
  rw (
    c.lay.ensures,
    c.put_short.ensures.0,
    c.put_long-2.ensures.0,
    c.put_long.ensures.0,
  ) (all_stored c.args.lent.now c.args.session c.requires (omega arith)),
  read_back c.args.session c.put_long.ensures.1 c.put_long-2.ensures.1
      c.put_short.ensures.1 (omega arith),
)
