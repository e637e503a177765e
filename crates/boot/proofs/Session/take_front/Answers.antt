-- What is silent is gathered, and only where the session expects more.
use native.Mathlib.Omega.{arith}
use Rattle.boot.proofs.Sound.{sound_taken, sound_expected}
use Rattle.boot.proofs.Session.take_front.Goals as goal

pub gather_first-here-requires : goal.gather_first-here-requires
gather_first-here-requires c = (
  omega (arith, c.silent_bytes-silent.ensures.few),
  λ h. let g = c.silent_bytes-silent.ensures.silent h in (sound_taken _ g.firm, sound_expected _ g.firm),
)
