-- The causes are tested in the paper's order; which test fails first is one of six cases.
use mathlib.Core.Path.{◌≡◌, refl}
use mathlib.Core.Bool.{Bool, true, false, not}
use lib.Dec.{eqb, leb}
use Rattle.std.specs.Prelude.{if◌then◌else◌, Err}
use Rattle.frames.specs.Frames.{classic, is_frame}
use Rattle.memories.specs.Memories.{proper}
use Rattle.boot.specs.Session.{sound}
use Rattle.boot.specs.Causes.{accepted, cause_no, cause_of}
use Rattle.boot.specs.Calls.{cause_for}
use Rattle.boot.specs.Slices.{slice_cause}
use Rattle.boot.specs.Refusals.{FirstCauses}
use Rattle.boot.specs.declared.Cause.TheVariants.{UnsoundSession, BoardRunning}
use Rattle.boot.specs.declared.Session.{Session}
use Rattle.boot.proofs.held.first_causes.Statement.{statement}
use Rattle.boot.proofs.held.first_causes.Tie as tie

first : (memories room frame : Bool) (s : Session)
    → cause_no (cause_of memories room frame s)
    ≡ (if not memories then 1 else if not room then 2 else if not frame then 3 else if not (sound s) then 4 else if eqb s.carrier 3 then 5 else 0)
unfolding cause_of
first false room frame s = refl
first true false frame s = refl
first true true false s = refl
first true true true s = by_session (sound s) (eqb s.carrier 3)
  where
    by_session : (firm running : Bool)
        → cause_no (if not firm then Err UnsoundSession else if running then Err BoardRunning else accepted) ≡ (if not firm then 4 else if running then 5 else 0)
    by_session false running = refl
    by_session true false = refl
    by_session true true = refl

causes : FirstCauses
unfolding cause_for slice_cause
causes = record {
  power = λ p. refl;
  byte = λ room b p. first (proper p.memories) (leb 257 room) true p.session;
  frame = λ room f p. first (proper p.memories) (leb 363 room) (is_frame classic f) p.session;
  slice = λ p. first (proper p.memories) true true p.session;
}

pub first_causes_spec : {M : Type 1} → statement M
first_causes_spec = tie.close (tie.spec (λ c. causes))
