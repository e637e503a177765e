-- The club's failure (c): a locked board reads nothing, since each of its decisions is discreet and the board stays locked and calm.
use mathlib.Core.List.{List}
use mathlib.Core.Path.{refl}
use lib.Dec.{T}
use Rattle.boot.specs.Calls.{Input, powered, done, run}
use Rattle.theorems.specs.Failures.{NeverRead}
use Rattle.theorems.specs.Secrecy.{shut}
use Rattle.theorems.proofs.Wire.{replied, struck_exactly}
use Rattle.theorems.proofs.Secrecy.{Twins, twins_fresh, twins_after, shows_nothing, quiet_done}

pub never_read : NeverRead
never_read m pm l = record {
  own = λ is i. replied i (run is (powered m));
  never = λ is i k. quiet_done i (run is (powered m)) (run is (powered m)) (after is k);
  blind = λ is i k x y.
      rw (struck_exactly i (run is (powered m)))
      (shows_nothing i (run is (powered m)).session (done i (run is (powered m))).reply
      (quiet_done i (run is (powered m)) (run is (powered m)) (after is k)) x y).shown;
}
  where
    after : (is : List Input) → T (shut is (powered m)) → Twins (run is (powered m)) (run is (powered m))
    after is k = twins_after is (powered m) (powered m) (twins_fresh m m pm pm refl l) k
