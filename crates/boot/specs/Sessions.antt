-- Sessions that document 01's rules give, number by number.
use Rattle.std.specs.Prelude.{◌≡◌, List, [], ◌∷◌, ℕ, take, replicate}
use Rattle.command.specs.Progress.{progress_at}
use Rattle.command.specs.declared.Next.{Next}
use Rattle.command.specs.declared.Next.TheVariants.{Stay, Reset, Gather, GoIdle, SetSpeed, Enter, EnterAt, Run}
use Rattle.boot.specs.Session.{session_of, fresh, gathered, after}
use Rattle.carriers.specs.declared.Carrier.{Carrier}
use Rattle.carriers.specs.declared.Carrier.TheVariants.{Uart, Can}
use Rattle.boot.specs.declared.Session.{Session}

-- a session's numbers, and its first four staged bytes
abbrev pub numbers : Session → List ℕ
numbers s =
    s.carrier ∷ s.step ∷ s.taken ∷ s.expected ∷ s.address ∷ s.speed ∷ take 4 s.staged

-- a write on CAN at speed 1 that has taken one of its three bytes
abbrev pub mid_write : Session
mid_write = session_of 2 1 (progress_at 1 3 0x08000000 (0xAA ∷ replicate 256 0)) 1

-- what a frame of three bytes makes of it
abbrev pub follows : Next → List ℕ
follows n = numbers (after Can (gathered (0x0F ∷ 0x55 ∷ 0x77 ∷ []) mid_write) n mid_write)

-- the session that follows, for each that may
pub record Sessions : Type 0 where
  -- power on: speed 2, expected 1 and every other number 0
  pub power_on : numbers fresh ≡ 0 ∷ 0 ∷ 0 ∷ 1 ∷ 0 ∷ 2 ∷ 0 ∷ 0 ∷ 0 ∷ 0 ∷ []
  -- connected on UART
  pub connected : numbers (after Uart fresh GoIdle fresh) ≡ 1 ∷ 0 ∷ 0 ∷ 2 ∷ 0 ∷ 2 ∷ 0 ∷ 0 ∷ 0 ∷ 0 ∷ []
  -- no change
  pub stays : follows Stay ≡ 2 ∷ 1 ∷ 1 ∷ 3 ∷ 0x08000000 ∷ 1 ∷ 0xAA ∷ 0 ∷ 0 ∷ 0 ∷ []
  -- reset makes every session fresh
  pub resets : (c : Carrier) (held s : Session) → after c held Reset s ≡ fresh
  -- each byte taken is put at index taken, and extra bytes are not staged
  pub gathers : follows Gather ≡ 2 ∷ 1 ∷ 3 ∷ 3 ∷ 0x08000000 ∷ 1 ∷ 0xAA ∷ 0x0F ∷ 0x55 ∷ 0 ∷ []
  -- going idle keeps the speed, sets the address 0
  pub goes_idle : follows GoIdle ≡ 2 ∷ 0 ∷ 0 ∷ 1 ∷ 0 ∷ 1 ∷ 0 ∷ 0 ∷ 0 ∷ 0 ∷ []
  -- or sets a new speed
  pub sets_speed : follows (SetSpeed 3) ≡ 2 ∷ 0 ∷ 0 ∷ 1 ∷ 0 ∷ 3 ∷ 0 ∷ 0 ∷ 0 ∷ 0 ∷ []
  -- entering keeps the address, unless one was accepted
  pub enters : follows (Enter 2 4) ≡ 2 ∷ 2 ∷ 0 ∷ 4 ∷ 0x08000000 ∷ 1 ∷ 0 ∷ 0 ∷ 0 ∷ 0 ∷ []
  pub enters_at : follows (EnterAt 1 256 0x20000000) ≡ 2 ∷ 1 ∷ 0 ∷ 256 ∷ 0x20000000 ∷ 1 ∷ 0 ∷ 0 ∷ 0 ∷ 0 ∷ []
  -- running: the target as address, every other number as fresh
  pub runs : follows (Run 0x20000000) ≡ 3 ∷ 0 ∷ 0 ∷ 1 ∷ 0x20000000 ∷ 2 ∷ 0 ∷ 0 ∷ 0 ∷ 0 ∷ []
