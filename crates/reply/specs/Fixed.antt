-- Replies that are fixed bytes, and the most bytes of any reply.
use Rattle.std.specs.Prelude.{ℕ, ◌≡◌, List, [], ◌∷◌, ◌++◌, map, length}
use Rattle.board.specs.Board.{identity}
use Rattle.command.specs.Commands.{code, uart_commands}
use Rattle.command.specs.Says.{ack_byte}

-- an answer to 0x00: ACK, a count, the version, the commands that both carriers have, and what two bytes say behind them
abbrev pub listing : ℕ → ℕ → ℕ → List ℕ
listing count first second = ack_byte ∷ count ∷ identity.version ∷ map code uart_commands ++ first ∷ second ∷ []

-- the most bytes of a fixed reply: a listing
abbrev pub fixed_room : ℕ
fixed_room = length (listing 0 0 0)

-- bytes are a carrier's answer to 0x00: what it tells of its commands, between two ACKs
pub record Lists (bytes list : List ℕ) : Type 0 where
  pub told : bytes ≡ ack_byte ∷ list ++ ack_byte ∷ []
