-- What is so between two reads, and what some bytes that were read have left.
use Rattle.std.specs.Prelude.{ℕ, ◌*◌, ◌^◌, ◌≤◌, ◌≡◌, Bool, Result, IfOk, ltb, length}
use mathlib.Core.List.{List, foldl}
use Rattle.words.specs.Over.{put}
use Rattle.memories.specs.Memories.{Memories}
use Rattle.uart.specs.Conversation.{uart_room}
use Rattle.keeping.specs.declared.Untold.{Untold}
use Rattle.boot.specs.Calls.{State, powered}
use Rattle.boot.specs.Slices.{after_bytes}
use Rattle.port_loop.specs.Port.{said_all}

-- the most bytes that one read brings
abbrev pub read_bytes : ℕ
read_bytes = 4096

-- the most reads that are made
abbrev pub most_reads : ℕ
most_reads = 2 ^ 51

-- the room for the replies to one read, whatever it is
abbrev pub out_bytes : ℕ
out_bytes = uart_room * read_bytes

-- a board, and the room for what is said to what one read brings
pub record Sitting : Type 0 where
  pub board : State
  pub room : List ℕ

abbrev pub sitting : State → List ℕ → Sitting
sitting p room = record { board = p; room = room }

-- a read has brought some bytes: the board is then as the paper says of them, and what is said to them stands at the front of the room
abbrev pub reading : Bool → Sitting → List ℕ → Sitting
reading st s bytes = sitting (after_bytes bytes s.board) (put s.room 0 (said_all st bytes s.board))

-- what one read of some bytes has left; where all that was to be kept and answered could be, it goes on where there were any
pub record Turns (st : Bool) (before after : Sitting) (going : Result Bool Untold) : Type 0 where
  pub bytes : List ℕ
  pub few : length bytes ≤ read_bytes
  pub left : after ≡ reading st before bytes
  pub more : IfOk going (λ more. more ≡ ltb 0 (length bytes))

-- what read after read has left, so many at most
pub record HasHeard (st : Bool) (most : ℕ) (before after : Sitting) : Type 0 where
  pub reads : List (List ℕ)
  pub few : length reads ≤ most
  pub left : after ≡ foldl (reading st) before reads

-- what at most so many reads have left, of a board that began with these memories, just powered
pub record LeftBy (st : Bool) (most : ℕ) (m : Memories) (lent : List ℕ) (after : Sitting) : Type 0 where
  pub reads : List (List ℕ)
  pub few : length reads ≤ most
  pub left : after ≡ foldl (reading st) (sitting (powered m) lent) reads
