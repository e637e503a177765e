-- Frames of a kind: document 01, "Calls and the five causes" and "CAN conversation".
use Rattle.std.specs.Prelude.{ℕ, ◌+◌, ◌-◌, Bool, ◌&&◌, List, [], ◌∷◌, ◌++◌, length, get_or, take, drop, replicate, eqb, leb}
use Rattle.words.specs.Bytes.{number, two_bytes}
use Rattle.words.specs.Lists.{cut}
use Rattle.frames.specs.declared.Counted.{Counted}

-- a kind of frame: how many data bytes its largest frame carries
pub record Kind : Type 0 where
  pub largest : ℕ

-- the kind of a size
abbrev pub of_size : ℕ → Kind
of_size n = record { largest = n }

-- classic CAN
abbrev pub classic : Kind
classic = of_size 8

-- what one byte holds
abbrev pub largest_byte : ℕ
largest_byte = 255

-- a frame: ID, DLC, data bytes
pub record Frame : Type 0 where
  pub id : ℕ
  pub dlc : ℕ
  pub bytes : List ℕ

-- the bytes of an ID, and those before the data: ID (high byte first) and DLC
abbrev pub id_bytes : ℕ
id_bytes = 2

abbrev pub head_bytes : ℕ
head_bytes = id_bytes + 1

-- the bytes of a frame of a kind
abbrev pub frame_bytes : Kind → ℕ
frame_bytes k = head_bytes + k.largest

-- the largest ID
abbrev pub largest_id : ℕ
largest_id = 0x7FF

-- the frame that a slice holds
abbrev pub frame_in : List ℕ → Frame
frame_in l = record { id = number (take id_bytes l); dlc = get_or l id_bytes 0; bytes = drop head_bytes l }

-- the data bytes that count
abbrev pub carried : Frame → List ℕ
carried f = take f.dlc f.bytes

-- the frame without the data bytes that do not count
abbrev pub counted : Frame → Frame
counted f = record { id = f.id; dlc = f.dlc; bytes = carried f }

-- the frame of an ID and of data bytes that all count
abbrev pub frame_of : ℕ → List ℕ → Frame
frame_of id l = record { id = id; dlc = length l; bytes = l }

-- the frame that is handed on with its data bytes lent
abbrev pub counted_of : Counted → Frame
counted_of f = frame_of f.id f.carried.now

-- a slice holds a frame of a kind
abbrev pub is_frame : Kind → List ℕ → Bool
is_frame k l =
    eqb (length l) (frame_bytes k) && leb (frame_in l).id largest_id && leb (frame_in l).dlc k.largest

-- a reply frame: unused data bytes are 0
abbrev pub frame : Kind → ℕ → List ℕ → List ℕ
frame k id l = two_bytes id ++ length l ∷ l ++ replicate (k.largest - length l) 0

-- pieces as frames under an ID
abbrev pub frames : Kind → ℕ → List (List ℕ) → List ℕ
frames k id [] = []
frames k id (l ∷ ls) = frame k id l ++ frames k id ls

-- messages as frames under an ID: each message in the largest frames, and a last with what remains
abbrev pub framed : Kind → ℕ → List (List ℕ) → List ℕ
framed k id [] = []
framed k id (m ∷ ms) = frames k id (cut k.largest m) ++ framed k id ms

-- bytes as frames under an ID: the first by itself, the rest so many to a frame
abbrev pub first_alone : Kind → ℕ → ℕ → List ℕ → List ℕ
first_alone k id n [] = []
first_alone k id n (b ∷ l) = frame k id (b ∷ []) ++ frames k id (cut n l)
