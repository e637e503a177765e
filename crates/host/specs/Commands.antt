-- The bytes of the commands that a host sends on UART: document 01, "UART conversation", and document 02, Wish 5.
use Rattle.std.specs.Prelude.{ℕ, List, [], ◌∷◌, ◌++◌, map, length}
use Rattle.words.specs.Bytes.{complement, xor_all, two_bytes, four_bytes}
use Rattle.words.specs.Lists.{join}
use Rattle.board.specs.Quantities.{one_less}
use Rattle.board.specs.declared.Sector.{Sector}
use Rattle.command.specs.Commands.{code}
use Rattle.command.specs.declared.Command.{Command}
use Rattle.command.specs.declared.Command.TheVariants.{ReadMemory, WriteMemory, Erase}

-- ---- parts that commands share

-- a command is a byte and its complement
abbrev pub complemented_part : ℕ → List ℕ
complemented_part b = b ∷ complement b ∷ []

abbrev pub command_part : Command → List ℕ
command_part c = complemented_part (code c)

-- an address and the XOR of its four bytes
abbrev pub address_part : ℕ → List ℕ
address_part a = four_bytes a ++ xor_all (four_bytes a) ∷ []

-- a count as it is sent, one less
abbrev pub count_byte : ℕ → ℕ
count_byte x = (one_less x).0

-- ---- the three commands of an upload, each in the parts after which the board answers

-- the data and the XOR of length - 1 and data
abbrev pub data_part : List ℕ → List ℕ
data_part bytes = bytes ++ xor_all (count_byte (length bytes) ∷ bytes) ∷ []

-- 0x31: address; then length - 1, data and their XOR
abbrev pub write_parts : ℕ → List ℕ → List (List ℕ)
write_parts a bytes = command_part WriteMemory ∷ address_part a ∷ (count_byte (length bytes) ∷ data_part bytes) ∷ []

-- 0x11: address; then length - 1 and its complement
abbrev pub read_parts : ℕ → ℕ → List (List ℕ)
read_parts a x = command_part ReadMemory ∷ address_part a ∷ complemented_part (count_byte x) ∷ []

-- X - 1, then X two-byte numbers, high first
abbrev pub numbers_of : List Sector → List ℕ
numbers_of ks = join (map (λ (k : Sector). two_bytes k.0) ks)

abbrev pub list_part : List Sector → List ℕ
list_part ks = two_bytes (count_byte (length ks)) ++ numbers_of ks

-- 0x44: these, and the XOR of all of them
abbrev pub erase_parts : List Sector → List (List ℕ)
erase_parts ks = command_part Erase ∷ (list_part ks ++ xor_all (list_part ks) ∷ []) ∷ []

-- a command is its parts, one behind the other
abbrev pub write_command : ℕ → List ℕ → List ℕ
write_command a bytes = join (write_parts a bytes)

abbrev pub read_command : ℕ → ℕ → List ℕ
read_command a x = join (read_parts a x)

abbrev pub erase_command : List Sector → List ℕ
erase_command ks = join (erase_parts ks)
