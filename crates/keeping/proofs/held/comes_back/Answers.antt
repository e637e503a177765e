-- By where each memory begins and ends among the bytes.
use Rattle.std.proofs.Common.{refl}
use Rattle.keeping.proofs.Rooms.{lengths, are_proper, all_bytes, memories_back, lengths_in, bytes_back}
use Rattle.keeping.proofs.held.comes_back.Goals as goal

pub returns : goal.returns
returns c =
    record {
      bytes = refl;
      long = λ m t. all_bytes m (lengths m t);
      memories = λ m t. memories_back m (lengths m t);
      room = bytes_back;
      lengths = λ l e. are_proper _ (lengths_in l e);
    }
