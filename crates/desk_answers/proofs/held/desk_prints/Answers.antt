-- Hearing a part leaves the desk as the line that has begun needs it, and what is kept of a line is answered as the line.
use Rattle.desk_answers.proofs.Whole.{hears_parts, hears_whole}
use Rattle.desk_answers.proofs.held.desk_prints.Goals as goal

pub returns : goal.returns
returns c = record { whole = hears_whole; parts = hears_parts }
