-- Name, colon, what is said and the line's end stand one behind the other.
use Rattle.desk_print.proofs.Adding.{then}
use Rattle.image_says.specs.Messages.{message}
use Rattle.image_says.proofs.text.message.Goals as goal

pub returns-clause-added : goal.returns-clause-added
unfolding message
returns-clause-added c =
    then (then (then (rw c.line_in.ensures at c.name_line-named.ensures.added) c.add-begun.ensures) c.say-end.ensures.added) c.add.ensures
