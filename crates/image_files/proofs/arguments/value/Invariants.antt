-- Before each turn, the digits left behind the value so far write what all of them write.
use Rattle.std.proofs.Common.{◌≡◌, ◌<◌, drop}
use Rattle.image_files.specs.Arguments.{value_from}
use Rattle.image_files.proofs.Decimals.{most}
use Rattle.image_files.proofs.arguments.value.Given as goal

abbrev pub invariant-loop-digit : goal.invariant-loop-digit
invariant-loop-digit l = (l.value < most l.digit-index) × (value_from l.value (drop l.digit-index l.digits) ≡ value_from 0 l.digits)
