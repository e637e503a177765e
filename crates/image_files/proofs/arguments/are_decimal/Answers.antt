-- The test that each character is put to is the definition's.
use Rattle.std.proofs.Common.{◌∙◌, rules, tests}
use Rattle.std.proofs.lemmas.Iterator.{YieldsList-from_slice}
use Rattle.std.proofs.lemmas.Iterator.Search.{all_from_yields_List}
use Rattle.records.proofs.Pairs.{same_all}
use Rattle.image_files.specs.Arguments.{is_decimal}
use Rattle.image_files.proofs.arguments.are_decimal.Goals as goal

pub returns : goal.returns
returns c =
    let s = c.args.text.now in
    let e = all_from_yields_List is_decimal _ _ _ c.all.ensures.ran (YieldsList-from_slice s cc) (λ x b q k. search (rules, tests)) in
    e ∙ same_all is_decimal s
