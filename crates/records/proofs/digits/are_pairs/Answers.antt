-- Characters are pairs where they are even in number and all of them are digits.
use Rattle.std.proofs.Common.{◌&&◌, ◌%◌, length, eqb, ◌∙◌, rules, tests}
use Rattle.std.proofs.lemmas.Iterator.{YieldsList-from_slice}
use Rattle.std.proofs.lemmas.Iterator.Consumers.{fold_from_yields_List}
use Rattle.records.specs.Digits.{is_digit}
use Rattle.records.proofs.Pairs.{all_along, pairs_all}
use Rattle.records.proofs.digits.are_pairs.Goals as goal

pub returns : goal.returns
returns c =
    let s = c.args.digits.now in
    let even = eqb (length s % 2) 0 in
    let e = fold_from_yields_List _ (λ g x. g && is_digit x) _ _ c.fold.ensures.ran (YieldsList-from_slice s cc) (λ g x b q k. search (rules, tests)) in
    e ∙ all_along is_digit even s ∙ pairs_all s
