-- By the image's length and what going through the lines finds, which lays them into a copy.
use Rattle.std.proofs.Common.{◌≡◌, ℕ, Err, refl, arith, ap, length, sym, ◌∙◌, rules, w16}
use Rattle.std.proofs.lemmas.Int.{to_z-of_z}
use Rattle.std.proofs.lemmas.List.{length-replicate}
use Rattle.loading.specs.Loads.{untouched}
use Rattle.loading.proofs.Turns.{wrong_length_lem, loads, leaves}
use Rattle.loading.proofs.load_marked.Goals as goal

pub returns-then-wrong-clause-loads : goal.returns-then-wrong-clause-loads
returns-then-wrong-clause-loads c =
    let w = wrong_length_lem c.args.shift c.args.text.now c.args.image.now c.if-wrong.true in
    record { answer = w.0; left = w.1 }

pub fold-requires : goal.fold-requires
unfolding untouched
fold-requires c = (rw c.requires (length-replicate {A = ℕ} 32768 0), omega (arith, c.if-wrong.false, ap length c.copy_from_slice.ensures.after))

pub returns-in_err-fold-clause-loads : goal.returns-in_err-fold-clause-loads
returns-in_err-fold-clause-loads c =
    let answer = rw (to_z-of_z w16 c.args.shift c.ranges.shift, c.requires) at c.fold.ensures.answer in
    let l = leaves c.args.shift c.args.text.now c.args.image.now c.fold.result c.if-wrong.false answer (rw c.in_err-fold.was refl) in
    let e : c.from_residual.result ≡ Err c.in_err-fold.field-0.0 = search rules in
    record { answer = e ∙ sym c.in_err-fold.was ∙ l.0; left = l.1 }

pub returns-clause-loads : goal.returns-clause-loads
returns-clause-loads c =
    let s = to_z-of_z w16 c.args.shift c.ranges.shift in
    let answer = rw (s, c.requires) at c.fold.ensures.answer in
    let laid = rw (s, c.copy_from_slice.ensures.after) at c.in_ok-fold.ensures.image in
    let l = loads c.args.shift c.args.text.now c.args.image.now c.fold.result c.if-wrong.false answer (rw c.in_ok-fold.was refl) in
    record { answer = sym c.in_ok-fold.was ∙ l.0; left = c.copy_from_slice-2.ensures.after ∙ laid ∙ l.1 }
