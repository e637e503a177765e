-- Each number has its words, and any other none.
use native.Mathlib.Omega.{arith}
use Rattle.desk_print.proofs.Adding.{nothing}
use Rattle.desk_answers_code.proofs.Explaining.{no_words}
use Rattle.desk_answers_code.proofs.why.words.Goals as goal

pub returns-in-1 : goal.returns-in-1
returns-in-1 c = record { added = rw c.in-1.is c.add.ensures; short = omega (arith, c.add.ensures.ends) }

pub returns-in-2 : goal.returns-in-2
returns-in-2 c = record { added = rw c.in-2.is c.add-in-2.ensures; short = omega (arith, c.add-in-2.ensures.ends) }

pub returns-in-3 : goal.returns-in-3
returns-in-3 c = record { added = rw c.in-3.is c.add-in-3.ensures; short = omega (arith, c.add-in-3.ensures.ends) }

pub returns-in-4 : goal.returns-in-4
returns-in-4 c = record { added = rw c.in-4.is c.add-in-4.ensures; short = omega (arith, c.add-in-4.ensures.ends) }

pub returns-in-5 : goal.returns-in-5
returns-in-5 c = record { added = rw c.in-5.is c.add-in-5.ensures; short = omega (arith, c.add-in-5.ensures.ends) }

pub returns-in-6 : goal.returns-in-6
returns-in-6 c = record { added = rw c.in-6.is c.add-in-6.ensures; short = omega (arith, c.add-in-6.ensures.ends) }

pub returns-in-7 : goal.returns-in-7
returns-in-7 c = record { added = rw c.in-7.is c.add-in-7.ensures; short = omega (arith, c.add-in-7.ensures.ends) }

pub returns-in-8 : goal.returns-in-8
returns-in-8 c = record { added = rw c.in-8.is c.add-in-8.ensures; short = omega (arith, c.add-in-8.ensures.ends) }

pub returns-in-9 : goal.returns-in-9
returns-in-9 c = record { added = rw c.in-9.is c.add-in-9.ensures; short = omega (arith, c.add-in-9.ensures.ends) }

pub returns-in-10 : goal.returns-in-10
returns-in-10 c = record { added = rw c.in-10.is c.add-in-10.ensures; short = omega (arith, c.add-in-10.ensures.ends) }

pub returns-in-11 : goal.returns-in-11
returns-in-11 c = record { added = rw c.in-11.is c.add-in-11.ensures; short = omega (arith, c.add-in-11.ensures.ends) }

pub returns-in_default : goal.returns-in_default
returns-in_default c = record { added = rw (no_words c.args.reason (λ z. omega arith)) (nothing _ _); short = omega arith }
