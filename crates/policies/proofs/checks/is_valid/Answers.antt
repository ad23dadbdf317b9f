use Rattle.std.proofs.Common.{rules, tests, arith}
use Rattle.std.proofs.lemmas.Bool.{lt-ltb, eq-eqb}
use Rattle.std.proofs.lemmas.Bool.Decides.{nat_tests}
use Rattle.std.proofs.lemmas.Grind.{common_steps}
use Rattle.std.proofs.lemmas.Iterator.{YieldsList-from_slice}
use Rattle.std.proofs.lemmas.Iterator.Search.{all_from_yields_List}
use Rattle.records.specs.Ranges.{row_fits}
use Rattle.rules.specs.Rules.{jitter_fits}
use Rattle.policies.proofs.Passing.{valid_tests}
use Rattle.policies.proofs.checks.is_valid.Goals as goal
use Rattle.policies.proofs.checks.is_valid.Goals.{then-asked-rows, else-asked-rows, then-jitters-rows, else-jitters-rows}

pub returns-then-all : goal.returns-then-all
returns-then-all c =
    let fit = all_from_yields_List row_fits _ _ c.all-then-all.result c.all-then-all.ensures.ran (YieldsList-from_slice c.args.rows.now cc) (λ x b q k. search (rules, tests)) in
    elim c.if-jitters-rows.branch [
      | then-jitters-rows w ↦
          let small = all_from_yields_List jitter_fits _ _ w.all.result w.all.ensures.ran (YieldsList-from_slice c.args.jitters.now cc) (λ x b q k. search (rules, tests)) in
          rw (valid_tests, lt-ltb _ _ w.if-jitters-rows.true.0, eq-eqb _ _ w.if-jitters-rows.true.1, ← small, ← w.value-is, c.if-all.true) fit
      | else-jitters-rows w ↦ grind (arith, common_steps)
    ]

pub returns-else-all : goal.returns-else-all
returns-else-all c =
    elim c.if-jitters-rows.branch [
      | then-jitters-rows w ↦
          let small = all_from_yields_List jitter_fits _ _ w.all.result w.all.ensures.ran (YieldsList-from_slice c.args.jitters.now cc) (λ x b q k. search (rules, tests)) in
          rw (valid_tests, lt-ltb _ _ w.if-jitters-rows.true.0, eq-eqb _ _ w.if-jitters-rows.true.1, ← small, ← w.value-is, c.if-all.false)
      | else-jitters-rows w ↦ rw valid_tests (grind (arith, nat_tests))
    ]
