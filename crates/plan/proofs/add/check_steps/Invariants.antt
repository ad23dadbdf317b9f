use Rattle.std.proofs.Common.{◌≡◌, drop}
use Rattle.law.specs.Runs.{first_bad}
use Rattle.plan.proofs.add.check_steps.Given as goal

abbrev pub invariant-loop-fields : goal.invariant-loop-fields
invariant-loop-fields l = first_bad (drop l.fields-index l.steps) ≡ first_bad l.steps
