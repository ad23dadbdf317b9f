use Rattle.std.proofs.Common.{◌∙◌}
use Rattle.std.proofs.lemmas.Result.{err_from_is_err_and}
use Rattle.plan.proofs.Adding.{bad_here}
use Rattle.plan.proofs.add.check_steps.Goals as goal

pub returns-in_err-try_from : goal.returns-in_err-try_from
returns-in_err-try_from c =
    let e = err_from_is_err_and c.from_residual.result c.from_residual.ensures.1 in
    rw (e.1, e.2)
    (bad_here c.args.steps.now c.loop-fields.fields-index c.in_err-try_from.field-0.0.place c.loop-fields-test.true c.in_err-try_from.ensures.fault ∙ c.loop-fields.invariant)
