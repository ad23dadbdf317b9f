use Rattle.std.proofs.Common.{◌∙◌, arith}
use Rattle.plan.proofs.Memory.{place_is, place_hit}
use Rattle.plan.proofs.plan.Plan.place.Goals as goal

pub returns-then-step-held-clause-value : goal.returns-then-step-held-clause-value
returns-then-step-held-clause-value g c =
    let p = c.args.self.now in
    place_hit c.as_slice-held-items.result.now c.as_slice-held-items.ensures.value c.loop-held.held-index c.loop-held-test.true c.loop-held.step c.if-step-held.true
    ∙ c.loop-held.invariant.0 ∙ place_is c.args.row p.table.entries.items p.table.rows.items (omega (arith, p.rows_counted))
