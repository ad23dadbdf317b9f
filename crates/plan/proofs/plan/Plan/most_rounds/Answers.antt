use Rattle.std.proofs.Common.{arith}
use Rattle.plan.proofs.Memory.{none_left}
use Rattle.plan.proofs.Timing.{deadlines_in, deadlines_total, sum_turn}
use Rattle.plan.proofs.plan.Plan.most_rounds.Goals as goal

pub overflow_cast-sum : goal.overflow_cast-sum
overflow_cast-sum g c =
    let p = c.args.self.now in
    let turn = sum_turn p.table.entries.items (omega (arith, p.few_rows, p.rows_counted)) p.chains_fit c.as_slice-held-items.result.now c.as_slice-held-items.ensures.value c.loop-held.held-index c.loop-held.sum c.loop-held-test.true c.loop-held.invariant in
    omega (arith, turn.steps)

pub overflow_mul-sum : goal.overflow_mul-sum
overflow_mul-sum g c =
    let p = c.args.self.now in
    let turn = sum_turn p.table.entries.items (omega (arith, p.few_rows, p.rows_counted)) p.chains_fit c.as_slice-held-items.result.now c.as_slice-held-items.ensures.value c.loop-held.held-index c.loop-held.sum c.loop-held-test.true c.loop-held.invariant in
    omega (arith, turn.small)

pub overflow_add-sum : goal.overflow_add-sum
overflow_add-sum g c =
    let p = c.args.self.now in
    let turn = sum_turn p.table.entries.items (omega (arith, p.few_rows, p.rows_counted)) p.chains_fit c.as_slice-held-items.result.now c.as_slice-held-items.ensures.value c.loop-held.held-index c.loop-held.sum c.loop-held-test.true c.loop-held.invariant in
    omega (arith, turn.small)

pub returns : goal.returns
returns g c =
    let p = c.args.self.now in
    let left = none_left deadlines_in c.as_slice-held-items.result.now p.table.entries.items c.as_slice-held-items.ensures.value c.loop-held.held-index c.loop-held-test.false in
    let total = deadlines_total p.table.entries.items p.table.rows.items (omega (arith, p.rows_counted)) in
    omega (arith, c.loop-held.invariant)
