use Rattle.std.proofs.Common.{◌≡◌, ◌+◌, ◌≤◌, length, drop}
use Rattle.plan.specs.Contents.{with_rows}
use Rattle.plan.proofs.table.Table.append_rows.Given as goal

abbrev pub invariant-loop-step : goal.invariant-loop-step
invariant-loop-step l =
    let left = drop l.step-index l.steps in
    (with_rows l.self l.period left ≡ with_rows l.initial.self l.period l.steps)
    × (length l.self.rows.items + length left ≤ 64)
    × (length l.self.responses.items + length left ≤ 64)
