use Rattle.std.proofs.Common.{◌≡◌, ◌+◌, drop}
use Rattle.plan.specs.Contents.{steps_in}
use Rattle.plan.proofs.Memory.{span_from}
use Rattle.plan.proofs.plan.Plan.find.Given as goal

abbrev pub invariant-loop-entry : goal.invariant-loop-entry
invariant-loop-entry g l =
    let es = l.self.table.entries.items in
    (span_from l.id l.entry l.first (drop l.entry es) ≡ span_from l.id 0 0 es) × (l.first + steps_in (drop l.entry es) ≡ steps_in es)
