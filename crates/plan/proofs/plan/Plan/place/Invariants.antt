use Rattle.std.proofs.Common.{◌≡◌, ◌<◌, drop}
use Rattle.plan.specs.Contents.{steps_in}
use Rattle.plan.proofs.Memory.{place_from}
use Rattle.plan.proofs.plan.Plan.place.Given as goal

abbrev pub invariant-loop-held : goal.invariant-loop-held
invariant-loop-held g l =
    let es = l.self.table.entries.items in
    (place_from l.step (drop l.held-index es) ≡ place_from l.row es) × (l.step < steps_in (drop l.held-index es))
