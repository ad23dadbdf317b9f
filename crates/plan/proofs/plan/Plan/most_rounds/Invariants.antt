use Rattle.std.proofs.Common.{◌≡◌, ◌+◌, drop}
use Rattle.plan.proofs.Timing.{deadlines_in}
use Rattle.plan.proofs.plan.Plan.most_rounds.Given as goal

abbrev pub invariant-loop-held : goal.invariant-loop-held
invariant-loop-held g l = let es = l.self.table.entries.items in l.sum + deadlines_in (drop l.held-index es) ≡ 1 + deadlines_in es
