use Rattle.std.proofs.Common.{◌-◌}
use Rattle.climb.proofs.Settling.{Climbing}
use Rattle.climb.proofs.climb.Given as goal

abbrev pub invariant-loop-next : goal.invariant-loop-next
invariant-loop-next g l = Climbing (g.R.RisingRule.gives l.rule) l.at

abbrev pub decreases-loop-next : goal.decreases-loop-next
decreases-loop-next g l = l.limit - l.at
