use Rattle.std.proofs.Common.{◌≡◌, map, take}
use Rattle.law.proofs.Replay.{Made}
use Rattle.plan.specs.Calls.{meant}
use Rattle.plan.specs.Contents.{contents}
use Rattle.plan.proofs.plan.Plan.perform_all.Given as goal

abbrev pub invariant-loop-k : goal.invariant-loop-k
invariant-loop-k g l =
    (l.self.rule ≡ l.initial.self.rule)
    × Made (g.R.NodeRule.answer l.initial.self.rule) (contents l.initial.self.table) (map meant (take l.k l.call-items)) l.k l.initial.answers l.answers (contents l.self.table)
