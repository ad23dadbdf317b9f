use Rattle.std.proofs.Common.{◌≡◌, ◌-◌, true}
use Rattle.law.proofs.Turns.{Reaches}
use Rattle.plan.specs.Contents.{chains_of, responses_fit_in}
use Rattle.plan.proofs.plan.Plan.settle.Given as goal

abbrev pub invariant-loop-rounds : goal.invariant-loop-rounds
invariant-loop-rounds g l =
    let t = l.self.table in
    (responses_fit_in t l.responses.items ≡ true)
    × Reaches (g.R.NodeRule.answer l.self.rule) (chains_of t) l.most t.responses.items (l.rounds - 1) l.responses.items
