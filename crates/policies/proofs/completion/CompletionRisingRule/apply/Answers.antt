use Rattle.std.proofs.Common.{◌≡◌, ℕ, ◌+◌, ◌*◌, cond, eqb, get_or, arith}
use Rattle.std.proofs.lemmas.Bool.Decides.{nat_tests}
use Rattle.rules.specs.Rules.{row}
use Rattle.policies.specs.Busy.{work}
use Rattle.policies.specs.Policy.{demand}
use Rattle.policies.proofs.completion.CompletionRisingRule.apply.Goals as goal

pub returns : goal.returns
unfolding demand
returns g c =
    let call = c.args.self.now.call.now in
    let p = g.P.SchedulingPolicy.shares in
    let q = c.args.self.now.start in
    let a = c.asked_task-task.result.row in
    let count = λ (k : ℕ). cond (eqb k call.asked) 0 (p.before a q (row call.rows.now k) (get_or call.jitters.now k 0) c.args.at) in
    let d : demand p call.rows.now call.jitters.now call.asked q c.args.at ≡ a.step.blocking + p.own a q * a.step.cost + work call.rows.now call.asked count = rw c.asked_task-task.ensures.row in
    let own : c.own.result * c.from.result ≡ p.own a q * a.step.cost = cc in
    let rest = c.node_work-others.ensures count (λ task k n e f h. rw (← e, ← f) (grind (arith, nat_tests))) in
    omega arith
