use Rattle.std.proofs.Common.{rules, get_or}
use Rattle.rules.specs.Rules.{row}
use Rattle.policies.specs.Busy.{load, arrivals}
use Rattle.policies.proofs.node_load.NodeLoadRisingRule.apply.Goals as goal

pub returns : goal.returns
unfolding load
returns g c =
    let call = c.args.self.now.call.now in
    c.node_work.ensures (λ k. arrivals (row call.rows.now k) (get_or call.jitters.now k 0) c.args.at) (λ task k n e f h. rw (← e, ← f) (search rules))
