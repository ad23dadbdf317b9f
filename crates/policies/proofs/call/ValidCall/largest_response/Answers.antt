use Rattle.std.proofs.Common.{◌<◌, ap, sym, ◌∙◌, arith}
use Rattle.rules.specs.Rules.{row}
use Rattle.policies.specs.Policy.{response, worst}
use Rattle.policies.specs.RangesLemmas.{largest_over}
use Rattle.policies.proofs.call.ValidCall.largest_response.Goals as goal

pub returns-in_err-response_of : goal.returns-in_err-response_of
unfolding worst
returns-in_err-response_of g c =
    let p = g.P.SchedulingPolicy.shares in
    let call = c.args.self.now in
    let a = row call.rows.now call.asked in
    let inside : c.loop-start.start < p.starts a c.args.busy = omega (arith, ap (λ r. p.starts r c.args.busy) c.asked_task.ensures.row) in
    c.from_residual.ensures ∙ sym (largest_over (response p call.rows.now call.jitters.now call.asked) (p.starts a c.args.busy) c.loop-start.start inside (sym c.in_err-response_of.ensures))
