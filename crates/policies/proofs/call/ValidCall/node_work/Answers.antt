use Rattle.std.proofs.Common.{◌≡◌, ◌*◌, length, length-append, ap, ap₂, ◌∙◌, arith}
use Rattle.policies.specs.Busy.{share, work}
use Rattle.policies.proofs.Numbered.{turn, turns_end}
use Rattle.policies.proofs.Summing.{share_here, share_elsewhere, sum_goes_on}
use Rattle.policies.proofs.call.ValidCall.node_work.Goals as goal

pub invariant_of-task : goal.invariant_of-task
invariant_of-task g c =
    let call = c.args.self.now in
    let t = turn _ _ _ call.checked c.into_iter-index-iterator.result (cc) (cc) (cc) c.loop-index.yielded c.loop-index.index-iterator c.loop-index.yielded_by c.next.new.self c.in-Some.is c.next.ensures.steps in
    record { in_range = t.in_range; small = t.small }

pub loop-index-preserved-then-row-node : goal.loop-index-preserved-then-row-node
loop-index-preserved-then-row-node g c = λ count tells.
    let call = c.args.self.now in
    let rows = call.rows.now in
    let t = turn _ _ _ call.checked c.into_iter-index-iterator.result (cc) (cc) (cc) c.loop-index.yielded c.loop-index.index-iterator c.loop-index.yielded_by c.next.new.self c.in-Some.is c.next.ensures.steps in
    let n = length c.loop-index.yielded in
    let r = c.in-Some.row.now in
    let e = share_here rows call.asked n (count n) r c.asked_task-node.result.row t.row_is c.asked_task-node.ensures.row c.if-row-node.true in
    let told : c.jobs.result ≡ count n = tells _ c.in-Some.index c.jobs.result (rw t.number t.row_is) (rw t.number t.jitter_is) c.jobs.ensures ∙ ap count t.number in
    let term : c.jobs.result * c.from-cost.result ≡ count n * r.step.cost = ap₂ ◌*◌ told c.from-cost.ensures in
    let so_far = c.loop-index.invariant count tells in
    sum_goes_on (λ k. share rows call.asked k (count k)) n _ c.loop-index.sum _ (count n * r.step.cost) (length-append _ _) so_far e (omega arith)

pub loop-index-preserved : goal.loop-index-preserved
loop-index-preserved g c = λ count tells.
    let call = c.args.self.now in
    let rows = call.rows.now in
    let t = turn _ _ _ call.checked c.into_iter-index-iterator.result (cc) (cc) (cc) c.loop-index.yielded c.loop-index.index-iterator c.loop-index.yielded_by c.next.new.self c.in-Some.is c.next.ensures.steps in
    let n = length c.loop-index.yielded in
    let e = share_elsewhere rows call.asked n (count n) c.in-Some.row.now c.asked_task-node.result.row t.row_is c.asked_task-node.ensures.row c.if-row-node.false in
    let so_far = c.loop-index.invariant count tells in
    sum_goes_on (λ k. share rows call.asked k (count k)) n _ c.loop-index.sum _ 0 (length-append _ _) so_far e (omega arith)

pub returns : goal.returns
unfolding work
returns g c = λ count tells.
    let call = c.args.self.now in
    let e = turns_end _ _ _ call.checked c.into_iter-index-iterator.result (cc) (cc) (cc) c.loop-index.yielded c.loop-index.index-iterator c.loop-index.yielded_by c.next.new.self c.in-None.is c.next.ensures.steps in
    rw (← e) (c.loop-index.invariant count tells)
