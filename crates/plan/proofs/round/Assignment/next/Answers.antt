use Rattle.std.proofs.Common.{◌≡◌, length, None, ap, ◌∙◌, arith}
use Rattle.law.specs.Assignments.{jitters_of}
use Rattle.law.specs.State.{row_response}
use Rattle.plan.specs.Contents.{chains_of}
use Rattle.plan.proofs.Memory.{rows_are}
use Rattle.plan.proofs.Timing.{round_refused, round_done}
use Rattle.plan.proofs.round.Assignment.next.Goals as goal

pub returns-in_err-row_response-clause-value : goal.returns-in_err-row_response-clause-value
returns-in_err-row_response-clause-value g c =
    let p = c.args.self.now.plan.now in
    let n = ap length (rows_are p.table.entries.items p.table.rows.items p.rows_counted) in
    let js : c.as_slice.result.now ≡ jitters_of (chains_of p.table) c.args.self.now.responses.now = c.as_slice.ensures.value ∙ c.jitters-jitters.ensures in
    let over : None ≡ row_response (g.R.NodeRule.answer p.rule) (chains_of p.table) c.args.self.now.responses.now c.loop-row.row = rw js at c.in_err-row_response.ensures.value in
    rw c.from_residual.ensures (round_refused (g.R.NodeRule.answer p.rule) (chains_of p.table) c.args.self.now.responses.now c.loop-row.row (omega (arith, c.len-row-end.ensures.value)) over)

pub returns-clause-value : goal.returns-clause-value
returns-clause-value g c =
    let p = c.args.self.now.plan.now in
    let n = ap length (rows_are p.table.entries.items p.table.rows.items p.rows_counted) in
    round_done (g.R.NodeRule.answer p.rule) (chains_of p.table) c.args.self.now.responses.now c.loop-row.next.items c.loop-row.row (omega (arith, c.len-row-end.ensures.value)) c.loop-row.invariant.1
