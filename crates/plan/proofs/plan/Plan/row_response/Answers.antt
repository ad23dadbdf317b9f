use Rattle.std.proofs.Common.{rules, refl, ◌∙◌}
use Rattle.plan.specs.Contents.{chains_of}
use Rattle.plan.proofs.Memory.{rows_are}
use Rattle.plan.proofs.Places.{deadline_at}
use Rattle.plan.proofs.Timing.{filtered}
use Rattle.plan.proofs.plan.Plan.row_response.Goals as goal

pub returns-clause-value : goal.returns-clause-value
returns-clause-value g c =
    let p = c.args.self.now in
    let kept = filtered c.response.result c.filter.result c.place-latest.result.chain.deadline.ticks (λ x b h. search rules) c.filter.ensures in
    rw (deadline_at (chains_of p.table) c.args.row c.place-latest.result c.place-latest.ensures.value, rows_are p.table.entries.items p.table.rows.items p.rows_counted)
    (kept ∙ rw (c.response.ensures, c.as_slice.ensures.value) refl)
