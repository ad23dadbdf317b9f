use Rattle.std.proofs.Common.{sym, ◌∙◌, arith}
use Rattle.plan.proofs.Memory.{span_from, span_is, span_hit, none_left}
use Rattle.plan.proofs.plan.Plan.find.Goals as goal

pub returns-then-held-id : goal.returns-then-held-id
returns-then-held-id g c =
    let p = c.args.self.now in
    let hit = span_hit c.deref-held-items.result.now c.deref-held-items.ensures.0 c.loop-entry.entry c.loop-entry-test.true c.args.id c.loop-entry.first c.if-held-id.true in
    hit ∙ c.loop-entry.invariant.0 ∙ span_is c.args.id p.table.entries.items p.table.rows.items (omega (arith, p.rows_counted))

pub returns : goal.returns
returns g c =
    let p = c.args.self.now in
    let left = none_left (span_from c.args.id c.loop-entry.entry c.loop-entry.first) c.deref-held-items.result.now p.table.entries.items c.deref-held-items.ensures.0 c.loop-entry.entry c.loop-entry-test.false in
    sym left ∙ c.loop-entry.invariant.0 ∙ span_is c.args.id p.table.entries.items p.table.rows.items (omega (arith, p.rows_counted))
