use Rattle.std.proofs.Common.{sym, ◌∙◌, arith}
use Rattle.plan.proofs.Asking.{row_inside}
use Rattle.plan.proofs.plan.Plan.locate.Goals as goal

pub overflow_add-result : goal.overflow_add-result
overflow_add-result g c =
    let p = c.args.self.now in
    let inside = row_inside p.table p.rows_counted c.args.id c.args.step c.in_ok-span.span (sym c.in_ok-span.ensures.ok_part ∙ c.find.ensures) c.if-step-eq0.false c.if-step-span.false in
    omega (arith, p.few_rows)

pub returns-clause-inside : goal.returns-clause-inside
returns-clause-inside g c =
    let p = c.args.self.now in
    row_inside p.table p.rows_counted c.args.id c.args.step c.in_ok-span.span (sym c.in_ok-span.ensures.ok_part ∙ c.find.ensures) c.if-step-eq0.false c.if-step-span.false
