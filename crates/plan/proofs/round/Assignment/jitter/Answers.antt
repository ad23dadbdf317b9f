use Rattle.std.proofs.Common.{◌≡◌, ◌+◌, ap, ◌∙◌, arith}
use Rattle.rules.specs.Rules.{row, no_row}
use Rattle.plan.proofs.Places.{place_small, before}
use Rattle.plan.proofs.Timing.{fitting, jitter_is, first_before, later_before}
use Rattle.plan.proofs.round.Assignment.jitter.Goals as goal
use Rattle.plan.proofs.round.Assignment.jitter.Goals.{then-place-eq0, else-place-eq0}

pub overflow_sub-before : goal.overflow_sub-before
overflow_sub-before g c =
    let s = place_small _ c.args.row c.place-place.result c.place-place.ensures.value in
    omega (arith, c.if-place-eq0.false)

pub returns : goal.returns
unfolding no_row
returns g c =
    let p = c.args.self.now.plan.now in
    let place = c.place-place.result in
    let xs = c.args.self.now.responses.now in
    let is : c.if-place-eq0.before ≡ before place.chain.arrival_jitter xs c.args.row place.step =
    elim c.if-place-eq0.branch [
      | then-place-eq0 w ↦ w.before-is ∙ first_before _ xs c.args.row place.step w.if-place-eq0.true
      | else-place-eq0 w ↦ w.before-is ∙ later_before _ xs c.args.row place.step w.if-place-eq0.false
    ] in
    let fits = fitting p.table xs c.args.self.now.fit in
    ap (λ rows. c.if-place-eq0.before + (row rows c.args.row).step.delay) c.as_slice.ensures.value
    ∙ jitter_is p.table.entries.items p.table.rows.items p.rows_counted c.args.row c.requires xs fits.one_each place c.if-place-eq0.before c.place-place.ensures.value is
