use Rattle.std.proofs.Common.{◌≡◌, ◌≤◌, List, refl, subst, sym, ap, ◌∙◌, arith}
use Rattle.std.proofs.lemmas.Result.{err_from_is_err_and}
use Rattle.records.specs.declared.fields.Row.{Row}
use Rattle.rules.specs.Rules.{no_row, row}
use Rattle.law.specs.Runs.{costing}
use Rattle.plan.specs.Contents.{contents, forgotten}
use Rattle.plan.proofs.Solving.{Sound, sound, sound_forgotten}
use Rattle.plan.proofs.Recosting.{cost_at, row_written, sound_costed, contents_recosted, recost_unknown, recost_out_of_range, recost_accepted, bad_cost}
use Rattle.plan.proofs.plan.Plan.recost.Goals as goal

pub returns-in_err-row-clause-run : goal.returns-in_err-row-clause-run
returns-in_err-row-clause-run g c =
    let p = c.args.self.now in
    let e = err_from_is_err_and c.from_residual.result c.from_residual.ensures.1 in
    rw (e.1, e.2) (recost_unknown (g.R.NodeRule.answer p.rule) (contents p.table) c.args.id c.args.step c.args.cost c.in_err-row.field-0.0 c.in_err-row.ensures.value).run

pub returns-then-cost-eq0-clause-run : goal.returns-then-cost-eq0-clause-run
returns-then-cost-eq0-clause-run g c =
    let p = c.args.self.now in
    (recost_out_of_range (g.R.NodeRule.answer p.rule) (contents p.table) c.args.id c.args.step c.args.cost c.in_ok-row.row c.in_ok-row.ensures.value (bad_cost c.args.cost c.then-cost-eq0.either)).run

pub invariant_of-self : goal.invariant_of-self
unfolding no_row
invariant_of-self g c =
    let p = c.args.self.now in
    let n = c.in_ok-row.row in
    let inside = c.in_ok-row.ensures.inside in
    let low : 1 ≤ c.args.cost = omega (arith, c.if-cost-eq0.false) in
    let place = c.overwrite.ensures ∙ ap (λ (rs : List Row). costing c.args.cost (row rs n)) c.as_slice.ensures.value in
    let is : c.forget.new.self ≡ forgotten (cost_at p.table n c.args.cost) = c.forget.ensures ∙ ap forgotten (row_written p.table n c.args.cost c.as_mut_slice.ensures.value place) in
    subst Sound (sym is) (sound_forgotten (cost_at p.table n c.args.cost) (sound_costed p.table (sound p) n c.args.cost inside (low, c.if-cost-gt1000000.false)))

pub returns : goal.returns
unfolding no_row
returns g c =
    let p = c.args.self.now in
    let n = c.in_ok-row.row in
    let inside = c.in_ok-row.ensures.inside in
    let low : 1 ≤ c.args.cost = omega (arith, c.if-cost-eq0.false) in
    let place = c.overwrite.ensures ∙ ap (λ (rs : List Row). costing c.args.cost (row rs n)) c.as_slice.ensures.value in
    let is : c.forget.new.self ≡ forgotten (cost_at p.table n c.args.cost) = c.forget.ensures ∙ ap forgotten (row_written p.table n c.args.cost c.as_mut_slice.ensures.value place) in
    let after = ap contents is ∙ contents_recosted p.table (sound p) n c.args.cost inside (low, c.if-cost-gt1000000.false) c.args.id c.args.step c.in_ok-row.ensures.value in
    let made = recost_accepted (g.R.NodeRule.answer p.rule) (contents p.table) c.args.id c.args.step c.args.cost n (contents c.forget.new.self) c.in_ok-row.ensures.value (low, c.if-cost-gt1000000.false) after in
    record { rule = refl; value = made.value; after = after; run = made.run }
