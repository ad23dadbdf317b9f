use Rattle.std.proofs.Common.{◌≡◌, get_or, is_some, ap}
use Rattle.std.proofs.lemmas.Result.{err_from_is_err_and}
use Rattle.law.specs.declared.answers.Refusal.TheVariants.{NotSolved}
use Rattle.plan.specs.Contents.{contents}
use Rattle.plan.proofs.Asking.{ask_refused, ask_unsolved, ask_told}
use Rattle.plan.proofs.plan.Plan.ask.Goals as goal

pub returns-in_err-row-clause-run : goal.returns-in_err-row-clause-run
returns-in_err-row-clause-run g c =
    let p = c.args.self.now in
    let e = err_from_is_err_and c.from_residual.result c.from_residual.ensures.1 in
    rw (e.1, e.2) (ask_refused (g.R.NodeRule.answer p.rule) (contents p.table) c.args.id c.args.step c.in_err-row.field-0.0 c.in_err-row.ensures.value).run

pub returns-in_err-ok_or-clause-run : goal.returns-in_err-ok_or-clause-run
returns-in_err-ok_or-clause-run g c =
    let p = c.args.self.now in
    let e = err_from_is_err_and c.from_residual-in_err-ok_or.result c.from_residual-in_err-ok_or.ensures.1 in
    let unsolved = rw c.in_err-ok_or.ensures.ok_part at c.in_err-ok_or.ensures.value in
    let why : c.in_err-ok_or.field-0.0 ≡ NotSolved = cc in
    rw (e.1, e.2, why) (ask_unsolved (g.R.NodeRule.answer p.rule) (contents p.table) c.args.id c.args.step c.in_ok-row.row c.in_ok-row.ensures.value (ap is_some c.in_err-ok_or.ensures.ok_part)).run

pub returns-clause-run : goal.returns-clause-run
returns-clause-run g c =
    let p = c.args.self.now in
    let kept = c.kept-kept.ensures in
    (ask_told (g.R.NodeRule.answer p.rule) (contents p.table) c.args.id c.args.step c.in_ok-row.row c.jitter-jitter.result _ c.in_ok-row.ensures.value (ap is_some c.in_ok-ok_or.ensures.ok_part) (rw (kept.plan, kept.responses) at c.jitter-jitter.ensures) (ap (λ xs. get_or xs c.in_ok-row.row 0) kept.responses)).run
