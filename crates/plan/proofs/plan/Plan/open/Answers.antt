use Rattle.std.proofs.Common.{[], None, subst, sym}
use Rattle.law.specs.State.{Leads}
use Rattle.law.proofs.Steps.{new_leads}
use Rattle.plan.specs.Contents.{chains_from}
use Rattle.plan.proofs.plan.Plan.open.Goals as goal

pub returns-clause-run : goal.returns-clause-run
returns-clause-run g c =
    let answer = g.R.NodeRule.answer c.args.rule in
    subst (λ es. Leads answer [] (record { chains = chains_from es c.new_in.result.items; start = c.new-2.result.items; standing = None })) (sym c.new.ensures)
    (subst (λ xs. Leads answer [] (record { chains = []; start = xs; standing = None })) (sym c.new-2.ensures) (new_leads answer))
