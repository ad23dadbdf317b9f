use Rattle.std.proofs.Common.{refl, sym, subst}
use Rattle.plan.proofs.Solving.{Sound, sound, sound_forgotten, solve_kept, solve_forgot}
use Rattle.plan.proofs.plan.Plan.solve.Goals as goal

pub invariant_of-self-in-None : goal.invariant_of-self-in-None
invariant_of-self-in-None g c =
    subst Sound (sym c.forget.ensures) (sound_forgotten c.args.self.now.table (sound c.args.self.now))

pub returns-in-Some-clause-run : goal.returns-in-Some-clause-run
returns-in-Some-clause-run g c =
    let p = c.args.self.now in
    let laws = g.met.R.NodeRule.lawful p.rule in
    (solve_kept (g.R.NodeRule.answer p.rule) laws p.table c.keep.new.self c.settle-rounds.result c.settle-rounds.ensures.value c.in-Some.kept c.in-Some.is c.keep.ensures).run

pub returns-in-None : goal.returns-in-None
returns-in-None g c =
    let p = c.args.self.now in
    let laws = g.met.R.NodeRule.lawful p.rule in
    let done = solve_forgot (g.R.NodeRule.answer p.rule) laws p.table c.forget.new.self c.settle-rounds.result c.settle-rounds.ensures.value p.rows_counted c.in-None.is c.forget.ensures in
    record { rule = refl; value = done.value; after = done.left; run = done.run }
