use Rattle.std.proofs.Common.{◌≡◌, is_some, subst, sym, refl, ap, ◌∙◌}
use Rattle.std.proofs.lemmas.Result.{err_from_is_err_and}
use Rattle.law.specs.declared.answers.Refusal.TheVariants.{IdUnknown}
use Rattle.plan.specs.Contents.{chains_of, contents}
use Rattle.plan.proofs.Adding.{some_span}
use Rattle.plan.proofs.Asking.{span_shows}
use Rattle.plan.proofs.Dropping.{span_inside, sound_removed, contents_dropped, drop_refused, drop_accepted}
use Rattle.plan.proofs.Solving.{Sound, sound}
use Rattle.plan.proofs.Timing.{fitting}
use Rattle.plan.proofs.plan.Plan.drop_chain.Goals as goal

pub returns-in_err-span-clause-run : goal.returns-in_err-span-clause-run
returns-in_err-span-clause-run g c =
    let p = c.args.self.now in
    let e = err_from_is_err_and c.from_residual.result c.from_residual.ensures.1 in
    let why = rw c.in_err-span.ensures.ok_part at c.in_err-span.ensures.value in
    let held = sym (some_span (chains_of p.table) c.args.id) ∙ ap is_some (sym c.find.ensures ∙ c.in_err-span.ensures.ok_part) in
    let unknown : c.in_err-span.field-0.0 ≡ IdUnknown = cc in
    rw (e.1, e.2, unknown) (drop_refused (g.R.NodeRule.answer p.rule) (contents p.table) c.args.id held).run

pub remove-requires : goal.remove-requires
remove-requires g c =
    let p = c.args.self.now in
    let found = span_shows (chains_of p.table) c.args.id c.in_ok-span.span (sym c.in_ok-span.ensures.ok_part ∙ c.find.ensures) in
    let inside = span_inside p.table (sound p) c.args.id c.in_ok-span.span found in
    record { chain = inside.0; few = p.few_rows; rows = inside.1; responses = (fitting p.table p.table.responses.items p.responses_fit).one_each }

pub invariant_of-self : goal.invariant_of-self
invariant_of-self g c =
    let p = c.args.self.now in
    let found = span_shows (chains_of p.table) c.args.id c.in_ok-span.span (sym c.in_ok-span.ensures.ok_part ∙ c.find.ensures) in
    subst Sound (sym c.remove.ensures) (sound_removed p.table (sound p) c.args.id c.in_ok-span.span found)

pub returns : goal.returns
returns g c =
    let p = c.args.self.now in
    let found = span_shows (chains_of p.table) c.args.id c.in_ok-span.span (sym c.in_ok-span.ensures.ok_part ∙ c.find.ensures) in
    let after = ap contents c.remove.ensures ∙ contents_dropped p.table (sound p) c.args.id c.in_ok-span.span found in
    let made = drop_accepted (g.R.NodeRule.answer p.rule) (contents p.table) (contents c.remove.new.self) c.args.id found.holds after in
    record { rule = refl; value = made.value; after = after; run = made.run }
