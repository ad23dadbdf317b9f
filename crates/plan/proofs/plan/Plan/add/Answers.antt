use Rattle.std.proofs.Common.{◌≡◌, subst, Ok, Err, sym, refl, arith}
use Rattle.std.proofs.lemmas.Result.{err_from_is_err_and}
use Rattle.law.specs.declared.answers.Reply.TheVariants.{Done}
use Rattle.law.specs.declared.answers.Refusal.TheVariants.{Field}
use Rattle.plan.specs.Contents.{chains_of, contents, appended}
use Rattle.plan.proofs.Added.{field_refused, room_refused, add_refused, contents_added, add_accepted, sound_added, tested}
use Rattle.plan.proofs.Solving.{Sound, sound}
use Rattle.plan.proofs.Timing.{fitting}
use Rattle.plan.proofs.plan.Plan.add.Goals as goal

pub returns-in_err-check_steps-clause-run : goal.returns-in_err-check_steps-clause-run
returns-in_err-check_steps-clause-run g c =
    let p = c.args.self.now in
    let fault = c.in_err-check_steps.field-0.0 in
    let e = err_from_is_err_and c.from_residual.result c.from_residual.ensures.1 in
    let value = field_refused (chains_of p.table) c.args.chain c.args.steps.now fault c.in_err-check_steps.ensures in
    rw (e.1, e.2) (add_refused (g.R.NodeRule.answer p.rule) (contents p.table) c.args.chain c.args.steps.now (Field fault) value).run

pub returns-in_err-check_room-clause-run : goal.returns-in_err-check_room-clause-run
returns-in_err-check_room-clause-run g c =
    let p = c.args.self.now in
    let why = c.in_err-check_room.field-0.0 in
    let e = err_from_is_err_and c.from_residual-in_err-check_room.result c.from_residual-in_err-check_room.ensures.1 in
    let value = room_refused (chains_of p.table) c.args.chain c.args.steps.now (Err why) c.in_ok-check_steps.ensures (rw c.fields-fields.ensures at c.in_err-check_room.ensures) in
    rw (e.1, e.2) (add_refused (g.R.NodeRule.answer p.rule) (contents p.table) c.args.chain c.args.steps.now why value).run

pub append-requires : goal.append-requires
append-requires g c =
    let p = c.args.self.now in
    let done = room_refused (chains_of p.table) c.args.chain c.args.steps.now (Ok Done) c.in_ok-check_steps.ensures (rw c.fields-fields.ensures at c.in_ok-check_room.ensures) in
    let test = tested p.table p.rows_counted c.args.chain c.args.steps.now done in
    let one_each = (fitting p.table p.table.responses.items p.responses_fit).one_each in
    record { chains = test.chains; rows = test.rows; responses = omega (arith, test.rows) }

pub invariant_of-self : goal.invariant_of-self
invariant_of-self g c =
    let p = c.args.self.now in
    let steps = c.args.steps.now in
    let done = room_refused (chains_of p.table) c.args.chain steps (Ok Done) c.in_ok-check_steps.ensures (rw c.fields-fields.ensures at c.in_ok-check_room.ensures) in
    let test = tested p.table p.rows_counted c.args.chain steps done in
    let is : c.append.new.self ≡ appended p.table c.args.chain.fields steps = rw c.fields-fields.ensures at c.append.ensures in
    subst Sound (sym is) (sound_added p.table (sound p) c.args.chain steps test.fields test.chains test.rows)

pub returns : goal.returns
returns g c =
    let p = c.args.self.now in
    let steps = c.args.steps.now in
    let done = room_refused (chains_of p.table) c.args.chain steps (Ok Done) c.in_ok-check_steps.ensures (rw c.fields-fields.ensures at c.in_ok-check_room.ensures) in
    let is : c.append.new.self ≡ appended p.table c.args.chain.fields steps = rw c.fields-fields.ensures at c.append.ensures in
    let made = add_accepted p.table p.rows_counted c.args.chain steps (g.R.NodeRule.answer p.rule) done in
    rw is (record { rule = refl; value = made.value; after = contents_added p.table p.rows_counted c.args.chain steps; run = made.run })
