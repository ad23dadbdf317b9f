use Rattle.std.proofs.Common.{arith}
use Rattle.plan.specs.Contents.{chains_of}
use Rattle.plan.proofs.Places.{place_small}
use Rattle.plan.proofs.plan.Plan.row_line.Goals as goal

pub overflow_cast-step : goal.overflow_cast-step
overflow_cast-step g c =
    let s = place_small (chains_of c.args.self.now.table) c.args.row c.place-place.result c.place-place.ensures.value in
    omega (arith, c.requires, c.args.self.now.few_rows)

pub overflow_add-step : goal.overflow_add-step
overflow_add-step g c =
    let s = place_small (chains_of c.args.self.now.table) c.args.row c.place-place.result c.place-place.ensures.value in
    omega (arith, c.requires, c.args.self.now.few_rows)
