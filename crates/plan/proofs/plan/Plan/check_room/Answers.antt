use Rattle.std.proofs.Common.{length, sym, arith}
use Rattle.std.proofs.lemmas.Bool.{eqb-true, eqb-false}
use Rattle.plan.proofs.Adding.{chains_full, steps_full, id_held, room_done}
use Rattle.plan.proofs.plan.Plan.check_room.Goals as goal

pub returns-then-is_full : goal.returns-then-is_full
returns-then-is_full g c =
    let p = c.args.self.now in
    let full = eqb-true (length p.table.entries.items) 16 (sym c.if-is_full.ensures.value) in
    chains_full p.table p.rows_counted c.args.id c.args.steps c.if-steps-eq0.false c.if-steps-gt16.false (omega arith)

pub returns-then-len-steps-gt64 : goal.returns-then-len-steps-gt64
returns-then-len-steps-gt64 g c =
    let p = c.args.self.now in
    let room = eqb-false (length p.table.entries.items) 16 (sym c.if-is_full.ensures.value) in
    steps_full p.table p.rows_counted c.args.id c.args.steps c.if-steps-eq0.false c.if-steps-gt16.false (omega (arith, room, c.if-is_full.ensures.fits)) (omega (arith, c.len.ensures.value))

pub returns-then-is_some : goal.returns-then-is_some
returns-then-is_some g c =
    let p = c.args.self.now in
    let room = eqb-false (length p.table.entries.items) 16 (sym c.if-is_full.ensures.value) in
    id_held p.table p.rows_counted c.args.id c.args.steps c.if-steps-eq0.false c.if-steps-gt16.false (omega (arith, room, c.if-is_full.ensures.fits)) (omega (arith, c.len.ensures.value)) _ c.find.ensures (sym c.if-is_some.ensures)

pub returns : goal.returns
returns g c =
    let p = c.args.self.now in
    let room = eqb-false (length p.table.entries.items) 16 (sym c.if-is_full.ensures.value) in
    room_done p.table p.rows_counted c.args.id c.args.steps c.if-steps-eq0.false c.if-steps-gt16.false (omega (arith, room, c.if-is_full.ensures.fits)) (omega (arith, c.len.ensures.value)) _ c.find.ensures (sym c.if-is_some.ensures)
