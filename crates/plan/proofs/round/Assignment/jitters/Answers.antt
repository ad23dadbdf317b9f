use Rattle.std.proofs.Common.{◌<◌, length, sym, ap, ◌∙◌, arith, take_all}
use Rattle.std.proofs.lemmas.List.{take_more}
use Rattle.law.specs.Assignments.{jitters_of}
use Rattle.law.proofs.Chains.{length_jitters}
use Rattle.plan.specs.Contents.{chains_of}
use Rattle.plan.proofs.Memory.{rows_are}
use Rattle.plan.proofs.round.Assignment.jitters.Goals as goal

pub loop-row-preserved : goal.loop-row-preserved
loop-row-preserved g c =
    let p = c.args.self.now.plan.now in
    let js = jitters_of (chains_of p.table) c.args.self.now.responses.now in
    let n = ap length (rows_are p.table.entries.items p.table.rows.items p.rows_counted) in
    let l = length_jitters (chains_of p.table) c.args.self.now.responses.now in
    let inside : c.loop-row.row < length js = omega (arith, c.len-row-end.ensures.value) in
    c.push.ensures.items ∙ rw (c.loop-row.invariant, c.jitter.ensures) (sym (take_more js c.loop-row.row 0 inside))

pub returns : goal.returns
returns g c =
    let p = c.args.self.now.plan.now in
    let js = jitters_of (chains_of p.table) c.args.self.now.responses.now in
    let n = ap length (rows_are p.table.entries.items p.table.rows.items p.rows_counted) in
    let l = length_jitters (chains_of p.table) c.args.self.now.responses.now in
    c.loop-row.invariant ∙ take_all c.loop-row.row js (omega (arith, c.len-row-end.ensures.value))
