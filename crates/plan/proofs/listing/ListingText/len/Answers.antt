use Rattle.std.proofs.Common.{◌≡◌, length, codes, ap, arith}
use Rattle.writing.specs.Writing.{line_bytes}
use Rattle.plan.specs.Contents.{contents}
use Rattle.plan.proofs.Listed.{so_far, so_far_none, length_more, all_rows}
use Rattle.plan.proofs.listing.ListingText.len.Goals as goal

pub loop-row-init : goal.loop-row-init
loop-row-init g c =
    let heading = ap length (so_far_none (contents c.args.self.now.plan.now.table) c.args.self.now.rounds) in
    omega (arith, c.len-len.ensures)

pub loop-row-preserved : goal.loop-row-preserved
loop-row-preserved g c =
    let more = length_more (contents c.args.self.now.plan.now.table) c.args.self.now.rounds c.loop-row.row in
    let line = ap (λ ns. length (line_bytes (codes "step") ns)) c.row_line.ensures in
    omega (arith, c.loop-row.invariant, c.len.ensures)

pub returns : goal.returns
returns g c =
    let p = c.args.self.now.plan.now in
    let end : c.loop-row.row ≡ length p.table.rows.items = omega arith in
    let last = ap (λ n. length (so_far (contents p.table) c.args.self.now.rounds n)) end in
    let whole = ap length (all_rows p.table p.rows_counted c.args.self.now.rounds) in
    omega (arith, c.loop-row.invariant)
