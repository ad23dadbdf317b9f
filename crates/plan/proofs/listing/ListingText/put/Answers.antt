use Rattle.std.proofs.Common.{◌≡◌, ◌+◌, ◌≤◌, length, codes, rules, sym, ap, ◌∙◌, arith}
use Rattle.writing.specs.Writing.{put_at, line_bytes}
use Rattle.writing.proofs.Placed.{fitting, after_put}
use Rattle.plan.specs.Contents.{contents}
use Rattle.plan.specs.Listing.{row_line, listing_bytes}
use Rattle.plan.proofs.Listed.{so_far, so_far_none, so_far_more, length_more, all_rows, row_room}
use Rattle.plan.proofs.listing.ListingText.put.Goals as goal

pub loop-row-init : goal.loop-row-init
loop-row-init g c = rw (so_far_none (contents c.args.self.now.plan.now.table) c.args.self.now.rounds) (record { value = search rules; after = search rules })

pub loop-row-preserved : goal.loop-row-preserved
loop-row-preserved g c =
    let p = c.args.self.now.plan.now in
    let s = contents p.table in
    let rounds = c.args.self.now.rounds in
    let k = c.loop-row.row in
    let enough = row_room p.table p.rows_counted rounds k (omega arith) in
    let more = length_more s rounds k in
    let line = ap (line_bytes (codes "step")) c.row_line.ensures in
    let size = ap length line in
    let room : c.args.at + length (listing_bytes s rounds) ≤ length c.args.buffer.now = search rules in
    record {
      value = search rules;
      after =
          c.put-in-loop-row.ensures.after ∙ rw (line, c.loop-row.invariant.after, c.loop-row.invariant.value) (after_put c.args.buffer.now c.args.at (so_far s rounds k) (row_line s.chains s.start k) (omega arith))
          ∙ ap (put_at c.args.buffer.now c.args.at) (sym (so_far_more s rounds k));
    }

pub returns-clause-value : goal.returns-clause-value
returns-clause-value g c =
    let p = c.args.self.now.plan.now in
    let whole = ap length (all_rows p.table p.rows_counted c.args.self.now.rounds) in
    let end : c.loop-row.row ≡ length p.table.rows.items = omega arith in
    let last = ap (λ k. length (so_far (contents p.table) c.args.self.now.rounds k)) end in
    search rules

pub returns-clause-after : goal.returns-clause-after
returns-clause-after g c =
    let p = c.args.self.now.plan.now in
    let whole = all_rows p.table p.rows_counted c.args.self.now.rounds in
    let end : c.loop-row.row ≡ length p.table.rows.items = omega arith in
    let room : c.args.at + length (listing_bytes (contents p.table) c.args.self.now.rounds) ≤ length c.args.buffer.now = search rules in
    rw (end, ← whole) at c.loop-row.invariant.after ∙ sym (fitting c.args.buffer.now c.args.at (listing_bytes (contents p.table) c.args.self.now.rounds) room)
