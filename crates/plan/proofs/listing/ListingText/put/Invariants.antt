use Rattle.std.proofs.Common.{◌≡◌, ◌+◌, length}
use Rattle.writing.specs.Writing.{put_at}
use Rattle.plan.specs.Contents.{contents}
use Rattle.plan.proofs.Listed.{so_far}
use Rattle.plan.proofs.listing.ListingText.put.Given as goal

abbrev pub invariant-loop-row : goal.invariant-loop-row
invariant-loop-row g l =
    let bytes = so_far (contents l.self.plan.now.table) l.self.rounds l.row in
    record { value : l.end ≡ l.at + length bytes; after : l.buffer ≡ put_at l.fn.buffer l.at bytes }
