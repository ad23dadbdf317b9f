use Rattle.std.proofs.Common.{◌≡◌, ◌-◌, ◌^◌, min, length}
use Rattle.plan.specs.Contents.{contents}
use Rattle.plan.proofs.Listed.{so_far}
use Rattle.plan.proofs.listing.ListingText.len.Given as goal

abbrev pub invariant-loop-row : goal.invariant-loop-row
invariant-loop-row g l = l.len ≡ min (length (so_far (contents l.self.plan.now.table) l.self.rounds l.row)) (2 ^ 64 - 1)
