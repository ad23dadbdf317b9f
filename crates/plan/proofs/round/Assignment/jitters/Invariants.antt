use Rattle.std.proofs.Common.{◌≡◌, take}
use Rattle.law.specs.Assignments.{jitters_of}
use Rattle.plan.specs.Contents.{chains_of}
use Rattle.plan.proofs.round.Assignment.jitters.Given as goal

abbrev pub invariant-loop-row : goal.invariant-loop-row
invariant-loop-row g l = l.jitters.items ≡ take l.row (jitters_of (chains_of l.self.plan.now.table) l.self.responses.now)
