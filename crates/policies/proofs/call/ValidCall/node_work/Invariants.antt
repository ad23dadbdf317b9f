use Rattle.std.proofs.Common.{◌≡◌, ℕ, ◌-◌, ◌^◌, min, length}
use Rattle.policies.specs.Ranges.{sum_to}
use Rattle.policies.specs.Busy.{share}
use Rattle.policies.specs.Jobs.{Tells}
use Rattle.policies.proofs.call.ValidCall.node_work.Given as goal

-- the sum so far
abbrev pub invariant-loop-index : goal.invariant-loop-index
invariant-loop-index g l =
    let rows = l.self.rows.now in
    (count : ℕ → ℕ) → Tells (goal.F-post g l.jobs) rows l.self.jitters.now count → l.sum ≡ min (sum_to (λ k. share rows l.self.asked k (count k)) (length l.yielded)) (2 ^ 64 - 1)
