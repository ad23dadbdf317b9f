-- The work that comes to a node, and its busy period. Assumes nothing.
use Rattle.std.specs.Prelude.{ℕ, ◌+◌, ◌*◌, cond, List, length, Option, ◌==◌, slice_index}
use Rattle.records.specs.declared.fields.Row.{Row}
use Rattle.climb.specs.Climb.{settled}
use Rattle.rules.specs.Rules.{row}
use Rattle.policies.specs.Ranges.{ceil, sum_to}

-- the time that row k asks of the node of row i, if n of its jobs count: n times its cost, or nothing on another node
abbrev pub share : List Row → ℕ → ℕ → ℕ → ℕ
share rows i k n = cond ((row rows k).step.node == (row rows i).step.node) (n * (row rows k).step.cost) 0

-- the sum of these over all rows, where `count k` jobs of row k count
unfoldable pub work : List Row → ℕ → (ℕ → ℕ) → ℕ
work rows i count = sum_to (λ k. share rows i k (count k)) (length rows)

-- how many jobs of a row of period T come at most in a window of w ticks, if each may be released up to J ticks late:
-- (w + J) / T, rounded up. J is the row's release jitter
abbrev pub arrivals : Row → ℕ → ℕ → ℕ
arrivals r J w = ceil (w + J) r.period

-- the work that comes to the node of row i in a window of w ticks, at the jitters `js`, one for each row
unfoldable pub load : List Row → List ℕ → ℕ → ℕ → ℕ
load rows js i w = work rows i (λ k. arrivals (row rows k) (slice_index js k) w)

-- the node's busy period L: the least window, of at least 1 tick, whose load is as long as the window;
-- over, if there is none up to 1,000,000 ticks
unfoldable pub busy : List Row → List ℕ → ℕ → Option ℕ
busy rows js i = settled (load rows js i) 1000000
