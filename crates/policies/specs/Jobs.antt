-- What a closure tells of the rows of a call: how many jobs of each count. Assumes nothing.
use Rattle.std.specs.Prelude.{◌≡◌, ℕ, List, slice_index}
use Rattle.records.specs.declared.fields.Row.{Row}
use Rattle.rules.specs.Rules.{row}
use Rattle.policies.specs.declared.task.Task.{Task}

-- `answers task k n` says that n may be the answer for a task with its number k: for row k, with its jitter, only `count k` is
abbrev pub Tells : (Task → ℕ → ℕ → Type 0) → List Row → List ℕ → (ℕ → ℕ) → Type 0
Tells answers rows js count = (task : Task) (k n : ℕ) → task.row ≡ row rows k → task.jitter ≡ slice_index js k → answers task k n → n ≡ count k
