-- Answers: a number, or over (None), which stands above every number. Assumes nothing.
use Rattle.std.specs.Prelude.{ℕ, ◌≤◌, Some, None, Option}

-- the first answer is at most the second
pub data AtMost : Option ℕ → Option ℕ → Type 0 where
  over : {o : Option ℕ} → AtMost o None
  within : {m n : ℕ} → m ≤ n → AtMost (Some m) (Some n)
