-- The least fixed number of a map. Assumes nothing.
use Rattle.std.specs.Prelude.{◌≡◌, ℕ, zero, suc, ◌≤◌, true, false, Some, None, Option, ◌==◌, ◌≢◌}

-- a map that gives at least 1 for every number of at least 1, and never less for a larger number
pub record Rises (f : ℕ → ℕ) : Type 0 where
  pub some : (v : ℕ) → 1 ≤ v → 1 ≤ f v
  pub rise : (u v : ℕ) → u ≤ v → f u ≤ f v

-- the first of `count` numbers, from `at` up, that f leaves as it is, else over
unfoldable pub first_fixed : (ℕ → ℕ) → ℕ → ℕ → Option ℕ
first_fixed f zero at = None
first_fixed f (suc count) at = elim (f at == at) [ true ↦ Some at | false ↦ first_fixed f count (suc at) ]

-- the least number from 1 to the limit that f leaves as it is, else over
unfoldable pub settled : (ℕ → ℕ) → ℕ → Option ℕ
settled f limit = first_fixed f limit 1

-- the same as a law: over where no number from `low` to `high` is left as it is, else the least that is
pub data FirstFixed (f : ℕ → ℕ) (low high : ℕ) : Option ℕ → Type 0 where
  none : ((u : ℕ) → low ≤ u → u ≤ high → f u ≢ u) → FirstFixed f low high None
  one : {v : ℕ} → low ≤ v → v ≤ high → f v ≡ v → ((u : ℕ) → low ≤ u → f u ≡ u → v ≤ u) → FirstFixed f low high (Some v)

abbrev pub LeastFixed : (ℕ → ℕ) → ℕ → Option ℕ → Type 0
LeastFixed f limit answer = FirstFixed f 1 limit answer
