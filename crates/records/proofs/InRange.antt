-- What the tests of a record's fields show: each field lies in its range.
use Rattle.std.proofs.Common.{◌≡◌, ℕ, ◌≤◌, true, arith}
use Rattle.std.proofs.lemmas.Bool.Decides.{nat_tests}
use Rattle.records.specs.declared.fields.ChainFields.{ChainFields}
use Rattle.records.specs.declared.fields.Row.{Row}
use Rattle.records.specs.declared.fields.StepFields.{StepFields}
use Rattle.records.specs.Ranges.{within, chain_fits, step_fits, row_fits}

pub record ChainInRange (c : ChainFields) : Type 0 where
  pub id : (1 ≤ c.id) × (c.id ≤ 65535)
  pub period : (1 ≤ c.period) × (c.period ≤ 1000000)
  pub deadline : (1 ≤ c.deadline.ticks) × (c.deadline.ticks ≤ 1000000)
  pub arrival : c.arrival_jitter ≤ 1000000

pub record StepInRange (s : StepFields) : Type 0 where
  pub node : (1 ≤ s.node) × (s.node ≤ 8)
  pub cost : (1 ≤ s.cost) × (s.cost ≤ 1000000)
  pub local : (1 ≤ s.local.ticks) × (s.local.ticks ≤ 1000000)
  pub delay : s.delay ≤ 1000000
  pub blocking : s.blocking ≤ 1000000
  pub priority : s.priority ≤ 255

pub record RowInRange (r : Row) : Type 0 where
  pub period : (1 ≤ r.period) × (r.period ≤ 1000000)
  pub step : StepInRange r.step

pub within_true : (low high n : ℕ) → within low high n ≡ true → (low ≤ n) × (n ≤ high)
within_true low high n e = grind (arith, nat_tests)

pub chain_in_range : (c : ChainFields) → chain_fits c ≡ true → ChainInRange c
chain_in_range c e = grind (arith, nat_tests)

pub step_in_range : (s : StepFields) → step_fits s ≡ true → StepInRange s
step_in_range s e = grind (arith, nat_tests)

pub row_in_range : (r : Row) → row_fits r ≡ true → RowInRange r
row_in_range r e = grind (arith, nat_tests)

-- and the other way: ranges make a row fit
pub row_fits_from : (r : Row) → RowInRange r → row_fits r ≡ true
row_fits_from r i = grind (arith, nat_tests)
