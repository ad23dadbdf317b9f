-- The turns of the loop that sums up a node's work.
use Rattle.std.proofs.Common.{◌≡◌, ℕ, ◌+◌, ◌-◌, ◌*◌, ◌^◌, min, List, arith}
use Rattle.std.proofs.lemmas.Bool.{eq-eqb, ne_eqb, cond-true, cond-false}
use Rattle.records.specs.declared.fields.Row.{Row}
use Rattle.rules.specs.Rules.{row}
use Rattle.policies.specs.Ranges.{sum_to}
use Rattle.policies.specs.Busy.{share}
use Rattle.policies.specs.RangesLemmas.{sum_more}

-- the share of a task r on the node of a task a, and of one on another node
pub share_here : (rows : List Row) (i k n : ℕ) (r a : Row) → r ≡ row rows k → a ≡ row rows i → r.step.node ≡ a.step.node → share rows i k n ≡ n * r.step.cost
share_here rows i k n r a e f h = rw (← e, ← f) (cond-true _ _ _ (eq-eqb _ _ h))

pub share_elsewhere : (rows : List Row) (i k n : ℕ) (r a : Row) → r ≡ row rows k → a ≡ row rows i → (r.step.node ≡ a.step.node → ⊥) → share rows i k n ≡ 0
share_elsewhere rows i k n r a e f h = rw (← e, ← f) (cond-false _ _ _ (ne_eqb _ _ h))

-- one term more, where a sum stops at the largest u64
pub sum_goes_on : (f : ℕ → ℕ) (n m s t term : ℕ) → m ≡ n + 1 → s ≡ min (sum_to f n) (2 ^ 64 - 1) → f n ≡ term → t ≡ min (s + min term (2 ^ 64 - 1)) (2 ^ 64 - 1) → t ≡ min (sum_to f m) (2 ^ 64 - 1)
sum_goes_on f n m s t term l e h g = rw l (let m = sum_more f n in omega arith)
