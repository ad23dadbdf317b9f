-- The earliest-deadline rule shows the laws of node rules; and what the jobs that are due are.
use Rattle.std.specs.Prelude.{◌≡◌, ℕ, ◌+◌, ◌-◌, ◌*◌, ◌/◌, ◌<◌, ◌≤◌, ◌↔◌, refl}
use Rattle.std.proofs.Common.{inl, inr, le_refl, add-le-add, le-div_iff_mul-le, arith}
use Rattle.std.proofs.lemmas.Bool.{cases_lt, lt-ltb, le-ltb, cond-true, cond-false}
use Rattle.records.specs.declared.fields.Row.{Row}
use Rattle.rules.specs.Rules.{Laws}
use Rattle.policies.specs.Policy.{Sound}
use Rattle.policies.specs.RangesLemmas.{div_under, ceil_under, cond_under}
use Rattle.policies.specs.PolicyLemmas.{laws}
use Rattle.edf.specs.Edf.{due, by_deadline, earliest_deadline}

due_under : (r : Row) (j k by : ℕ) → j ≤ k → due r j by ≤ due r k by
due_under r j k by h =
    let d = div_under (j + by - r.step.local.ticks) (k + by - r.step.local.ticks) r.period (omega arith) in
    cond_under _ (le_refl 0) (add-le-add d (le_refl 1))

pub deadline_sound : Sound by_deadline
deadline_sound =
    record {
      starts_rise = λ a l m h. h;
      starts_some = λ a l t h. h;
      instant_zero = λ a. refl;
      own_some = λ a q. omega arith;
      before_rise = λ a q r j k v w h g. omega (arith, ceil_under (v + j) (w + k) r.period (omega arith), due_under r j k (q + a.step.local.ticks) h);
    }

pub deadline_laws : Laws earliest_deadline
unfolding earliest_deadline
deadline_laws = laws by_deadline deadline_sound

due_none : (r : Row) (j by : ℕ) → by < r.step.local.ticks → due r j by ≡ 0
due_none r j by h = cond-true _ _ _ (lt-ltb _ _ h)

due_some : (r : Row) (j by : ℕ) → r.step.local.ticks ≤ by → due r j by ≡ (j + by - r.step.local.ticks) / r.period + 1
due_some r j by h = cond-false _ _ _ (le-ltb _ _ h)

-- the jobs that are due, job by job
due_counts : (r : Row) (j by q : ℕ) → 1 ≤ r.period → (q < due r j by) ↔ (q * r.period - j + r.step.local.ticks ≤ by)
due_counts r j by q h =
    let full = (j + by - r.step.local.ticks) / r.period in
    elim (cases_lt by r.step.local.ticks) [
      | inl l ↦ rw (due_none r j by l) ((λ m. absurd (omega arith)), λ m. absurd (omega arith))
      | inr l ↦ rw (due_some r j by l)
          ((λ m. let q_full : q ≤ full = omega arith in let k = (le-div_iff_mul-le h).0 q_full in omega arith), λ m. let k : q ≤ full = (le-div_iff_mul-le h).1 (omega arith) in omega arith)
    ]

pub counted_due : (r : Row) (j by : ℕ) {n : ℕ} → 1 ≤ r.period → n ≡ due r j by → (q : ℕ) → (q < n) ↔ (q * r.period - j + r.step.local.ticks ≤ by)
counted_due r j by h e q = rw e (due_counts r j by q h)
