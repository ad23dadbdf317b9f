-- The earliest-deadline rule: a node runs the pending job whose local deadline comes first. Assumes nothing.
--
-- For the row that is asked for, a, with period T, cost C, local deadline d, blocking B and release jitter J, and for each other
-- row j of its node, with period Tj, cost Cj, local deadline dj and release jitter Jj. Times are whole ticks, counted from where
-- the node's busy period begins; floor and ceil round a quotient down and up.
--
--   L       the busy period: the least number of at least 1 with L = the sum, over all rows of the node, a among them, of
--           ceil((L + Jj) / Tj) × Cj
--   A       a release instant of a, with 0 ≤ A < L. Every such instant is tried. The job released at A is due by A + d
--   nj(D)   the jobs of row j that are due by D at most: 0 if D < dj, else floor((Jj + D − dj) / Tj) + 1
--   w(A)    the completion of the job released at A: the least number of at least 1 with
--           w = B + (floor(A / T) + 1) × C + the sum, over the other rows j, of min(ceil((w + Jj) / Tj), nj(A + d)) × Cj
--   R       the response time: the largest J + w(A) − A over the instants A
--
-- L, w and R, with the limits past which they are over, are defined in policies/specs (`busy`, `demand`, `response`, `answer`), which
-- both node rules share; `by_deadline` below says which instants are tried, and how many jobs of each row count.
use Rattle.std.specs.Prelude.{◌≡◌, ℕ, ◌+◌, ◌-◌, ◌*◌, ◌/◌, ◌<◌, ◌≤◌, min, cond, ◌↔◌, Some, None, Option, MatchOption, ◌==◌, nat_lt}
use Rattle.records.specs.declared.fields.Row.{Row}
use Rattle.rules.specs.Rules.{Meaning}
use Rattle.policies.specs.Busy.{arrivals}
use Rattle.policies.specs.Policy.{Policy, answer}

-- n(D): how many jobs of a row r, of period T and local deadline d, each released up to J ticks late, are due by D at most:
-- 0 if D < d, else (J + D − d) / T, rounded down, plus 1
abbrev pub due : Row → ℕ → ℕ → ℕ
due r J D = cond (nat_lt D r.step.local.ticks) 0 ((J + D - r.step.local.ticks) / r.period + 1)

-- for the row that is asked for, a, of period T and local deadline d, in a busy period of L ticks:
-- each of the instants 0, .., L − 1 is a start, and start A is at instant A;
-- by its end A / T jobs of a, rounded down, and one more are done;
-- and of the jobs of a row r that come in the window those go before that are due by A + d at most
abbrev pub by_deadline : Policy
by_deadline =
    record {
      starts = λ a L. L;
      instant = λ a A. A;
      own = λ a A. A / a.period + 1;
      before = λ a A r J w. min (arrivals r J w) (due r J (A + a.step.local.ticks));
    }

-- the earliest-deadline rule: the worst-case response time of a row, over the starts of its busy period
unfoldable pub earliest_deadline : Meaning
earliest_deadline = answer by_deadline

-- ## What `jobs_due` answers

-- n(D), for a row that has a period
abbrev pub due_if_periodic : Row → ℕ → ℕ → Option ℕ
due_if_periodic r J D = cond (r.period == 0) None (Some (due r J D))

-- the same job by job: the jobs arrive T ticks apart, job q = 0, 1, .. at q × T − J, and one that arrived before the busy period
-- is released at 0, where it begins; a job is due d ticks after its release. Those counted are exactly those due by D at most
abbrev pub CountsDue : Row → ℕ → ℕ → Option ℕ → Type 0
CountsDue r J D count = MatchOption count (r.period ≡ 0) (λ n. (q : ℕ) → (q < n) ↔ (q * r.period - J + r.step.local.ticks ≤ D))

-- with J = T = 20 and d = 8, n(7) is 0 and n(8) is 2: the first job, released late by the whole jitter, is due together with
-- the next
abbrev pub DueTogether : Type 0
DueTogether = (r : Row) → r.period ≡ 20 → r.step.local.ticks ≡ 8 → (due r 20 7 ≡ 0) × (due r 20 8 ≡ 2)
