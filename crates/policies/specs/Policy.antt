-- What the node rules share: the largest response over the starts of a busy period. Assumes nothing.
use Rattle.std.specs.Prelude.{◌≡◌, ℕ, ◌+◌, ◌-◌, ◌*◌, ◌≤◌, true, false, cond, List, Some, None, Option, ◌==◌, slice_index}
use Rattle.records.specs.declared.fields.Row.{Row}
use Rattle.climb.specs.Climb.{settled}
use Rattle.rules.specs.Rules.{Meaning, valid, row}
use Rattle.policies.specs.Ranges.{largest}
use Rattle.policies.specs.Busy.{work, busy}

-- ## Policies

-- how a node shares its time, as four numbers about the row that is asked for, a. A busy period is looked at from several
-- starts q = 0, 1, ..: each has an instant, counted from where the busy period begins, and asks for the response of a job of a
-- that is released at that instant, and that arrived J ticks before it, where J is the release jitter of a
pub record Policy : Type 0 where
  -- how many starts are looked at in a busy period of L ticks: `starts a L`
  pub starts : Row → ℕ → ℕ
  -- the instant of start q: `instant a q`
  pub instant : Row → ℕ → ℕ
  -- how many jobs of a itself are done by the end of start q: `own a q`
  pub own : Row → ℕ → ℕ
  -- how many jobs of another row r, with jitter J, go before that end in a window of w ticks: `before a q r J w`
  pub before : Row → ℕ → Row → ℕ → ℕ → ℕ

-- what a policy shows, for the laws of node rules: a longer busy period has no fewer starts, and any has one; the first is at
-- instant 0; a start has at least one job of a; and a larger jitter or window never lowers what goes before
pub record Sound (p : Policy) : Type 0 where
  pub starts_rise : (a : Row) (l m : ℕ) → l ≤ m → p.starts a l ≤ p.starts a m
  pub starts_some : (a : Row) (l : ℕ) → 1 ≤ a.period → 1 ≤ l → 1 ≤ p.starts a l
  pub instant_zero : (a : Row) → p.instant a 0 ≡ 0
  pub own_some : (a : Row) (q : ℕ) → 1 ≤ p.own a q
  pub before_rise : (a : Row) (q : ℕ) (r : Row) (j k v w : ℕ) → j ≤ k → v ≤ w → p.before a q r j v ≤ p.before a q r k w

-- ## Responses, of row i among the rows at the jitters `js`

-- how many jobs of row k go before the end of start q in a window of w ticks: none of row i itself, whose jobs are `own`
abbrev pub others : Policy → List Row → List ℕ → ℕ → ℕ → ℕ → ℕ → ℕ
others p rows js i q w k = cond (k == i) 0 (p.before (row rows i) q (row rows k) (slice_index js k) w)

-- the work up to the end of start q in a window of w ticks: the row's blocking, its own jobs, and those of the node's other rows
unfoldable pub demand : Policy → List Row → List ℕ → ℕ → ℕ → ℕ → ℕ
demand p rows js i q w = (row rows i).step.blocking + p.own (row rows i) q * (row rows i).step.cost + work rows i (others p rows js i q w)

-- the response of a job that arrived J ticks before an instant and is done w ticks after the busy period began: w − (instant − J),
-- which is J + w − instant, and never below 0; over, if w is
abbrev pub since : ℕ → ℕ → Option ℕ → Option ℕ
since J instant None = None
since J instant (Some w) = Some (J + w - instant)

-- the response of start q: its w is the least window, of at least 1 tick, whose demand is as long as the window; over, if there is
-- none up to 4,000,000 ticks
unfoldable pub response : Policy → List Row → List ℕ → ℕ → ℕ → Option ℕ
response p rows js i q = since (slice_index js i) (p.instant (row rows i) q) (settled (demand p rows js i q) 4000000)

-- the largest response over the starts of a busy period; over, if the busy period is
unfoldable pub worst : Policy → List Row → List ℕ → ℕ → Option ℕ → Option ℕ
worst p rows js i None = None
worst p rows js i (Some l) = largest (response p rows js i) (p.starts (row rows i) l)

-- what a rule answers: the worst-case response time of row i; over, if the call is not valid
unfoldable pub answer : Policy → Meaning
answer p rows js i = elim (valid rows js i) [ true ↦ worst p rows js i (busy rows js i) | false ↦ None ]

-- the response of one start of row i; over, if the call is not valid
abbrev pub start_answer : Policy → List Row → List ℕ → ℕ → ℕ → Option ℕ
start_answer p rows js i q = cond (valid rows js i) (response p rows js i q) None
