-- The fixed-priority rule: a node runs the pending job of the largest priority. Assumes nothing.
use Rattle.std.specs.Prelude.{cond, ◌+◌, ◌*◌, leb}
use Rattle.rules.specs.Rules.{Meaning}
use Rattle.policies.specs.Ranges.{ceil}
use Rattle.policies.specs.Busy.{arrivals}
use Rattle.policies.specs.Policy.{Policy, answer}

-- for the row that is asked for, a, of period T, in a busy period of L ticks:
-- start q is at q × T, as long as q × T < L, which are L / T starts, rounded up;
-- by its end q + 1 jobs of a are done, those of the starts before and its own;
-- and every job of a row r of equal or larger priority that comes in the window goes before, and none of a smaller one
abbrev pub by_priority : Policy
by_priority =
    record {
      starts = λ a L. ceil L a.period;
      instant = λ a q. q * a.period;
      own = λ a q. q + 1;
      before = λ a q r J w. cond (leb a.step.priority r.step.priority) (arrivals r J w) 0;
    }

-- the fixed-priority rule: the worst-case response time of a row, over the starts of its busy period
unfoldable pub fixed_priority : Meaning
fixed_priority = answer by_priority
