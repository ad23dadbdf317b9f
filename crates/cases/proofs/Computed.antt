-- The cases, computed by the definitions themselves, but for an answer that is over.
use Rattle.std.proofs.Common.{◌≡◌, ℕ, List, [], ◌∷◌, None, Option, refl, arith}
use Rattle.records.specs.declared.fields.Row.{Row}
use Rattle.climb.specs.Climb.{FirstFixed, first_fixed, settled}
use Rattle.climb.specs.Climb.FirstFixed.{none, one}
use Rattle.climb.proofs.Settling.{settles}
use Rattle.rules.specs.Rules.{valid, no_row}
use Rattle.policies.specs.Busy.{work, load, busy}
use Rattle.policies.specs.Policy.{demand, response, worst, answer}
use Rattle.fixed.specs.Fixed.{fixed_priority}
use Rattle.edf.specs.Edf.{earliest_deadline, DueTogether}
use Rattle.mixed.specs.Mixture.{mixture}
use Rattle.law.specs.Assignments.{rows_of}
use Rattle.law.specs.Runs.{holding}
use Rattle.law.specs.State.{round, rounds_from}
use Rattle.cases.specs.Cases.{late, full_use, late_chain, Answered, WorkedCases}

abbrev late_rows : List Row
late_rows = rows_of (holding late full_use ∷ [])

-- the work that comes in a window is always longer than the window
never_done : (limit : ℕ) → settled (load late_rows (1 ∷ []) 0) limit ≡ None
unfolding load work
never_done limit = by (settles (load late_rows (1 ∷ []) 0) limit)
  where
    by : {o : Option ℕ} → FirstFixed (load late_rows (1 ∷ []) 0) 1 limit o → o ≡ None
    by (none n) = refl
    by (one {v} l h e w) = absurd (omega arith)

over : earliest_deadline late_rows (1 ∷ []) 0 ≡ None
unfolding earliest_deadline answer valid busy worst
over = rw (never_done 1000000)

late_refused : Answered late_chain
unfolding mixture round rounds_from
late_refused = rw (over, rounds_from)

due_together : DueTogether
due_together r period local = (rw local, rw (period, local))

pub computed : WorkedCases
unfolding mixture earliest_deadline fixed_priority answer valid no_row busy load work worst response demand settled first_fixed round rounds_from
computed = record { by_letters = refl; three = refl; third = refl; dear = refl; full = refl; late = late_refused; empty = refl; due = due_together }
