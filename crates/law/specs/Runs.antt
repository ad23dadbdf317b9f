-- What the calls on one plan answer, over every run of calls from a new plan. Assumes nothing.
--
-- What this page promises, in five sentences.
-- The calls made so far fix what the next call answers, refusals too: `Right` says which answer that is, and a run of right answers alone is `Lawful`.
-- `add`, `drop` and `recost` make their change and answer `Done`, or are refused for the first cause that fits; nothing else changes the chains held.
-- `solve` answers `Solved` where some responses carry the chains held, and has then found the least that do; where none do, it answers `NothingCarries`.
-- It counts its rounds from what the last accepted solve found, as far as that still serves (`Start`): at most one more than the deadlines of all steps add up to, and never more than from zeros.
-- `ask` tells a step's jitter and response in the least responses while an accepted solve stands (`current`), which it does until a chain is added, dropped or recosted or a solve finds nothing.
use Rattle.std.specs.Prelude.{◌≡◌, ℕ, zero, suc, ◌+◌, ◌-◌, ◌≤◌, Bool, true, false, cond, not, ◌||◌, List, [], ◌∷◌, ◌++◌, map, length, replicate, is_some, Some, None, Option, Ok, Err, Result, ◌==◌, nat_le, slice_index}
use Rattle.records.specs.declared.fields.ChainFields.{ChainFields}
use Rattle.records.specs.declared.fields.Row.{Row}
use Rattle.records.specs.declared.fields.StepFields.{StepFields}
use Rattle.records.specs.declared.record.Chain.{Chain}
use Rattle.records.specs.Ranges.{within, bad_step_field}
use Rattle.rules.specs.Rules.{Meaning}
use Rattle.law.specs.declared.answers.Reply.{Reply}
use Rattle.law.specs.declared.answers.Reply.TheVariants.{Done, Solved, Told}
use Rattle.law.specs.declared.answers.Refusal.{Refusal}
use Rattle.law.specs.declared.answers.Refusal.TheVariants.{Field, StepCount, ChainsFull, StepsFull, IdHeld, IdUnknown, NoSuchStep, CostOutOfRange, NotSolved, NothingCarries}
use Rattle.law.specs.Assignments.{Held, rows_of, deadlines_of, jitters_of, zeros, total, Carries, Least, Rounds}
use Rattle.law.specs.Refusals.{forgets}

-- ## Calls

-- a call. `add` comes with a chain and the plain fields of its steps; `drop` names a chain by its id; `recost` a chain, a step and its new cost;
-- `ask` a chain and a step. Steps are counted from 1
pub data Call : Type 0 where
  add : Chain → List StepFields → Call
  drop : ℕ → Call
  recost : ℕ → ℕ → ℕ → Call
  solve : Call
  ask : ℕ → ℕ → Call

-- an answer: the reply, or why the call is refused
abbrev pub Answer : Type 0
Answer = Result Reply Refusal

-- a run: the calls on one plan with their answers, the newest first
abbrev pub Run : Type 0
Run = List (Call × Answer)

-- ## The chains held

-- a step's row: the step with the period of its chain
abbrev pub row_of : ℕ → StepFields → Row
row_of period s = record { period = period; step = s }

-- a chain of these fields as it is held, with a row for each step
abbrev pub held_as : ChainFields → List StepFields → Held
held_as fields steps = record { chain = fields; rows = map (row_of fields.period) steps }

abbrev pub holding : Chain → List StepFields → Held
holding c steps = held_as c.fields steps

-- the chains with the one of this id taken out
abbrev pub without : ℕ → List Held → List Held
without i [] = []
without i (c ∷ cs) = cond (c.chain.id == i) cs (c ∷ without i cs)

-- a row with another cost, and no other field changed
abbrev pub costing : ℕ → Row → Row
costing cost r =
    record {
      period = r.period;
      step = record { node = r.step.node; cost = cost; local = r.step.local; delay = r.step.delay; blocking = r.step.blocking; priority = r.step.priority };
    }

-- the rows with another cost at a place, counted from 0
abbrev pub with_cost : ℕ → ℕ → List Row → List Row
with_cost k cost [] = []
with_cost zero cost (r ∷ rs) = costing cost r ∷ rs
with_cost (suc k) cost (r ∷ rs) = r ∷ with_cost k cost rs

-- a chain with another cost at step k, counted from 1
abbrev pub recosted_chain : ℕ → ℕ → Held → Held
recosted_chain k cost c = record { chain = c.chain; rows = with_cost (k - 1) cost c.rows }

-- the chains with another cost at step k of the one of this id
abbrev pub recosted : ℕ → ℕ → ℕ → List Held → List Held
recosted i k cost [] = []
recosted i k cost (c ∷ cs) = cond (c.chain.id == i) (recosted_chain k cost c ∷ cs) (c ∷ recosted i k cost cs)

-- what a call that is done makes of the chains held
abbrev pub changed : Call → List Held → List Held
changed (add c steps) cs = cs ++ holding c steps ∷ []
changed (drop i) cs = without i cs
changed (recost i k cost) cs = recosted i k cost cs
changed solve cs = cs
changed (ask i k) cs = cs

-- the chains held after a run, the oldest first
abbrev pub held : Run → List Held
held [] = []
held ((c, Ok Done) ∷ h) = changed c (held h)
held ((c, Ok (Solved n)) ∷ h) = held h
held ((c, Ok (Told t)) ∷ h) = held h
held ((c, Err why) ∷ h) = held h

-- ## What add, drop and recost answer, by the chains held alone

-- a chain of this id is held
abbrev pub holds : List Held → ℕ → Bool
holds [] i = false
holds (c ∷ cs) i = c.chain.id == i || holds cs i

-- how many steps the chain of this id has; 0 where none is held
abbrev pub steps_of : List Held → ℕ → ℕ
steps_of [] i = 0
steps_of (c ∷ cs) i = cond (c.chain.id == i) (length c.rows) (steps_of cs i)

-- the place of the first field out of range, of the first step that has one
abbrev pub first_bad : List StepFields → Option ℕ
first_bad [] = None
first_bad (s ∷ steps) = elim (bad_step_field s) [ Some place ↦ Some place | None ↦ first_bad steps ]

-- a test must hold, or the call is refused so; a call's tests stand in the order in which they are made
abbrev pub need : Bool → Refusal → Answer → Answer
need true why rest = rest
need false why rest = Err why

-- every field must be in range, or the call is refused with the place of the first that is not
abbrev pub need_fields : Option ℕ → Answer → Answer
need_fields None rest = rest
need_fields (Some place) rest = Err (Field (record { place = place }))

-- room for a chain of n steps: 1 to 16 steps, at most 16 chains with this one, at most 64 steps in all, and a new id
abbrev pub room_answer : List Held → ℕ → ℕ → Answer
room_answer cs id n =
    need (within 1 16 n) StepCount
    (need (nat_le (length cs + 1) 16) ChainsFull
    (need (nat_le (length (rows_of cs) + n) 64) StepsFull
    (need (not (holds cs id)) IdHeld
    (Ok Done))))

-- add: the fields of all steps in range, and room for the chain
abbrev pub entry_answer : List Held → ChainFields → List StepFields → Answer
entry_answer cs fields steps = need_fields (first_bad steps) (room_answer cs fields.id (length steps))

abbrev pub add_answer : List Held → Chain → List StepFields → Answer
add_answer cs c steps = entry_answer cs c.fields steps

-- drop: the chain must be held
abbrev pub drop_answer : List Held → ℕ → Answer
drop_answer cs i = need (holds cs i) IdUnknown (Ok Done)

-- a call that names a step: the chain must be held and have that step
abbrev pub at_step : List Held → ℕ → ℕ → Answer → Answer
at_step cs i k rest = need (holds cs i) IdUnknown (need (within 1 (steps_of cs i) k) NoSuchStep rest)

-- recost: the step must be held, and the cost in range
abbrev pub recost_answer : List Held → ℕ → ℕ → ℕ → Answer
recost_answer cs i k cost = at_step cs i k (need (within 1 1000000 cost) CostOutOfRange (Ok Done))

-- ## What solve and ask answer

-- how many rows stand before those of the chain of this id
abbrev pub first_row : List Held → ℕ → ℕ
first_row [] i = 0
first_row (c ∷ cs) i = cond (c.chain.id == i) 0 (length c.rows + first_row cs i)

-- the place, from 0, of a chain's step k among all rows
abbrev pub place_of : List Held → ℕ → ℕ → ℕ
place_of cs i k = first_row cs i + (k - 1)

-- a step's jitter and response in the responses xs
abbrev pub told : List Held → List ℕ → ℕ → ℕ → Answer
told cs xs i k = Ok (Told (record { jitter = slice_index (jitters_of cs xs) (place_of cs i k); response = slice_index xs (place_of cs i k) }))

-- the rounds of the accepted solve that stands, if one does: questions and refusals that forget nothing alone came after it
abbrev pub standing : Run → Option ℕ
standing [] = None
standing ((c, Ok Done) ∷ h) = None
standing ((c, Ok (Solved n)) ∷ h) = Some n
standing ((c, Ok (Told t)) ∷ h) = standing h
standing ((c, Err why) ∷ h) = cond (forgets why) None (standing h)

-- an accepted solve stands
abbrev pub current : Run → Bool
current h = is_some (standing h)

module _ (answer : Meaning) where
  -- the responses that a solve after a run starts from: what the last accepted solve found, with zeros for the steps added since.
  -- All are zeros before the first solve and after a drop, a recost or a solve that found nothing
  pub data Start : Run → List ℕ → Type 0 where
    new : Start [] []
    after_solve : {h : Run} {n : ℕ} {xs : List ℕ} → Least answer (held h) xs → Start ((solve, Ok (Solved n)) ∷ h) xs
    after_nothing : {h : Run} {n : ℕ} → Start ((solve, Err (NothingCarries n)) ∷ h) (zeros (held h))
    after_drop : {h : Run} {i : ℕ} → Start ((drop i, Ok Done) ∷ h) (zeros (held ((drop i, Ok Done) ∷ h)))
    after_recost : {h : Run} {i k cost : ℕ} → Start ((recost i k cost, Ok Done) ∷ h) (zeros (held ((recost i k cost, Ok Done) ∷ h)))
    over_add : {h : Run} {c : Chain} {steps : List StepFields} {xs : List ℕ} → Start h xs → Start ((add c steps, Ok Done) ∷ h) (xs ++ replicate (length steps) 0)
    over_question : {h : Run} {i k j r : ℕ} {xs : List ℕ} → Start h xs → Start ((ask i k, Ok (Told (record { jitter = j; response = r }))) ∷ h) xs
    over_refusal : {h : Run} {c : Call} {why : Refusal} {xs : List ℕ} → forgets why ≡ false → Start h xs → Start ((c, Err why) ∷ h) xs

  -- a solve after a run makes n rounds, which end so: they are counted from its start, and are within both bounds
  pub record Counted (h : Run) (n : ℕ) (end : Option (List ℕ)) : Type 0 where
    pub start : List ℕ
    pub starts : Start h start
    pub made : Rounds answer (held h) start n end
    pub bound : n ≤ 1 + total (deadlines_of (held h))
    pub from_zeros : (m : ℕ) (other : Option (List ℕ)) → Rounds answer (held h) (zeros (held h)) m other → n ≤ m

  -- what a solve answers: the rounds to the least responses that carry the chains, or that none do and the rounds made
  pub data Solves (h : Run) : Answer → Type 0 where
    finds : {n : ℕ} {xs : List ℕ} → Least answer (held h) xs → Counted h n (Some xs) → Solves h (Ok (Solved n))
    finds_none : {n : ℕ} → ((xs : List ℕ) → Carries answer (held h) xs → ⊥) → Counted h n None → Solves h (Err (NothingCarries n))

  -- what a question answers: the step's numbers in the least responses where a solve stands, and else that none does
  pub record Tells (h : Run) (i k : ℕ) (a : Answer) : Type 0 where
    pub solved : current h ≡ true → (xs : List ℕ) × Least answer (held h) xs × (a ≡ at_step (held h) i k (told (held h) xs i k))
    pub unsolved : current h ≡ false → a ≡ at_step (held h) i k (Err NotSolved)

  -- an answer is right for a call after a run
  abbrev pub Right : Run → Call → Answer → Type 0
  Right h (add c steps) a = a ≡ add_answer (held h) c steps
  Right h (drop i) a = a ≡ drop_answer (held h) i
  Right h (recost i k cost) a = a ≡ recost_answer (held h) i k cost
  Right h solve a = Solves h a
  Right h (ask i k) a = Tells h i k a

  -- every call of the run was answered rightly after the calls before it
  abbrev pub Lawful : Run → Type 0
  Lawful [] = Unit {0}
  Lawful ((c, a) ∷ h) = Right h c a × Lawful h
