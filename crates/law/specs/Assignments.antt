-- Assignments of a response time to every step, which of them carry the chains, and how rounds are counted. Assumes nothing.
use Rattle.std.specs.Prelude.{◌≡◌, ℕ, ◌+◌, ◌-◌, ◌<◌, ◌≤◌, List, [], ◌∷◌, ◌++◌, length, drop, replicate, Some, None, Option, ◌≢◌, slice_index}
use Rattle.records.specs.declared.fields.ChainFields.{ChainFields}
use Rattle.records.specs.declared.fields.Row.{Row}
use Rattle.climb.specs.Answers.{AtMost}
use Rattle.rules.specs.Rules.{Meaning, Under}

-- ## Chains, their rows and their jitters

-- a chain as a plan holds it: its fields, and a row for each of its steps
pub record Held : Type 0 where
  pub chain : ChainFields
  pub rows : List Row

-- the rows of all chains: in the order of the chains, a chain's steps in their own order
abbrev pub rows_of : List Held → List Row
rows_of [] = []
rows_of (c ∷ cs) = c.rows ++ rows_of cs

-- for every row the end-to-end deadline of its chain
abbrev pub deadlines_of : List Held → List ℕ
deadlines_of [] = []
deadlines_of (c ∷ cs) = replicate (length c.rows) c.chain.deadline.ticks ++ deadlines_of cs

-- in a chain: what comes before a step (the arrival jitter, or the response of the step before it) plus the step's delay
abbrev pub jitters_in : ℕ → List Row → List ℕ → List ℕ
jitters_in before [] xs = []
jitters_in before (r ∷ rs) [] = (before + r.step.delay) ∷ jitters_in 0 rs []
jitters_in before (r ∷ rs) (x ∷ xs) = (before + r.step.delay) ∷ jitters_in x rs xs

-- for every row the jitter that the responses xs make
abbrev pub jitters_of : List Held → List ℕ → List ℕ
jitters_of [] xs = []
jitters_of (c ∷ cs) xs = jitters_in c.chain.arrival_jitter c.rows xs ++ jitters_of cs (drop (length c.rows) xs)

-- the number of each chain's last step is at most the chain's end-to-end deadline
abbrev pub InTime : List Held → List ℕ → Type 0
InTime [] xs = Unit {0}
InTime (c ∷ cs) xs = (slice_index xs (length c.rows - 1) ≤ c.chain.deadline.ticks) × InTime cs (drop (length c.rows) xs)

abbrev pub zeros : List Held → List ℕ
zeros cs = replicate (length (rows_of cs)) 0

abbrev pub total : List ℕ → ℕ
total [] = 0
total (x ∷ xs) = x + total xs

-- ## What carries the chains, what is least, and rounds

module _ (answer : Meaning) where
  -- a number for each row, none below the node rule's answer at the jitters that the numbers make, and every chain in time
  pub record Carries (cs : List Held) (xs : List ℕ) : Type 0 where
    pub one_each : length xs ≡ length (rows_of cs)
    pub enough : (i : ℕ) → i < length (rows_of cs) → AtMost (answer (rows_of cs) (jitters_of cs xs) i) (Some (slice_index xs i))
    pub in_time : InTime cs xs

  -- it carries the chains, and is at each step the least of all that do
  pub record Least (cs : List Held) (xs : List ℕ) : Type 0 where
    pub carries : Carries cs xs
    pub below_all : (ys : List ℕ) → Carries cs ys → Under xs ys

  -- one round from xs gives ys: every row's answer at the jitters that xs makes, each within its chain's deadline
  pub record Round (cs : List Held) (xs ys : List ℕ) : Type 0 where
    pub one_each : length ys ≡ length (rows_of cs)
    pub answers : (i : ℕ) → i < length (rows_of cs) → answer (rows_of cs) (jitters_of cs xs) i ≡ Some (slice_index ys i)
    pub in_time : Under ys (deadlines_of cs)

  -- the rounds made from a start, the last or the refusing one counted, and the assignment that they end in, if any
  pub data Rounds (cs : List Held) : List ℕ → ℕ → Option (List ℕ) → Type 0 where
    refuses : {xs : List ℕ} → ((ys : List ℕ) → Round cs xs ys → ⊥) → Rounds cs xs 1 None
    settles : {xs : List ℕ} → Round cs xs xs → Rounds cs xs 1 (Some xs)
    goes_on : {xs ys : List ℕ} {n : ℕ} {end : Option (List ℕ)} → Round cs xs ys → (xs ≢ ys) → Rounds cs ys n end → Rounds cs xs (n + 1) end
