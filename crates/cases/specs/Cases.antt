-- Worked cases: calls on a new plan, one after another, each beside its answer. Assumes nothing.
use Rattle.std.specs.Prelude.{◌≡◌, ℕ, List, [], ◌∷◌, ◌++◌, map, Ok, Err, refl}
use Rattle.records.specs.declared.fields.ChainFields.{ChainFields}
use Rattle.records.specs.declared.fields.StepFields.{StepFields}
use Rattle.records.specs.declared.record.Chain.{Chain}
use Rattle.rules.specs.Rules.{Meaning}
use Rattle.fixed.specs.Fixed.{fixed_priority}
use Rattle.edf.specs.Edf.{earliest_deadline, DueTogether}
use Rattle.mixed.specs.declared.letters.Letter.TheVariants.{E, P}
use Rattle.mixed.specs.declared.letters.Letters.{Letters}
use Rattle.mixed.specs.Letters.{all_E, with_letter}
use Rattle.mixed.specs.Mixture.{mixture}
use Rattle.law.specs.declared.answers.Reply.TheVariants.{Done, Solved, Told}
use Rattle.law.specs.declared.answers.Refusal.TheVariants.{NothingCarries}
use Rattle.law.specs.Runs.{Call, Answer}
use Rattle.law.specs.Runs.Call.{add, drop, recost, solve, ask}
use Rattle.law.specs.State.{new_plan, answers_to}

-- ## The rule

-- node 2 has the letter P, every other node the letter E
abbrev pub letters : Letters
letters = record { by_node = E ∷ P ∷ E ∷ E ∷ E ∷ E ∷ E ∷ E ∷ [] }

-- node 2 by fixed priorities, every other node by earliest deadlines
abbrev pub meaning : Meaning
meaning = mixture letters earliest_deadline fixed_priority

-- ## Chains and steps

-- a chain by its id, period, end-to-end deadline and arrival jitter
abbrev pub chain : ℕ → ℕ → ℕ → ℕ → ChainFields
chain id period deadline arrival = record { id = id; period = period; deadline = record { ticks = deadline }; arrival_jitter = arrival }

-- a step by its node, cost, local deadline, delay, blocking and priority
abbrev pub step : ℕ → ℕ → ℕ → ℕ → ℕ → ℕ → StepFields
step node cost local delay blocking priority =
    record { node = node; cost = cost; local = record { ticks = local }; delay = delay; blocking = blocking; priority = priority }

abbrev pub chain_7 : Chain
chain_7 = record { fields = chain 7 20 20 0; in_range = refl }

abbrev pub steps_7 : List StepFields
steps_7 = step 1 3 8 0 0 1 ∷ step 2 2 6 1 0 2 ∷ []

abbrev pub chain_9 : Chain
chain_9 = record { fields = chain 9 10 6 0; in_range = refl }

abbrev pub steps_9 : List StepFields
steps_9 = step 1 4 6 0 0 1 ∷ []

abbrev pub chain_12 : Chain
chain_12 = record { fields = chain 12 5 5 0; in_range = refl }

abbrev pub steps_12 : List StepFields
steps_12 = step 2 1 5 0 0 3 ∷ []

-- a chain whose one step keeps node 1 in full use; the second may arrive a tick late
abbrev pub punctual : Chain
punctual = record { fields = chain 1 10 1000 0; in_range = refl }

abbrev pub late : Chain
late = record { fields = chain 1 10 1000 1; in_range = refl }

abbrev pub full_use : List StepFields
full_use = step 1 10 10 0 0 0 ∷ []

-- ## Calls and their answers

-- what `ask` tells of a step: its jitter and its response
abbrev pub tells : ℕ → ℕ → Answer
tells jitter response = Ok (Told (record { jitter = jitter; response = response }))

-- refusal 10, after n rounds
abbrev pub refused : ℕ → Answer
refused n = Err (NothingCarries n)

abbrev pub add_two : List (Call × Answer)
add_two = (add chain_7 steps_7, Ok Done) ∷ (add chain_9 steps_9, Ok Done) ∷ []

abbrev pub ask_two : List (Call × Answer)
ask_two = (ask 7 1, tells 0 7) ∷ (ask 7 2, tells 8 10) ∷ (ask 9 1, tells 0 5) ∷ []

abbrev pub add_third : List (Call × Answer)
add_third = (add chain_12 steps_12, Ok Done) ∷ []

abbrev pub ask_three : List (Call × Answer)
ask_three = (ask 7 1, tells 0 7) ∷ (ask 7 2, tells 8 11) ∷ (ask 9 1, tells 0 5) ∷ (ask 12 1, tells 0 1) ∷ []

-- three chains at once
abbrev pub three_chains : List (Call × Answer)
three_chains = add_two ++ add_third ++ (solve, Ok (Solved 3)) ∷ ask_three

-- two chains, then the third on top of what was found, then the two again from zeros
abbrev pub third_comes_and_goes : List (Call × Answer)
third_comes_and_goes =
    add_two ++ (solve, Ok (Solved 3)) ∷ ask_two
    ++ add_third ++ (solve, Ok (Solved 2)) ∷ ask_three
    ++ (drop 12, Ok Done) ∷ (solve, Ok (Solved 3)) ∷ ask_two

-- chain 9 costs 5 in place of 4, and then 6, where it responds past its deadline
abbrev pub dearer : List (Call × Answer)
dearer =
    add_two ++ add_third
    ++ (recost 9 1 5, Ok Done) ∷ (solve, Ok (Solved 3)) ∷ (ask 7 1, tells 0 8) ∷ (ask 7 2, tells 9 12) ∷ (ask 9 1, tells 0 6) ∷ (ask 12 1, tells 0 1)
    ∷ (recost 9 1 6, Ok Done) ∷ (solve, refused 1) ∷ []

-- a node in full use is done in time
abbrev pub punctual_chain : List (Call × Answer)
punctual_chain = (add punctual full_use, Ok Done) ∷ (solve, Ok (Solved 2)) ∷ (ask 1 1, tells 0 10) ∷ []

-- but never where a job may come late
abbrev pub late_chain : List (Call × Answer)
late_chain = (add late full_use, Ok Done) ∷ (solve, refused 1) ∷ []

abbrev pub no_chain : List (Call × Answer)
no_chain = (solve, Ok (Solved 1)) ∷ []

-- ## The cases

-- on a new plan these calls are answered so
abbrev pub Answered : List (Call × Answer) → Type 0
Answered pairs = answers_to meaning new_plan (map (λ pair. pair.0) pairs) ≡ map (λ pair. pair.1) pairs

pub record WorkedCases : Type 0 where
  -- the letters are what one gets by giving node 2 the letter P
  pub by_letters : with_letter all_E 2 P ≡ Ok letters
  pub three : Answered three_chains
  pub third : Answered third_comes_and_goes
  pub dear : Answered dearer
  pub full : Answered punctual_chain
  pub late : Answered late_chain
  pub empty : Answered no_chain
  -- of a row of period 20 and local deadline 8, with jitter 20, no job is due by 7 and two are due by 8
  pub due : DueTogether
