-- The ranges of a record's fields. Assumes nothing.
use Rattle.std.specs.Prelude.{ℕ, ◌+◌, Bool, true, false, ◌&&◌, List, [], ◌∷◌, Some, None, Ok, Err, Option, Result, nat_le}
use Rattle.records.specs.declared.fields.ChainFields.{ChainFields}
use Rattle.records.specs.declared.fields.RecordFault.{RecordFault}
use Rattle.records.specs.declared.fields.Row.{Row}
use Rattle.records.specs.declared.fields.StepFields.{StepFields}

-- ## The ranges, in the order of the fields

-- a number is at least low and at most high
abbrev pub within : ℕ → ℕ → ℕ → Bool
within low high n = nat_le low n && nat_le n high

abbrev pub chain_tests : ChainFields → List Bool
chain_tests c = within 1 65535 c.id ∷ within 1 1000000 c.period ∷ within 1 1000000 c.deadline.ticks ∷ within 0 1000000 c.arrival_jitter ∷ []

abbrev pub step_tests : StepFields → List Bool
step_tests s =
    within 1 8 s.node ∷ within 1 1000000 s.cost ∷ within 1 1000000 s.local.ticks
    ∷ within 0 1000000 s.delay ∷ within 0 1000000 s.blocking ∷ within 0 255 s.priority ∷ []

-- the place of the first test that fails, where the first test has the given place
abbrev pub first_failed : ℕ → List Bool → Option ℕ
first_failed place [] = None
first_failed place (true ∷ tests) = first_failed (place + 1) tests
first_failed place (false ∷ tests) = Some place

-- the place, from 1, of the first field that is out of its range
abbrev pub bad_chain_field : ChainFields → Option ℕ
bad_chain_field c = first_failed 1 (chain_tests c)

abbrev pub bad_step_field : StepFields → Option ℕ
bad_step_field s = first_failed 1 (step_tests s)

-- there is no place
abbrev pub nowhere : Option ℕ → Bool
nowhere None = true
nowhere (Some place) = false

-- every field is in its range
abbrev pub chain_fits : ChainFields → Bool
chain_fits c = nowhere (bad_chain_field c)

abbrev pub step_fits : StepFields → Bool
step_fits s = nowhere (bad_step_field s)

-- a row is a step with the period of its chain
abbrev pub row_fits : Row → Bool
row_fits r = within 1 1000000 r.period && step_fits r.step

-- ## What a conversion into a record answers

-- the place of its fault, if it makes no record
abbrev pub fault_place : {A : Type 0} → Result A RecordFault → Option ℕ
fault_place (Ok a) = None
fault_place (Err fault) = Some fault.place

-- what the test of one field answers
abbrev pub in_range_answer : ℕ → Bool → Result (Unit {0}) RecordFault
in_range_answer place true = Ok tt
in_range_answer place false = Err (record { place = place })
