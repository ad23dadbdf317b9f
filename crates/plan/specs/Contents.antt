-- What a plan holds, read off its memory. Assumes nothing.
use Rattle.std.specs.Prelude.{ℕ, ◌+◌, ◌-◌, Bool, cond, List, [], ◌∷◌, ◌++◌, ◌&&◌, map, length, take, drop, replicate, remove, Some, None, Ok, Err, Option, Result, ◌==◌, nat_le, nat_lt}
use Rattle.std.specs.List.{remove_range}
use Rattle.std.specs.Option.{option_map}
use Rattle.records.specs.declared.fields.ChainFields.{ChainFields}
use Rattle.records.specs.declared.fields.Row.{Row}
use Rattle.records.specs.declared.fields.StepFields.{StepFields}
use Rattle.records.specs.Ranges.{within, chain_fits}
use Rattle.std.specs.List.{list_all}
use Rattle.plan.specs.declared.table.Entry.{Entry}
use Rattle.plan.specs.declared.table.Place.{Place}
use Rattle.plan.specs.declared.table.Settled.{Settled}
use Rattle.plan.specs.declared.table.Span.{Span}
use Rattle.plan.specs.declared.table.Table.{Table}
use Rattle.law.specs.declared.answers.Refusal.{Refusal}
use Rattle.law.specs.declared.answers.Refusal.TheVariants.{IdUnknown, NoSuchStep}
use Rattle.law.specs.Assignments.{Held}
use Rattle.law.specs.Runs.{row_of, holds, first_row, steps_of, place_of}
use Rattle.law.specs.State.{Contents, Outcome}

-- ## What the memory says

-- the chains with their rows, in their order
abbrev pub chains_from : List Entry → List Row → List Held
chains_from [] rows = []
chains_from (e ∷ es) rows = record { chain = e.fields; rows = take e.steps rows } ∷ chains_from es (drop e.steps rows)

abbrev pub chains_of : Table → List Held
chains_of t = chains_from t.entries.items t.rows.items

abbrev pub contents : Table → Contents
contents t = record { chains = chains_of t; start = t.responses.items; standing = t.standing }

-- how many steps the chains have together
abbrev pub steps_in : List Entry → ℕ
steps_in [] = 0
steps_in (e ∷ es) = e.steps + steps_in es

abbrev pub entry_fits : Entry → Bool
entry_fits e = chain_fits e.fields

-- a response that is kept is at most the largest deadline
abbrev pub response_fits : ℕ → Bool
response_fits x = nat_le x 1000000

-- one for each row, and each of them is
abbrev pub responses_fit_in : Table → List ℕ → Bool
responses_fit_in t xs = (length xs == length t.rows.items) && list_all response_fits xs

-- ## Where things stand in it

-- how many chains stand before the one of an id
abbrev pub chain_number : List Held → ℕ → ℕ
chain_number [] i = 0
chain_number (c ∷ cs) i = cond (c.chain.id == i) 0 (1 + chain_number cs i)

-- where the chain of an id stands, if one is held
abbrev pub span_of : List Held → ℕ → Option Span
span_of cs i = cond (holds cs i) (Some (record { entry = chain_number cs i; first = first_row cs i; steps = steps_of cs i })) None

-- the row of a chain's step k, counted from 1: the chain must be held and have that step
abbrev pub row_named : List Held → ℕ → ℕ → Result ℕ Refusal
row_named cs i k = cond (holds cs i) (cond (within 1 (steps_of cs i) k) (Ok (place_of cs i k)) (Err NoSuchStep)) (Err IdUnknown)

-- the chain of a row, and the row's place among the chain's steps, from 0
abbrev pub place_in : List Held → ℕ → Option Place
place_in [] k = None
place_in (c ∷ cs) k = cond (nat_lt k (length c.rows)) (Some (record { chain = c.chain; step = k })) (place_in cs (k - length c.rows))

-- ## What a solve comes to, and leaves

-- the memory with other responses to start from
abbrev pub with_responses : Table → List ℕ → Option ℕ → Table
with_responses t xs standing = record { entries = t.entries; rows = t.rows; responses = record { items = xs }; standing = standing }

-- with a zero for each row
abbrev pub forgotten : Table → Table
forgotten t = with_responses t (replicate (length t.rows.items) 0) None

abbrev pub outcome_of : Settled → Outcome
outcome_of r = record { rounds = r.rounds; responses = option_map (λ xs. xs.items) r.responses }

-- ## What an add leaves

-- the memory with rows for more steps, behind the others, which start from 0
abbrev pub with_rows : Table → ℕ → List StepFields → Table
with_rows t period steps =
    record {
      entries = t.entries;
      rows = record { items = t.rows.items ++ map (row_of period) steps };
      responses = record { items = t.responses.items ++ replicate (length steps) 0 };
      standing = t.standing;
    }

-- the memory with one chain more, behind the others, whose rows start from 0
abbrev pub appended : Table → ChainFields → List StepFields → Table
appended t fields steps =
    record {
      entries = record { items = t.entries.items ++ record { fields = fields; steps = length steps } ∷ [] };
      rows = (with_rows t fields.period steps).rows;
      responses = (with_rows t fields.period steps).responses;
      standing = None;
    }

-- ## What a drop leaves

-- the memory without a chain and its rows: the later ones close up, and every response is forgotten
abbrev pub removed : Table → Span → Table
removed t span =
    forgotten (record {
      entries = record { items = remove t.entries.items span.entry };
      rows = record { items = remove_range t.rows.items span.first (span.first + span.steps) };
      responses = t.responses;
      standing = t.standing;
    })
