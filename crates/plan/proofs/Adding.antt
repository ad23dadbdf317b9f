-- A chain more: the rows written one by one, and what the plan then holds.
use Rattle.std.proofs.Common.{◌≡◌, ℕ, ◌+◌, ◌<◌, ◌≤◌, Bool, true, false, cond, List, ◌∷◌, length, get_or, drop, is_some, Some, None, Option, Ok, Err, sym, refl, ap, ◌∙◌, arith}
use Rattle.std.proofs.lemmas.List.{at_drop_more}
use Rattle.std.proofs.lemmas.Bool.{le-leb, lt-leb}
use Rattle.records.specs.declared.fields.StepFields.{StepFields}
use Rattle.records.specs.Ranges.{bad_step_field}
use Rattle.law.specs.declared.answers.Reply.TheVariants.{Done}
use Rattle.law.specs.declared.answers.Refusal.TheVariants.{ChainsFull, StepsFull, IdHeld}
use Rattle.law.specs.Assignments.{Held, rows_of}
use Rattle.law.specs.Runs.{holds, first_row, steps_of, first_bad, room_answer}
use Rattle.plan.specs.declared.table.Span.{Span}
use Rattle.plan.specs.declared.table.Table.{Table}
use Rattle.plan.specs.Contents.{chains_of, steps_in, chain_number, span_of}
use Rattle.plan.proofs.Memory.{rows_are, length_chains}

abbrev pub no_step : StepFields
no_step = record { node = 0; cost = 0; local = record { ticks = 0 }; delay = 0; blocking = 0; priority = 0 }

-- ## The tests of an add

-- the first bad field, where the first step's is known
abbrev first_then : List StepFields → Option ℕ → Option ℕ
first_then steps (Some place) = Some place
first_then steps None = first_bad steps

first_is : (steps : List StepFields) (s : StepFields) → first_bad (s ∷ steps) ≡ first_then steps (bad_step_field s)
first_is steps s = by (bad_step_field s)
  where
    by : (o : Option ℕ) → ◌≡◌ {A = Option ℕ} (elim o [ Some place ↦ Some place | None ↦ first_bad steps ]) (first_then steps o)
    by None = refl
    by (Some place) = refl

first_here : (steps : List StepFields) (k : ℕ) (o : Option ℕ) → k < length steps → o ≡ bad_step_field (get_or steps k no_step) → first_then (drop (k + 1) steps) o ≡ first_bad (drop k steps)
first_here steps k o h e =
    sym (at_drop_more first_bad steps k no_step h ∙ first_is (drop (k + 1) steps) (get_or steps k no_step) ∙ ap (first_then (drop (k + 1) steps)) (sym e))

pub bad_here : (steps : List StepFields) (k place : ℕ) → k < length steps → Some place ≡ bad_step_field (get_or steps k no_step) → Some place ≡ first_bad (drop k steps)
bad_here steps k place h e = first_here steps k (Some place) h e

pub good_here : (steps : List StepFields) (k : ℕ) → k < length steps → None ≡ bad_step_field (get_or steps k no_step) → first_bad (drop (k + 1) steps) ≡ first_bad (drop k steps)
good_here steps k h e = first_here steps k None h e

pub some_span : (cs : List Held) (i : ℕ) → is_some (span_of cs i) ≡ holds cs i
some_span cs i = by (holds cs i)
  where
    by : (b : Bool) → is_some {T = Span} (cond b (Some (record { entry = chain_number cs i; first = first_row cs i; steps = steps_of cs i })) None) ≡ b
    by true = refl
    by false = refl

-- the tests for room, each on the memory
module _ (t : Table) (counted : steps_in t.entries.items ≡ length t.rows.items) (id n : ℕ) (low : (n ≡ 0) → ⊥) (high : n ≤ 16) where
  chains : length (chains_of t) ≡ length t.entries.items
  chains = length_chains t.entries.items t.rows.items

  rows : length (rows_of (chains_of t)) ≡ length t.rows.items
  rows = ap length (rows_are t.entries.items t.rows.items counted)

  pub chains_full : 16 ≤ length t.entries.items → Err ChainsFull ≡ room_answer (chains_of t) id n
  chains_full h = rw (le-leb 1 n (omega (arith, low)), le-leb n 16 high, lt-leb (length (chains_of t) + 1) 16 (omega (arith, chains)))

  module _ (few : length t.entries.items < 16) where
    pub steps_full : 64 < length t.rows.items + n → Err StepsFull ≡ room_answer (chains_of t) id n
    steps_full h = rw (le-leb 1 n (omega (arith, low)), le-leb n 16 high, le-leb (length (chains_of t) + 1) 16 (omega (arith, chains)), lt-leb (length (rows_of (chains_of t)) + n) 64 (omega (arith, rows)))

    module _ (fits : length t.rows.items + n ≤ 64) (span : Option Span) (found : span ≡ span_of (chains_of t) id) where
      pub id_held : is_some span ≡ true → Err IdHeld ≡ room_answer (chains_of t) id n
      id_held e =
          let held : holds (chains_of t) id ≡ true = sym (some_span (chains_of t) id) ∙ ap is_some (sym found) ∙ e in
          rw (le-leb 1 n (omega (arith, low)), le-leb n 16 high, le-leb (length (chains_of t) + 1) 16 (omega (arith, chains)), le-leb (length (rows_of (chains_of t)) + n) 64 (omega (arith, rows)), held)

      pub room_done : is_some span ≡ false → Ok Done ≡ room_answer (chains_of t) id n
      room_done e =
          let held : holds (chains_of t) id ≡ false = sym (some_span (chains_of t) id) ∙ ap is_some (sym found) ∙ e in
          rw (le-leb 1 n (omega (arith, low)), le-leb n 16 high, le-leb (length (chains_of t) + 1) 16 (omega (arith, chains)), le-leb (length (rows_of (chains_of t)) + n) 64 (omega (arith, rows)), held)
