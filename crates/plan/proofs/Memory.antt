-- Where chains and rows stand: the entries of a plan's memory, read one by one, against the chains that they say.
use Rattle.std.proofs.Common.{◌≡◌, ℕ, suc, ◌+◌, ◌-◌, ◌<◌, ◌≤◌, Bool, true, false, cond, ◌||◌, eqb, ltb, List, [], ◌∷◌, ◌++◌, length, get_or, take, drop, Some, None, Option, refl, ap, add-zero, add_assoc, zero-add, arith, take_all}
use Rattle.std.proofs.lemmas.List.{length-take-le, length-drop, take-append-drop, at_drop_more, at_drop_all, drop-append-le}
use lib.Seq.{take-append-le}
use Rattle.std.proofs.lemmas.Bool.{eq-eqb, ne_eqb, lt-ltb, le-ltb}
use Rattle.records.specs.declared.fields.Row.{Row}
use Rattle.law.specs.Assignments.{Held, rows_of}
use Rattle.law.specs.Runs.{holds, first_row, steps_of}
use Rattle.plan.specs.declared.table.Entry.{Entry}
use Rattle.plan.specs.declared.table.Place.{Place}
use Rattle.plan.specs.declared.table.Span.{Span}
use Rattle.plan.specs.Contents.{chains_from, steps_in, chain_number, span_of, place_in}

-- the rows of the chains are the rows held
pub rows_are : (es : List Entry) (rows : List Row) → steps_in es ≡ length rows → rows_of (chains_from es rows) ≡ rows
rows_are [] [] e = refl
rows_are [] (r ∷ rows) e = absurd (omega arith)
rows_are (e ∷ es) rows h =
    let d = length-drop e.steps rows in
    rw (rows_are es (drop e.steps rows) (omega arith)) (take-append-drop e.steps rows)

pub length_chains : (es : List Entry) (rows : List Row) → length (chains_from es rows) ≡ length es
length_chains [] rows = refl
length_chains (e ∷ es) rows = ap suc (length_chains es (drop e.steps rows))

-- one chain more, behind the others
pub chains_push : (es : List Entry) (e : Entry) (rows more : List Row) → steps_in es ≡ length rows → e.steps ≡ length more →
    chains_from (es ++ e ∷ []) (rows ++ more) ≡ chains_from es rows ++ record { chain = e.fields; rows = more } ∷ []
chains_push [] e [] more h k = rw (take_all e.steps more (omega arith))
chains_push [] e (r ∷ rows) more h k = absurd (omega arith)
chains_push (x ∷ es) e rows more h k =
    let d = length-drop x.steps rows in
    rw (take-append-le x.steps rows more (omega arith), drop-append-le x.steps rows more (omega arith), chains_push es e (drop x.steps rows) more (omega arith) k)

pub steps_push : (es : List Entry) (e : Entry) → steps_in (es ++ e ∷ []) ≡ steps_in es + e.steps
steps_push [] e = omega arith
steps_push (x ∷ es) e = let r = steps_push es e in omega arith

-- ## Where a chain stands

-- the chain of an id, where `entry` chains and `first` rows stand before the entries
abbrev pub span_from : ℕ → ℕ → ℕ → List Entry → Option Span
span_from id entry first [] = None
span_from id entry first (e ∷ es) = cond (eqb e.fields.id id) (Some (record { entry = entry; first = first; steps = e.steps })) (span_from id (entry + 1) (first + e.steps) es)

-- the span of the chains behind others
abbrev behind : ℕ → ℕ → List Held → ℕ → Option Span
behind entry first cs id = cond (holds cs id) (Some (record { entry = entry + chain_number cs id; first = first + first_row cs id; steps = steps_of cs id })) None

span_after : (id entry first : ℕ) (es : List Entry) (rows : List Row) → steps_in es ≤ length rows → span_from id entry first es ≡ behind entry first (chains_from es rows) id
span_after id entry first [] rows h = refl
span_after id entry first (e ∷ es) rows h =
    let d = length-drop e.steps rows in
    by (eqb e.fields.id id) (length-take-le e.steps rows (omega arith)) (span_after id (entry + 1) (first + e.steps) es (drop e.steps rows) (omega arith))
  where
    by : (b : Bool) → length (take e.steps rows) ≡ e.steps →
        let cs = chains_from es (drop e.steps rows) in
        span_from id (entry + 1) (first + e.steps) es ≡ behind (entry + 1) (first + e.steps) cs id →
        cond b (Some (record { entry = entry; first = first; steps = e.steps })) (span_from id (entry + 1) (first + e.steps) es) ≡
        cond (b || holds cs id)
        (Some (record { entry = entry + cond b 0 (1 + chain_number cs id); first = first + cond b 0 (length (take e.steps rows) + first_row cs id); steps = cond b (length (take e.steps rows)) (steps_of cs id) })) None
    by true l w = rw (l, add-zero first, add-zero entry)
    by false l w =
        rw (l, ← add_assoc first e.steps (first_row (chains_from es (drop e.steps rows)) id), ← add_assoc entry 1 (chain_number (chains_from es (drop e.steps rows)) id)) w

pub span_is : (id : ℕ) (es : List Entry) (rows : List Row) → steps_in es ≤ length rows → span_from id 0 0 es ≡ span_of (chains_from es rows) id
span_is id es rows h =
    rw (← zero-add (first_row (chains_from es rows) id), ← zero-add (chain_number (chains_from es rows) id)) (span_after id 0 0 es rows h)

-- ## The chain of a row

abbrev pub place_from : ℕ → List Entry → Option Place
place_from k [] = None
place_from k (e ∷ es) = cond (ltb k e.steps) (Some (record { chain = e.fields; step = k })) (place_from (k - e.steps) es)

pub place_is : (k : ℕ) (es : List Entry) (rows : List Row) → steps_in es ≤ length rows → place_from k es ≡ place_in (chains_from es rows) k
place_is k [] rows h = refl
place_is k (e ∷ es) rows h =
    let d = length-drop e.steps rows in
    rw (length-take-le e.steps rows (omega arith), place_is (k - e.steps) es (drop e.steps rows) (omega arith))

-- ## One entry after another: the turns of a loop over the entries

abbrev pub no_entry : Entry
no_entry = record { fields = record { id = 0; period = 0; deadline = record { ticks = 0 }; arrival_jitter = 0 }; steps = 0 }

-- `xs` is what the loop goes through, `es` are the entries in use
module _ {es : List Entry} (xs : List Entry) (e : xs ≡ es) (k : ℕ) (inside : k < length xs) where
  pub next_steps : steps_in (drop k es) ≡ (get_or xs k no_entry).steps + steps_in (drop (k + 1) es)
  next_steps = rw (← e) (at_drop_more steps_in xs k no_entry inside)

  pub span_hit : (id first : ℕ) → (get_or xs k no_entry).fields.id ≡ id → Some (record { entry = k; first = first; steps = (get_or xs k no_entry).steps }) ≡ span_from id k first (drop k es)
  span_hit id first h = rw (← e, at_drop_more (span_from id k first) xs k no_entry inside, eq-eqb (get_or xs k no_entry).fields.id id h)

  pub span_next : (id first : ℕ) → ((get_or xs k no_entry).fields.id ≡ id → ⊥) → span_from id (k + 1) (first + (get_or xs k no_entry).steps) (drop (k + 1) es) ≡ span_from id k first (drop k es)
  span_next id first h = rw (← e, at_drop_more (span_from id k first) xs k no_entry inside, ne_eqb (get_or xs k no_entry).fields.id id h)

  pub place_hit : (step : ℕ) → step < (get_or xs k no_entry).steps → Some (record { chain = (get_or xs k no_entry).fields; step = step }) ≡ place_from step (drop k es)
  place_hit step h = rw (← e, at_drop_more (place_from step) xs k no_entry inside, lt-ltb step (get_or xs k no_entry).steps h)

  pub place_next : (step : ℕ) → (get_or xs k no_entry).steps ≤ step → place_from (step - (get_or xs k no_entry).steps) (drop (k + 1) es) ≡ place_from step (drop k es)
  place_next step h = rw (← e, at_drop_more (place_from step) xs k no_entry inside, le-ltb step (get_or xs k no_entry).steps h)

-- after the last turn nothing is left
pub none_left : {A : Type 0} (f : List Entry → A) (xs es : List Entry) → xs ≡ es → (k : ℕ) → length xs ≤ k → f (drop k es) ≡ f []
none_left f xs es e k h = rw (← e) (at_drop_all f xs k h)
