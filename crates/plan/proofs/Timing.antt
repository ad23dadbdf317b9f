-- The jitters and responses of a plan's rows: what single reads of its memory come to.
use Rattle.std.proofs.Common.{◌≡◌, ℕ, zero, suc, ◌+◌, ◌-◌, ◌*◌, ◌<◌, ◌≤◌, Bool, true, false, cond, eqb, leb, List, [], ◌∷◌, ◌++◌, length, get_or, drop, replicate, Some, None, Option, MatchOption, sym, refl, ap, ◌∙◌, ap₂, le_refl, add_assoc, suc-mul, mul-le-mul, zero-add, zero-mul, arith}
use Rattle.std.proofs.lemmas.List.{length-take-le, length-drop, at_drop_more}
use Rattle.std.specs.Bool.{then_some}
use Rattle.std.proofs.lemmas.Bool.{leb-true, eqb-true, eq-eqb, ne_eqb}
use Rattle.records.specs.declared.fields.Row.{Row}
use Rattle.records.specs.Ranges.{row_fits}
use Rattle.std.proofs.lemmas.Bool.{and_parts}
use Rattle.records.proofs.InRange.{chain_in_range, row_in_range}
use Rattle.std.specs.List.{list_all}
use Rattle.rules.specs.Rules.{Meaning, row, no_row}
use Rattle.rules.proofs.Lists.{passes_each, each_at}
use Rattle.law.specs.Assignments.{Held, rows_of, deadlines_of, jitters_of, total}
use Rattle.law.specs.State.{kept_within, all_of, row_response, round}
use Rattle.law.proofs.Steps.{all_of_none}
use Rattle.plan.specs.declared.table.Entry.{Entry}
use Rattle.plan.specs.declared.table.Place.{Place}
use Rattle.plan.specs.declared.table.Table.{Table}
use Rattle.plan.specs.Contents.{chains_from, steps_in, entry_fits, response_fits, responses_fit_in, place_in}
use Rattle.plan.proofs.Memory.{rows_are, no_entry, next_steps}
use Rattle.plan.proofs.Places.{before, jitter_at}

module _ (es : List Entry) (rows : List Row) (counted : steps_in es ≡ length rows) (k : ℕ) (inside : k < length rows) where
  -- a row that is read is one of the rows held
  pub row_read : row (rows_of (chains_from es rows)) k ≡ row rows k
  row_read = rw (rows_are es rows counted) refl

  pub delay_small : list_all row_fits rows ≡ true → (row rows k).step.delay ≤ 1000000
  delay_small fit =
      let f = passes_each row_fits (λ r. row_fits r ≡ true) (λ r h. h) rows fit in
      (row_in_range (row rows k) (each_at (λ r. row_fits r ≡ true) rows k no_row f inside)).step.delay

  -- a jitter as it is worked out
  pub jitter_is : (xs : List ℕ) → length xs ≡ length rows → (p : Place) (b : ℕ) → Some p ≡ place_in (chains_from es rows) k → b ≡ before p.chain.arrival_jitter xs k p.step →
      b + (row rows k).step.delay ≡ get_or (jitters_of (chains_from es rows) xs) k 0
  jitter_is xs one_each p b found is =
      let n = ap length (rows_are es rows counted) in
      let j = jitter_at (chains_from es rows) xs k p found (omega arith) in
      let d = ap (λ (r : Row). r.step.delay) row_read in
      let w = rw d at j in
      sym (rw (← is) at w)

pub response_small : (xs : List ℕ) (i : ℕ) → list_all response_fits xs ≡ true → i < length xs → get_or xs i 0 ≤ 1000000
response_small xs i fit h = each_at (λ x. x ≤ 1000000) xs i 0 (passes_each response_fits (λ x. x ≤ 1000000) (λ x. leb-true x 1000000) xs fit) h

-- responses that fit a memory: one for each row, and each is small
pub record Fitting (t : Table) (xs : List ℕ) : Type 0 where
  pub one_each : length xs ≡ length t.rows.items
  pub small : list_all response_fits xs ≡ true

pub fitting : (t : Table) (xs : List ℕ) → responses_fit_in t xs ≡ true → Fitting t xs
fitting t xs e = let (a, b) = and_parts (eqb (length xs) (length t.rows.items)) (list_all response_fits xs) e in record { one_each = eqb-true (length xs) (length t.rows.items) a; small = b }

pub fits_in : (t : Table) (xs : List ℕ) → length xs ≡ length t.rows.items → list_all response_fits xs ≡ true → responses_fit_in t xs ≡ true
fits_in t xs e f = rw (f, eq-eqb (length xs) (length t.rows.items) e)

pub first_before : (arrival : ℕ) (responses : List ℕ) (k step : ℕ) → step ≡ 0 → arrival ≡ before arrival responses k step
first_before arrival responses k step e = rw (eq-eqb step 0 e)

pub later_before : (arrival : ℕ) (responses : List ℕ) (k step : ℕ) → (step ≡ 0 → ⊥) → get_or responses (k - 1) 0 ≡ before arrival responses k step
later_before arrival responses k step ne = rw (ne_eqb step 0 ne)

-- ## The deadlines of all rows, entry by entry

abbrev pub deadlines_in : List Entry → ℕ
deadlines_in [] = 0
deadlines_in (e ∷ es) = e.steps * e.fields.deadline.ticks + deadlines_in es

total_append : (xs ys : List ℕ) → total (xs ++ ys) ≡ total xs + total ys
total_append [] ys = sym (zero-add (total ys))
total_append (x ∷ xs) ys = ap (λ n. x + n) (total_append xs ys) ∙ sym (add_assoc x (total xs) (total ys))

total_replicate : (n d : ℕ) → total (replicate n d) ≡ n * d
total_replicate zero d = sym (zero-mul d)
total_replicate (suc n) d = let r = total_replicate n d in let m = suc-mul n d in omega arith

pub deadlines_total : (es : List Entry) (rows : List Row) → steps_in es ≤ length rows → total (deadlines_of (chains_from es rows)) ≡ deadlines_in es
deadlines_total [] rows h = refl
deadlines_total (e ∷ es) rows h =
    let d = length-drop e.steps rows in
    rw (length-take-le e.steps rows (omega arith)) (total_append (replicate e.steps e.fields.deadline.ticks) (deadlines_of (chains_from es (drop e.steps rows)))
    ∙ ap₂ ◌+◌ (total_replicate e.steps e.fields.deadline.ticks) (deadlines_total es (drop e.steps rows) (omega arith)))

pub deadlines_small : (es : List Entry) → list_all entry_fits es ≡ true → deadlines_in es ≤ 1000000 * steps_in es
deadlines_small [] f = omega arith
deadlines_small (e ∷ es) f =
    let (a, b) = and_parts (entry_fits e) (list_all entry_fits es) f in
    let d = (chain_in_range e.fields a).deadline.1 in
    let m = mul-le-mul (le_refl e.steps) d in
    let r = deadlines_small es b in
    omega arith

pub steps_left : (es : List Entry) (k : ℕ) → steps_in (drop k es) ≤ steps_in es
steps_left es zero = omega arith
steps_left [] (suc k) = omega arith
steps_left (e ∷ es) (suc k) = let r = steps_left es k in omega arith

-- what a turn of the sum over the entries adds, and that it stays small
pub record Turn (es : List Entry) (k sum : ℕ) (x : Entry) : Type 0 where
  pub steps : x.steps ≤ 64
  pub small : sum + x.steps * x.fields.deadline.ticks ≤ 64000001
  pub next : (sum + x.steps * x.fields.deadline.ticks) + deadlines_in (drop (k + 1) es) ≡ 1 + deadlines_in es

pub sum_turn : (es : List Entry) → steps_in es ≤ 64 → list_all entry_fits es ≡ true → (xs : List Entry) → xs ≡ es → (k sum : ℕ) → k < length xs →
    sum + deadlines_in (drop k es) ≡ 1 + deadlines_in es → Turn es k sum (get_or xs k no_entry)
sum_turn es few fit xs e k sum inside inv =
    let s = next_steps xs e k inside in
    let left = steps_left es k in
    let d : deadlines_in (drop k es) ≡ (get_or xs k no_entry).steps * (get_or xs k no_entry).fields.deadline.ticks + deadlines_in (drop (k + 1) es) =
    rw (← e) (at_drop_more deadlines_in xs k no_entry inside) in
    let small = deadlines_small es fit in
    record { steps = omega arith; small = omega arith; next = omega arith }

-- ## The responses of a round, row by row

module _ (answer : Meaning) (cs : List Held) (xs : List ℕ) where
  pub round_refused : (k : ℕ) → k < length (rows_of cs) → None ≡ row_response answer cs xs k → None ≡ round answer cs xs
  unfolding round
  round_refused k h e = all_of_none (row_response answer cs xs) (length (rows_of cs)) k h e

  pub round_done : (next : List ℕ) (k : ℕ) → k ≡ length (rows_of cs) → all_of (row_response answer cs xs) k ≡ Some next → Some next ≡ round answer cs xs
  unfolding round
  round_done next k e all = rw (← e) (sym all)

pub passes_push : (p : ℕ → Bool) (xs : List ℕ) (y : ℕ) → list_all p xs ≡ true → p y ≡ true → list_all p (xs ++ y ∷ []) ≡ true
passes_push p [] y e f = rw f
passes_push p (x ∷ xs) y e f = let (a, b) = and_parts (p x) (list_all p xs) e in rw a (passes_push p xs y b f)

-- a response that is filtered by its deadline is kept within it
pub filtered : {P : ℕ → Bool → Type 0} (o r : Option ℕ) (d : ℕ) → ((x : ℕ) (b : Bool) → P x b → b ≡ leb x d) →
    MatchOption o (r ≡ None) (λ x. (b : Bool) × P x b × (r ≡ then_some b x)) → r ≡ kept_within d o
filtered None r d means h = h
filtered (Some x) r d means h = h.2 ∙ ap (λ b. then_some b x) (means x h.0 h.1) ∙ by (leb x d)
  where
    by : (b : Bool) → then_some b x ≡ cond b (Some x) None
    by true = refl
    by false = refl
