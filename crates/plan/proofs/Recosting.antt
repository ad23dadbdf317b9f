-- Another cost for one step: what a plan holds after a recost, and the recost's step of the law over runs.
use Rattle.std.proofs.Common.{◌≡◌, ℕ, zero, suc, ◌+◌, ◌-◌, ◌<◌, ◌≤◌, Bool, true, false, cond, ◌||◌, eqb, ◌⊎◌, List, [], ◌∷◌, length, take, drop, set, Ok, Err, Result, sym, refl, ap, ◌∙◌, inl, inr, zero-add, arith, length-set, get_or-drop, get_or-take}
use Rattle.arrayvec.specs.ArrayVec.{with_items}
use Rattle.arrayvec.proofs.ArrayVecLemmas.{items-with_items}
use mathlib.Core.Bool.{false≢true}
use lib.Seq.{take-set-lt, take-set-le}
use Rattle.std.proofs.lemmas.List.{length-take-le, length-drop, drop-set-lt, drop-set-add}
use Rattle.std.proofs.lemmas.Bool.{le-leb, lt-leb}
use Rattle.records.specs.declared.fields.Row.{Row}
use Rattle.records.specs.Ranges.{within, row_fits}
use Rattle.std.proofs.lemmas.Bool.{and_parts}
use Rattle.records.proofs.InRange.{within_true}
use Rattle.std.specs.List.{list_all}
use Rattle.rules.specs.Rules.{Meaning, row, no_row}
use Rattle.rules.proofs.Lists.{passes_each, each_at}
use Rattle.law.specs.declared.answers.Reply.TheVariants.{Done}
use Rattle.law.specs.declared.answers.Refusal.{Refusal}
use Rattle.law.specs.declared.answers.Refusal.TheVariants.{IdUnknown, NoSuchStep, CostOutOfRange}
use Rattle.law.specs.Assignments.{Held}
use Rattle.law.specs.Runs.{Answer, costing, with_cost, recosted_chain, recosted, holds, first_row, steps_of, place_of, need, at_step, recost_answer}
use Rattle.law.specs.Runs.Call.{recost}
use Rattle.law.specs.State.{Contents, anew, recosts, Keeps}
use Rattle.law.proofs.Chains.{Fits}
use Rattle.law.proofs.RunLaw.{costing_fits}
use Rattle.law.proofs.Steps.{recost_keeps, recost_refused_keeps}
use Rattle.plan.specs.declared.table.Entry.{Entry}
use Rattle.plan.specs.declared.table.Table.{Table}
use Rattle.plan.specs.Contents.{chains_from, chains_of, contents, steps_in, row_named, forgotten}
use Rattle.plan.proofs.Asking.{at_step_refused, at_step_held}
use Rattle.plan.proofs.Solving.{Sound, forgotten_anew}
use Rattle.plan.proofs.Timing.{fitting, fits_in}

-- ## One row written

with_cost_set : (k cost : ℕ) (rs : List Row) → k < length rs → with_cost k cost rs ≡ set rs k (costing cost (row rs k))
with_cost_set k cost [] h = absurd (omega arith)
with_cost_set zero cost (r ∷ rs) h = refl
with_cost_set (suc k) cost (r ∷ rs) h = ap (λ (rest : List Row). r ∷ rest) (with_cost_set k cost rs (omega arith))

-- the step is held
pub record Named (cs : List Held) (i k : ℕ) : Type 0 where
  pub holds : holds cs i ≡ true
  pub low : 1 ≤ k
  pub high : k ≤ steps_of cs i

-- the rows with another cost at row n
abbrev pub costing_at : ℕ → ℕ → List Row → List Row
costing_at n cost rows = set rows n (costing cost (row rows n))

pub recosted_is : (id k cost : ℕ) (es : List Entry) (rows : List Row) → steps_in es ≡ length rows → Named (chains_from es rows) id k →
    chains_from es (costing_at (place_of (chains_from es rows) id k) cost rows) ≡ recosted id k cost (chains_from es rows)
recosted_is id k cost [] rows h n = absurd (false≢true n.holds)
recosted_is id k cost (e ∷ es) rows h n =
    let d = length-drop e.steps rows in
    by (eqb e.fields.id id) (length-take-le e.steps rows (omega arith)) n.holds n.high
    (λ t b. recosted_is id k cost es (drop e.steps rows) (omega arith) (record { holds = t; low = n.low; high = b }))
  where
    cs : List Held
    cs = chains_from es (drop e.steps rows)

    by : (b : Bool) → length (take e.steps rows) ≡ e.steps → (b || holds cs id) ≡ true → k ≤ cond b (length (take e.steps rows)) (steps_of cs id) →
        (holds cs id ≡ true → k ≤ steps_of cs id → chains_from es (costing_at (place_of cs id k) cost (drop e.steps rows)) ≡ recosted id k cost cs) →
        let n = cond b 0 (length (take e.steps rows) + first_row cs id) + (k - 1) in
        chains_from (e ∷ es) (costing_at n cost rows)
        ≡ cond b (recosted_chain k cost (record { chain = e.fields; rows = take e.steps rows }) ∷ cs) (record { chain = e.fields; rows = take e.steps rows } ∷ recosted id k cost cs)
    by true l t high rec =
        let low = n.low in
        let inside : k - 1 < e.steps = omega arith in
        rw (
          zero-add (k - 1),
          take-set-lt e.steps rows (k - 1) (costing cost (row rows (k - 1))) inside,
          drop-set-lt e.steps rows (k - 1) (costing cost (row rows (k - 1))) inside,
          with_cost_set (k - 1) cost (take e.steps rows) (omega arith),
          get_or-take e.steps rows (k - 1) no_row inside,
        )
    by false l t high rec =
        let p = place_of cs id k in
        let at : (e.steps + first_row cs id) + (k - 1) ≡ e.steps + p = omega arith in
        rw (
          l,
          at,
          take-set-le e.steps rows (e.steps + p) (costing cost (row rows (e.steps + p))) (omega arith),
          drop-set-add e.steps rows p (costing cost (row rows (e.steps + p))),
          ← get_or-drop e.steps rows p no_row,
        )
        (ap (λ (rest : List Held). record { chain = e.fields; rows = take e.steps rows } ∷ rest) (rec t high))

-- ## What a plan holds after a recost

-- the memory with another cost at one row
abbrev pub cost_at : Table → ℕ → ℕ → Table
cost_at t n cost = record { entries = t.entries; rows = record { items = costing_at n cost t.rows.items }; responses = t.responses; standing = t.standing }

-- a write to the row's place in the list is that
pub row_written : (t : Table) (n cost : ℕ) {xs : List Row} {place : Row} → xs ≡ t.rows.items → place ≡ costing cost (row t.rows.items n) →
    record { entries = t.entries; rows = with_items t.rows (set xs n place); responses = t.responses; standing = t.standing } ≡ cost_at t n cost
row_written t n cost is e =
    let costed = set t.rows.items n (costing cost (row t.rows.items n)) in
    let l = length-set t.rows.items n (costing cost (row t.rows.items n)) in
    rw (is, e) (ap (λ (rows : List Row). record { entries = t.entries; rows = record { items = rows }; responses = t.responses; standing = t.standing }) (items-with_items t.rows costed l))

passes_set : {A : Type 0} (p : A → Bool) (xs : List A) (i : ℕ) (y : A) → list_all p xs ≡ true → p y ≡ true → list_all p (set xs i y) ≡ true
passes_set p [] i y e f = e
passes_set p (x ∷ xs) zero y e f = rw f (and_parts (p x) (list_all p xs) e).1
passes_set p (x ∷ xs) (suc i) y e f = let (a, b) = and_parts (p x) (list_all p xs) e in rw a (passes_set p xs i y b f)

named_from : (cs : List Held) (i k n : ℕ) → Ok n ≡ row_named cs i k → Named cs i k × (n ≡ place_of cs i k)
named_from cs i k n e = by (holds cs i) refl (within 1 (steps_of cs i) k) refl e
  where
    by : (a : Bool) → holds cs i ≡ a → (b : Bool) → within 1 (steps_of cs i) k ≡ b →
        ◌≡◌ {A = Result ℕ Refusal} (Ok n) (cond a (cond b (Ok (place_of cs i k)) (Err NoSuchStep)) (Err IdUnknown)) → Named cs i k × (n ≡ place_of cs i k)
    by true p true q e = let (low, high) = within_true 1 (steps_of cs i) k q in (record { holds = p; low = low; high = high }, (cc))
    by true p false q e = let z : ◌≡◌ {A = ℕ} 0 1 = cc in absurd (omega arith)
    by false p b q e = let z : ◌≡◌ {A = ℕ} 0 1 = cc in absurd (omega arith)

module _ (t : Table) (before : Sound t) (n cost : ℕ) (inside : n < length t.rows.items) (range : (1 ≤ cost) × (cost ≤ 1000000)) where
  counted : steps_in t.entries.items ≡ length (costing_at n cost t.rows.items)
  counted = before.rows_counted ∙ sym (length-set t.rows.items n (costing cost (row t.rows.items n)))

  pub sound_costed : Sound (cost_at t n cost)
  sound_costed =
      let few = before.few_rows in
      let l = length-set t.rows.items n (costing cost (row t.rows.items n)) in
      let fits = passes_each row_fits Fits (λ r h. h) t.rows.items before.rows_fit in
      let fit = each_at Fits t.rows.items n no_row fits inside in
      let kept = fitting t t.responses.items before.responses_fit in
      record {
        few_chains = before.few_chains;
        few_rows = omega arith;
        rows_counted = counted;
        chains_fit = before.chains_fit;
        rows_fit = passes_set row_fits t.rows.items n (costing cost (row t.rows.items n)) before.rows_fit (costing_fits cost (row t.rows.items n) range fit);
        responses_fit = fits_in (cost_at t n cost) t.responses.items (kept.one_each ∙ sym l) kept.small;
      }

  pub contents_recosted : (id k : ℕ) → Ok n ≡ row_named (chains_of t) id k → contents (forgotten (cost_at t n cost)) ≡ recosts (contents t) id k cost
  contents_recosted id k e =
      let (named, at) = named_from (chains_of t) id k n e in
      let chains : chains_of (cost_at t n cost) ≡ recosted id k cost (chains_of t) = rw at (recosted_is id k cost t.entries.items t.rows.items before.rows_counted named) in
      forgotten_anew (cost_at t n cost) counted ∙ ap anew chains

-- a recost's answer, with its step of the law over runs
pub record RecostMade (answer : Meaning) (before after : Contents) (id k cost : ℕ) (a : Answer) : Type 0 where
  pub value : a ≡ recost_answer before.chains id k cost
  pub run : Keeps answer before (recost id k cost) a after

module _ (answer : Meaning) (s : Contents) (id k cost : ℕ) where
  refused : (why : Refusal) → Err why ≡ recost_answer s.chains id k cost → RecostMade answer s s id k cost (Err why)
  refused why e = record { value = e; run = recost_refused_keeps answer s id k cost why e }

  pub recost_unknown : (why : Refusal) → Err why ≡ row_named s.chains id k → RecostMade answer s s id k cost (Err why)
  recost_unknown why e = refused why (at_step_refused s.chains id k why _ e)

  pub recost_out_of_range : (n : ℕ) → Ok n ≡ row_named s.chains id k → within 1 1000000 cost ≡ false → RecostMade answer s s id k cost (Err CostOutOfRange)
  recost_out_of_range n e f = refused CostOutOfRange ((at_step_held s.chains id k n (Err CostOutOfRange) e).0 ∙ ap (λ b. at_step s.chains id k (need b CostOutOfRange (Ok Done))) (sym f))

  pub recost_accepted : (n : ℕ) (after : Contents) → Ok n ≡ row_named s.chains id k → (1 ≤ cost) × (cost ≤ 1000000) → after ≡ recosts s id k cost → RecostMade answer s after id k cost (Ok Done)
  recost_accepted n after e range is =
      let value : Ok Done ≡ recost_answer s.chains id k cost = (at_step_held s.chains id k n (Ok Done) e).0 ∙ rw (le-leb 1 cost range.0, le-leb cost 1000000 range.1) in
      record { value = value; run = rw is (recost_keeps answer s id k cost value) }

pub bad_cost : (cost : ℕ) → (cost ≡ 0) ⊎ ((cost ≡ 0 → ⊥) × (1000000 < cost)) → within 1 1000000 cost ≡ false
bad_cost cost (inl z) = rw z
bad_cost cost (inr w) = rw (le-leb 1 cost (omega (arith, w.1)), lt-leb cost 1000000 w.1)
