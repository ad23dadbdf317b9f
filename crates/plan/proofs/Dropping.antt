-- A chain less: what a plan holds after a drop, and the drop's step of the law over runs.
use Rattle.std.proofs.Common.{◌≡◌, ℕ, zero, suc, ◌+◌, ◌-◌, ◌<◌, ◌≤◌, Bool, true, false, cond, ◌||◌, eqb, List, [], ◌∷◌, ◌++◌, length, take, drop, remove, Ok, Err, refl, ap, ◌∙◌, add_assoc, zero-add, arith, length-append, take_all, take-add}
use mathlib.Core.Bool.{false≢true}
use lib.Seq.{take-append-le}
use Rattle.std.proofs.lemmas.List.{length-take-le, length-drop, drop-drop, drop_at, append_assoc}
use Rattle.std.proofs.lemmas.List.Edits.{length-remove, take-paste}
use Rattle.std.specs.List.{remove_range, copy_within}
use Rattle.records.specs.declared.fields.Row.{Row}
use Rattle.records.specs.Ranges.{row_fits}
use Rattle.std.proofs.lemmas.Bool.{and_parts}
use Rattle.std.specs.List.{list_all}
use Rattle.rules.specs.Rules.{Meaning}
use Rattle.law.specs.declared.answers.Reply.TheVariants.{Done}
use Rattle.law.specs.declared.answers.Refusal.TheVariants.{IdUnknown}
use Rattle.law.specs.Assignments.{Held, rows_of}
use Rattle.law.specs.Runs.{Answer, without, holds, first_row, steps_of, drop_answer}
use Rattle.law.specs.Runs.Call.{drop as drop-call}
use Rattle.law.specs.State.{Contents, anew, dropped, Keeps}
use Rattle.law.proofs.Steps.{drop_keeps, drop_refused_keeps}
use Rattle.plan.specs.declared.table.Entry.{Entry}
use Rattle.plan.specs.declared.table.Span.{Span}
use Rattle.plan.specs.declared.table.Table.{Table}
use Rattle.plan.specs.Contents.{chains_from, chains_of, contents, steps_in, entry_fits, chain_number, removed}
use Rattle.plan.proofs.Added.{passes_append}
use Rattle.plan.proofs.Asking.{Spans}
use Rattle.plan.proofs.Memory.{rows_are, length_chains}
use Rattle.plan.proofs.Solving.{Sound, forgotten_fits, forgotten_anew}

-- ## The chains without one

-- a front of so many elements, read as one list
take_all_front : {A : Type 0} (n : ℕ) (xs ys : List A) → length xs ≡ n → take n (xs ++ ys) ≡ xs
take_all_front n xs ys e = take-append-le n xs ys (omega arith) ∙ take_all n xs (omega arith)

remove_suc : {A : Type 0} (x : A) (n : ℕ) (xs : List A) → remove (x ∷ xs) (1 + n) ≡ x ∷ remove xs n
remove_suc x n xs = let e : 1 + n ≡ suc n = omega arith in rw e refl

remove_add : {A : Type 0} (m n gap : ℕ) (xs : List A) → m ≤ length xs → remove_range xs (m + n) (m + n + gap) ≡ take m xs ++ remove_range (drop m xs) n (n + gap)
remove_add m n gap xs h =
    rw (add_assoc m n gap, ← drop-drop (n + gap) m xs, ← append_assoc (take m xs) (take n (drop m xs)) (drop (n + gap) (drop m xs)))
    (ap (λ ys. ys ++ drop (n + gap) (drop m xs)) (take-add m n xs))

-- the entries and the rows without the chain of an id
abbrev entries_left : ℕ → List Entry → List Row → List Entry
entries_left id es rows = remove es (chain_number (chains_from es rows) id)

abbrev rows_left : ℕ → List Entry → List Row → List Row
rows_left id es rows = let cs = chains_from es rows in remove_range rows (first_row cs id) (first_row cs id + steps_of cs id)

-- the chains of the memory that closed up are the chains without the one that went out
pub without_is : (id : ℕ) (es : List Entry) (rows : List Row) → steps_in es ≡ length rows → holds (chains_from es rows) id ≡ true →
    chains_from (entries_left id es rows) (rows_left id es rows) ≡ without id (chains_from es rows)
without_is id [] rows h t = absurd (false≢true t)
without_is id (e ∷ es) rows h t =
    let d = length-drop e.steps rows in
    by (eqb e.fields.id id) (length-take-le e.steps rows (omega arith)) t (without_is id es (drop e.steps rows) (omega arith))
  where
    cs : List Held
    cs = chains_from es (drop e.steps rows)

    by : (b : Bool) → length (take e.steps rows) ≡ e.steps → (b || holds cs id) ≡ true →
        (holds cs id ≡ true → chains_from (entries_left id es (drop e.steps rows)) (rows_left id es (drop e.steps rows)) ≡ without id cs) →
        let first = cond b 0 (length (take e.steps rows) + first_row cs id) in
        chains_from (remove (e ∷ es) (cond b 0 (1 + chain_number cs id))) (remove_range rows first (first + cond b (length (take e.steps rows)) (steps_of cs id)))
        ≡ cond b cs (record { chain = e.fields; rows = take e.steps rows } ∷ without id cs)
    by true l t rec = rw (l, zero-add e.steps)
    by false l t rec =
        rw (
          l,
          remove_suc e (chain_number cs id) es,
          remove_add e.steps (first_row cs id) (steps_of cs id) rows (omega arith),
          take_all_front e.steps (take e.steps rows) (rows_left id es (drop e.steps rows)) l,
          drop_at (take e.steps rows) (rows_left id es (drop e.steps rows)) e.steps l,
        )
        (ap (λ rest. record { chain = e.fields; rows = take e.steps rows } ∷ rest) (rec t))

-- ## Where the chain that goes out stands

pub chain_inside : (cs : List Held) (id : ℕ) → holds cs id ≡ true → chain_number cs id < length cs
chain_inside [] id t = absurd (false≢true t)
chain_inside (c ∷ cs) id t = by (eqb c.chain.id id) t (chain_inside cs id)
  where
    by : (b : Bool) → (b || holds cs id) ≡ true → (holds cs id ≡ true → chain_number cs id < length cs) → cond b 0 (1 + chain_number cs id) < suc (length cs)
    by true t rec = omega arith
    by false t rec = let r = rec t in omega arith

pub rows_inside : (cs : List Held) (id : ℕ) → holds cs id ≡ true → first_row cs id + steps_of cs id ≤ length (rows_of cs)
rows_inside [] id t = absurd (false≢true t)
rows_inside (c ∷ cs) id t = by (eqb c.chain.id id) t (rows_inside cs id)
  where
    by : (b : Bool) → (b || holds cs id) ≡ true → (holds cs id ≡ true → first_row cs id + steps_of cs id ≤ length (rows_of cs)) →
        cond b 0 (length c.rows + first_row cs id) + cond b (length c.rows) (steps_of cs id) ≤ length (c.rows ++ rows_of cs)
    by true t rec = simp length-append (omega arith)
    by false t rec = let r = rec t in simp length-append (omega arith)

-- the steps that are left
steps_kept : (id : ℕ) (es : List Entry) (rows : List Row) → steps_in es ≡ length rows → holds (chains_from es rows) id ≡ true →
    steps_in (entries_left id es rows) + steps_of (chains_from es rows) id ≡ steps_in es
steps_kept id [] rows h t = absurd (false≢true t)
steps_kept id (e ∷ es) rows h t =
    let d = length-drop e.steps rows in
    by (eqb e.fields.id id) (length-take-le e.steps rows (omega arith)) t (steps_kept id es (drop e.steps rows) (omega arith))
  where
    cs : List Held
    cs = chains_from es (drop e.steps rows)

    by : (b : Bool) → length (take e.steps rows) ≡ e.steps → (b || holds cs id) ≡ true → (holds cs id ≡ true → steps_in (entries_left id es (drop e.steps rows)) + steps_of cs id ≡ steps_in es) →
        steps_in (remove (e ∷ es) (cond b 0 (1 + chain_number cs id))) + cond b (length (take e.steps rows)) (steps_of cs id) ≡ e.steps + steps_in es
    by true l t rec = omega arith
    by false l t rec = let r = rec t in rw (remove_suc e (chain_number cs id) es) (omega arith)

-- ## What a plan holds after a drop

passes_take : {A : Type 0} (p : A → Bool) (n : ℕ) (xs : List A) → list_all p xs ≡ true → list_all p (take n xs) ≡ true
passes_take p zero xs e = refl
passes_take p (suc n) [] e = refl
passes_take p (suc n) (x ∷ xs) e = let (a, b) = and_parts (p x) (list_all p xs) e in rw a (passes_take p n xs b)

passes_drop : {A : Type 0} (p : A → Bool) (n : ℕ) (xs : List A) → list_all p xs ≡ true → list_all p (drop n xs) ≡ true
passes_drop p zero xs e = e
passes_drop p (suc n) [] e = e
passes_drop p (suc n) (x ∷ xs) e = passes_drop p n xs (and_parts (p x) (list_all p xs) e).1

length_removed : {A : Type 0} (xs : List A) (at gap : ℕ) → at + gap ≤ length xs → length (remove_range xs at (at + gap)) + gap ≡ length xs
length_removed xs at gap h =
    let a = length-append (take at xs) (drop (at + gap) xs) in
    let b = length-take-le at xs (omega arith) in
    let d = length-drop (at + gap) xs in
    omega arith

-- the elements behind a gap, copied to where it begins, close it up
pub closed_up : {A : Type 0} (xs : List A) (at gap : ℕ) → at + gap ≤ length xs → take (length xs - gap) (copy_within xs (at + gap) (length xs) at) ≡ remove_range xs at (at + gap)
closed_up xs at gap h =
    let d = length-drop (at + gap) xs in
    let n : length xs - gap ≡ at + (length xs - (at + gap)) = omega arith in
    rw n (take-paste xs at (drop (at + gap) xs) (length xs - (at + gap)) (omega arith) (omega arith) ∙ ap (λ ys. take at xs ++ ys) (take_all (length xs - (at + gap)) (drop (at + gap) xs) (omega arith)))

module _ (t : Table) (before : Sound t) (id : ℕ) (span : Span) (found : Spans (chains_of t) id span) where
  -- where the chain's rows lie
  pub span_inside : (span.entry < length t.entries.items) × (span.first + span.steps ≤ length t.rows.items)
  span_inside =
      let rows = ap length (rows_are t.entries.items t.rows.items before.rows_counted) in
      let chains = length_chains t.entries.items t.rows.items in
      let chain = chain_inside (chains_of t) id found.holds in
      let inside = rows_inside (chains_of t) id found.holds in
      (omega (arith, found.entry), omega (arith, found.first, found.steps))

  counted_left : steps_in (removed t span).entries.items ≡ length (removed t span).rows.items
  counted_left =
      let l = length_removed t.rows.items span.first span.steps span_inside.1 in
      let left = steps_kept id t.entries.items t.rows.items before.rows_counted found.holds in
      let counted = before.rows_counted in
      let steps = found.steps in
      rw found.entry (omega arith)

  pub sound_removed : Sound (removed t span)
  sound_removed =
      let few = before.few_chains in
      let rows = before.few_rows in
      let chain = length-remove t.entries.items span.entry span_inside.0 in
      let l = length_removed t.rows.items span.first span.steps span_inside.1 in
      record {
        few_chains = omega arith;
        few_rows = omega arith;
        rows_counted = counted_left;
        chains_fit = passes_append entry_fits (take span.entry t.entries.items) _ (passes_take entry_fits span.entry t.entries.items before.chains_fit) (passes_drop entry_fits (suc span.entry) t.entries.items before.chains_fit);
        rows_fit = passes_append row_fits (take span.first t.rows.items) _ (passes_take row_fits span.first t.rows.items before.rows_fit) (passes_drop row_fits (span.first + span.steps) t.rows.items before.rows_fit);
        responses_fit = forgotten_fits (removed t span);
      }

  pub contents_dropped : contents (removed t span) ≡ dropped (contents t) id
  contents_dropped =
      let chains : chains_of (removed t span) ≡ without id (chains_of t) = rw (found.entry, found.first, found.steps) (without_is id t.entries.items t.rows.items before.rows_counted found.holds) in
      forgotten_anew (removed t span) counted_left ∙ ap anew chains

-- a drop's answer, with its step of the law over runs
pub record DropMade (answer : Meaning) (before after : Contents) (id : ℕ) (a : Answer) : Type 0 where
  pub value : a ≡ drop_answer before.chains id
  pub run : Keeps answer before (drop-call id) a after

pub drop_refused : (answer : Meaning) (s : Contents) (id : ℕ) → holds s.chains id ≡ false → DropMade answer s s id (Err IdUnknown)
drop_refused answer s id e = let value : Err IdUnknown ≡ drop_answer s.chains id = rw e in record { value = value; run = drop_refused_keeps answer s id IdUnknown value }

pub drop_accepted : (answer : Meaning) (s after : Contents) (id : ℕ) → holds s.chains id ≡ true → after ≡ dropped s id → DropMade answer s after id (Ok Done)
drop_accepted answer s after id e is = let value : Ok Done ≡ drop_answer s.chains id = rw e in record { value = value; run = rw is (drop_keeps answer s id value) }
