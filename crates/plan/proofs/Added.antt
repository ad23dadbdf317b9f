-- What a plan holds after an add, and the add's step of the law over runs.
use Rattle.std.proofs.Common.{◌≡◌, ◌+◌, ◌<◌, ◌≤◌, Bool, true, List, [], ◌∷◌, ◌++◌, map, length, replicate, Some, None, Ok, Err, sym, refl, ap, ap₂, ◌∙◌, arith, length-append}
use lib.ListN.{length-map, length-replicate}
use Rattle.records.specs.declared.fields.RecordFault.{RecordFault}
use Rattle.records.specs.declared.fields.StepFields.{StepFields}
use Rattle.records.specs.declared.record.Chain.{Chain}
use Rattle.records.specs.Ranges.{row_fits}
use Rattle.std.proofs.lemmas.Bool.{and_parts}
use Rattle.std.specs.List.{list_all}
use Rattle.rules.specs.Rules.{Meaning}
use Rattle.rules.proofs.Lists.{passes_from}
use Rattle.law.specs.declared.answers.Reply.TheVariants.{Done}
use Rattle.law.specs.declared.answers.Refusal.{Refusal}
use Rattle.law.specs.declared.answers.Refusal.TheVariants.{Field}
use Rattle.law.specs.Assignments.{Held}
use Rattle.law.specs.Runs.{Answer, row_of, first_bad, room_answer, add_answer}
use Rattle.law.specs.Runs.Call.{add}
use Rattle.law.specs.State.{Contents, added, Keeps}
use Rattle.law.proofs.Chains.{Fits}
use Rattle.law.proofs.RunLaw.{add_done, rows_fit}
use Rattle.law.proofs.Steps.{add_keeps, add_refused_keeps}
use Rattle.plan.specs.declared.table.Table.{Table}
use Rattle.plan.specs.Contents.{chains_of, contents, steps_in, entry_fits, response_fits, appended}
use Rattle.plan.proofs.Memory.{rows_are, length_chains, chains_push, steps_push}
use Rattle.plan.proofs.Solving.{zeros_pass, Sound}
use Rattle.plan.proofs.Timing.{fitting, fits_in}

-- ## What an add answers

pub field_refused : (cs : List Held) (c : Chain) (steps : List StepFields) (fault : RecordFault) → Some fault.place ≡ first_bad steps → Err (Field fault) ≡ add_answer cs c steps
field_refused cs c steps fault e = rw (← e)

pub room_refused : (cs : List Held) (c : Chain) (steps : List StepFields) (a : Answer) → None ≡ first_bad steps → a ≡ room_answer cs c.fields.id (length steps) → a ≡ add_answer cs c steps
room_refused cs c steps a n e = rw (← n) e

-- an add's answer, with its step of the law over runs
pub record AddMade (answer : Meaning) (before after : Contents) (c : Chain) (steps : List StepFields) (a : Answer) : Type 0 where
  pub value : a ≡ add_answer before.chains c steps
  pub run : Keeps answer before (add c steps) a after

pub add_refused : (answer : Meaning) (s : Contents) (c : Chain) (steps : List StepFields) (why : Refusal) → Err why ≡ add_answer s.chains c steps → AddMade answer s s c steps (Err why)
add_refused answer s c steps why e = record { value = e; run = add_refused_keeps answer s c steps why e }

-- ## What a plan holds after it

module _ (t : Table) (counted : steps_in t.entries.items ≡ length t.rows.items) (c : Chain) (steps : List StepFields) where
  pub contents_added : contents (appended t c.fields steps) ≡ added (contents t) c steps
  contents_added =
      let push = chains_push t.entries.items (record { fields = c.fields; steps = length steps }) t.rows.items (map (row_of c.fields.period) steps) counted (sym (length-map steps (row_of c.fields.period))) in
      rw push refl

  pub add_accepted : (answer : Meaning) → Ok Done ≡ add_answer (chains_of t) c steps → AddMade answer (contents t) (contents (appended t c.fields steps)) c steps (Ok Done)
  add_accepted answer e = record { value = e; run = rw contents_added (add_keeps answer (contents t) c steps e) }

pub passes_append : {A : Type 0} (p : A → Bool) (xs ys : List A) → list_all p xs ≡ true → list_all p ys ≡ true → list_all p (xs ++ ys) ≡ true
passes_append p [] ys e f = f
passes_append p (x ∷ xs) ys e f = let (a, b) = and_parts (p x) (list_all p xs) e in rw a (passes_append p xs ys b f)

pub sound_added : (t : Table) → Sound t → (c : Chain) (steps : List StepFields) → first_bad steps ≡ None → length t.entries.items < 16 → length t.rows.items + length steps ≤ 64 → Sound (appended t c.fields steps)
sound_added t s c steps good chains rows =
    let counted = s.rows_counted in
    let push = steps_push t.entries.items (record { fields = c.fields; steps = length steps }) in
    let more = map (row_of c.fields.period) steps in
    let l = length-append t.rows.items more in
    let m = length-map steps (row_of c.fields.period) in
    let entries = length-append t.entries.items (record { fields = c.fields; steps = length steps } ∷ []) in
    let before = fitting t t.responses.items s.responses_fit in
    let one_each = length-append t.responses.items _ ∙ ap₂ ◌+◌ before.one_each (length-replicate _ _ ∙ sym m) ∙ sym l in
    record {
      few_chains = omega arith;
      few_rows = omega arith;
      rows_counted = omega arith;
      chains_fit = passes_append entry_fits t.entries.items (record { fields = c.fields; steps = length steps } ∷ []) s.chains_fit (rw c.in_range);
      rows_fit = passes_append row_fits t.rows.items more s.rows_fit (passes_from row_fits Fits (λ r h. h) more (rows_fit c steps good));
      responses_fit = fits_in (appended t c.fields steps) _ one_each (passes_append response_fits t.responses.items (replicate (length steps) 0) before.small (zeros_pass (length steps)));
    }

-- what an accepted add has tested, in terms of the memory
pub record Tested (t : Table) (steps : List StepFields) : Type 0 where
  pub fields : first_bad steps ≡ None
  pub chains : length t.entries.items < 16
  pub rows : length t.rows.items + length steps ≤ 64

pub tested : (t : Table) → steps_in t.entries.items ≡ length t.rows.items → (c : Chain) (steps : List StepFields) → Ok Done ≡ add_answer (chains_of t) c steps → Tested t steps
tested t counted c steps e =
    let d = add_done (chains_of t) c steps e in
    let rows = ap length (rows_are t.entries.items t.rows.items counted) in
    let chains = length_chains t.entries.items t.rows.items in
    record { fields = d.fields; chains = omega (arith, d.chains); rows = omega (arith, d.rows) }
