-- One chain more of a plan.
use Rattle.std.proofs.Common.{◌≡◌, ℕ, List, [], ◌∷◌, ◌++◌, length, replicate, None, Ok, sym, ap, ◌∙◌, subst}
use lib.ListN.{length-map, replicate-append-replicate}
use Rattle.std.proofs.lemmas.List.{append-nil}
use Rattle.records.specs.declared.fields.StepFields.{StepFields}
use Rattle.records.specs.declared.record.Chain.{Chain}
use Rattle.edf.specs.declared.EarliestDeadline.{EarliestDeadline}
use Rattle.fixed.specs.declared.FixedPriority.{FixedPriority}
use Rattle.mixed.specs.declared.mixture.Mixed.{Mixed}
use Rattle.law.specs.declared.answers.Reply.TheVariants.{Done}
use Rattle.law.specs.Assignments.{Held, rows_of, zeros}
use Rattle.law.specs.Runs.{Run, row_of, held_as}
use Rattle.law.specs.Runs.Call.{add}
use Rattle.law.specs.State.{Contents, added, anew, Leads, Keeps}
use Rattle.law.proofs.MoreChains.{length_rows_append}
use Rattle.plan.specs.Contents.{chains_of, contents}
use Rattle.table.specs.Drafts.{TablePlan, rule_of, Unsolved}

zeros_push : (cs : List Held) (c : Held) → zeros cs ++ replicate (length c.rows) 0 ≡ zeros (cs ++ c ∷ [])
zeros_push cs c =
    replicate-append-replicate {A = ℕ} (length (rows_of cs)) (length c.rows) 0
    ∙ ap (λ n. replicate n 0) (rw (length_rows_append cs (c ∷ []), append-nil c.rows))

-- a plan that took a chain
pub still_unsolved : (p q : TablePlan) (c : Chain) (steps : List StepFields) → q.rule ≡ p.rule → contents q.table ≡ added (contents p.table) c steps →
    Unsolved p → Keeps (rule_of p.rule.letters) (contents p.table) (add c steps) (Ok Done) (contents q.table) → Unsolved q
still_unsolved p q c steps rule after u keeps =
    let cs = chains_of p.table in
    let held = held_as c.fields steps in
    let start : (contents p.table).start ≡ zeros cs = ap (λ s. s.start) u.unsolved in
    let rows : length steps ≡ length held.rows = sym (length-map steps (row_of c.fields.period)) in
    let new : (contents p.table).start ++ replicate (length steps) 0 ≡ zeros (cs ++ held ∷ []) = ap (λ xs. xs ++ replicate (length steps) 0) start ∙ ap (λ n. zeros cs ++ replicate n 0) rows ∙ zeros_push cs held in
    let with-start : List ℕ → Contents = λ xs. record { chains = cs ++ held ∷ []; start = xs; standing = None } in
    let run : Run = (add c steps, Ok Done) ∷ u.run.0 in
    record {
      unsolved = after ∙ ap with-start new ∙ ap anew (sym (ap (λ s. s.chains) after));
      run = (run, subst (λ (r : Mixed EarliestDeadline FixedPriority). Leads (rule_of r.letters) run (contents q.table)) (sym rule) (keeps u.run.0 u.run.1));
    }
