-- What the report on a solved panel means.
use Rattle.std.proofs.Common.{◌≡◌, ℕ, List, ◌∷◌, Some, None, Ok, Err, Option, Result, sym, ap, subst, arith}
use Rattle.std.specs.Result.{result_unwrap_or}
use Rattle.rules.specs.Rules.{Meaning, Laws}
use Rattle.mixed.specs.declared.letters.Letters.{Letters}
use Rattle.edf.specs.Laws as edf
use Rattle.edf.specs.Edf.{earliest_deadline}
use Rattle.fixed.specs.Laws as fixed
use Rattle.fixed.specs.Fixed.{fixed_priority}
use Rattle.mixed.specs.Laws.{mixture_laws}
use Rattle.law.specs.declared.answers.Reply.TheVariants.{Solved}
use Rattle.law.specs.declared.answers.Refusal.TheVariants.{NothingCarries}
use Rattle.law.specs.Assignments.{zeros, Carries, Least, Rounds}
use Rattle.law.specs.Runs.{Run, held, Counted, Solves, finds, finds_none, Start, after_solve}
use Rattle.law.specs.Runs.Call.{solve}
use Rattle.law.specs.State.{Outcome, anew, solve_answer, solved_with, Leads}
use Rattle.law.proofs.RunLaw.{start_same}
use Rattle.law.proofs.Steps.{solve_keeps}
use Rattle.lines.specs.declared.faults.TableFault.{TableFault}
use Rattle.reading.specs.Reading.{Panel, no_panel, table_of, accepted}
use Rattle.table.specs.Drafts.{TablePlan, rule_of, panel_in, Unsolved}
use Rattle.writing.specs.Writing.{after_write}
use Rattle.report.specs.Reports.{fault_bytes, panel_rule, panel_outcome, solved_verdict, solved_bytes, verdict_on, bytes_on, EndToEnd, first_fault, nothing_carries, least_listed}

rule_laws : (letters : Letters) → Laws (rule_of letters)
rule_laws letters = mixture_laws letters earliest_deadline fixed_priority edf.deadline_laws fixed.fixed_laws

module _ (answer : Meaning) where
  found : {h : Run} {n : ℕ} → Solves answer h (Ok (Solved n)) → (xs : List ℕ) × Least answer (held h) xs × Counted answer h n (Some xs)
  found (finds {xs = xs} least counted) = (xs, least, counted)

  none_found : {h : Run} {n : ℕ} → Solves answer h (Err (NothingCarries n)) → ((xs : List ℕ) → Carries answer (held h) xs → ⊥) × Counted answer h n None
  none_found (finds_none none counted) = (none, counted)

  -- the rounds of a solve that starts from zeros
  from_zeros : {h : Run} {n : ℕ} {end : Option (List ℕ)} → Start answer h (zeros (held h)) → Counted answer h n end → Rounds answer (held h) (zeros (held h)) n end
  from_zeros {h} {n} {end} start counted = subst (λ xs. Rounds answer (held h) xs n end) (start_same counted.starts start) counted.made

module _ (text : List ℕ) (p : Panel) (h : Run) (read : table_of text ≡ Ok p) (leads : Leads (panel_rule p) h (anew p.chains)) where
  start : Start (panel_rule p) h (zeros (held h))
  start = rw leads.chains at leads.starts

  by_outcome : (n : ℕ) (end : Option (List ℕ)) → let o : Outcome = record { rounds = n; responses = end } in
      Leads (panel_rule p) ((solve, solve_answer o) ∷ h) (solved_with (anew p.chains) o) → EndToEnd text (solved_verdict o) (solved_bytes p o)
  by_outcome n (Some xs) after =
      let answer = panel_rule p in
      let f = found answer after.lawful.0 in
      let same = start_same (after_solve f.1) after.starts in
      let least : Least answer (held h) xs = subst (Least answer (held h)) same f.1 in
      let rounds : Rounds answer (held h) (zeros (held h)) n (Some xs) = subst (λ ys. Rounds answer (held h) (zeros (held h)) n (Some ys)) same (from_zeros answer start f.2) in
      least_listed read (rw leads.chains least) (rw leads.chains rounds)
  by_outcome n None after =
      let answer = panel_rule p in
      let f = none_found answer after.lawful.0 in
      nothing_carries read (rw leads.chains f.0) (rw leads.chains (from_zeros answer start f.1))

  meaning : EndToEnd text (solved_verdict (panel_outcome p)) (solved_bytes p (panel_outcome p))
  meaning =
      let o = panel_outcome p in
      by_outcome o.rounds o.responses (solve_keeps (panel_rule p) (rule_laws p.letters) (anew p.chains) h leads)

-- ## What a reader says of a text

pub read_fault : (r : Result Panel TableFault) (fault : TableFault) → Err fault ≡ accepted r → r ≡ Err fault
read_fault (Ok p) fault e = let z : ◌≡◌ {A = ℕ} 0 1 = cc in absurd (omega arith)
read_fault (Err f) fault e = (cc)

pub read_panel : (r : Result Panel TableFault) (p : Panel) → Ok tt ≡ accepted r → p ≡ result_unwrap_or r no_panel → r ≡ Ok p
read_panel (Ok q) p e same = ap Ok (sym same)
read_panel (Err f) p e same = let z : ◌≡◌ {A = ℕ} 0 1 = cc in absurd (omega arith)

-- the fault that a reader found is written
pub fault_written : (r : Result Panel TableFault) (fault : TableFault) (old new : List ℕ) → Err fault ≡ accepted r → new ≡ after_write old 0 (fault_bytes fault) → new ≡ after_write old 0 (bytes_on r)
fault_written r fault old new e after = rw (read_fault r fault e) after

pub fault_meaning : (text : List ℕ) (fault : TableFault) → Err fault ≡ accepted (table_of text) → EndToEnd text (verdict_on (table_of text)) (bytes_on (table_of text))
fault_meaning text fault e =
    let read = read_fault (table_of text) fault e in
    rw read (first_fault read)

pub plan_meaning : (text : List ℕ) (p : TablePlan) → Unsolved p → Ok tt ≡ accepted (table_of text) → panel_in p ≡ result_unwrap_or (table_of text) no_panel →
    EndToEnd text (verdict_on (table_of text)) (bytes_on (table_of text))
plan_meaning text p u e same =
    let read = read_panel (table_of text) (panel_in p) e same in
    let h = u.run.0 in
    let rule = rule_of p.rule.letters in
    rw read (meaning text (panel_in p) h read (subst (Leads rule h) u.unsolved u.run.1))
