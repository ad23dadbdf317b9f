-- Records that are taken to the end are the lines of a table that keeps what it must.
use Rattle.std.proofs.Common.{◌≡◌, ℕ, ◌+◌, true, List, [], ◌∷◌, ◌++◌, map, Ok, sym, refl, ap, ◌∙◌, arith}
use Rattle.std.proofs.lemmas.List.{append-nil, append_assoc}
use Rattle.records.specs.declared.fields.ChainFields.{ChainFields}
use Rattle.records.specs.Ranges.{bad_chain_field, chain_fits}
use Rattle.lines.specs.declared.line.Line.{Line}
use Rattle.lines.specs.declared.line.Line.TheVariants.{Node, Chain, Step}
use Rattle.lines.specs.declared.line.NodeLine.{NodeLine}
use Rattle.lines.specs.Faults.{on_line}
use Rattle.reading.specs.Reading.{Panel, Draft, numbered, fit_answer, step_answer, give, begun, with_chain, taken}
use Rattle.reading.specs.Reading.Draft.{of_nodes, of_chains}
use Rattle.sheets.specs.Sheets.{Written, Sheet, chain_lines, all_chain_lines, sheet_lines, panel_of, Every, Apart, NodeFits, StepFits}
use Rattle.sheets.proofs.Entries.{sheet, Kept, chain_passed}
use Rattle.sheets.proofs.Nodes.{nodes_of, give_passed}
use Rattle.sheets.proofs.Numbered.{every_append, node_number, apart_push}
use Rattle.lines.proofs.Passing.{no_fault, same_ok, then_passed, mapped_passed}
use Rattle.sheets.proofs.Records.{run}
use Rattle.sheets.proofs.Steps.{fit_passed, step_passed, begun_with, with_more, with_step_is}

-- ## What was read so far

-- a chain's line alone
abbrev pub bare : ChainFields → Written
bare fields = record { fields = fields; steps = [] }

-- these nodes, these chains that are complete, and this chain with the steps that it has so far, whose line has the number n
abbrev pub stage : List NodeLine → List Written → ℕ → Written → Draft
stage xs cs n c = of_chains (nodes_of xs).given (panel_of (sheet xs cs)) (begun_with n c)

-- the lines that were read, where one more is moved to them from those behind
map_moved : {A B : Type 0} (f : A → B) (xs : List A) (x : A) (rest : List B) → map f xs ++ f x ∷ rest ≡ map f (xs ++ x ∷ []) ++ rest
map_moved f [] x rest = refl
map_moved f (y ∷ xs) x rest = ap (λ ls. f y ∷ ls) (map_moved f xs x rest)

chain_moved : (cs : List Written) (c : Written) (rest : List Line) → all_chain_lines cs ++ (chain_lines c ++ rest) ≡ all_chain_lines (cs ++ c ∷ []) ++ rest
chain_moved [] c rest = ap (λ ls. ls ++ rest) (sym (append-nil (chain_lines c)))
chain_moved (d ∷ cs) c rest =
    append_assoc (chain_lines d) (all_chain_lines cs) (chain_lines c ++ rest) ∙ ap (λ ls. chain_lines d ++ ls) (chain_moved cs c rest)
    ∙ sym (append_assoc (chain_lines d) (all_chain_lines (cs ++ c ∷ [])) rest)

-- ## What was taken to the end

-- the lines of a table, and what that table says
pub record Taken (ls : List Line) (p : Panel) : Type 0 where
  pub table : Sheet
  pub lines : ls ≡ sheet_lines table
  pub kept : Kept table
  pub says : p ≡ panel_of table

taken_as : {ls ms : List Line} {p : Panel} → ls ≡ ms → Taken ms p → Taken ls p
taken_as e t = record { table = t.table; lines = e ∙ t.lines; kept = t.kept; says = t.says }

from_chains : (rs : List Line) (k n : ℕ) (xs : List NodeLine) (cs : List Written) (c : Written) (p : Panel) → Kept (sheet xs cs) → chain_fits c.fields ≡ true → Every (StepFits xs) c.steps → run k (stage xs cs n c) rs ≡ Ok p → Taken (map Node xs ++ (all_chain_lines cs ++ (chain_lines c ++ rs))) p
from_chains [] k n xs cs c p kept fits steps h =
    let (more, says) = chain_passed xs cs n c p kept fits steps h in
    record {
      table = sheet xs (cs ++ c ∷ []);
      lines = ap (λ ls. map Node xs ++ ls) (chain_moved cs c [] ∙ append-nil (all_chain_lines (cs ++ c ∷ [])));
      kept = more;
      says = sym says;
    }
from_chains (Node x ∷ rs) k n xs cs c p kept fits steps h = absurd (no_fault h)
from_chains (Chain fields ∷ rs) k n xs cs c p kept fits steps h =
    let (e, took, rest) = then_passed (taken k (stage xs cs n c) (Chain fields)) (λ e. run (k + 1) e rs) p h in
    let (u, range, entry) = then_passed (numbered k (fit_answer (bad_chain_field fields))) _ e took in
    let (q, entered, is) = then_passed (with_chain (panel_of (sheet xs cs)) (begun_with n c)) (λ q. Ok (of_chains (nodes_of xs).given q (begun k fields))) e entry in
    let (more, says) = chain_passed xs cs n c q kept fits steps entered in
    let now : stage xs (cs ++ c ∷ []) k (bare fields) ≡ e = ap (λ q. of_chains (nodes_of xs).given q (begun k fields)) says ∙ same_ok is in
    taken_as (ap (λ ls. map Node xs ++ ls) (chain_moved cs c (Chain fields ∷ rs))) (
    from_chains rs (k + 1) k xs (cs ++ c ∷ []) (bare fields) p more (fit_passed (bad_chain_field fields) u (mapped_passed (on_line k) (fit_answer (bad_chain_field fields)) u range)) tt
    (ap (λ e. run (k + 1) e rs) now ∙ rest)
    )
from_chains (Step s ∷ rs) k n xs cs c p kept fits steps h =
    let (e, took, rest) = then_passed (taken k (stage xs cs n c) (Step s)) (λ e. run (k + 1) e rs) p h in
    let (u, good, is) = then_passed (numbered k (step_answer (nodes_of xs).given s)) _ e took in
    let now : stage xs cs n (with_more c s) ≡ e = ap (of_chains (nodes_of xs).given (panel_of (sheet xs cs))) (sym (with_step_is n c s)) ∙ same_ok is in
    let more = step_passed xs s u (mapped_passed (on_line k) (step_answer (nodes_of xs).given s) u good) in
    taken_as (ap (λ ls. map Node xs ++ (all_chain_lines cs ++ (Chain c.fields ∷ ls))) (map_moved Step c.steps s rs)) (
    from_chains rs (k + 1) n xs cs (with_more c s) p kept fits (every_append (StepFits xs) c.steps (s ∷ []) steps (more, tt)) (ap (λ e. run (k + 1) e rs) now ∙ rest)
    )

nodes_kept : (xs : List NodeLine) → Every NodeFits xs → Apart node_number xs → Kept (sheet xs [])
nodes_kept xs fit once = record { nodes = fit; nodes_once = once; chains = tt; ids_once = tt; few_chains = omega arith; few_steps = omega arith }

pub from_nodes : (rs : List Line) (k : ℕ) (xs : List NodeLine) (p : Panel) → Every NodeFits xs → Apart node_number xs → run k (of_nodes (nodes_of xs)) rs ≡ Ok p → Taken (map Node xs ++ rs) p
from_nodes [] k xs p fit once h = record { table = sheet xs []; lines = refl; kept = nodes_kept xs fit once; says = sym (same_ok h) }
from_nodes (Node x ∷ rs) k xs p fit once h =
    let (e, took, rest) = then_passed (taken k (of_nodes (nodes_of xs)) (Node x)) (λ e. run (k + 1) e rs) p h in
    let (m, gave, is) = then_passed (numbered k (give (nodes_of xs) x)) (λ m. Ok (of_nodes m)) e took in
    let (fits, new, now) = give_passed xs x m (mapped_passed (on_line k) (give (nodes_of xs) x) m gave) in
    taken_as (map_moved Node xs x rs) (
    from_nodes rs (k + 1) (xs ++ x ∷ []) p (every_append NodeFits xs (x ∷ []) fit (fits, tt)) (apart_push node_number xs x once new)
    (ap (λ e. run (k + 1) e rs) (ap of_nodes now ∙ same_ok is) ∙ rest)
    )
from_nodes (Chain fields ∷ rs) k xs p fit once h =
    let (e, took, rest) = then_passed (taken k (of_nodes (nodes_of xs)) (Chain fields)) (λ e. run (k + 1) e rs) p h in
    let (u, range, is) = then_passed (numbered k (fit_answer (bad_chain_field fields))) _ e took in
    from_chains rs (k + 1) k xs [] (bare fields) p (nodes_kept xs fit once) (fit_passed (bad_chain_field fields) u (mapped_passed (on_line k) (fit_answer (bad_chain_field fields)) u range)) tt
    (ap (λ e. run (k + 1) e rs) (same_ok is) ∙ rest)
from_nodes (Step s ∷ rs) k xs p fit once h = absurd (no_fault h)
