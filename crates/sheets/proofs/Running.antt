-- The lines of a table that keeps what it must are taken to the end.
use Rattle.std.proofs.Common.{◌≡◌, ℕ, ◌+◌, List, [], ◌∷◌, ◌++◌, map, Ok, Result, sym, refl, ap, ◌∙◌, arith}
use Rattle.std.proofs.lemmas.List.{append-nil, append_assoc}
use Rattle.records.specs.declared.fields.StepFields.{StepFields}
use Rattle.records.specs.Ranges.{bad_chain_field}
use Rattle.records.proofs.InRange.{chain_in_range, step_in_range}
use Rattle.lines.specs.declared.faults.TableFault.{TableFault}
use Rattle.lines.specs.declared.line.Line.{Line}
use Rattle.lines.specs.declared.line.Line.TheVariants.{Node, Chain, Step}
use Rattle.lines.specs.declared.line.NodeLine.{NodeLine}
use Rattle.lines.specs.Faults.{on_line}
use Rattle.reading.specs.Reading.{Panel, Draft, no_node, begun, taken}
use Rattle.reading.specs.Reading.Draft.{of_nodes, of_chains}
use Rattle.sheets.specs.Sheets.{Written, Sheet, chain_lines, all_chain_lines, sheet_lines, panel_of, Every, Apart, NodeFits, StepFits, ChainFits}
use Rattle.sheets.proofs.Entries.{sheet, Kept, chain_passes}
use Rattle.sheets.proofs.Nodes.{nodes_of, give_passes}
use Rattle.sheets.proofs.Numbered.{every_append, every_back, node_number, apart_before}
use Rattle.lines.proofs.Passing.{then_passes, mapped_passes}
use Rattle.sheets.proofs.Records.{SmallLine, run}
use Rattle.sheets.proofs.Steps.{fit_passes, step_passes, with_more, with_step_is}
use Rattle.sheets.proofs.Taking.{bare, stage}

-- ## The lines of one kind after another; what follows is told for every number of the next line

abbrev with_steps : Written → List StepFields → Written
with_steps c ss = record { fields = c.fields; steps = ss }

step_taken : (k n : ℕ) (xs : List NodeLine) (cs : List Written) (c : Written) (s : StepFields) → StepFits xs s → taken k (stage xs cs n c) (Step s) ≡ Ok (stage xs cs n (with_more c s))
step_taken k n xs cs c s fits =
    then_passes _ (mapped_passes (on_line k) (step_passes xs s fits)) (ap (λ b. Ok (of_chains (nodes_of xs).given (panel_of (sheet xs cs)) b)) (with_step_is n c s))

steps_run : (ts all : List StepFields) (k n : ℕ) (xs : List NodeLine) (cs : List Written) (c : Written) (rest : List Line) (r : Result Panel TableFault) → c.steps ++ ts ≡ all → Every (StepFits xs) ts → ((j : ℕ) → run j (stage xs cs n (with_steps c all)) rest ≡ r) → run k (stage xs cs n c) (map Step ts ++ rest) ≡ r
steps_run [] all k n xs cs c rest r e fit h = ap (λ ss. run k (stage xs cs n (with_steps c ss)) rest) (sym (append-nil c.steps) ∙ e) ∙ h k
steps_run (t ∷ ts) all k n xs cs c rest r e fit h =
    then_passes (λ d. run (k + 1) d (map Step ts ++ rest)) (step_taken k n xs cs c t fit.0)
    (steps_run ts all (k + 1) n xs cs (with_more c t) rest r (append_assoc c.steps (t ∷ []) ts ∙ e) fit.1 h)

-- a chain's own line and its steps
chain_run : (c : Written) (k : ℕ) (xs : List NodeLine) (cs : List Written) (d : Draft) (rest : List Line) (r : Result Panel TableFault) → taken k d (Chain c.fields) ≡ Ok (stage xs cs k (bare c.fields)) → ChainFits xs c → ((j : ℕ) → run j (stage xs cs k c) rest ≡ r) → run k d (chain_lines c ++ rest) ≡ r
chain_run c k xs cs d rest r took fits h =
    then_passes (λ e. run (k + 1) e (map Step c.steps ++ rest)) took (steps_run c.steps c.steps (k + 1) k xs cs (bare c.fields) rest r refl fits.steps h)

chains_run : (ds : List Written) (k n : ℕ) (xs : List NodeLine) (cs : List Written) (c : Written) → Kept (sheet xs (cs ++ c ∷ ds)) → run k (stage xs cs n c) (all_chain_lines ds) ≡ Ok (panel_of (sheet xs (cs ++ c ∷ ds)))
chains_run [] k n xs cs c kept = chain_passes xs cs n c [] kept
chains_run (d ∷ ds) k n xs cs c kept =
    let fits = (every_back (ChainFits xs) cs (c ∷ d ∷ ds) kept.chains).1.0 in
    let moved : (cs ++ c ∷ []) ++ d ∷ ds ≡ cs ++ c ∷ d ∷ ds = append_assoc cs (c ∷ []) (d ∷ ds) in
    let took : taken k (stage xs cs n c) (Chain d.fields) ≡ Ok (stage xs (cs ++ c ∷ []) k (bare d.fields)) =
    then_passes _ (mapped_passes (on_line k) (fit_passes (bad_chain_field d.fields) fits.fields))
    (then_passes (λ q. Ok (of_chains (nodes_of xs).given q (begun k d.fields))) (chain_passes xs cs n c (d ∷ ds) kept) refl) in
    chain_run d k xs (cs ++ c ∷ []) (stage xs cs n c) (all_chain_lines ds) (Ok (panel_of (sheet xs (cs ++ c ∷ d ∷ ds)))) took fits
    (λ j. chains_run ds j k xs (cs ++ c ∷ []) d (rw (← moved) at kept) ∙ ap (λ es. Ok (panel_of (sheet xs es))) moved)

nodes_run : (ys all : List NodeLine) (k : ℕ) (xs : List NodeLine) (rest : List Line) (r : Result Panel TableFault) → xs ++ ys ≡ all → Every NodeFits ys → Apart node_number all → ((j : ℕ) → run j (of_nodes (nodes_of all)) rest ≡ r) → run k (of_nodes (nodes_of xs)) (map Node ys ++ rest) ≡ r
nodes_run [] all k xs rest r e fit once h = ap (λ zs. run k (of_nodes (nodes_of zs)) rest) (sym (append-nil xs) ∙ e) ∙ h k
nodes_run (y ∷ ys) all k xs rest r e fit once h =
    let new = apart_before node_number xs y ys (rw (← e) at once) in
    then_passes (λ d. run (k + 1) d (map Node ys ++ rest)) (then_passes (λ m. Ok (of_nodes m)) (mapped_passes (on_line k) (give_passes xs y fit.0 new)) refl)
    (nodes_run ys all (k + 1) (xs ++ y ∷ []) rest r (append_assoc xs (y ∷ []) ys ∙ e) fit.1 once h)

after_nodes : (cs : List Written) (k : ℕ) (xs : List NodeLine) → Kept (sheet xs cs) → run k (of_nodes (nodes_of xs)) (all_chain_lines cs) ≡ Ok (panel_of (sheet xs cs))
after_nodes [] k xs kept = refl
after_nodes (c ∷ cs) k xs kept =
    let fits = kept.chains.0 in
    chain_run c k xs [] (of_nodes (nodes_of xs)) (all_chain_lines cs) (Ok (panel_of (sheet xs (c ∷ cs)))) (then_passes _ (mapped_passes (on_line k) (fit_passes (bad_chain_field c.fields) fits.fields)) refl) fits
    (λ j. chains_run cs j k xs [] c kept)

pub sheet_run : (s : Sheet) → Kept s → run 1 (of_nodes no_node) (sheet_lines s) ≡ Ok (panel_of s)
sheet_run s kept = nodes_run s.nodes s.nodes 1 [] (all_chain_lines s.chains) (Ok (panel_of s)) refl kept.nodes kept.nodes_once (λ j. after_nodes s.chains j s.nodes kept)

-- ## Every number has at most seven digits

nodes_small : (xs : List NodeLine) → Every NodeFits xs → Every SmallLine (map Node xs)
nodes_small [] p = tt
nodes_small (x ∷ xs) p = let f = p.0 in ((omega arith, tt), nodes_small xs p.1)

steps_small : (xs : List NodeLine) (ss : List StepFields) → Every (StepFits xs) ss → Every SmallLine (map Step ss)
steps_small xs [] p = tt
steps_small xs (s ∷ ss) p =
    let r = step_in_range s p.0.0 in
    ((omega arith, (omega arith, (omega arith, (omega arith, (omega arith, (omega arith, tt)))))), steps_small xs ss p.1)

chains_small : (xs : List NodeLine) (cs : List Written) → Every (ChainFits xs) cs → Every SmallLine (all_chain_lines cs)
chains_small xs [] p = tt
chains_small xs (c ∷ cs) p =
    let r = chain_in_range c.fields p.0.fields in (
      (omega arith, (omega arith, (omega arith, (omega arith, tt)))),
      every_append SmallLine (map Step c.steps) (all_chain_lines cs) (steps_small xs c.steps p.0.steps) (chains_small xs cs p.1),
    )

pub sheet_small : (s : Sheet) → Kept s → Every SmallLine (sheet_lines s)
sheet_small s kept = every_append SmallLine (map Node s.nodes) (all_chain_lines s.chains) (nodes_small s.nodes kept.nodes) (chains_small s.nodes s.chains kept.chains)
