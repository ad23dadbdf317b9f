-- A table can be told from its lines, and the lines from their bytes.
use Rattle.std.proofs.Common.{◌≡◌, List, [], ◌∷◌, ◌++◌, map, Ok, Result, sym, refl, ap, ◌∙◌, ap₂}
use Rattle.records.specs.declared.fields.StepFields.{StepFields}
use Rattle.lines.specs.declared.faults.LineFault.{LineFault}
use Rattle.lines.specs.declared.line.Line.{Line}
use Rattle.lines.specs.declared.line.Line.TheVariants.{Node, Chain, Step}
use Rattle.lines.specs.declared.line.NodeLine.{NodeLine}
use Rattle.lines.specs.Lines.{line_of}
use Rattle.lines.specs.Writing.{line_bytes}
use Rattle.sheets.specs.Sheets.{Written, Sheet, all_chain_lines, sheet_lines, Every}
use Rattle.sheets.proofs.Entries.{sheet}
use Rattle.sheets.proofs.Records.{SmallLine, line_back}

-- ## The table of these lines

abbrev nodes_in : List Line → List NodeLine
nodes_in [] = []
nodes_in (Node x ∷ ls) = x ∷ nodes_in ls
nodes_in (Chain fields ∷ ls) = nodes_in ls
nodes_in (Step s ∷ ls) = nodes_in ls

-- the steps before the first chain's line
abbrev steps_in : List Line → List StepFields
steps_in [] = []
steps_in (Node x ∷ ls) = steps_in ls
steps_in (Chain fields ∷ ls) = []
steps_in (Step s ∷ ls) = s ∷ steps_in ls

abbrev chains_in : List Line → List Written
chains_in [] = []
chains_in (Node x ∷ ls) = chains_in ls
chains_in (Chain fields ∷ ls) = record { fields = fields; steps = steps_in ls } ∷ chains_in ls
chains_in (Step s ∷ ls) = chains_in ls

no_node_in_steps : (ss : List StepFields) (rest : List Line) → nodes_in (map Step ss ++ rest) ≡ nodes_in rest
no_node_in_steps [] rest = refl
no_node_in_steps (s ∷ ss) rest = no_node_in_steps ss rest

no_node_in_chains : (cs : List Written) → nodes_in (all_chain_lines cs) ≡ []
no_node_in_chains [] = refl
no_node_in_chains (c ∷ cs) = no_node_in_steps c.steps (all_chain_lines cs) ∙ no_node_in_chains cs

nodes_back : (xs : List NodeLine) (cs : List Written) → nodes_in (map Node xs ++ all_chain_lines cs) ≡ xs
nodes_back [] cs = no_node_in_chains cs
nodes_back (x ∷ xs) cs = ap (λ ys. x ∷ ys) (nodes_back xs cs)

no_step_in_chains : (cs : List Written) → steps_in (all_chain_lines cs) ≡ []
no_step_in_chains [] = refl
no_step_in_chains (c ∷ cs) = refl

steps_back : (ss : List StepFields) (cs : List Written) → steps_in (map Step ss ++ all_chain_lines cs) ≡ ss
steps_back [] cs = no_step_in_chains cs
steps_back (s ∷ ss) cs = ap (λ ts. s ∷ ts) (steps_back ss cs)

past_steps : (ss : List StepFields) (rest : List Line) → chains_in (map Step ss ++ rest) ≡ chains_in rest
past_steps [] rest = refl
past_steps (s ∷ ss) rest = past_steps ss rest

past_nodes : (xs : List NodeLine) (rest : List Line) → chains_in (map Node xs ++ rest) ≡ chains_in rest
past_nodes [] rest = refl
past_nodes (x ∷ xs) rest = past_nodes xs rest

chains_back : (cs : List Written) → chains_in (all_chain_lines cs) ≡ cs
chains_back [] = refl
chains_back (c ∷ cs) =
    ap₂ (λ ss ds. record { fields = c.fields; steps = ss } ∷ ds) (steps_back c.steps cs) (past_steps c.steps (all_chain_lines cs) ∙ chains_back cs)

sheet_back : (s : Sheet) → sheet (nodes_in (sheet_lines s)) (chains_in (sheet_lines s)) ≡ s
sheet_back s = ap₂ sheet (nodes_back s.nodes s.chains) (past_nodes s.nodes (all_chain_lines s.chains) ∙ chains_back s.chains)

pub same_sheet : (s t : Sheet) → sheet_lines s ≡ sheet_lines t → s ≡ t
same_sheet s t e = sym (sheet_back s) ∙ ap (λ ls. sheet (nodes_in ls) (chains_in ls)) e ∙ sheet_back t

-- ## The records of these bytes

oks_back : (rs : List Line) → Every SmallLine rs → map line_of (map line_bytes rs) ≡ map Ok rs
oks_back [] s = refl
oks_back (r ∷ rs) s = ap₂ ◌∷◌ (line_back r s.0) (oks_back rs s.1)

same_oks : (rs ts : List Line) → ◌≡◌ {A = List (Result Line LineFault)} (map Ok rs) (map Ok ts) → rs ≡ ts
same_oks [] [] e = refl
same_oks [] (t ∷ ts) e = cc
same_oks (r ∷ rs) [] e = cc
same_oks (r ∷ rs) (t ∷ ts) e = ap₂ ◌∷◌ (cc) (same_oks rs ts (cc))

pub same_records : (rs ts : List Line) → Every SmallLine rs → Every SmallLine ts → map line_bytes rs ≡ map line_bytes ts → rs ≡ ts
same_records rs ts p q e = same_oks rs ts (sym (oks_back rs p) ∙ ap (map line_of) e ∙ oks_back ts q)
