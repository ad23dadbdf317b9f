-- What the text of a table gives: the letters of its nodes and its chains, or its first fault. Assumes nothing.
use Rattle.std.specs.Prelude.{ℕ, ◌+◌, ◌-◌, Bool, true, false, cond, List, [], ◌∷◌, ◌++◌, length, replicate, Some, None, Ok, Err, Option, Result, nat_lt, slice_index_or, slice_set}
use Rattle.std.specs.Result.{result_map_both}
use Rattle.records.specs.declared.fields.ChainFields.{ChainFields}
use Rattle.records.specs.declared.fields.StepFields.{StepFields}
use Rattle.records.specs.Ranges.{bad_chain_field, bad_step_field}
use Rattle.mixed.specs.declared.letters.Letters.{Letters}
use Rattle.mixed.specs.Letters.{all_E, with_letter}
use Rattle.law.specs.Assignments.{Held}
use Rattle.law.specs.Runs.{Answer, held_as, entry_answer}
use Rattle.lines.specs.declared.faults.Fault.TheVariants as fault
use Rattle.lines.specs.declared.faults.LineFault.{LineFault}
use Rattle.lines.specs.declared.faults.TableFault.{TableFault}
use Rattle.lines.specs.declared.line.Line.{Line}
use Rattle.lines.specs.declared.line.Line.TheVariants.{Node, Chain, Step}
use Rattle.lines.specs.declared.line.NodeLine.{NodeLine}
use Rattle.lines.specs.Faults.{fault_at, in_record, of_plan, on_line}
use Rattle.lines.specs.Lines.{◌then◌, line_of}
use Rattle.lines.specs.Texts.{text_answer, lines_of}

-- what an accepted text gives: the letters of the nodes, and the chains in their order
pub record Panel : Type 0 where
  pub letters : Letters
  pub chains : List Held

-- what an empty text gives: every letter is E, and there is no chain
abbrev pub no_panel : Panel
no_panel = record { letters = all_E; chains = [] }

-- ## What was read so far

-- the nodes given so far, and the letters; a node that is not given has the letter E
pub record Nodes : Type 0 where
  pub letters : Letters
  pub given : List Bool

abbrev pub no_node : Nodes
no_node = record { letters = all_E; given = replicate 8 false }

-- a node, numbered from 1, has been given
abbrev pub is_given : List Bool → ℕ → Bool
is_given given node = slice_index_or given (node - 1) false

-- a chain whose lines are being read: the number of its own line, its fields, and its steps so far
pub record Begun : Type 0 where
  pub line : ℕ
  pub fields : ChainFields
  pub steps : List StepFields

abbrev pub begun : ℕ → ChainFields → Begun
begun n fields = record { line = n; fields = fields; steps = [] }

-- the chain with one step more. A chain of more than 16 steps is refused whatever they are, so none is kept past the seventeenth
abbrev pub with_step : Begun → StepFields → Begun
with_step c s = record { line = c.line; fields = c.fields; steps = cond (nat_lt (length c.steps) 17) (c.steps ++ s ∷ []) c.steps }

-- node lines alone; or chain lines too: which nodes were given, what the chains that are complete give, and the chain whose lines are being read
pub data Draft : Type 0 where
  of_nodes : Nodes → Draft
  of_chains : List Bool → Panel → Begun → Draft

-- ## One line more

-- the fault of a line with the line's number
abbrev pub numbered : {A : Type 0} → ℕ → Result A LineFault → Result A TableFault
numbered n r = result_map_both (λ a. a) (on_line n) r

-- a line that may not stand here: 18
abbrev pub misplaced : ℕ → TableFault
misplaced n = on_line n (fault_at 0 fault.Misplaced)

-- a record's fault, if there is one, in its line: 1
abbrev pub fit_answer : Option ℕ → Result (Unit {0}) LineFault
fit_answer None = Ok tt
fit_answer (Some place) = Err (in_record (record { place = place }))

-- a node's letter: the node must be in range (1), and not given before (19)
abbrev pub give : Nodes → NodeLine → Result Nodes LineFault
give nodes x =
    result_map_both (λ letters. letters) in_record (with_letter nodes.letters x.node x.letter) then λ letters.
    cond (is_given nodes.given x.node) (Err (fault_at 2 fault.Node)) (Ok (record { letters = letters; given = slice_set nodes.given (x.node - 1) true }))

-- a step: its fields must be in range (1), and its node given (19)
abbrev pub step_answer : List Bool → StepFields → Result (Unit {0}) LineFault
step_answer given s =
    fit_answer (bad_step_field s) then λ _.
    cond (is_given given s.node) (Ok tt) (Err (fault_at 2 fault.Node))

-- a chain behind the others, unless the plan refuses it
abbrev pub entered : Panel → Begun → Answer → Result Panel LineFault
entered p c (Ok reply) = Ok (record { letters = p.letters; chains = p.chains ++ held_as c.fields c.steps ∷ [] })
entered p c (Err why) = Err (of_plan why)

abbrev pub entry : Panel → Begun → Result Panel LineFault
entry p c = entered p c (entry_answer p.chains c.fields c.steps)

-- the chain that is complete, behind the others, or 2 to 5 at the chain's own line
abbrev pub with_chain : Panel → Begun → Result Panel TableFault
with_chain p c = numbered c.line (entry p c)

-- line n, as a record, after what was read so far: node lines come first, and a step's line after its chain's.
-- A chain is complete where the next chain's line begins
abbrev pub taken : ℕ → Draft → Line → Result Draft TableFault
taken n (of_nodes nodes) (Node x) = numbered n (give nodes x) then λ more. Ok (of_nodes more)
taken n (of_nodes nodes) (Chain fields) =
    numbered n (fit_answer (bad_chain_field fields)) then λ _.
    Ok (of_chains nodes.given (record { letters = nodes.letters; chains = [] }) (begun n fields))
taken n (of_nodes nodes) (Step s) = Err (misplaced n)
taken n (of_chains given p c) (Node x) = Err (misplaced n)
taken n (of_chains given p c) (Chain fields) =
    numbered n (fit_answer (bad_chain_field fields)) then λ _.
    with_chain p c then λ q.
    Ok (of_chains given q (begun n fields))
taken n (of_chains given p c) (Step s) = numbered n (step_answer given s) then λ _. Ok (of_chains given p (with_step c s))

-- ## A whole text

-- the bytes of line n: a record, or the line's first fault (13 to 17)
abbrev pub line_taken : ℕ → Draft → List ℕ → Result Draft TableFault
line_taken n d bytes = numbered n (line_of bytes) then taken n d

-- lines, the first of which has the number n, up to the first fault
abbrev pub read_lines : ℕ → Draft → List (List ℕ) → Result Draft TableFault
read_lines n d [] = Ok d
read_lines n d (l ∷ ls) = line_taken n d l then λ e. read_lines (n + 1) e ls

-- after the last line the last chain is complete
abbrev pub finished : Draft → Result Panel TableFault
finished (of_nodes nodes) = Ok (record { letters = nodes.letters; chains = [] })
finished (of_chains given p c) = with_chain p c

-- what a text gives: it is tested as a whole (11, 12), and then read line by line
abbrev pub table_of : List ℕ → Result Panel TableFault
table_of text =
    text_answer text then λ _.
    read_lines 1 (of_nodes no_node) (lines_of text) then
    finished

-- whether a text is accepted, and else its first fault
abbrev pub accepted : Result Panel TableFault → Result (Unit {0}) TableFault
accepted (Ok p) = Ok tt
accepted (Err why) = Err why
