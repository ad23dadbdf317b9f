-- A table as it is written, and that reading is the inverse of writing it. Assumes nothing.
use Rattle.std.specs.Prelude.{◌≡◌, ℕ, ◌+◌, ◌≤◌, true, cond, List, [], ◌∷◌, ◌++◌, map, length, Ok, Result, ◌==◌, ◌≢◌}
use Rattle.std.specs.List.{AllByRecursion}
use Rattle.records.specs.declared.fields.ChainFields.{ChainFields}
use Rattle.records.specs.declared.fields.StepFields.{StepFields}
use Rattle.records.specs.Ranges.{chain_fits, step_fits}
use Rattle.mixed.specs.declared.letters.Letter.{Letter}
use Rattle.mixed.specs.declared.letters.Letter.TheVariants.{E}
use Rattle.mixed.specs.declared.letters.Letters.{Letters}
use Rattle.law.specs.Assignments.{Held}
use Rattle.law.specs.Runs.{held_as}
use Rattle.lines.specs.declared.faults.TableFault.{TableFault}
use Rattle.lines.specs.declared.line.Line.{Line}
use Rattle.lines.specs.declared.line.Line.TheVariants.{Node, Chain, Step}
use Rattle.lines.specs.declared.line.NodeLine.{NodeLine}
use Rattle.lines.specs.Texts.{ended_lines}
use Rattle.lines.specs.Writing.{line_bytes}
use Rattle.reading.specs.Reading.{Panel}

-- ## What is written

-- a chain as a table gives it
pub record Written : Type 0 where
  pub fields : ChainFields
  pub steps : List StepFields

-- a table as it is written: the nodes, and then the chains
pub record Sheet : Type 0 where
  pub nodes : List NodeLine
  pub chains : List Written

-- a chain's line, and then those of its steps
abbrev pub chain_lines : Written → List Line
chain_lines c = Chain c.fields ∷ map Step c.steps

abbrev pub all_chain_lines : List Written → List Line
all_chain_lines [] = []
all_chain_lines (c ∷ cs) = chain_lines c ++ all_chain_lines cs

-- a line for each node, and then the lines of each chain
abbrev pub sheet_lines : Sheet → List Line
sheet_lines s = map Node s.nodes ++ all_chain_lines s.chains

-- the text: each line as it is written, with a line feed behind it
abbrev pub sheet_bytes : Sheet → List ℕ
sheet_bytes s = ended_lines (map line_bytes (sheet_lines s))

-- ## What it says

-- the letter that the nodes' lines give a node, E where none does
abbrev pub letter_among : List NodeLine → ℕ → Letter
letter_among [] node = E
letter_among (x ∷ xs) node = cond (x.node == node) x.letter (letter_among xs node)

-- the letters of the nodes 1 to 8
abbrev pub letters_of : List NodeLine → Letters
letters_of xs =
    record {
      by_node =
          letter_among xs 1 ∷ letter_among xs 2 ∷ letter_among xs 3 ∷ letter_among xs 4 ∷ letter_among xs 5 ∷ letter_among xs 6 ∷ letter_among xs 7 ∷ letter_among xs 8 ∷ [];
    }

abbrev pub held_of : Written → Held
held_of c = held_as c.fields c.steps

abbrev pub panel_of : Sheet → Panel
panel_of s = record { letters = letters_of s.nodes; chains = map held_of s.chains }

-- ## What it keeps

-- it holds of every element
abbrev pub Every : {A : Type 0} → (A → Type 0) → List A → Type 0
Every P xs = AllByRecursion P xs

-- no two elements have the same number
abbrev pub Apart : {A : Type 0} → (A → ℕ) → List A → Type 0
Apart number [] = Unit {0}
Apart number (x ∷ xs) = Every (λ y. number y ≢ number x) xs × Apart number xs

-- a node has a line among these
pub data Given (node : ℕ) : List NodeLine → Type 0 where
  here : {x : NodeLine} {xs : List NodeLine} → x.node ≡ node → Given node (x ∷ xs)
  later : {x : NodeLine} {xs : List NodeLine} → Given node xs → Given node (x ∷ xs)

-- a node is one of 1 to 8
abbrev pub NodeFits : NodeLine → Type 0
NodeFits x = (1 ≤ x.node) × (x.node ≤ 8)

-- a step has every field in range, and runs on a node that is given
abbrev pub StepFits : List NodeLine → StepFields → Type 0
StepFits nodes s = (step_fits s ≡ true) × Given s.node nodes

-- a chain has every field in range and 1 to 16 steps, each of which fits
pub record ChainFits (nodes : List NodeLine) (c : Written) : Type 0 where
  pub fields : chain_fits c.fields ≡ true
  pub some_step : 1 ≤ length c.steps
  pub few_steps : length c.steps ≤ 16
  pub steps : Every (StepFits nodes) c.steps

abbrev pub all_steps : List Written → ℕ
all_steps [] = 0
all_steps (c ∷ cs) = length c.steps + all_steps cs

-- a table that may be read
pub record Sound (s : Sheet) : Type 0 where
  pub nodes : Every NodeFits s.nodes
  pub nodes_once : Apart (λ x. x.node) s.nodes
  pub chains : Every (ChainFits s.nodes) s.chains
  pub ids_once : Apart (λ c. c.fields.id) s.chains
  pub few_chains : length s.chains ≤ 16
  pub few_steps : all_steps s.chains ≤ 64
  pub short : length (sheet_bytes s) ≤ 32768

-- ## Reading is the inverse of writing

-- an answer gives a panel exactly where the text is the writing of a sound table, and then just what that table says; and two sound tables that
-- are written alike are the same. So an accepted text is one list of lines and only one, and no missing or odd field passes for a number
pub record InverseOfWriting (text : List ℕ) (answer : Result Panel TableFault) : Type 0 where
  pub accepted : (p : Panel) → answer ≡ Ok p → (s : Sheet) × (text ≡ sheet_bytes s) × Sound s × (p ≡ panel_of s)
  pub written : (s : Sheet) → text ≡ sheet_bytes s → Sound s → answer ≡ Ok (panel_of s)
  pub one : (s t : Sheet) → text ≡ sheet_bytes s → text ≡ sheet_bytes t → Sound s → Sound t → s ≡ t
