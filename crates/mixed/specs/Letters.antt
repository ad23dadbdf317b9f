-- The letters of the nodes 1 to 8. Assumes nothing.
use Rattle.std.specs.Prelude.{◌≡◌, ℕ, ◌-◌, cond, replicate, Some, None, Ok, Err, Option, Result, ◌==◌, slice_index_or, slice_set}
use Rattle.records.specs.declared.fields.RecordFault.{RecordFault}
use Rattle.records.specs.Ranges.{within}
use Rattle.mixed.specs.declared.letters.Letter.{Letter}
use Rattle.mixed.specs.declared.letters.Letter.TheVariants.{E}
use Rattle.mixed.specs.declared.letters.Letters.{Letters}

-- every node has the letter E
abbrev pub all_E : Letters
all_E = record { by_node = replicate 8 E }

-- the letter of a node from 1 to 8; no other node has one
abbrev pub letter_of : Letters → ℕ → Option Letter
letter_of letters node = cond (within 1 8 node) (Some (slice_index_or letters.by_node (node - 1) E)) None

-- the letters with another one for a node from 1 to 8, else a fault at place 1, where a step has its node
abbrev pub with_letter : Letters → ℕ → Letter → Result Letters RecordFault
with_letter letters node letter =
    cond (within 1 8 node) (Ok (record { by_node = slice_set letters.by_node (node - 1) letter })) (Err (record { place = 1 }))

-- the node has the letter afterwards, and every other node has the letter that it had
abbrev pub OnlyThatNode : Letters → ℕ → Letter → Letters → Type 0
OnlyThatNode before node letter after = (k : ℕ) → letter_of after k ≡ cond (k == node) (Some letter) (letter_of before k)
