-- The mixture of two node rules, by the letters of the nodes. Assumes nothing.
use Rattle.std.specs.Prelude.{ℕ, cond, List, length, Some, None, Option, nat_lt}
use Rattle.records.specs.declared.fields.Row.{Row}
use Rattle.rules.specs.Rules.{Meaning, row}
use Rattle.mixed.specs.declared.letters.Letter.{Letter}
use Rattle.mixed.specs.declared.letters.Letter.TheVariants.{E, P}
use Rattle.mixed.specs.declared.letters.Letters.{Letters}
use Rattle.mixed.specs.Letters.{letter_of}

-- the letter of the node of row i, if there is such a row and its node has a letter
abbrev pub row_letter : Letters → List Row → ℕ → Option Letter
row_letter letters rows i = cond (nat_lt i (length rows)) (letter_of letters (row rows i).step.node) None

-- what the rule that a letter names answers: the first for E, the second for P; over without a letter
abbrev pub asked_by : Option Letter → Meaning → Meaning → Meaning
asked_by None first second rows js i = None
asked_by (Some E) first second rows js i = first rows js i
asked_by (Some P) first second rows js i = second rows js i

-- the mixture: the rule of the letter of the row's node answers, with the whole table
unfoldable pub mixture : Letters → Meaning → Meaning → Meaning
mixture letters first second rows js i = asked_by (row_letter letters rows i) first second rows js i
