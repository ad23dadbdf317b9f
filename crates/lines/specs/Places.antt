-- Where a cursor stands, and what it reads there. Assumes nothing.
use Rattle.std.specs.Prelude.{◌≡◌, ℕ, ◌+◌, cond, List, [], ◌∷◌, Ok, Err, Result, ◌==◌}
use Rattle.mixed.specs.declared.letters.Letter.{Letter}
use Rattle.mixed.specs.declared.letters.Letter.TheVariants.{E, P}
use Rattle.lines.specs.declared.cursor.Cursor.{Cursor}
use Rattle.lines.specs.declared.faults.Fault.{Fault}
use Rattle.lines.specs.declared.faults.Fault.TheVariants.{EmptyField, NotALetter}
use Rattle.lines.specs.declared.faults.LineFault.{LineFault}
use Rattle.lines.specs.Faults.{fault_at}
use Rattle.lines.specs.Fields.{fields_of, at_place}
use Rattle.lines.specs.Numbers.{number_answer}

-- 15 for an empty field, 17 for any other than E and P
abbrev pub letter_answer : List ℕ → Result Letter Fault
letter_answer [] = Err EmptyField
letter_answer (c ∷ []) = cond (c == 69) (Ok E) (cond (c == 80) (Ok P) (Err NotALetter))
letter_answer (c ∷ d ∷ ds) = Err NotALetter

abbrev pub placed : {A : Type 0} → ℕ → Result A Fault → Result A LineFault
placed field (Ok a) = Ok a
placed field (Err fault) = Err (fault_at field fault)

-- the number, and the letter, in the field at a place
abbrev pub number_at : List (List ℕ) → ℕ → Result ℕ LineFault
number_at fields k = placed k (number_answer (at_place fields k))

abbrev pub letter_at : List (List ℕ) → ℕ → Result Letter LineFault
letter_at fields k = placed k (letter_answer (at_place fields k))

-- ## Cursors

-- the fields of the cursor's line
abbrev pub all_fields : Cursor → List (List ℕ)
all_fields c = fields_of c.line.now

-- one field more is read
pub record Moved (before after : Cursor) : Type 0 where
  pub line : after.line ≡ before.line
  pub field : after.field ≡ before.field + 1
