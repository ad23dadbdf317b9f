-- The lines of a text, and the tests of a whole text. Assumes nothing.
use Rattle.std.specs.Prelude.{◌≡◌, ℕ, ◌+◌, min, Bool, true, cond, List, [], ◌∷◌, ◌++◌, length, Ok, Err, Option, Result, ◌==◌, nat_le}
use Rattle.std.specs.Borrow.{Bor}
use Rattle.std.specs.Iterator.{YieldsFirstRef}
use Rattle.std.specs.List.{onto_first}
use Rattle.lines.specs.declared.faults.Fault.TheVariants.{TextTooLong, NoLineFeed}
use Rattle.lines.specs.declared.faults.TableFault.{TableFault}
use Rattle.lines.specs.declared.text.TextCursor.{TextCursor}
use Rattle.lines.specs.Faults.{fault_at, on_line}

-- every line feed ends a line; bytes after the last one are a line too, which is not ended
abbrev pub lines_of : List ℕ → List (List ℕ)
lines_of [] = []
lines_of (b ∷ bs) = cond (b == 10) ([] ∷ lines_of bs) (onto_first b (lines_of bs))

-- lines, each ended by a line feed
abbrev pub ended_lines : List (List ℕ) → List ℕ
ended_lines [] = []
ended_lines (l ∷ ls) = l ++ 10 ∷ ended_lines ls

-- the last byte is a line feed, or there is no byte
abbrev pub ended : List ℕ → Bool
ended [] = true
ended (b ∷ []) = b == 10
ended (b ∷ c ∷ bs) = ended (c ∷ bs)

-- 11 for the whole text, then 12 for the last line
abbrev pub text_answer : List ℕ → Result (Unit {0}) TableFault
text_answer text =
    cond (nat_le (length text) 32768)
    (cond (ended text) (Ok tt) (Err (on_line (length (lines_of text)) (fault_at 0 NoLineFeed))))
    (Err (on_line 0 (fault_at 0 TextTooLong)))

-- ## Line after line

-- the lines that a cursor has before it
abbrev pub lines_left : TextCursor → List (List ℕ)
lines_left c = lines_of c.rest.now

-- the number of the last line given, which stays at the largest number that there is
abbrev pub number_after : ℕ → List (List ℕ) → ℕ
number_after n [] = n
number_after n (l ∷ ls) = min (n + 1) 4294967295

-- a call gives the first of the lines left, and counts it; or none is left, now and later
abbrev pub GivesLine : TextCursor → Option (Bor (List ℕ)) → TextCursor → Type 0
GivesLine before line after = YieldsFirstRef lines_left before line after × (after.number ≡ number_after before.number (lines_left before))
