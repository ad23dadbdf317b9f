-- The turns of the reader: one line after another.
use Rattle.std.proofs.Common.{◌≡◌, ℕ, suc, ◌+◌, ◌≤◌, Bool, true, false, cond, eqb, List, [], ◌∷◌, length, ap, arith}
use Rattle.std.specs.List.{onto_first}
use Rattle.lines.specs.declared.text.TextCursor.{TextCursor}
use Rattle.lines.specs.Texts.{lines_of, lines_left}
use Rattle.reading.specs.Reading.{of_nodes, no_node, read_lines}
use Rattle.table.specs.declared.draft.Draft.{Draft}
use Rattle.table.specs.Drafts.{draft_in, UnsolvedSoFar}

-- no more lines than bytes
pub length_lines : (bs : List ℕ) → length (lines_of bs) ≤ length bs
length_lines [] = omega arith
length_lines (b ∷ bs) = by (eqb b 10) (lines_of bs) (length_lines bs)
  where
    by : (t : Bool) (ls : List (List ℕ)) → length ls ≤ length bs → length (cond t ([] ∷ ls) (onto_first b ls)) ≤ suc (length bs)
    by true ls h = omega arith
    by false [] h = omega arith
    by false (l ∷ ls) h = omega arith

-- where the loop over the lines stands
pub record Turn (text : List ℕ) (lines : TextCursor) (draft : Draft) : Type 0 where
  pub few : lines.number + length (lines_left lines) ≤ 32768
  pub rest : read_lines (lines.number + 1) (draft_in draft) (lines_left lines) ≡ read_lines 1 (of_nodes no_node) (lines_of text)
  pub unsolved : UnsolvedSoFar draft

pub turn_none : (text : List ℕ) (lines : TextCursor) (draft : Draft) → length text ≤ 32768 → lines_left lines ≡ lines_of text → lines.number ≡ 0 → draft_in draft ≡ of_nodes no_node → UnsolvedSoFar draft → Turn text lines draft
turn_none text lines draft h left none new unsolved =
    let few = length_lines text in
    let same = ap length left in
    record { few = omega arith; rest = rw (none, left, new); unsolved = unsolved }
