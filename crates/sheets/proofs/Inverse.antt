-- Reading a table is the inverse of writing it.
use Rattle.std.proofs.Common.{◌≡◌, ℕ, ◌≤◌, List, [], map, length, Ok, sym, ap, ◌∙◌}
use Rattle.lines.specs.Lines.{◌then◌}
use Rattle.lines.specs.Texts.{lines_of, ended_lines, text_answer}
use Rattle.lines.specs.Writing.{line_bytes}
use Rattle.reading.specs.Reading.{Panel, no_node, read_lines, finished, table_of}
use Rattle.reading.specs.Reading.Draft.{of_nodes}
use Rattle.sheets.specs.Sheets.{Sheet, sheet_lines, sheet_bytes, panel_of, Sound, InverseOfWriting}
use Rattle.sheets.proofs.Entries.{Kept}
use Rattle.sheets.proofs.Feeds.{lines_back, text_passes, text_passed}
use Rattle.sheets.proofs.Parsing.{same_sheet, same_records}
use Rattle.lines.proofs.Passing.{then_passed, then_passes}
use Rattle.sheets.proofs.Records.{small_no_feed, recorded, read_back}
use Rattle.sheets.proofs.Running.{sheet_run, sheet_small}
use Rattle.sheets.proofs.Taking.{from_nodes}

kept_of : (s : Sheet) → Sound s → Kept s
kept_of s sound =
    record { nodes = sound.nodes; nodes_once = sound.nodes_once; chains = sound.chains; ids_once = sound.ids_once; few_chains = sound.few_chains; few_steps = sound.few_steps }

sound_of : (s : Sheet) → Kept s → length (sheet_bytes s) ≤ 32768 → Sound s
sound_of s kept short =
    record { nodes = kept.nodes; nodes_once = kept.nodes_once; chains = kept.chains; ids_once = kept.ids_once; few_chains = kept.few_chains; few_steps = kept.few_steps; short = short }

-- the lines of what is written
sheet_lines_back : (s : Sheet) → Sound s → lines_of (sheet_bytes s) ≡ map line_bytes (sheet_lines s)
sheet_lines_back s sound = lines_back (map line_bytes (sheet_lines s)) (small_no_feed (sheet_lines s) (sheet_small s (kept_of s sound)))

-- an accepted text is what is written of a sound table, which says just what was read
pub accepted : (text : List ℕ) (p : Panel) → table_of text ≡ Ok p → (s : Sheet) × (text ≡ sheet_bytes s) × Sound s × (p ≡ panel_of s)
accepted text p h =
    let (u, whole, rest) = then_passed (text_answer text) (λ _. read_lines 1 (of_nodes no_node) (lines_of text) then finished) p h in
    let (same, short) = text_passed text whole in
    let r = recorded 1 (of_nodes no_node) (lines_of text) p rest in
    let t = from_nodes r.records 1 [] p tt tt r.ran in
    let bytes : text ≡ sheet_bytes t.table = sym same ∙ ap ended_lines (r.bytes ∙ ap (map line_bytes) t.lines) in
    (t.table, bytes, sound_of t.table t.kept (rw bytes at short), t.says)

-- what is written of a sound table is accepted
pub written : (s : Sheet) → Sound s → table_of (sheet_bytes s) ≡ Ok (panel_of s)
written s sound =
    then_passes (λ _. read_lines 1 (of_nodes no_node) (lines_of (sheet_bytes s)) then finished) (text_passes (map line_bytes (sheet_lines s)) sound.short)
    (ap (λ ls. read_lines 1 (of_nodes no_node) ls then finished) (sheet_lines_back s sound)
    ∙ read_back 1 (of_nodes no_node) (sheet_lines s) (sheet_small s (kept_of s sound)) ∙ sheet_run s (kept_of s sound))

-- and no other sound table is written so
pub one : (s t : Sheet) → sheet_bytes s ≡ sheet_bytes t → Sound s → Sound t → s ≡ t
one s t e p q =
    same_sheet s t (same_records (sheet_lines s) (sheet_lines t) (sheet_small s (kept_of s p)) (sheet_small t (kept_of t q)) (sym (sheet_lines_back s p) ∙ ap lines_of e ∙ sheet_lines_back t q))

pub inverse : (text : List ℕ) → InverseOfWriting text (table_of text)
inverse text =
    record {
      accepted = accepted text;
      written = λ s e sound. ap table_of e ∙ written s sound;
      one = λ s t e f p q. one s t (sym e ∙ f) p q;
    }
