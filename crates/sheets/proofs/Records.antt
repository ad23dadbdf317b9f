-- Reading a text's lines is reading the records that they are written from.
use Rattle.std.proofs.Common.{◌≡◌, ℕ, ◌+◌, List, [], ◌∷◌, map, Ok, Err, Result, refl, ap, ◌∙◌}
use Rattle.lines.specs.declared.faults.TableFault.{TableFault}
use Rattle.lines.specs.declared.line.Line.{Line}
use Rattle.lines.specs.Faults.{on_line}
use Rattle.lines.specs.Lines.{◌then◌, line_of}
use Rattle.lines.specs.Writing.{line_bytes, numbers_of, Small}
use Rattle.lines.proofs.Taken.{exactly}
use Rattle.reading.specs.Reading.{Panel, Draft, numbered, taken, line_taken, read_lines, finished}
use Rattle.sheets.specs.Sheets.{Every}
use Rattle.sheets.proofs.Feeds.{NoFeed, line_no_feed}
use Rattle.lines.proofs.Passing.{then_passed, then_passes, mapped_passed, mapped_passes}

-- every number has at most seven digits
abbrev pub SmallLine : Line → Type 0
SmallLine l = Small (numbers_of l)

-- records taken one after another, the first of which has the number n, to the end
abbrev pub run : ℕ → Draft → List Line → Result Panel TableFault
run n d [] = finished d
run n d (l ∷ ls) = taken n d l then λ e. run (n + 1) e ls

pub small_no_feed : (rs : List Line) → Every SmallLine rs → Every NoFeed (map line_bytes rs)
small_no_feed [] s = tt
small_no_feed (r ∷ rs) s = (line_no_feed r s.0, small_no_feed rs s.1)

-- ## One line

pub line_back : (l : Line) → SmallLine l → line_of (line_bytes l) ≡ Ok l
line_back l s = (exactly (line_of (line_bytes l)) (line_bytes l) refl l).1 (refl, s)

pub line_from : (bs : List ℕ) (l : Line) → line_of bs ≡ Ok l → (bs ≡ line_bytes l) × SmallLine l
line_from bs l h = (exactly (line_of bs) bs refl l).0 h

-- ## All lines

-- lines that are read to the end are written from records that are taken to the end
pub record Recorded (n : ℕ) (d : Draft) (ls : List (List ℕ)) (p : Panel) : Type 0 where
  pub records : List Line
  pub bytes : ls ≡ map line_bytes records
  pub small : Every SmallLine records
  pub ran : run n d records ≡ Ok p

one_more : {n : ℕ} {d e : Draft} {ls : List (List ℕ)} {p : Panel} (bs : List ℕ) (r : Line) → (bs ≡ line_bytes r) × SmallLine r → taken n d r ≡ Ok e → Recorded (n + 1) e ls p → Recorded n d (bs ∷ ls) p
one_more {n} {ls = ls} bs r w t rest =
    record {
      records = r ∷ rest.records;
      bytes = ap (λ b. b ∷ ls) w.0 ∙ ap (λ bss. line_bytes r ∷ bss) rest.bytes;
      small = (w.1, rest.small);
      ran = then_passes (λ e. run (n + 1) e rest.records) t rest.ran;
    }

pub recorded : (n : ℕ) (d : Draft) (ls : List (List ℕ)) (p : Panel) → (read_lines n d ls then finished) ≡ Ok p → Recorded n d ls p
recorded n d [] p h = record { records = []; bytes = refl; small = tt; ran = h }
recorded n d (l ∷ ls) p h =
    let (f, read, fin) = then_passed (read_lines n d (l ∷ ls)) finished p h in
    let (e, here, rest) = then_passed (line_taken n d l) (λ e. read_lines (n + 1) e ls) f read in
    let (r, line, took) = then_passed (numbered n (line_of l)) (taken n d) e here in
    one_more l r (line_from l r (mapped_passed (on_line n) (line_of l) r line)) took (recorded (n + 1) e ls p (then_passes finished rest fin))

-- and records that are taken to the end are read so from what is written of them
pub read_back : (n : ℕ) (d : Draft) (rs : List Line) → Every SmallLine rs → (read_lines n d (map line_bytes rs) then finished) ≡ run n d rs
read_back n d [] s = refl
read_back n d (r ∷ rs) s =
    ap (λ t. (t then λ e. read_lines (n + 1) e (map line_bytes rs)) then finished) (then_passes (taken n d) (mapped_passes (on_line n) (line_back r s.0)) refl)
    ∙ by (taken n d r) (λ e. read_back (n + 1) e rs s.1)
  where
    by : (t : Result Draft TableFault) → ((e : Draft) → (read_lines (n + 1) e (map line_bytes rs) then finished) ≡ run (n + 1) e rs) → ((t then λ e. read_lines (n + 1) e (map line_bytes rs)) then finished) ≡ (t then λ e. run (n + 1) e rs)
    by (Ok e) h = h e
    by (Err fault) h = refl
