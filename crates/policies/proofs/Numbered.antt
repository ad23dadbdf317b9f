-- A loop over rows with their jitters and their numbers.
use Rattle.std.proofs.Common.{◌≡◌, ℕ, ◌<◌, ◌≤◌, true, Some, None, Option, List, length, get_or, ap, ◌∙◌, arith}
use Rattle.std.proofs.lemmas.List.{get_or_default}
use Rattle.std.proofs.lemmas.List.FromFn.{length-enumerate_from, get_or-enumerate_from}
use Rattle.std.proofs.lemmas.Slice.Zip.{length-zip, get_or-zip}
use Rattle.std.proofs.lemmas.Iterator.{YieldsList, YieldsList-from_slice, YieldsList-from_zip, zips}
use Rattle.std.proofs.lemmas.Iterator.Consumers.{YieldsList-from_enumerate, YieldsList-turn, YieldsList-end}
use Rattle.std.proofs.iter.Yields.{fronts}
use Rattle.std.specs.declared.iter.Enumerate.{Enumerate}
use Rattle.std.specs.declared.iter.Zip.{Zip}
use Rattle.std.specs.declared.slice.Iter.{Iter}
use Rattle.std.specs.Iterator.{Yields}
use Rattle.std.specs.Iterator.Adapters.{enumerate_source, enumerate_count, enumerate_steps, zip_first, zip_second}
use Rattle.std.specs.List.{zip, enumerate_from}
use Rattle.std.specs.Slice.Iter.{iter_rest}
use denote.Ref.{Bor}
use Rattle.records.specs.declared.fields.Row.{Row}
use Rattle.records.specs.Ranges.{row_fits}
use Rattle.rules.specs.Rules.{valid, row, no_row}
use Rattle.rules.proofs.Lists.{each_at}
use Rattle.rules.proofs.Validity.{Valid, valid_shows, jitter_small}

abbrev pub Numbered : Type 0
Numbered = Enumerate (Zip (Iter Row) (Iter ℕ))

abbrev pub Item : Type 0
Item = ℕ × (Bor Row × Bor ℕ)

abbrev pub steps : Numbered → Option Item → Numbered → Type 0
steps = enumerate_steps (zips fronts fronts)

-- the item of turn n: the row of that number with its jitter, each in its range
pub record Turn (rows : List Row) (js : List ℕ) (n : ℕ) (item : Item) : Type 0 where
  pub number : item.0 ≡ n
  pub row_is : item.1.0.now ≡ row rows n
  pub jitter_is : item.1.1.now ≡ get_or js n 0
  pub in_range : row_fits item.1.0.now ≡ true
  pub small : item.1.1.now ≤ 2000000

-- what is seen of an item
abbrev seen : Item → ℕ × (Row × ℕ)
seen item = (item.0, (item.1.0.now, item.1.1.now))

-- a loop over a valid call
module _ (rows : List Row) (js : List ℕ) (i : ℕ) (checked : valid rows js i ≡ true) (s : Numbered) (first : iter_rest (zip_first (enumerate_source s)) ≡ rows) (second : iter_rest (zip_second (enumerate_source s)) ≡ js) (from : enumerate_count s ≡ 0) where
  all : YieldsList steps seen s (enumerate_from 0 (zip rows js))
  all = YieldsList-from_enumerate (YieldsList-from_zip (YieldsList-from_slice rows first) (YieldsList-from_slice js second)) from

  call : Valid rows js i
  call = valid_shows rows js i checked

  long : length (enumerate_from 0 (zip rows js)) ≡ length rows
  long = omega (arith, call.one_each, length-enumerate_from 0 (zip rows js), length-zip rows js)

  module _ (so_far : List Item) (t : Numbered) (yielded : Yields steps s so_far t) (u : Numbered) {r : Option Item} where
    pub turn : {item : Item} → r ≡ Some item → steps t r u → Turn rows js (length so_far) item
    turn {item} e k =
        let n = length so_far in
        let (h, f) = YieldsList-turn all so_far t yielded r u item e k in
        let l : n < length rows = omega (arith, long) in
        let m : n < length js = omega (arith, call.one_each) in
        let whole = f ∙ get_or-enumerate_from 0 (zip rows js) n (seen item) (omega (arith, length-zip rows js)) in
        let pair = get_or-zip rows js n (item.1.0.now, item.1.1.now) l m in
        let the_row : item.1.0.now ≡ row rows n = ap (λ (p : ℕ × (Row × ℕ)). p.1.0) whole ∙ ap (λ (p : Row × ℕ). p.0) pair ∙ get_or_default rows n item.1.0.now no_row l in
        let the_jitter : item.1.1.now ≡ get_or js n 0 = ap (λ (p : ℕ × (Row × ℕ)). p.1.1) whole ∙ ap (λ (p : Row × ℕ). p.1) pair ∙ get_or_default js n item.1.1.now 0 m in
        record {
          number = omega (arith, ap (λ (p : ℕ × (Row × ℕ)). p.0) whole);
          row_is = the_row;
          jitter_is = the_jitter;
          in_range = rw the_row (each_at (λ r. row_fits r ≡ true) rows n no_row call.fits l);
          small = rw the_jitter (jitter_small call n l);
        }

    pub turns_end : r ≡ None → steps t r u → length so_far ≡ length rows
    turns_end e k = let (a, b) = YieldsList-end all so_far t yielded r u e k in omega (arith, long)
