-- What a valid call shows: the row is there, each row has a jitter, and every number is in its range.
use Rattle.std.proofs.Common.{◌≡◌, ℕ, ◌<◌, ◌≤◌, true, List, length, get_or, ◌∙◌, arith}
use Rattle.std.proofs.lemmas.Bool.{leb-true, le-leb}
use Rattle.std.proofs.lemmas.Bool.Decides.{nat_tests}
use Rattle.records.specs.declared.fields.Row.{Row}
use Rattle.records.specs.Ranges.{row_fits}
use Rattle.records.proofs.InRange.{RowInRange, row_in_range}
use Rattle.rules.specs.Rules.{jitter_fits, valid, row, no_row, Under}
use Rattle.rules.proofs.Lists.{Each, under_length, each_under, each_at, passes_each, passes_from}

pub record Valid (rows : List Row) (js : List ℕ) (i : ℕ) : Type 0 where
  pub inside : i < length rows
  pub one_each : length js ≡ length rows
  pub small : Each (λ j. j ≤ 2000000) js
  pub fits : Each (λ r. row_fits r ≡ true) rows

-- the test of a call, to and from what it shows
pub valid_shows : (rows : List Row) (js : List ℕ) (i : ℕ) → valid rows js i ≡ true → Valid rows js i
unfolding valid
valid_shows rows js i e =
    let small = passes_each jitter_fits (λ j. j ≤ 2000000) (λ j. leb-true j 2000000) js in
    let fits = passes_each row_fits (λ r. row_fits r ≡ true) (λ r h. h) rows in
    grind (arith, nat_tests, small, fits)

pub valid_from : (rows : List Row) (js : List ℕ) (i : ℕ) → Valid rows js i → valid rows js i ≡ true
unfolding valid
valid_from rows js i v =
    let small = passes_from jitter_fits (λ j. j ≤ 2000000) (λ j. le-leb j 2000000) js v.small in
    let fits = passes_from row_fits (λ r. row_fits r ≡ true) (λ r h. h) rows v.fits in
    grind (arith, nat_tests, small, fits, v.inside, v.one_each)

-- a call with jitters under those of a valid call is valid
pub valid_under : {rows : List Row} {js ks : List ℕ} {i : ℕ} → Under js ks → Valid rows ks i → Valid rows js i
valid_under u v = record { inside = v.inside; one_each = under_length u ∙ v.one_each; small = each_under 2000000 u v.small; fits = v.fits }

module _ {rows : List Row} {js : List ℕ} {i : ℕ} (v : Valid rows js i) where
  pub rows_in_range : (k : ℕ) → k < length rows → RowInRange (row rows k)
  rows_in_range k h = row_in_range (row rows k) (each_at (λ r. row_fits r ≡ true) rows k no_row v.fits h)

  pub jitter_small : (k : ℕ) → k < length rows → get_or js k 0 ≤ 2000000
  jitter_small k h = let e = v.one_each in each_at (λ j. j ≤ 2000000) js k 0 v.small (omega arith)
