-- The test of a call, in the words of the library.
use Rattle.std.proofs.Common.{◌≡◌, ℕ, ◌&&◌, ltb, eqb, List, length, refl}
use Rattle.std.specs.List.{list_all}
use Rattle.records.specs.declared.fields.Row.{Row}
use Rattle.records.specs.Ranges.{row_fits}
use Rattle.rules.specs.Rules.{jitter_fits, valid}

pub valid_tests : (rows : List Row) (js : List ℕ) (i : ℕ) → valid rows js i ≡ (ltb i (length rows) && eqb (length js) (length rows) && list_all jitter_fits js && list_all row_fits rows)
unfolding valid
valid_tests rows js i = refl
