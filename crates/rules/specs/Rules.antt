-- What a node rule means, and the laws that it shows. Assumes nothing.
use Rattle.std.specs.Prelude.{◌≡◌, ℕ, ◌+◌, ◌≤◌, Bool, true, false, ◌&&◌, List, [], ◌∷◌, ◌++◌, length, Some, None, Option, ◌==◌, nat_le, nat_lt, slice_index, slice_index_or}
use Rattle.std.specs.List.{list_all}
use Rattle.records.specs.declared.fields.Row.{Row}
use Rattle.records.specs.Ranges.{row_fits}
use Rattle.climb.specs.Answers.{AtMost}

-- ## Calls

-- a jitter is at most 2,000,000
abbrev pub jitter_fits : ℕ → Bool
jitter_fits j = nat_le j 2000000

-- a call is valid: row i is one of the rows, each row has a jitter, and all numbers are in their ranges
unfoldable pub valid : List Row → List ℕ → ℕ → Bool
valid rows js i = nat_lt i (length rows) && length js == length rows && list_all jitter_fits js && list_all row_fits rows

-- what stands where there is no row
unfoldable pub no_row : Row
no_row =
    record { period = 0; step = record { node = 0; cost = 0; local = record { ticks = 0 }; delay = 0; blocking = 0; priority = 0 } }

-- the row of a number
abbrev pub row : List Row → ℕ → Row
row rows k = slice_index_or rows k no_row

-- ## Rules

-- the fixed map that a node rule is: rows, their jitters and a row number to a response time, or over
abbrev pub Meaning : Type 0
Meaning = List Row → List ℕ → ℕ → Option ℕ

-- two lists of one length, with no number of the first above the one in its place in the second
pub data Under : List ℕ → List ℕ → Type 0 where
  ended : Under [] []
  beside : {x y : ℕ} {xs ys : List ℕ} → x ≤ y → Under xs ys → Under (x ∷ xs) (y ∷ ys)

pub record Laws (answer : List Row → List ℕ → ℕ → Option ℕ) : Type 0 where
  -- a call that is not valid is over
  pub invalid : (rows : List Row) (js : List ℕ) (i : ℕ) → valid rows js i ≡ false → answer rows js i ≡ None
  -- a number is at most 8,000,000
  pub bounded : (rows : List Row) (js : List ℕ) (i n : ℕ) → answer rows js i ≡ Some n → n ≤ 8000000
  -- if no jitter falls, the answer does not fall
  pub jitters : (rows : List Row) (js ks : List ℕ) (i : ℕ) → Under js ks → AtMost (answer rows js i) (answer rows ks i)
  -- if rows with jitters are appended to a valid call, the answer for an old row does not fall
  pub appended : (rows more : List Row) (js ks : List ℕ) (i : ℕ) → valid rows js i ≡ true → AtMost (answer rows js i) (answer (rows ++ more) (js ++ ks) i)
  -- the answer is at least the row's own jitter plus its cost
  pub cost : (rows : List Row) (js : List ℕ) (i : ℕ) → AtMost (Some (slice_index js i + (row rows i).step.cost)) (answer rows js i)
