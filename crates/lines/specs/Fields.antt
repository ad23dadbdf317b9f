-- The fields of a line: its bytes, parted at the commas. Assumes nothing.
use Rattle.std.specs.Prelude.{ℕ, zero, suc, ◌-◌, List, [], ◌==◌, slice_index_or}
use Rattle.std.specs.List.{slice_split, before_first, after_first}

-- bytes parted at every separator: one part more than there are separators
abbrev pub parted : ℕ → List ℕ → List (List ℕ)
parted separator bytes = slice_split (λ b. b == separator) bytes

-- the fields of a line, parted at commas; a line without bytes is one empty field
abbrev pub fields_of : List ℕ → List (List ℕ)
fields_of bytes = parted 44 bytes

-- the field at a place, counted from 1
abbrev pub at_place : List (List ℕ) → ℕ → List ℕ
at_place fields k = slice_index_or fields (k - 1) []

-- ## What a cursor passes

-- the bytes before the first separator
abbrev pub first_of : ℕ → List ℕ → List ℕ
first_of separator bytes = before_first (λ b. b == separator) bytes

-- the bytes after the first separator, none where there is none
abbrev pub rest_of : ℕ → List ℕ → List ℕ
rest_of separator bytes = after_first (λ b. b == separator) bytes

-- the bytes after k fields
abbrev pub skipped : ℕ → List ℕ → List ℕ
skipped zero bs = bs
skipped (suc k) bs = rest_of 44 (skipped k bs)
