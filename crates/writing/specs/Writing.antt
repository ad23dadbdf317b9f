-- Bytes in a buffer from a place on. Assumes nothing.
use Rattle.std.specs.Prelude.{ℕ, ◌+◌, Bool, cond, List, [], ◌∷◌, ◌++◌, length, take, drop, Some, None, decimal, Option, nat_le}
use Rattle.std.specs.List.{flat_map}

-- the buffer with these bytes from a place on, and all else as it was
abbrev pub put_at : List ℕ → ℕ → List ℕ → List ℕ
put_at buffer at bytes = take at buffer ++ (bytes ++ drop (at + length bytes) buffer)

abbrev pub has_room : List ℕ → ℕ → List ℕ → Bool
has_room buffer at bytes = nat_le (at + length bytes) (length buffer)

-- the place behind the bytes, or nothing where they do not all fit
abbrev pub written : List ℕ → ℕ → List ℕ → Option ℕ
written buffer at bytes = cond (has_room buffer at bytes) (Some (at + length bytes)) None

-- a write that does not fit leaves the buffer as it was
abbrev pub after_write : List ℕ → ℕ → List ℕ → List ℕ
after_write buffer at bytes = cond (has_room buffer at bytes) (put_at buffer at bytes) buffer

-- ## Lines

-- a comma and a number
abbrev pub field_bytes : ℕ → List ℕ
field_bytes n = 44 ∷ decimal n

-- a word, the numbers behind it, each behind a comma, and a line feed
unfoldable pub line_bytes : List ℕ → List ℕ → List ℕ
line_bytes word fields = word ++ flat_map field_bytes fields ++ 10 ∷ []
