-- The bytes of a listing. Assumes nothing.
use Rattle.std.specs.Prelude.{ℕ, zero, suc, ◌+◌, List, [], ◌∷◌, ◌++◌, length, Some, None, Err, codes, Option, Result, slice_index}
use Rattle.std.specs.Option.{ok_or}
use Rattle.writing.specs.Writing.{line_bytes, written, after_write}
use Rattle.law.specs.declared.answers.Refusal.{Refusal}
use Rattle.law.specs.declared.answers.Refusal.TheVariants.{NotSolved, BufferShort}
use Rattle.law.specs.Assignments.{Held, rows_of, jitters_of}
use Rattle.law.specs.State.{Contents}
use Rattle.plan.specs.declared.table.Place.{Place}
use Rattle.plan.specs.Contents.{place_in}

-- the numbers of a row's line, if its chain is this: the chain's id, the step's number from 1, the step's jitter and its response
abbrev pub fields_at : Option Place → ℕ → ℕ → List ℕ
fields_at None jitter response = []
fields_at (Some p) jitter response = p.chain.id ∷ (p.step + 1) ∷ jitter ∷ response ∷ []

-- the numbers of row k's line, in the responses xs
abbrev pub row_fields : List Held → List ℕ → ℕ → List ℕ
row_fields cs xs k = fields_at (place_in cs k) (slice_index (jitters_of cs xs) k) (slice_index xs k)

-- `step,` id, step number, jitter, response
abbrev pub row_line : List Held → List ℕ → ℕ → List ℕ
row_line cs xs k = line_bytes (codes "step") (row_fields cs xs k)

-- f 0, f 1, .., f (n − 1), one behind the other
abbrev pub joined : (ℕ → List ℕ) → ℕ → List ℕ
joined f zero = []
joined f (suc n) = joined f n ++ f n

-- the lines of the first n rows
unfoldable pub rows_bytes : Contents → ℕ → List ℕ
rows_bytes s n = joined (row_line s.chains s.start) n

-- `rounds,` and the rounds of the solve that stands; then a line for each row
unfoldable pub listing_bytes : Contents → ℕ → List ℕ
listing_bytes s rounds = line_bytes (codes "rounds") (rounds ∷ []) ++ rows_bytes s (length (rows_of s.chains))

-- how many bytes are written: a solve must stand, and the buffer must have room for all of them
abbrev pub listing_answer : Contents → List ℕ → Result ℕ Refusal
listing_answer s buffer = elim s.standing [ None ↦ Err NotSolved | Some rounds ↦ ok_or (written buffer 0 (listing_bytes s rounds)) BufferShort ]

-- the buffer after it: the bytes at its front, and the rest as it was; as it was throughout, if nothing is written
abbrev pub listing_after : Contents → List ℕ → List ℕ
listing_after s buffer = elim s.standing [ None ↦ buffer | Some rounds ↦ after_write buffer 0 (listing_bytes s rounds) ]
