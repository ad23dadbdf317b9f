-- How a record is written as a line, and that reading is the inverse of it. Assumes nothing.
use Rattle.std.specs.Prelude.{◌≡◌, ℕ, ◌<◌, List, [], ◌∷◌, Ok, codes, decimal, Result}
use Rattle.std.specs.List.{AllByRecursion, join_with_byte}
use Rattle.mixed.specs.declared.letters.Letter.{Letter}
use Rattle.mixed.specs.declared.letters.Letter.TheVariants.{E, P}
use Rattle.lines.specs.declared.faults.LineFault.{LineFault}
use Rattle.lines.specs.declared.line.Line.{Line}
use Rattle.lines.specs.declared.line.Line.TheVariants.{Node, Chain, Step}

abbrev pub letter_bytes : Letter → List ℕ
letter_bytes E = codes "E"
letter_bytes P = codes "P"

-- the fields that a record is written as
abbrev pub written_fields : Line → List (List ℕ)
written_fields (Node x) = codes "node" ∷ decimal x.node ∷ letter_bytes x.letter ∷ []
written_fields (Chain x) = codes "chain" ∷ decimal x.id ∷ decimal x.period ∷ decimal x.deadline.ticks ∷ decimal x.arrival_jitter ∷ []
written_fields (Step x) =
    codes "step" ∷ decimal x.node ∷ decimal x.cost ∷ decimal x.local.ticks ∷ decimal x.delay ∷ decimal x.blocking ∷ decimal x.priority ∷ []

-- fields with a comma between one and the next
abbrev pub by_commas : List (List ℕ) → List ℕ
by_commas fields = join_with_byte 44 fields

-- the bytes that a record is written as
abbrev pub line_bytes : Line → List ℕ
line_bytes l = by_commas (written_fields l)

-- the numbers of a record
abbrev pub numbers_of : Line → List ℕ
numbers_of (Node x) = x.node ∷ []
numbers_of (Chain x) = x.id ∷ x.period ∷ x.deadline.ticks ∷ x.arrival_jitter ∷ []
numbers_of (Step x) = x.node ∷ x.cost ∷ x.local.ticks ∷ x.delay ∷ x.blocking ∷ x.priority ∷ []

-- each has at most seven digits
abbrev pub Small : List ℕ → Type 0
Small ns = AllByRecursion (λ n. n < 10000000) ns

-- a record is accepted exactly from the bytes that it is written as, if its numbers have at most seven digits
abbrev pub InverseOfWriting : Result Line LineFault → List ℕ → Type 0
InverseOfWriting r bytes =
    (l : Line) → (r ≡ Ok l → (bytes ≡ line_bytes l) × Small (numbers_of l)) × ((bytes ≡ line_bytes l) × Small (numbers_of l) → r ≡ Ok l)
