-- The numbers of the refusals. Assumes nothing.
use Rattle.std.specs.Prelude.{ℕ, Bool, ◌==◌}
use Rattle.law.specs.declared.answers.Refusal.{Refusal}
use Rattle.law.specs.declared.answers.Refusal.TheVariants.{Field, StepCount, ChainsFull, StepsFull, IdHeld, IdUnknown, NoSuchStep, CostOutOfRange, NotSolved, BufferShort, NothingCarries}

abbrev pub number_of : Refusal → ℕ
number_of (Field fault) = 1
number_of StepCount = 2
number_of ChainsFull = 3
number_of StepsFull = 4
number_of IdHeld = 5
number_of IdUnknown = 6
number_of NoSuchStep = 7
number_of CostOutOfRange = 8
number_of NotSolved = 9
number_of (NothingCarries rounds) = 10
number_of BufferShort = 20

-- refusal 10 alone forgets the kept responses; after any other the plan is as it was
abbrev pub forgets : Refusal → Bool
forgets why = number_of why == 10
