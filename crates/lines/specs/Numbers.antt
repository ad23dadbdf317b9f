-- Numbers in fields: 1 to 7 digits, and a leading zero only where it is the one digit. Assumes nothing.
use Rattle.std.specs.Prelude.{◌≡◌, ℕ, ◌+◌, ◌-◌, ◌*◌, ◌<◌, cond, not, ◌&&◌, ◌||◌, List, [], ◌∷◌, length, Ok, Err, decimal, Result, ◌==◌, nat_le}
use Rattle.std.specs.Str.{all_ascii_digits}
use Rattle.lines.specs.declared.faults.Fault.{Fault}
use Rattle.lines.specs.declared.faults.Fault.TheVariants.{EmptyField, NotANumber}

-- the number that digits write after the number n
abbrev pub read_on : ℕ → List ℕ → ℕ
read_on n [] = n
read_on n (c ∷ cs) = read_on (n * 10 + (c - 48)) cs

-- the number that bytes write after n, where all are digits
abbrev pub digits_answer : ℕ → List ℕ → Result ℕ Fault
digits_answer n bs = cond (all_ascii_digits bs) (Ok (read_on n bs)) (Err NotANumber)

-- 15 for an empty field; 16 for more than seven bytes, for a zero before further bytes, and for a byte that is no digit
abbrev pub number_answer : List ℕ → Result ℕ Fault
number_answer [] = Err EmptyField
number_answer (c ∷ cs) = cond (nat_le (length cs) 6 && (not (c == 48) || length cs == 0)) (digits_answer 0 (c ∷ cs)) (Err NotANumber)

-- the answer is n exactly where the field is what is written of n, and n has at most seven digits
abbrev pub InverseOfWriting : Result ℕ Fault → List ℕ → Type 0
InverseOfWriting r field =
    (n : ℕ) → (r ≡ Ok n → (field ≡ decimal n) × (n < 10000000)) × ((field ≡ decimal n) × (n < 10000000) → r ≡ Ok n)
