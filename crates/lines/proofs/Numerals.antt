-- Reading digits, a turn at a time, and reading a number as the inverse of writing it.
use Rattle.std.proofs.Common.{◌≡◌, ℕ, ◌+◌, ◌-◌, ◌*◌, ◌^◌, ◌<◌, ◌≤◌, Bool, true, false, cond, not, ◌&&◌, ◌||◌, eqb, leb, ◌⊎◌, List, [], ◌∷◌, length, get_or, drop, Ok, Err, decimal, Result, sym, refl, ap, ◌∙◌, inl, inr, pow-suc, add-one, arith, rules}
use native.Mathlib.Nat.{pow-le-pow_right}
use Rattle.std.specs.Str.{all_ascii_digits}
use Rattle.std.specs.Char.{is_ascii_digit}
use Rattle.std.proofs.lemmas.List.{at_drop_more}
use Rattle.std.proofs.lemmas.Bool.{le-leb, and_from, and_parts, leb-true, cond-true, eq-eqb, ne_eqb, cases_eq, or_left, or_right, not_from_false}
use Rattle.std.proofs.lemmas.Bool.Decides.{nat_tests}
use Rattle.std.proofs.lemmas.Str.Parse.{IsNumeralModel, numerals_by_fold, digits_value_short}
use Rattle.std.proofs.lemmas.Fmt.{digits_decimal, digits_value-decimal, decimal-digits_value, length-decimal-le, decimal_nonempty, first_decimal, decimal_digit}
use Rattle.lines.specs.declared.faults.Fault.{Fault}
use Rattle.lines.specs.declared.faults.Fault.TheVariants.{NotANumber}
use Rattle.lines.specs.Numbers.{read_on, digits_answer, number_answer, InverseOfWriting}

-- ## A turn of the loop over the digits

abbrev answer_at : ℕ → ℕ → List ℕ → Bool → Result ℕ Fault
answer_at n c cs t = cond (t && all_ascii_digits cs) (Ok (read_on n (c ∷ cs))) (Err NotANumber)

pub digit_more : (bs : List ℕ) (n i d : ℕ) → i < length bs → is_ascii_digit (get_or bs i 0) ≡ true → d ≡ get_or bs i 0 - 48 → digits_answer (n * 10 + d) (drop (i + 1) bs) ≡ digits_answer n (drop i bs)
digit_more bs n i d h e k =
    ap (λ m. digits_answer (n * 10 + m) (drop (i + 1) bs)) k ∙ sym (ap (answer_at n (get_or bs i 0) (drop (i + 1) bs)) e) ∙ sym (at_drop_more (digits_answer n) bs i 0 h)

pub digit_none : (bs : List ℕ) (n i : ℕ) → i < length bs → is_ascii_digit (get_or bs i 0) ≡ false → Err NotANumber ≡ digits_answer n (drop i bs)
digit_none bs n i h e = sym (ap (answer_at n (get_or bs i 0) (drop (i + 1) bs)) e) ∙ sym (at_drop_more (digits_answer n) bs i 0 h)

pub at_most_nine : (c : ℕ) → is_ascii_digit c ≡ true → c - 48 ≤ 9
at_most_nine c e = omega (arith, leb-true c 57 (and_parts _ _ e).1)

-- the number so far has no more digits than were read
pub small_more : (n i d : ℕ) → n < 10 ^ i → d ≤ 9 → n * 10 + d < 10 ^ (i + 1)
small_more n i d h k = rw (add-one, pow-suc 10 i) (omega arith)

le6 : (i : ℕ) → i < 7 → i ≤ 6
le6 i k = omega arith

pub still_small : (n i : ℕ) → n < 10 ^ i → i < 7 → n < 1000000
still_small n i h k = omega (arith, pow-le-pow_right {n = 10} (omega arith) (le6 i k))

-- ## The inverse of writing

pub own : IsNumeralModel (λ ds. all_ascii_digits ds ≡ true) (read_on 0)
own = numerals_by_fold _ (search rules) read_on (search rules)

-- what the tests show of a field that is taken
pub record Taken (bs : List ℕ) (n : ℕ) : Type 0 where
  pub some : 0 < length bs
  pub short : length bs ≤ 7
  pub first : get_or bs 0 0 ≡ 48 → length bs ≡ 1
  pub digits : all_ascii_digits bs ≡ true
  pub value : read_on 0 bs ≡ n

taken : (bs : List ℕ) (n : ℕ) → number_answer bs ≡ Ok n → Taken bs n
taken [] n e = let z : ◌≡◌ {A = ℕ} 0 1 = cc in absurd (omega arith)
taken (c ∷ cs) n e =
    by (leb (length cs) 6 && (not (eqb c 48) || eqb (length cs) 0)) (all_ascii_digits (c ∷ cs)) refl refl e
  where
    by : (t d : Bool) → (leb (length cs) 6 && (not (eqb c 48) || eqb (length cs) 0)) ≡ t → all_ascii_digits (c ∷ cs) ≡ d → cond t (cond d (Ok (read_on 0 (c ∷ cs))) (Err NotANumber)) (Err NotANumber) ≡ Ok n → Taken (c ∷ cs) n
    by true true t d r =
        record {
          some = omega arith;
          short = grind (arith, nat_tests);
          first = λ z. grind (arith, nat_tests);
          digits = d;
          value = cc;
        }
    by true false t d r = let z : ◌≡◌ {A = ℕ} 0 1 = cc in absurd (omega arith)
    by false d t d' r = let z : ◌≡◌ {A = ℕ} 0 1 = cc in absurd (omega arith)

pub plain : (bs : List ℕ) → 0 < length bs → length bs ≤ 7 → (1 < length bs → get_or bs 0 0 ≡ 48 → ⊥) → digits_answer 0 bs ≡ number_answer bs
plain [] some short first = absurd (omega arith)
plain (c ∷ cs) some short first =
    sym (cond-true _ _ _ (and_from _ _ (le-leb (length cs) 6 (omega arith)) (allowed (cases_eq (length cs) 0))))
  where
    allowed : (length cs ≡ 0) ⊎ (length cs ≡ 0 → ⊥) → (not (eqb c 48) || eqb (length cs) 0) ≡ true
    allowed (inl z) = or_right _ _ (eq-eqb (length cs) 0 z)
    allowed (inr z) = or_left _ _ (not_from_false _ (ne_eqb c 48 (first (omega arith))))

decimal_first : (n : ℕ) → n < 10000000 → get_or (decimal n) 0 0 ≡ 48 → length (decimal n) ≡ 1
decimal_first n small e = by (cases_eq n 0)
  where
    by : (n ≡ 0) ⊎ (n ≡ 0 → ⊥) → length (decimal n) ≡ 1
    by (inl z) = ap length (decimal_digit n (omega arith))
    by (inr z) = absurd (omega (arith, first_decimal n (omega arith) (omega arith)))

pub written : (n : ℕ) → n < 10000000 → number_answer (decimal n) ≡ Ok n
written n small =
    let w : n < 2 ^ 64 = omega arith in
    let l : length (decimal n) ≤ 7 = length-decimal-le 7 n (omega arith) small w in
    sym (plain (decimal n) (decimal_nonempty n w) l (λ h e. omega (arith, decimal_first n small e)))
    ∙ cond-true _ _ _ (digits_decimal own n w) ∙ ap Ok (digits_value-decimal own n w)

-- an answer by the definition is the inverse of writing
pub inverse : (r : Result ℕ Fault) (bs : List ℕ) → r ≡ number_answer bs → InverseOfWriting r bs
inverse r bs e n = (λ h. back (taken bs n (sym e ∙ h)), λ w. e ∙ ap number_answer w.0 ∙ written n w.1)
  where
    back : Taken bs n → (bs ≡ decimal n) × (n < 10000000)
    back t =
        let small : read_on 0 bs < 10 ^ 7 = digits_value_short own bs 7 t.digits t.short in
        (sym (decimal-digits_value own bs t.digits t.some t.first (omega arith)) ∙ ap decimal t.value, omega (arith, t.value))
