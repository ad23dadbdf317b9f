-- The steps of the chain whose lines are being read.
use Rattle.std.proofs.Common.{◌≡◌, ℕ, ◌<◌, ◌≤◌, true, cond, ltb, ◌⊎◌, List, [], ◌∷◌, ◌++◌, length, take, Some, None, Ok, Option, sym, refl, ap, ◌∙◌, inl, inr, arith}
use Rattle.std.proofs.lemmas.List.{length_push, length-take-le, take_all, take-append-le}
use Rattle.std.proofs.lemmas.Bool.{false≢true, lt-ltb, le-ltb, cases_lt, cond-true, cond-false}
use Rattle.records.specs.declared.fields.StepFields.{StepFields}
use Rattle.records.specs.Ranges.{nowhere, bad_step_field, step_fits}
use Rattle.records.proofs.InRange.{step_in_range}
use Rattle.law.specs.Runs.{first_bad}
use Rattle.lines.specs.declared.line.NodeLine.{NodeLine}
use Rattle.reading.specs.Reading.{Begun, with_step, is_given, fit_answer, step_answer}
use Rattle.sheets.specs.Sheets.{Written, Every, StepFits}
use Rattle.sheets.proofs.Nodes.{nodes_of, is_given_has}
use Rattle.sheets.proofs.Numbered.{given_from, given_has}
use Rattle.lines.proofs.Passing.{no_fault, then_passed, then_passes, test_passed}

-- ## Fields in range

no_place : (o : Option ℕ) → nowhere o ≡ true → o ≡ None
no_place None h = refl
no_place (Some place) h = absurd (false≢true h)

pub fit_passed : (o : Option ℕ) (u : Unit {0}) → fit_answer o ≡ Ok u → nowhere o ≡ true
fit_passed None u h = refl
fit_passed (Some place) u h = absurd (no_fault h)

pub fit_passes : (o : Option ℕ) → nowhere o ≡ true → fit_answer o ≡ Ok tt
fit_passes o h = ap fit_answer (no_place o h)

pub none_bad : (xs : List NodeLine) (ss : List StepFields) → Every (StepFits xs) ss → first_bad ss ≡ None
none_bad xs [] p = refl
none_bad xs (s ∷ ss) p =
    ap (λ o. elim o as (λ _. Option ℕ) [ Some place ↦ Some place | None ↦ first_bad ss ]) (no_place (bad_step_field s) p.0.0) ∙ none_bad xs ss p.1

-- ## One step more

pub step_passed : (xs : List NodeLine) (s : StepFields) (u : Unit {0}) → step_answer (nodes_of xs).given s ≡ Ok u → StepFits xs s
step_passed xs s u h =
    let (v, range, rest) = then_passed (fit_answer (bad_step_field s)) _ u h in
    let fits : step_fits s ≡ true = fit_passed (bad_step_field s) v range in
    let node = (step_in_range s fits).node in
    let (given, done) = test_passed (is_given (nodes_of xs).given s.node) _ _ u rest in
    (fits, given_from xs s.node (sym (is_given_has xs s.node node.0 node.1) ∙ given))

pub step_passes : (xs : List NodeLine) (s : StepFields) → StepFits xs s → step_answer (nodes_of xs).given s ≡ Ok tt
step_passes xs s (fits, given) =
    let node = (step_in_range s fits).node in
    then_passes _ (fit_passes (bad_step_field s) fits) (cond-true _ _ _ (is_given_has xs s.node node.0 node.1 ∙ given_has given))

-- ## The steps that are kept

push_kept : {A : Type 0} (n : ℕ) (xs : List A) (x : A) → cond (ltb (length (take n xs)) n) (take n xs ++ x ∷ []) (take n xs) ≡ take n (xs ++ x ∷ [])
push_kept n xs x = by (cases_lt (length xs) n)
  where
    by : (length xs < n) ⊎ (n ≤ length xs) → cond (ltb (length (take n xs)) n) (take n xs ++ x ∷ []) (take n xs) ≡ take n (xs ++ x ∷ [])
    by (inl l) =
        let all = take_all n xs (omega arith) in
        cond-true _ _ _ (lt-ltb (length (take n xs)) n (rw all l)) ∙ ap (λ ys. ys ++ x ∷ []) all ∙ sym (take_all n (xs ++ x ∷ []) (omega (arith, length_push xs x)))
    by (inr l) = cond-false _ _ _ (le-ltb (length (take n xs)) n (omega (arith, length-take-le n xs l))) ∙ sym (take-append-le n xs (x ∷ []) l)

pub all_kept : {A : Type 0} (n : ℕ) (xs : List A) → length (take n xs) < n → take n xs ≡ xs
all_kept n xs h = by (cases_lt (length xs) n)
  where
    by : (length xs < n) ⊎ (n ≤ length xs) → take n xs ≡ xs
    by (inl l) = take_all n xs (omega arith)
    by (inr l) = absurd (omega (arith, length-take-le n xs l))

-- a chain of which these steps were read
abbrev pub begun_with : ℕ → Written → Begun
begun_with n c = record { line = n; fields = c.fields; steps = take 17 c.steps }

abbrev pub with_more : Written → StepFields → Written
with_more c s = record { fields = c.fields; steps = c.steps ++ s ∷ [] }

pub with_step_is : (n : ℕ) (c : Written) (s : StepFields) → with_step (begun_with n c) s ≡ begun_with n (with_more c s)
with_step_is n c s = ap (λ kept. record { line = n; fields = c.fields; steps = kept }) (push_kept 17 c.steps s)
