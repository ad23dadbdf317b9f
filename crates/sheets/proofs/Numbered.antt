-- What holds of every element, and elements with numbers that are apart.
use Rattle.std.proofs.Common.{◌≡◌, ℕ, Bool, true, false, ◌||◌, eqb, ◌⊎◌, List, [], ◌∷◌, ◌++◌, sym, refl, ◌∙◌, inl, inr}
use Rattle.std.specs.List.{list_any}
use Rattle.std.proofs.lemmas.List.Folds.{list_any-append}
use Rattle.std.proofs.lemmas.Bool.{false≢true, eqb-true, eqb-false, eq-eqb, ne_eqb, or_cases, or_parts, or_from, or_left, or_right}
use Rattle.lines.specs.declared.line.NodeLine.{NodeLine}
use Rattle.sheets.specs.Sheets.{Every, Apart, Given}
use Rattle.sheets.specs.Sheets.Given.{here, later}

-- ## Every element

pub every_append : {A : Type 0} (P : A → Type 0) (xs ys : List A) → Every P xs → Every P ys → Every P (xs ++ ys)
every_append P [] ys p q = q
every_append P (x ∷ xs) ys p q = (p.0, every_append P xs ys p.1 q)

pub every_back : {A : Type 0} (P : A → Type 0) (xs ys : List A) → Every P (xs ++ ys) → Every P ys
every_back P [] ys p = p
every_back P (x ∷ xs) ys p = every_back P xs ys p.1

-- ## Numbers apart

-- an element has this number
abbrev pub has : {A : Type 0} → (A → ℕ) → List A → ℕ → Bool
has number xs i = list_any (λ x. eqb (number x) i) xs

module _ {A : Type 0} (number : A → ℕ) where
  pub has_new : (xs : List A) (x : A) → has number (xs ++ x ∷ []) (number x) ≡ true
  has_new xs x = list_any-append (λ y. eqb (number y) (number x)) xs (x ∷ []) ∙ or_right (has number xs (number x)) _ (or_left _ _ (eq-eqb (number x) (number x) refl))

  pub has_other : (xs : List A) (x : A) (i : ℕ) → (number x ≡ i → ⊥) → has number (xs ++ x ∷ []) i ≡ has number xs i
  has_other xs x i n = list_any-append (λ y. eqb (number y) i) xs (x ∷ []) ∙ by (has number xs i)
    where
      by : (t : Bool) → (t || (eqb (number x) i || false)) ≡ t
      by true = refl
      by false = or_from _ _ (ne_eqb (number x) i n) refl

  pub apart_push : (xs : List A) (x : A) → Apart number xs → has number xs (number x) ≡ false → Apart number (xs ++ x ∷ [])
  apart_push [] x p h = (tt, tt)
  apart_push (y ∷ xs) x p h =
      let (ne, rest) = or_parts (eqb (number y) (number x)) (has number xs (number x)) h in
      (every_append (λ z. number z ≡ number y → ⊥) xs (x ∷ []) p.0 ((λ e. eqb-false (number y) (number x) ne (sym e)), tt), apart_push xs x p.1 rest)

  pub apart_before : (xs : List A) (x : A) (ys : List A) → Apart number (xs ++ x ∷ ys) → has number xs (number x) ≡ false
  apart_before [] x ys p = refl
  apart_before (y ∷ xs) x ys p =
      or_from _ _ (ne_eqb (number y) (number x) (λ e. (every_back (λ z. number z ≡ number y → ⊥) xs (x ∷ ys) p.0).0 (sym e))) (apart_before xs x ys p.1)

-- ## Nodes that have a line

abbrev pub node_number : NodeLine → ℕ
node_number x = x.node

pub given_from : (xs : List NodeLine) (k : ℕ) → has node_number xs k ≡ true → Given k xs
given_from [] k h = absurd (false≢true h)
given_from (x ∷ xs) k h = by (or_cases (eqb x.node k) (has node_number xs k) h) (given_from xs k)
  where
    by : (eqb x.node k ≡ true) ⊎ (has node_number xs k ≡ true) → (has node_number xs k ≡ true → Given k xs) → Given k (x ∷ xs)
    by (inl e) rest = here (eqb-true x.node k e)
    by (inr e) rest = later (rest e)

pub given_has : {k : ℕ} {xs : List NodeLine} → Given k xs → has node_number xs k ≡ true
given_has (here e) = or_left _ _ (eq-eqb _ _ e)
given_has (later g) = or_right _ _ (given_has g)
