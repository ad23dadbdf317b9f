-- Lists under lists, and what holds of each element.
use Rattle.std.proofs.Common.{◌≡◌, ℕ, zero, suc, ◌<◌, ◌≤◌, Bool, true, List, [], ◌∷◌, ◌++◌, length, get_or, drop, replicate, refl, ap, ap₂, arith}
use Rattle.std.proofs.lemmas.Bool.{and_parts}
use Rattle.std.specs.List.{list_all}
use Rattle.rules.specs.Rules.{Under}
use Rattle.rules.specs.Rules.Under.{ended, beside}

-- ## Lists under lists

pub under_length : {xs ys : List ℕ} → Under xs ys → length xs ≡ length ys
under_length ended = refl
under_length (beside h u) = ap suc (under_length u)

pub under_at : {xs ys : List ℕ} → Under xs ys → (i : ℕ) → get_or xs i 0 ≤ get_or ys i 0
under_at ended i = omega arith
under_at (beside h u) zero = h
under_at (beside h u) (suc i) = under_at u i

pub under_from : (xs ys : List ℕ) → length xs ≡ length ys → ((i : ℕ) → i < length xs → get_or xs i 0 ≤ get_or ys i 0) → Under xs ys
under_from [] [] e h = ended
under_from [] (y ∷ ys) e h = absurd (omega arith)
under_from (x ∷ xs) [] e h = absurd (omega arith)
under_from (x ∷ xs) (y ∷ ys) e h = beside (h 0 (omega arith)) (under_from xs ys (omega arith) (λ i l. h (suc i) (omega arith)))

pub under_trans : {xs ys zs : List ℕ} → Under xs ys → Under ys zs → Under xs zs
under_trans ended ended = ended
under_trans (beside h u) (beside k v) = beside (omega arith) (under_trans u v)

pub under_same : {xs ys : List ℕ} → Under xs ys → Under ys xs → xs ≡ ys
under_same ended ended = refl
under_same (beside h u) (beside k v) = ap₂ ◌∷◌ (omega arith) (under_same u v)

pub under_append : {xs ys zs ws : List ℕ} → Under xs ys → Under zs ws → Under (xs ++ zs) (ys ++ ws)
under_append ended v = v
under_append (beside h u) v = beside h (under_append u v)

pub under_drop : {xs ys : List ℕ} → (n : ℕ) → Under xs ys → Under (drop n xs) (drop n ys)
under_drop zero u = u
under_drop (suc n) ended = ended
under_drop (suc n) (beside h u) = under_drop n u

-- the front parts, of one length, of lists of which one is under the other
pub under_front : (xs ds ys es : List ℕ) → length xs ≡ length ds → Under (xs ++ ys) (ds ++ es) → Under xs ds
under_front [] [] ys es e u = ended
under_front [] (d ∷ ds) ys es e u = absurd (omega arith)
under_front (x ∷ xs) [] ys es e u = absurd (omega arith)
under_front (x ∷ xs) (d ∷ ds) ys es e (beside h u) = beside h (under_front xs ds ys es (omega arith) u)

pub under_zeros : (n : ℕ) (xs : List ℕ) → length xs ≡ n → Under (replicate n 0) xs
under_zeros zero [] e = ended
under_zeros zero (x ∷ xs) e = absurd (omega arith)
under_zeros (suc n) [] e = absurd (omega arith)
under_zeros (suc n) (x ∷ xs) e = beside (omega arith) (under_zeros n xs (omega arith))

-- ## What holds of each

abbrev pub Each : {A : Type 0} → (A → Type 0) → List A → Type 0
Each P [] = Unit {0}
Each P (x ∷ xs) = P x × Each P xs

pub each_append : {A : Type 0} (P : A → Type 0) (xs ys : List A) → Each P xs → Each P ys → Each P (xs ++ ys)
each_append P [] ys p q = q
each_append P (x ∷ xs) ys p q = (p.0, each_append P xs ys p.1 q)

pub each_front : {A : Type 0} (P : A → Type 0) (xs ys : List A) → Each P (xs ++ ys) → Each P xs
each_front P [] ys p = tt
each_front P (x ∷ xs) ys p = (p.0, each_front P xs ys p.1)

pub each_drop : {A : Type 0} (P : A → Type 0) (n : ℕ) (xs : List A) → Each P xs → Each P (drop n xs)
each_drop P zero xs p = p
each_drop P (suc n) [] p = p
each_drop P (suc n) (x ∷ xs) p = each_drop P n xs p.1

pub each_replicate : {A : Type 0} (P : A → Type 0) (n : ℕ) (x : A) → P x → Each P (replicate n x)
each_replicate P zero x p = tt
each_replicate P (suc n) x p = (p, each_replicate P n x p)

pub each_at : {A : Type 0} (P : A → Type 0) (xs : List A) (k : ℕ) (d : A) → Each P xs → k < length xs → P (get_or xs k d)
each_at P [] k d p h = absurd (omega arith)
each_at P (x ∷ xs) zero d p h = p.0
each_at P (x ∷ xs) (suc k) d p h = each_at P xs k d p.1 (omega arith)

pub each_under : (k : ℕ) {xs ys : List ℕ} → Under xs ys → Each (λ x. x ≤ k) ys → Each (λ x. x ≤ k) xs
each_under k ended p = p
each_under k (beside h u) p = (omega arith, each_under k u p.1)

-- what a test says of each element that passes
pub passes_each : {A : Type 0} (p : A → Bool) (P : A → Type 0) → ((x : A) → p x ≡ true → P x) → (xs : List A) → list_all p xs ≡ true → Each P xs
passes_each p P f [] e = tt
passes_each p P f (x ∷ xs) e = let (a, b) = and_parts (p x) (list_all p xs) e in (f x a, passes_each p P f xs b)

pub passes_from : {A : Type 0} (p : A → Bool) (P : A → Type 0) → ((x : A) → P x → p x ≡ true) → (xs : List A) → Each P xs → list_all p xs ≡ true
passes_from p P f [] e = refl
passes_from p P f (x ∷ xs) e = rw (f x e.0) (passes_from p P f xs e.1)
