-- Parting a line into fields, field by field.
use Rattle.std.proofs.Common.{◌≡◌, ℕ, zero, suc, ◌+◌, ◌-◌, ◌≤◌, Bool, true, false, cond, not, eqb, ltb, List, [], ◌∷◌, length, get_or, take, drop, Some, None, sym, refl, ap, ◌∙◌, arith}
use Rattle.std.specs.List.{position, position_or_len, prefix_len, onto_first}
use Rattle.std.proofs.lemmas.Bool.{ltb-false}
use Rattle.std.proofs.lemmas.List.{at_drop_all}
use Rattle.lines.specs.Fields.{fields_of, at_place, first_of, rest_of, skipped}

-- ## The first separator

module _ (sep : ℕ) where
  abbrev parts_here : ℕ → Bool
  parts_here b = eqb b sep

  pub found : (bs : List ℕ) (i : ℕ) → Some i ≡ position parts_here bs → i ≡ position_or_len parts_here bs
  found bs i h = by (ltb (position_or_len parts_here bs) (length bs)) h
    where
      by : (t : Bool) → Some i ≡ cond t (Some (position_or_len parts_here bs)) None → i ≡ position_or_len parts_here bs
      by true k = cc
      by false k = let z : ◌≡◌ {A = ℕ} 0 1 = cc in absurd (omega arith)

  pub not_found : (bs : List ℕ) → None ≡ position parts_here bs → length bs ≤ position_or_len parts_here bs
  not_found bs h = by (ltb (position_or_len parts_here bs) (length bs)) refl h
    where
      by : (t : Bool) → ltb (position_or_len parts_here bs) (length bs) ≡ t → None ≡ cond t (Some (position_or_len parts_here bs)) None → length bs ≤ position_or_len parts_here bs
      by true e k = let z : ◌≡◌ {A = ℕ} 0 1 = cc in absurd (omega arith)
      by false e k = ltb-false _ _ e

  pub none_left : (bs : List ℕ) (i : ℕ) → length bs ≤ i → length (first_of sep (drop i bs)) ≡ 0
  none_left bs i h = at_drop_all (λ cs. length (first_of sep cs)) bs i h

-- what stands before and after a place one further on
pub first_more : (b n : ℕ) (bs : List ℕ) → b ∷ take n bs ≡ take (1 + n) (b ∷ bs)
first_more b n bs = let e : suc n ≡ 1 + n = omega arith in ap (λ k. take k (b ∷ bs)) e

pub rest_more : (b n : ℕ) (bs : List ℕ) → drop (n + 1) bs ≡ drop (1 + n + 1) (b ∷ bs)
rest_more b n bs = let e : suc (n + 1) ≡ 1 + n + 1 = omega arith in ap (λ k. drop k (b ∷ bs)) e

-- ## Field by field

skipped_rest : (k : ℕ) (bs : List ℕ) → skipped (suc k) bs ≡ skipped k (rest_of 44 bs)
skipped_rest zero bs = refl
skipped_rest (suc k) bs = ap (rest_of 44) (skipped_rest k bs)

pub first_field_is : (bs : List ℕ) → get_or (fields_of bs) 0 [] ≡ first_of 44 bs
first_field_is [] = refl
first_field_is (b ∷ bs) = by (eqb b 44) (fields_of bs) (prefix_len (λ c. not (eqb c 44)) bs) (first_field_is bs)
  where
    by : (t : Bool) (fs : List (List ℕ)) (n : ℕ) → get_or fs 0 [] ≡ take n bs → get_or (cond t ([] ∷ fs) (onto_first b fs)) 0 [] ≡ take (cond (not t) (1 + n) 0) (b ∷ bs)
    by true fs n h = refl
    by false [] n h = ap (λ xs. b ∷ xs) h ∙ first_more b n bs
    by false (f ∷ fs) n h = ap (λ xs. b ∷ xs) h ∙ first_more b n bs

later_field : (bs : List ℕ) (k : ℕ) → get_or (fields_of bs) (suc k) [] ≡ get_or (fields_of (rest_of 44 bs)) k []
later_field [] zero = refl
later_field [] (suc k) = refl
later_field (b ∷ bs) k = by (eqb b 44) (fields_of bs) (prefix_len (λ c. not (eqb c 44)) bs) refl (later_field bs k)
  where
    by : (t : Bool) (fs : List (List ℕ)) (n : ℕ) → fs ≡ fields_of bs → get_or fs (suc k) [] ≡ get_or (fields_of (drop (n + 1) bs)) k [] → get_or (cond t ([] ∷ fs) (onto_first b fs)) (suc k) [] ≡ get_or (fields_of (drop (cond (not t) (1 + n) 0 + 1) (b ∷ bs))) k []
    by true fs n e h = ap (λ gs. get_or gs k []) e
    by false [] n e h = h ∙ ap (λ xs. get_or (fields_of xs) k []) (rest_more b n bs)
    by false (f ∷ fs) n e h = h ∙ ap (λ xs. get_or (fields_of xs) k []) (rest_more b n bs)

-- the field after k fields
pub field_after : (k : ℕ) (bs : List ℕ) → first_of 44 (skipped k bs) ≡ at_place (fields_of bs) (k + 1)
field_after k bs = let e : k ≡ k + 1 - 1 = omega arith in sym (from k bs) ∙ ap (λ j. get_or (fields_of bs) j []) e
  where
    from : (k : ℕ) (bs : List ℕ) → get_or (fields_of bs) k [] ≡ first_of 44 (skipped k bs)
    from zero bs = first_field_is bs
    from (suc k) bs = later_field bs k ∙ from k (rest_of 44 bs) ∙ ap (first_of 44) (sym (skipped_rest k bs))
