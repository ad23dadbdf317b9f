-- The node lines read so far: their letters, and which nodes are given.
use Rattle.std.proofs.Common.{◌≡◌, ℕ, suc, ◌-◌, ◌<◌, ◌≤◌, Bool, true, false, cond, eqb, ◌⊎◌, List, [], ◌∷◌, ◌++◌, map, get_or, set, Ok, sym, refl, ap, ◌∙◌, ap₂, inl, inr, arith}
use Rattle.std.specs.List.{range_with_len}
use Rattle.std.specs.Result.{result_map_both}
use Rattle.std.proofs.lemmas.List.{ext_get_or, length-set, get_or-set_same, get_or-set_other}
use Rattle.std.proofs.lemmas.List.FromFn.{get_or-map-range_with_len}
use Rattle.std.proofs.lemmas.Bool.{eq-eqb, ne_eqb, le-leb, and_from, cases_eq, cond-true, cond-false, or_parts}
use Rattle.records.specs.Ranges.{within}
use Rattle.records.proofs.InRange.{within_true}
use Rattle.mixed.specs.declared.letters.Letter.{Letter}
use Rattle.mixed.specs.Letters.{with_letter}
use Rattle.lines.specs.declared.line.NodeLine.{NodeLine}
use Rattle.lines.specs.Faults.{in_record}
use Rattle.reading.specs.Reading.{Nodes, is_given, give}
use Rattle.sheets.specs.Sheets.{letter_among, letters_of, NodeFits}
use Rattle.sheets.proofs.Numbered.{has, has_new, has_other, node_number}
use Rattle.lines.proofs.Passing.{then_passed, then_passes, mapped_passed, mapped_passes, test_passed, not_test_passed}

-- ## One entry for each node from 1 to 8

abbrev eight : {A : Type 0} → (ℕ → A) → List A
eight f = map f (range_with_len 1 8)

eight_at : {A : Type 0} (f : ℕ → A) (i : ℕ) (d : A) → i < 8 → get_or (eight f) i d ≡ f (suc i)
eight_at f i d h = get_or-map-range_with_len f 1 8 i (suc i) d h (omega arith)

node_at : {A : Type 0} (f : ℕ → A) (k : ℕ) (d : A) → 1 ≤ k → k ≤ 8 → get_or (eight f) (k - 1) d ≡ f k
node_at f k d low high = let e : suc (k - 1) ≡ k = omega arith in eight_at f (k - 1) d (omega arith) ∙ ap f e

-- a new entry for one node
eight_set : {A : Type 0} (f g : ℕ → A) (k : ℕ) → 1 ≤ k → k ≤ 8 → ((j : ℕ) → (k ≡ j → ⊥) → g j ≡ f j) → set (eight f) (k - 1) (g k) ≡ eight g
eight_set f g k low high others =
    ext_get_or (g k) (set (eight f) (k - 1) (g k)) (eight g) (length-set (eight f) (k - 1) (g k)) (λ i h. by i (omega (arith, length-set (eight f) (k - 1) (g k))) (cases_eq i (k - 1)))
  where
    by : (i : ℕ) → i < 8 → (i ≡ k - 1) ⊎ (i ≡ k - 1 → ⊥) → get_or (set (eight f) (k - 1) (g k)) i (g k) ≡ get_or (eight g) i (g k)
    by i l (inl e) =
        let s : k ≡ suc i = omega arith in
        ap (λ j. get_or (set (eight f) (k - 1) (g k)) j (g k)) e ∙ get_or-set_same (eight f) (k - 1) (g k) (g k) (omega arith) ∙ ap g s ∙ sym (eight_at g i (g k) l)
    by i l (inr e) =
        get_or-set_other (eight f) (k - 1) i (g k) (g k) e ∙ eight_at f i (g k) l ∙ sym (eight_at g i (g k) l ∙ others (suc i) (λ s. e (omega arith)))

-- ## The letters, and the nodes given

letter_new : (xs : List NodeLine) (x : NodeLine) → has node_number xs x.node ≡ false → letter_among (xs ++ x ∷ []) x.node ≡ x.letter
letter_new [] x h = cond-true _ _ _ (eq-eqb x.node x.node refl)
letter_new (y ∷ xs) x h =
    let (other, rest) = or_parts (eqb y.node x.node) (has node_number xs x.node) h in
    cond-false _ _ _ other ∙ letter_new xs x rest

letter_other : (xs : List NodeLine) (x : NodeLine) (k : ℕ) → (x.node ≡ k → ⊥) → letter_among (xs ++ x ∷ []) k ≡ letter_among xs k
letter_other [] x k n = cond-false _ _ _ (ne_eqb x.node k n)
letter_other (y ∷ xs) x k n = ap (λ l. cond (eqb y.node k) y.letter l) (letter_other xs x k n)

-- what was read of these lines
abbrev pub nodes_of : List NodeLine → Nodes
nodes_of xs = record { letters = letters_of xs; given = eight (has node_number xs) }

letters_push : (xs : List NodeLine) (x : NodeLine) → NodeFits x → has node_number xs x.node ≡ false → set (letters_of xs).by_node (x.node - 1) x.letter ≡ (letters_of (xs ++ x ∷ [])).by_node
letters_push xs x fits new =
    ap (set (eight (letter_among xs)) (x.node - 1)) (sym (letter_new xs x new))
    ∙ eight_set (letter_among xs) (letter_among (xs ++ x ∷ [])) x.node fits.0 fits.1 (letter_other xs x)

given_push : (xs : List NodeLine) (x : NodeLine) → NodeFits x → set (nodes_of xs).given (x.node - 1) true ≡ (nodes_of (xs ++ x ∷ [])).given
given_push xs x fits =
    ap (set (eight (has node_number xs)) (x.node - 1)) (sym (has_new node_number xs x))
    ∙ eight_set (has node_number xs) (has node_number (xs ++ x ∷ [])) x.node fits.0 fits.1 (has_other node_number xs x)

abbrev nodes_from : List Letter → List Bool → Nodes
nodes_from letters given = record { letters = record { by_node = letters }; given = given }

nodes_push : (xs : List NodeLine) (x : NodeLine) → NodeFits x → has node_number xs x.node ≡ false → nodes_from (set (letters_of xs).by_node (x.node - 1) x.letter) (set (nodes_of xs).given (x.node - 1) true) ≡ nodes_of (xs ++ x ∷ [])
nodes_push xs x fits new = ap₂ nodes_from (letters_push xs x fits new) (given_push xs x fits)

pub is_given_has : (xs : List NodeLine) (k : ℕ) → 1 ≤ k → k ≤ 8 → is_given (nodes_of xs).given k ≡ has node_number xs k
is_given_has xs k low high = node_at (has node_number xs) k false low high

-- ## One node more

-- a node line that is taken has a node in range that was not given
pub give_passed : (xs : List NodeLine) (x : NodeLine) (after : Nodes) → give (nodes_of xs) x ≡ Ok after → NodeFits x × (has node_number xs x.node ≡ false) × (nodes_of (xs ++ x ∷ []) ≡ after)
give_passed xs x after h =
    let (letters, lettered, rest) = then_passed (result_map_both (λ l. l) in_record (with_letter (letters_of xs) x.node x.letter)) _ after h in
    let (range, is) = test_passed (within 1 8 x.node) _ _ letters (mapped_passed in_record (with_letter (letters_of xs) x.node x.letter) letters lettered) in
    let (new, made) = not_test_passed (is_given (nodes_of xs).given x.node) _ _ after rest in
    let fits : NodeFits x = within_true 1 8 x.node range in
    let fresh = sym (is_given_has xs x.node fits.0 fits.1) ∙ new in
    (fits, fresh, sym (nodes_push xs x fits fresh) ∙ cc)

pub give_passes : (xs : List NodeLine) (x : NodeLine) → NodeFits x → has node_number xs x.node ≡ false → give (nodes_of xs) x ≡ Ok (nodes_of (xs ++ x ∷ []))
give_passes xs x fits fresh =
    then_passes _ (mapped_passes in_record (cond-true _ _ _ (and_from _ _ (le-leb 1 x.node fits.0) (le-leb x.node 8 fits.1))))
    (cond-false _ _ _ (is_given_has xs x.node fits.0 fits.1 ∙ fresh) ∙ ap Ok (nodes_push xs x fits fresh))
