-- The jitter and the deadline of a row, by the row's place in its chain.
use Rattle.std.proofs.Common.{◌≡◌, ℕ, zero, suc, ◌+◌, ◌-◌, ◌<◌, ◌≤◌, Bool, true, false, cond, eqb, ltb, List, [], ◌∷◌, ◌++◌, length, get_or, drop, replicate, Some, None, sym, refl, ap, ◌∙◌, arith, length-append, get_or-drop}
use lib.ListN.{length-replicate}
use Rattle.std.proofs.lemmas.List.{get_or_append_left, get_or-append_right, get_or-replicate, length-drop}
use Rattle.std.proofs.lemmas.Bool.{ltb-true, ltb-false, eqb-false, ne_eqb}
use Rattle.records.specs.declared.fields.Row.{Row}
use Rattle.records.specs.Ranges.{chain_fits}
use Rattle.std.proofs.lemmas.Bool.{and_parts}
use Rattle.std.specs.List.{list_all}
use Rattle.rules.specs.Rules.{row, no_row}
use Rattle.law.specs.Assignments.{Held, rows_of, deadlines_of, jitters_in, jitters_of}
use Rattle.law.proofs.Chains.{length_jitters_in}
use Rattle.plan.specs.declared.table.Entry.{Entry}
use Rattle.plan.specs.declared.table.Place.{Place}
use Rattle.plan.specs.Contents.{entry_fits, place_in}
use Rattle.plan.proofs.Memory.{place_from}

some_same : {A : Type 0} {x y : A} → Some x ≡ Some y → x ≡ y
some_same e = cc

none_some : {A : Type 0} {P : Type 0} {x : A} → None ≡ Some x → P
none_some e = let z : ◌≡◌ {A = ℕ} 0 1 = cc in absurd (omega arith)

-- a chain that is found is one of those held, and fits
pub place_fits : (es : List Entry) (k : ℕ) (p : Place) → list_all entry_fits es ≡ true → Some p ≡ place_from k es → chain_fits p.chain ≡ true
place_fits [] k p f e = none_some (sym e)
place_fits (x ∷ es) k p f e = let (a, b) = and_parts (entry_fits x) (list_all entry_fits es) f in by (ltb k x.steps) a e (place_fits es (k - x.steps) p b)
  where
    by : (t : Bool) → entry_fits x ≡ true → Some p ≡ cond t (Some (record { chain = x.fields; step = k })) (place_from (k - x.steps) es) →
        (Some p ≡ place_from (k - x.steps) es → chain_fits p.chain ≡ true) → chain_fits p.chain ≡ true
    by true a e rec = let s = some_same e in rw (ap (λ (q : Place). q.chain) s) a
    by false a e rec = rec e

-- ## The deadline of a row

pub deadline_at : (cs : List Held) (k : ℕ) (p : Place) → Some p ≡ place_in cs k → get_or (deadlines_of cs) k 0 ≡ p.chain.deadline.ticks
deadline_at [] k p e = none_some (sym e)
deadline_at (c ∷ cs) k p e = by (ltb k (length c.rows)) refl e (deadline_at cs (k - length c.rows) p)
  where
    by : (t : Bool) → ltb k (length c.rows) ≡ t → Some p ≡ cond t (Some (record { chain = c.chain; step = k })) (place_in cs (k - length c.rows)) →
        (Some p ≡ place_in cs (k - length c.rows) → get_or (deadlines_of cs) (k - length c.rows) 0 ≡ p.chain.deadline.ticks) →
        get_or (deadlines_of (c ∷ cs)) k 0 ≡ p.chain.deadline.ticks
    by true t e rec =
        let h = ltb-true k (length c.rows) t in
        let l = length-replicate (length c.rows) c.chain.deadline.ticks in
        get_or_append_left (replicate (length c.rows) c.chain.deadline.ticks) (deadlines_of cs) 0 k (omega arith)
        ∙ get_or-replicate (length c.rows) k c.chain.deadline.ticks 0 h ∙ ap (λ (q : Place). q.chain.deadline.ticks) (sym (some_same e))
    by false t e rec =
        get_or-append_right (replicate (length c.rows) c.chain.deadline.ticks) (deadlines_of cs) (length c.rows) k 0 (length-replicate _ _) (ltb-false k (length c.rows) t)
        ∙ rec e

-- ## The jitter of a row

-- what comes before a step: the arrival jitter, or the response of the row before it
abbrev pub before : ℕ → List ℕ → ℕ → ℕ → ℕ
before arrival xs k step = cond (eqb step 0) arrival (get_or xs (k - 1) 0)

jitter_in_first : (b : ℕ) (rs : List Row) (xs : List ℕ) → 0 < length rs → get_or (jitters_in b rs xs) 0 0 ≡ b + (row rs 0).step.delay
jitter_in_first b [] xs h = absurd (omega arith)
jitter_in_first b (r ∷ rs) [] h = refl
jitter_in_first b (r ∷ rs) (x ∷ xs) h = refl

jitter_in_later : (b : ℕ) (rs : List Row) (xs : List ℕ) (k : ℕ) → suc k < length rs → length rs ≤ length xs → get_or (jitters_in b rs xs) (suc k) 0 ≡ get_or xs k 0 + (row rs (suc k)).step.delay
jitter_in_later b [] xs k h l = absurd (omega arith)
jitter_in_later b (r ∷ rs) [] k h l = absurd (omega arith)
jitter_in_later b (r ∷ rs) (x ∷ xs) zero h l = jitter_in_first x rs xs (omega arith)
jitter_in_later b (r ∷ rs) (x ∷ xs) (suc k) h l = jitter_in_later x rs xs k (omega arith) (omega arith)

jitter_in_at : (b : ℕ) (rs : List Row) (xs : List ℕ) (k : ℕ) → k < length rs → length rs ≤ length xs → get_or (jitters_in b rs xs) k 0 ≡ before b xs k k + (row rs k).step.delay
jitter_in_at b rs xs zero h l = jitter_in_first b rs xs h
jitter_in_at b rs xs (suc k) h l =
    let e : suc k - 1 ≡ k = omega arith in
    rw (ne_eqb (suc k) 0 (λ z. omega arith), e) (jitter_in_later b rs xs k h l)

-- a row's place in its chain is at most its number
pub place_small : (cs : List Held) (k : ℕ) (p : Place) → Some p ≡ place_in cs k → p.step ≤ k
place_small [] k p e = none_some (sym e)
place_small (c ∷ cs) k p e = by (ltb k (length c.rows)) e (place_small cs (k - length c.rows) p)
  where
    by : (t : Bool) → Some p ≡ cond t (Some (record { chain = c.chain; step = k })) (place_in cs (k - length c.rows)) →
        (Some p ≡ place_in cs (k - length c.rows) → p.step ≤ k - length c.rows) → p.step ≤ k
    by true e rec = let s = ap (λ (q : Place). q.step) (some_same e) in omega arith
    by false e rec = let s = rec e in omega arith

pub jitter_at : (cs : List Held) (xs : List ℕ) (k : ℕ) (p : Place) → Some p ≡ place_in cs k → length (rows_of cs) ≤ length xs →
    get_or (jitters_of cs xs) k 0 ≡ before p.chain.arrival_jitter xs k p.step + (row (rows_of cs) k).step.delay
jitter_at [] xs k p e l = none_some (sym e)
jitter_at (c ∷ cs) xs k p e l = by (ltb k n) refl e (jitter_at cs (drop n xs) (k - n) p)
  where
    n : ℕ
    n = length c.rows

    front : List ℕ
    front = jitters_in c.chain.arrival_jitter c.rows xs

    by : (t : Bool) → ltb k n ≡ t → Some p ≡ cond t (Some (record { chain = c.chain; step = k })) (place_in cs (k - n)) →
        (Some p ≡ place_in cs (k - n) → length (rows_of cs) ≤ length (drop n xs) →
        get_or (jitters_of cs (drop n xs)) (k - n) 0 ≡ before p.chain.arrival_jitter (drop n xs) (k - n) p.step + (row (rows_of cs) (k - n)).step.delay) →
        get_or (front ++ jitters_of cs (drop n xs)) k 0 ≡ before p.chain.arrival_jitter xs k p.step + (row (c.rows ++ rows_of cs) k).step.delay
    by true t e rec =
        let h = ltb-true k n t in
        let m = length_jitters_in c.chain.arrival_jitter c.rows xs in
        let a = length-append c.rows (rows_of cs) in
        let s = some_same e in
        let left = get_or_append_left front (jitters_of cs (drop n xs)) 0 k (omega arith) ∙ jitter_in_at c.chain.arrival_jitter c.rows xs k h (omega arith) in
        rw (s, get_or_append_left c.rows (rows_of cs) no_row k h) left
    by false t e rec =
        let h = ltb-false k n t in
        let d = length-drop n xs in
        let a = length-append c.rows (rows_of cs) in
        let r = rec e (omega arith) in
        let left = get_or-append_right front (jitters_of cs (drop n xs)) n k 0 (length_jitters_in c.chain.arrival_jitter c.rows xs) h ∙ r in
        rw (get_or-append_right c.rows (rows_of cs) n k no_row refl h) (left ∙ ap (λ b. b + (row (rows_of cs) (k - n)).step.delay) (moved (eqb p.step 0) refl (place_small cs (k - n) p e) h))
      where
        -- the row before is the same in the whole list and behind the first chain
        moved : (z : Bool) → eqb p.step 0 ≡ z → p.step ≤ k - n → n ≤ k → cond z p.chain.arrival_jitter (get_or (drop n xs) (k - n - 1) 0) ≡ cond z p.chain.arrival_jitter (get_or xs (k - 1) 0)
        moved true z s h = refl
        moved false z s h = let ne = eqb-false p.step 0 z in let i : n + (k - n - 1) ≡ k - 1 = omega arith in get_or-drop n xs (k - n - 1) 0 ∙ ap (λ j. get_or xs j 0) i
