-- Chains, their jitters and deadlines: what is monotone, what is in range, and what is in time.
use Rattle.std.proofs.Common.{◌≡◌, ℕ, zero, suc, ◌-◌, ◌<◌, ◌≤◌, true, List, [], ◌∷◌, ◌++◌, length, get_or, drop, replicate, refl, ap, ◌∙◌, ap₂, arith, length-append}
use lib.ListN.{length-replicate}
use Rattle.std.proofs.lemmas.List.{get_or_append_left, get_or-replicate, drop_at}
use Rattle.records.specs.declared.fields.Row.{Row}
use Rattle.records.specs.Ranges.{row_fits}
use Rattle.records.proofs.InRange.{row_in_range}
use Rattle.rules.specs.Rules.{valid, Under}
use Rattle.rules.specs.Rules.Under.{ended, beside}
use Rattle.rules.proofs.Lists.{Each, under_at, under_append, under_drop, each_append, each_drop, each_replicate, each_under}
use Rattle.rules.proofs.Validity.{valid_from}
use Rattle.law.specs.Assignments.{Held, rows_of, deadlines_of, jitters_in, jitters_of, InTime, total}

-- ## Totals

pub get_or_zeros : (n i : ℕ) → ◌≡◌ {A = ℕ} (get_or (replicate n 0) i 0) 0
get_or_zeros zero i = refl
get_or_zeros (suc n) zero = refl
get_or_zeros (suc n) (suc i) = get_or_zeros n i

pub under_total : {xs ys : List ℕ} → Under xs ys → total xs ≤ total ys
under_total ended = omega arith
under_total (beside h u) = let t = under_total u in omega arith

pub under_full : {xs ys : List ℕ} → Under xs ys → total ys ≤ total xs → xs ≡ ys
under_full ended t = refl
under_full (beside h u) t = let s = under_total u in ap₂ ◌∷◌ (omega arith) (under_full u (omega arith))

-- ## Jitters

pub length_jitters_in : (b : ℕ) (rs : List Row) (xs : List ℕ) → length (jitters_in b rs xs) ≡ length rs
length_jitters_in b [] xs = refl
length_jitters_in b (r ∷ rs) [] = ap suc (length_jitters_in 0 rs [])
length_jitters_in b (r ∷ rs) (x ∷ xs) = ap suc (length_jitters_in x rs xs)

pub length_jitters : (cs : List Held) (xs : List ℕ) → length (jitters_of cs xs) ≡ length (rows_of cs)
length_jitters [] xs = refl
length_jitters (c ∷ cs) xs = simp (length-append, length_jitters_in, length_jitters cs)

jitters_in_under : (b d : ℕ) (rs : List Row) {xs ys : List ℕ} → b ≤ d → Under xs ys → Under (jitters_in b rs xs) (jitters_in d rs ys)
jitters_in_under b d [] h u = ended
jitters_in_under b d (r ∷ rs) h ended = beside (omega arith) (jitters_in_under 0 0 rs (omega arith) ended)
jitters_in_under b d (r ∷ rs) h (beside {x} {y} k u) = beside (omega arith) (jitters_in_under x y rs k u)

-- 1. the jitters are monotone
pub jitters_under : (cs : List Held) {xs ys : List ℕ} → Under xs ys → Under (jitters_of cs xs) (jitters_of cs ys)
jitters_under [] u = ended
jitters_under (c ∷ cs) u = under_append (jitters_in_under _ _ c.rows (omega arith) u) (jitters_under cs (under_drop (length c.rows) u))

-- ## Well-formed chains

-- a row's numbers are in their ranges
abbrev pub Fits : Row → Type 0
Fits r = row_fits r ≡ true

pub record Fine (c : Held) : Type 0 where
  pub some_row : 1 ≤ length c.rows
  pub fits : Each Fits c.rows
  pub deadline : c.chain.deadline.ticks ≤ 1000000
  pub arrival : c.chain.arrival_jitter ≤ 1000000

rows_fit : (cs : List Held) → Each Fine cs → Each Fits (rows_of cs)
rows_fit [] f = tt
rows_fit (c ∷ cs) f = each_append Fits c.rows (rows_of cs) f.0.fits (rows_fit cs f.1)

pub length_deadlines : (cs : List Held) → length (deadlines_of cs) ≡ length (rows_of cs)
length_deadlines [] = refl
length_deadlines (c ∷ cs) = simp (length-append, length-replicate, length_deadlines cs)

pub deadlines_small : (cs : List Held) → Each Fine cs → Each (λ x. x ≤ 1000000) (deadlines_of cs)
deadlines_small [] f = tt
deadlines_small (c ∷ cs) f =
    each_append _ (replicate (length c.rows) c.chain.deadline.ticks) (deadlines_of cs)
    (each_replicate _ (length c.rows) c.chain.deadline.ticks f.0.deadline) (deadlines_small cs f.1)

jitters_in_small : (b : ℕ) (rs : List Row) (xs : List ℕ) → b ≤ 1000000 → Each Fits rs → Each (λ x. x ≤ 1000000) xs → Each (λ j. j ≤ 2000000) (jitters_in b rs xs)
jitters_in_small b [] xs h f p = tt
jitters_in_small b (r ∷ rs) [] h f p = (omega (arith, (row_in_range r f.0).step.delay), jitters_in_small 0 rs [] (omega arith) f.1 tt)
jitters_in_small b (r ∷ rs) (x ∷ xs) h f p = (omega (arith, (row_in_range r f.0).step.delay), jitters_in_small x rs xs p.0 f.1 p.1)

jitters_small : (cs : List Held) (xs : List ℕ) → Each Fine cs → Each (λ x. x ≤ 1000000) xs → Each (λ j. j ≤ 2000000) (jitters_of cs xs)
jitters_small [] xs f p = tt
jitters_small (c ∷ cs) xs f p =
    let n = length c.rows in
    each_append _ (jitters_in c.chain.arrival_jitter c.rows xs) (jitters_of cs (drop n xs))
    (jitters_in_small c.chain.arrival_jitter c.rows xs f.0.arrival f.0.fits p)
    (jitters_small cs (drop n xs) f.1 (each_drop _ n xs p))

-- a call at responses within the deadlines is valid
pub call_valid : (cs : List Held) {xs : List ℕ} (i : ℕ) → Each Fine cs → Under xs (deadlines_of cs) → i < length (rows_of cs) → valid (rows_of cs) (jitters_of cs xs) i ≡ true
call_valid cs {xs} i f u h =
    valid_from (rows_of cs) (jitters_of cs xs) i (record {
      inside = h;
      one_each = length_jitters cs xs;
      small = jitters_small cs xs f (each_under 1000000 u (deadlines_small cs f));
      fits = rows_fit cs f;
    })

-- ## In time

-- in a chain no number falls, so the last bounds them all
rising : (x : ℕ) (rs : List Row) (xs rest ds : List ℕ) (d : ℕ) →
    Under (jitters_in x rs xs ++ rest) xs →
    get_or (x ∷ xs) (length rs) 0 ≤ d →
    (Under rest (drop (length rs) xs) → Under (drop (length rs) xs) ds) →
    (x ≤ d) × Under xs (replicate (length rs) d ++ ds)
rising x [] xs rest ds d u h k = (h, k u)
rising x (r ∷ rs) [] rest ds d u h k = elim u [ ]
rising x (r ∷ rs) (y ∷ ys) rest ds d (beside j u) h k =
    let w = rising y rs ys rest ds d u h k in
    (omega arith, beside w.0 w.1)

rising_chain : (b : ℕ) (rs : List Row) (xs rest ds : List ℕ) (d : ℕ) → 1 ≤ length rs →
    Under (jitters_in b rs xs ++ rest) xs →
    get_or xs (length rs - 1) 0 ≤ d →
    (Under rest (drop (length rs) xs) → Under (drop (length rs) xs) ds) →
    Under xs (replicate (length rs) d ++ ds)
rising_chain b [] xs rest ds d o u h k = absurd (omega arith)
rising_chain b (r ∷ rs) [] rest ds d o u h k = elim u [ ]
rising_chain b (r ∷ rs) (x ∷ xs) rest ds d o (beside j u) h k =
    let e : suc (length rs) - 1 ≡ length rs = omega arith in
    let w = rising x rs xs rest ds d u (rw e at h) k in
    beside w.0 w.1

pub in_time_rising : (cs : List Held) (xs : List ℕ) → Each Fine cs → Under (jitters_of cs xs) xs → InTime cs xs → Under xs (deadlines_of cs)
in_time_rising [] [] f u t = ended
in_time_rising [] (x ∷ xs) f u t = elim u [ ]
in_time_rising (c ∷ cs) xs f u t =
    rising_chain c.chain.arrival_jitter c.rows xs _ (deadlines_of cs) c.chain.deadline.ticks f.0.some_row u t.0
    (λ v. in_time_rising cs (drop (length c.rows) xs) f.1 v t.1)

pub under_in_time : (cs : List Held) (xs : List ℕ) → Each Fine cs → Under xs (deadlines_of cs) → InTime cs xs
under_in_time [] xs f u = tt
under_in_time (c ∷ cs) xs f u =
    let k = length c.rows in
    let ds = replicate k c.chain.deadline.ticks in
    let o = f.0.some_row in
    let l = length-replicate k c.chain.deadline.ticks in
    let before : k - 1 < length ds = omega arith in
    let last : get_or (ds ++ deadlines_of cs) (k - 1) 0 ≡ c.chain.deadline.ticks =
    get_or_append_left ds (deadlines_of cs) 0 (k - 1) before ∙ get_or-replicate k (k - 1) c.chain.deadline.ticks 0 (omega arith) in
    (rw last at (under_at u (k - 1)), under_in_time cs (drop k xs) f.1 (rw (drop_at ds (deadlines_of cs) k l) at (under_drop k u)))
