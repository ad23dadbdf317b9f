-- The lines of a text, one after another, and its last line.
use Rattle.std.proofs.Common.{◌≡◌, ℕ, suc, ◌-◌, ◌<◌, ◌≤◌, Bool, true, false, cond, eqb, leb, List, [], ◌∷◌, length, get_or, not, take, drop, ◌+◌, ap₂, is_ok, Ok, Err, Result, sym, refl, ap, ◌∙◌, true≢false, arith}
use Rattle.std.specs.List.{onto_first, prefix_len}
use Rattle.std.proofs.lemmas.List.{nil_from_length}
use Rattle.std.proofs.lemmas.List.Splits.{length-slice_split}
use Rattle.std.proofs.lemmas.Bool.{eqb-true, le-leb, cond-true, cond-false}
use Rattle.lines.specs.declared.faults.Fault.TheVariants.{TextTooLong, NoLineFeed}
use Rattle.lines.specs.declared.faults.TableFault.{TableFault}
use Rattle.lines.specs.Faults.{fault_at, on_line}
use Rattle.lines.specs.Fields.{parted, first_of, rest_of}
use Rattle.lines.specs.Texts.{lines_of, ended_lines, ended, text_answer}
use Rattle.lines.proofs.Parting.{first_more, rest_more}

pub line_here : (bs : List ℕ) → 0 < length bs → lines_of bs ≡ first_of 10 bs ∷ lines_of (rest_of 10 bs)
line_here [] h = absurd (omega arith)
line_here (b ∷ bs) h = by (eqb b 10) (prefix_len (λ c. not (eqb c 10)) bs) (onward bs (line_here bs))
  where
    -- what the rest of the line is, at its end too
    onward : (cs : List ℕ) → (0 < length cs → lines_of cs ≡ first_of 10 cs ∷ lines_of (rest_of 10 cs)) → onto_first b (lines_of cs) ≡ (b ∷ first_of 10 cs) ∷ lines_of (rest_of 10 cs)
    onward [] e = refl
    onward (c ∷ cs) e = ap (onto_first b) (e (omega arith))

    by : (t : Bool) (n : ℕ) → onto_first b (lines_of bs) ≡ (b ∷ take n bs) ∷ lines_of (drop (n + 1) bs) → cond t ([] ∷ lines_of bs) (onto_first b (lines_of bs)) ≡ take (cond (not t) (1 + n) 0) (b ∷ bs) ∷ lines_of (drop (cond (not t) (1 + n) 0 + 1) (b ∷ bs))
    by true n e = refl
    by false n e = e ∙ ap₂ (λ f r. f ∷ lines_of r) (first_more b n bs) (rest_more b n bs)

pub no_line : (bs : List ℕ) → length bs ≡ 0 → lines_of bs ≡ []
no_line bs h = ap lines_of (nil_from_length bs h)

-- ## The last line

pub ended_at : (bs : List ℕ) → 0 < length bs → eqb (get_or bs (length bs - 1) 0) 10 ≡ ended bs
ended_at [] h = absurd (omega arith)
ended_at (b ∷ []) h = refl
ended_at (b ∷ c ∷ bs) h =
    let e : suc (suc (length bs)) - 1 ≡ suc (length bs) = omega arith in
    let f : length bs ≡ suc (length bs) - 1 = omega arith in
    ap (λ k. eqb (get_or (b ∷ c ∷ bs) k 0) 10) e ∙ ap (λ k. eqb (get_or (c ∷ bs) k 0) 10) f ∙ ended_at (c ∷ bs) (omega arith)

pub empty_ended : (bs : List ℕ) → length bs ≡ 0 → true ≡ ended bs
empty_ended bs h = ap ended (sym (nil_from_length bs h))

onto_first_length : (b : ℕ) (ls : List (List ℕ)) → 0 < length ls → length (onto_first b ls) ≡ length ls
onto_first_length b [] h = absurd (omega arith)
onto_first_length b (l ∷ ls) h = refl

-- where the last line is not ended, there are as many lines as parts
pub unended_count : (bs : List ℕ) → ended bs ≡ false → length (lines_of bs) ≡ length (parted 10 bs)
unended_count [] e = absurd (true≢false e)
unended_count (b ∷ []) e = ap (λ t. length (cond t ([] ∷ []) ((b ∷ []) ∷ []))) e ∙ sym (ap (λ t. length (cond t ([] ∷ [] ∷ []) ((b ∷ []) ∷ []))) e)
unended_count (b ∷ c ∷ bs) e = by (eqb b 10) (lines_of (c ∷ bs)) (parted 10 (c ∷ bs)) _ (length-slice_split (λ d. eqb d 10) (c ∷ bs)) (unended_count (c ∷ bs) e)
  where
    by : (t : Bool) (ls ps : List (List ℕ)) (k : ℕ) → length ps ≡ k + 1 → length ls ≡ length ps → length (cond t ([] ∷ ls) (onto_first b ls)) ≡ length (cond t ([] ∷ ps) (onto_first b ps))
    by true ls ps k some h = ap suc h
    by false ls ps k some h = onto_first_length b ls (omega arith) ∙ h ∙ sym (onto_first_length b ps (omega arith))

-- ## The tests of a whole text

pub not_ended : (bs : List ℕ) (n : ℕ) → length bs ≤ 32768 → ended bs ≡ false → n ≡ length (parted 10 bs) → Err (on_line n (fault_at 0 NoLineFeed)) ≡ text_answer bs
not_ended bs n h e k =
    ap (λ m. Err (on_line m (fault_at 0 NoLineFeed))) (k ∙ sym (unended_count bs e)) ∙ sym (cond-true _ _ _ (le-leb (length bs) 32768 h) ∙ cond-false _ _ _ e)

pub all_ended : (bs : List ℕ) → length bs ≤ 32768 → ended bs ≡ true → Ok tt ≡ text_answer bs
all_ended bs h e = sym (cond-true _ _ _ (le-leb (length bs) 32768 h) ∙ cond-true _ _ _ e)

-- ## An accepted text is its lines, each ended

pub joined_lines : (bs : List ℕ) → ended bs ≡ true → ended_lines (lines_of bs) ≡ bs
joined_lines [] e = refl
joined_lines (b ∷ []) e = ap (λ t. ended_lines (cond t ([] ∷ []) ((b ∷ []) ∷ []))) e ∙ ap (λ c. c ∷ []) (sym (eqb-true b 10 e))
joined_lines (b ∷ c ∷ bs) e = by (eqb b 10) refl (lines_of (c ∷ bs)) (joined_lines (c ∷ bs) e)
  where
    by : (t : Bool) → eqb b 10 ≡ t → (ls : List (List ℕ)) → ended_lines ls ≡ c ∷ bs → ended_lines (cond t ([] ∷ ls) (onto_first b ls)) ≡ b ∷ c ∷ bs
    by true f ls h = ap (λ xs. 10 ∷ xs) h ∙ ap (λ d. d ∷ c ∷ bs) (sym (eqb-true b 10 f))
    by false f [] h = let z : ◌≡◌ {A = ℕ} 0 1 = cc in absurd (omega arith)
    by false f (l ∷ ls) h = ap (λ xs. b ∷ xs) h

pub accepted_lines : (bs : List ℕ) (r : Result (Unit {0}) TableFault) → r ≡ text_answer bs → is_ok r ≡ true → ended_lines (lines_of bs) ≡ bs
accepted_lines bs r e k = joined_lines bs (by (leb (length bs) 32768) (ended bs) (sym (ap is_ok e) ∙ k))
  where
    by : (s t : Bool) → is_ok {T = Unit {0}} (cond s (cond t (Ok tt) (Err (on_line (length (lines_of bs)) (fault_at 0 NoLineFeed)))) (Err (on_line 0 (fault_at 0 TextTooLong)))) ≡ true → t ≡ true
    by true true h = refl
    by true false h = h
    by false true h = refl
    by false false h = h
