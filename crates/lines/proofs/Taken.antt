-- An accepted line is what its record is written as, and every written record is accepted.
use Rattle.std.proofs.Common.{◌≡◌, ℕ, zero, suc, ◌<◌, Bool, true, false, cond, eqb, List, [], ◌∷◌, length, get_or, Some, None, Ok, Err, codes, decimal, Option, Result, sym, refl, ap, ◌∙◌, subst, arith}
use Rattle.std.specs.Str.{bytes_eq}
use Rattle.std.proofs.lemmas.List.Splits.{join_with_byte-slice_split}
use Rattle.std.proofs.lemmas.Slice.Eq.{bytes_eq-Decides}
use Rattle.std.proofs.lemmas.Bool.{eqb-true}
use Rattle.mixed.specs.declared.letters.Letter.{Letter}
use Rattle.mixed.specs.declared.letters.Letter.TheVariants.{E, P}
use Rattle.records.specs.declared.fields.ChainFields.{ChainFields}
use Rattle.records.specs.declared.fields.StepFields.{StepFields}
use Rattle.lines.specs.declared.faults.Fault.{Fault}
use Rattle.lines.specs.declared.faults.Fault.TheVariants.{NotALetter}
use Rattle.lines.specs.declared.faults.LineFault.{LineFault}
use Rattle.lines.specs.declared.line.Kind.{Kind}
use Rattle.lines.specs.declared.line.Kind.TheVariants as kind
use Rattle.lines.specs.declared.line.Line.{Line}
use Rattle.lines.specs.declared.line.Line.TheVariants.{Node, Chain, Step}
use Rattle.lines.specs.declared.line.NodeLine.{NodeLine}
use Rattle.lines.specs.Fields.{fields_of, at_place}
use Rattle.lines.specs.Lines.{◌then◌, counted, node_of, chain_of, step_of, kind_named, line_as, line_of}
use Rattle.lines.specs.Numbers.{number_answer}
use Rattle.lines.specs.Places.{letter_answer, placed, number_at, letter_at}
use Rattle.lines.specs.Writing.{letter_bytes, written_fields, by_commas, line_bytes, numbers_of, Small, InverseOfWriting}
use Rattle.lines.proofs.Chained.{goes_on}
use Rattle.lines.proofs.Joining.{fields_plain, all_without, fields_joined}
use Rattle.lines.proofs.Numerals.{inverse, written}
use Rattle.lines.proofs.Passing.{no_fault, same_ok, then_passed, test_passed}

-- ## What acceptance shows

counted_taken : {X : Type 0} (count : ℕ) (fields : List (List ℕ)) (r : Result X LineFault) (x : X) → counted count fields r ≡ Ok x → (length fields ≡ count) × (r ≡ Ok x)
counted_taken count fields r x h = let (e, took) = test_passed (eqb (length fields) count) r _ x h in (eqb-true _ _ e, took)

placed_taken : {X : Type 0} (k : ℕ) (r : Result X Fault) (x : X) → placed k r ≡ Ok x → r ≡ Ok x
placed_taken k (Ok y) x h = cc
placed_taken k (Err e) x h = absurd (no_fault h)

number_taken : (fields : List (List ℕ)) (k n : ℕ) → number_at fields k ≡ Ok n → (at_place fields k ≡ decimal n) × (n < 10000000)
number_taken fields k n h = (inverse (number_answer (at_place fields k)) (at_place fields k) refl n).0 (placed_taken k (number_answer (at_place fields k)) n h)

letter_is : (bs : List ℕ) (l : Letter) → letter_answer bs ≡ Ok l → bs ≡ letter_bytes l
letter_is [] l h = absurd (no_fault h)
letter_is (c ∷ []) l h = by (eqb c 69) (eqb c 80) refl refl h
  where
    same : {x y : Letter} → ◌≡◌ {A = Result Letter Fault} (Ok x) (Ok y) → x ≡ y
    same e = cc

    by : (e p : Bool) → eqb c 69 ≡ e → eqb c 80 ≡ p → cond e (Ok E) (cond p (Ok P) (Err NotALetter)) ≡ Ok l → c ∷ [] ≡ letter_bytes l
    by true p e f k = ap (λ b. b ∷ []) (eqb-true c 69 e) ∙ ap letter_bytes (same k)
    by false true e f k = ap (λ b. b ∷ []) (eqb-true c 80 f) ∙ ap letter_bytes (same k)
    by false false e f k = absurd (no_fault k)
letter_is (c ∷ d ∷ ds) l h = absurd (no_fault h)

letter_taken : (fields : List (List ℕ)) (k : ℕ) (l : Letter) → letter_at fields k ≡ Ok l → at_place fields k ≡ letter_bytes l
letter_taken fields k l h = letter_is (at_place fields k) l (placed_taken k (letter_answer (at_place fields k)) l h)

abbrev word_of : Kind → List ℕ
word_of kind.Node = codes "node"
word_of kind.Chain = codes "chain"
word_of kind.Step = codes "step"

word_is : (word : List ℕ) (k : Kind) → kind_named word ≡ Some k → word ≡ word_of k
word_is word k h = by (bytes_eq word (codes "node")) (bytes_eq word (codes "chain")) (bytes_eq word (codes "step")) (bytes_eq-Decides _ _).0 (bytes_eq-Decides _ _).0 (bytes_eq-Decides _ _).0 h
  where
    same : {x y : Kind} → ◌≡◌ {A = Option Kind} (Some x) (Some y) → x ≡ y
    same e = cc

    by : (a b c : Bool) → (a ≡ true → word ≡ codes "node") → (b ≡ true → word ≡ codes "chain") → (c ≡ true → word ≡ codes "step") → cond a (Some kind.Node) (cond b (Some kind.Chain) (cond c (Some kind.Step) None)) ≡ Some k → word ≡ word_of k
    by true b c p q r e = p refl ∙ ap word_of (same e)
    by false true c p q r e = q refl ∙ ap word_of (same e)
    by false false true p q r e = r refl ∙ ap word_of (same e)
    by false false false p q r e = let z : ◌≡◌ {A = ℕ} 0 1 = cc in absurd (omega arith)

-- a list of so many fields is its fields at the places
-- n fields from place k on
abbrev places_from : ℕ → ℕ → List (List ℕ) → List (List ℕ)
places_from k zero fields = []
places_from k (suc n) fields = get_or fields k [] ∷ places_from (suc k) n fields

one_further : (k n : ℕ) (f : List ℕ) (fs : List (List ℕ)) → places_from k n fs ≡ places_from (suc k) n (f ∷ fs)
one_further k zero f fs = refl
one_further k (suc n) f fs = ap (λ gs. get_or fs k [] ∷ gs) (one_further (suc k) n f fs)

-- fields are those at their places
each_place : (n : ℕ) (fs : List (List ℕ)) → length fs ≡ n → fs ≡ places_from 0 n fs
each_place zero [] h = refl
each_place zero (f ∷ fs) h = absurd (omega arith)
each_place (suc n) [] h = absurd (omega arith)
each_place (suc n) (f ∷ fs) h = ap (λ gs. f ∷ gs) (each_place n fs (omega arith) ∙ one_further 0 n f fs)

three : (fs : List (List ℕ)) → length fs ≡ 3 → fs ≡ at_place fs 1 ∷ at_place fs 2 ∷ at_place fs 3 ∷ []
three = each_place 3

five : (fs : List (List ℕ)) → length fs ≡ 5 → fs ≡ at_place fs 1 ∷ at_place fs 2 ∷ at_place fs 3 ∷ at_place fs 4 ∷ at_place fs 5 ∷ []
five = each_place 5

seven : (fs : List (List ℕ)) → length fs ≡ 7 → fs ≡ at_place fs 1 ∷ at_place fs 2 ∷ at_place fs 3 ∷ at_place fs 4 ∷ at_place fs 5 ∷ at_place fs 6 ∷ at_place fs 7 ∷ []
seven = each_place 7

-- fields that are read as a record are those that it is written as
abbrev FieldsOf : List (List ℕ) → Line → Type 0
FieldsOf fields l = (fields ≡ written_fields l) × Small (numbers_of l)

node_taken : (fields : List (List ℕ)) (x : NodeLine) → at_place fields 1 ≡ codes "node" → counted 3 fields (node_of fields) ≡ Ok x → FieldsOf fields (Node x)
node_taken fields x w h =
    let p = counted_taken 3 fields (node_of fields) x h in
    let a = then_passed (number_at fields 2) (λ node. letter_at fields 3 then λ letter. Ok (record { node = node; letter = letter })) x p.1 in
    let b = then_passed (letter_at fields 3) (λ letter. Ok (record { node = a.0; letter = letter })) x a.2 in
    let n2 = number_taken fields 2 a.0 a.1 in
    let l3 = letter_taken fields 3 b.0 b.1 in
    let all : fields ≡ written_fields (Node (record { node = a.0; letter = b.0 })) = cc (three fields p.0, w, n2.0, l3) in
    subst (λ (y : NodeLine). FieldsOf fields (Node y)) (same_ok b.2) (all, (n2.1, tt))

chain_taken : (fields : List (List ℕ)) (x : ChainFields) → at_place fields 1 ≡ codes "chain" → counted 5 fields (chain_of fields) ≡ Ok x → FieldsOf fields (Chain x)
chain_taken fields x w h =
    let p = counted_taken 5 fields (chain_of fields) x h in
    let a = then_passed (number_at fields 2) _ x p.1 in
    let b = then_passed (number_at fields 3) _ x a.2 in
    let c = then_passed (number_at fields 4) _ x b.2 in
    let d = then_passed (number_at fields 5) _ x c.2 in
    let n2 = number_taken fields 2 a.0 a.1 in
    let n3 = number_taken fields 3 b.0 b.1 in
    let n4 = number_taken fields 4 c.0 c.1 in
    let n5 = number_taken fields 5 d.0 d.1 in
    let made : ChainFields = record { id = a.0; period = b.0; deadline = record { ticks = c.0 }; arrival_jitter = d.0 } in
    let all : fields ≡ written_fields (Chain made) = cc (five fields p.0, w, n2.0, n3.0, n4.0, n5.0) in
    subst (λ (y : ChainFields). FieldsOf fields (Chain y)) (same_ok d.2) (all, (n2.1, (n3.1, (n4.1, (n5.1, tt)))))

step_taken : (fields : List (List ℕ)) (x : StepFields) → at_place fields 1 ≡ codes "step" → counted 7 fields (step_of fields) ≡ Ok x → FieldsOf fields (Step x)
step_taken fields x w h =
    let p = counted_taken 7 fields (step_of fields) x h in
    let a = then_passed (number_at fields 2) _ x p.1 in
    let b = then_passed (number_at fields 3) _ x a.2 in
    let c = then_passed (number_at fields 4) _ x b.2 in
    let d = then_passed (number_at fields 5) _ x c.2 in
    let e = then_passed (number_at fields 6) _ x d.2 in
    let f = then_passed (number_at fields 7) _ x e.2 in
    let n2 = number_taken fields 2 a.0 a.1 in
    let n3 = number_taken fields 3 b.0 b.1 in
    let n4 = number_taken fields 4 c.0 c.1 in
    let n5 = number_taken fields 5 d.0 d.1 in
    let n6 = number_taken fields 6 e.0 e.1 in
    let n7 = number_taken fields 7 f.0 f.1 in
    let made : StepFields = record { node = a.0; cost = b.0; local = record { ticks = c.0 }; delay = d.0; blocking = e.0; priority = f.0 } in
    let all : fields ≡ written_fields (Step made) = cc (seven fields p.0, w, n2.0, n3.0, n4.0, n5.0, n6.0, n7.0) in
    subst (λ (y : StepFields). FieldsOf fields (Step y)) (same_ok f.2) (all, (n2.1, (n3.1, (n4.1, (n5.1, (n6.1, (n7.1, tt)))))))

line_taken : (fields : List (List ℕ)) (l : Line) (k : Option Kind) → kind_named (at_place fields 1) ≡ k → line_as k fields ≡ Ok l → FieldsOf fields l
line_taken fields l None w h = absurd (no_fault h)
line_taken fields l (Some kind.Node) w h =
    let p = then_passed (counted 3 fields (node_of fields)) (λ x. Ok (Node x)) l h in
    subst (FieldsOf fields) (same_ok p.2) (node_taken fields p.0 (word_is (at_place fields 1) kind.Node w) p.1)
line_taken fields l (Some kind.Chain) w h =
    let p = then_passed (counted 5 fields (chain_of fields)) (λ x. Ok (Chain x)) l h in
    subst (FieldsOf fields) (same_ok p.2) (chain_taken fields p.0 (word_is (at_place fields 1) kind.Chain w) p.1)
line_taken fields l (Some kind.Step) w h =
    let p = then_passed (counted 7 fields (step_of fields)) (λ x. Ok (Step x)) l h in
    subst (FieldsOf fields) (same_ok p.2) (step_taken fields p.0 (word_is (at_place fields 1) kind.Step w) p.1)

-- ## What is written is accepted

number_back : (fields : List (List ℕ)) (k n : ℕ) → at_place fields k ≡ decimal n → n < 10000000 → number_at fields k ≡ Ok n
number_back fields k n e h = ap (λ bs. placed k (number_answer bs)) e ∙ ap (placed k) (written n h)

letter_back : (l : Letter) → letter_answer (letter_bytes l) ≡ Ok l
letter_back E = refl
letter_back P = refl

written_taken : (l : Line) → Small (numbers_of l) → Ok l ≡ line_as (kind_named (at_place (written_fields l) 1)) (written_fields l)
written_taken (Node x) s =
    let fs = written_fields (Node x) in
    goes_on _ (sym (goes_on _ (number_back fs 2 x.node refl s.0) (goes_on _ (ap (placed 3) (letter_back x.letter)) refl))) refl
written_taken (Chain x) s =
    let fs = written_fields (Chain x) in
    goes_on _
    (sym
    (goes_on _ (number_back fs 2 x.id refl s.0)
    (goes_on _ (number_back fs 3 x.period refl s.1.0)
    (goes_on _ (number_back fs 4 x.deadline.ticks refl s.1.1.0) (goes_on _ (number_back fs 5 x.arrival_jitter refl s.1.1.1.0) refl)))))
    refl
written_taken (Step x) s =
    let fs = written_fields (Step x) in
    goes_on _
    (sym
    (goes_on _ (number_back fs 2 x.node refl s.0)
    (goes_on _ (number_back fs 3 x.cost refl s.1.0)
    (goes_on _ (number_back fs 4 x.local.ticks refl s.1.1.0)
    (goes_on _ (number_back fs 5 x.delay refl s.1.1.1.0)
    (goes_on _ (number_back fs 6 x.blocking refl s.1.1.1.1.0) (goes_on _ (number_back fs 7 x.priority refl s.1.1.1.1.1.0) refl)))))))
    refl

fields_back : (l : Line) → Small (numbers_of l) → fields_of (line_bytes l) ≡ written_fields l
fields_back (Node x) s = fields_joined _ _ (all_without 44 (omega arith) (written_fields (Node x)) (fields_plain (Node x) s))
fields_back (Chain x) s = fields_joined _ _ (all_without 44 (omega arith) (written_fields (Chain x)) (fields_plain (Chain x) s))
fields_back (Step x) s = fields_joined _ _ (all_without 44 (omega arith) (written_fields (Step x)) (fields_plain (Step x) s))

-- an answer by the definition is the inverse of writing
pub exactly : (r : Result Line LineFault) (bs : List ℕ) → r ≡ line_of bs → InverseOfWriting r bs
exactly r bs e l = (λ h. back (line_taken (fields_of bs) l (kind_named (at_place (fields_of bs) 1)) refl (sym e ∙ h)), λ w. e ∙ there w.0 w.1)
  where
    back : FieldsOf (fields_of bs) l → (bs ≡ line_bytes l) × Small (numbers_of l)
    back p = (sym (join_with_byte-slice_split 44 bs) ∙ ap by_commas p.0, p.1)

    there : bs ≡ line_bytes l → Small (numbers_of l) → line_of bs ≡ Ok l
    there w s =
        ap (λ fs. line_as (kind_named (at_place fs 1)) fs) (ap fields_of w ∙ fields_back l s) ∙ sym (written_taken l s)
