-- A text of lines that hold no line feed has just those lines.
use Rattle.std.proofs.Common.{◌≡◌, ℕ, ◌≤◌, true, false, cond, eqb, leb, List, [], ◌∷◌, ◌++◌, length, is_ok, Ok, sym, refl, ap, ◌∙◌, arith}
use Rattle.std.specs.List.{AllByRecursion, onto_first}
use Rattle.std.proofs.lemmas.Bool.{leb-true}
use Rattle.lines.specs.declared.line.Line.{Line}
use Rattle.lines.specs.Texts.{lines_of, ended_lines, ended, text_answer}
use Rattle.lines.specs.Writing.{written_fields, by_commas, line_bytes, numbers_of, Small}
use Rattle.lines.proofs.Ending.{all_ended, accepted_lines}
use Rattle.lines.proofs.Joining.{Plain, without, fields_plain}
use Rattle.sheets.specs.Sheets.{Every}
use Rattle.lines.proofs.Passing.{test_passed}

-- no byte is a line feed
abbrev pub NoFeed : List ℕ → Type 0
NoFeed bs = AllByRecursion (λ b. eqb b 10 ≡ false) bs

-- ## What is written holds no line feed

plain_no_feed : (bs : List ℕ) → Plain bs → NoFeed bs
plain_no_feed = without 10 (omega arith)

joined_no_feed : (f g : List ℕ) → NoFeed f → NoFeed g → NoFeed (f ++ 44 ∷ g)
joined_no_feed [] g p q = (refl, q)
joined_no_feed (b ∷ f) g p q = (p.0, joined_no_feed f g p.1 q)

commas_no_feed : (fs : List (List ℕ)) → AllByRecursion Plain fs → NoFeed (by_commas fs)
commas_no_feed [] p = tt
commas_no_feed (f ∷ []) p = plain_no_feed f p.0
commas_no_feed (f ∷ g ∷ fs) p = joined_no_feed f (by_commas (g ∷ fs)) (plain_no_feed f p.0) (commas_no_feed (g ∷ fs) p.1)

pub line_no_feed : (l : Line) → Small (numbers_of l) → NoFeed (line_bytes l)
line_no_feed l s = commas_no_feed (written_fields l) (fields_plain l s)

-- ## The lines of such a text

first_line : (l rest : List ℕ) → NoFeed l → lines_of (l ++ 10 ∷ rest) ≡ l ∷ lines_of rest
first_line [] rest p = refl
first_line (b ∷ l) rest p =
    ap (λ t. cond t ([] ∷ lines_of (l ++ 10 ∷ rest)) (onto_first b (lines_of (l ++ 10 ∷ rest)))) p.0 ∙ ap (onto_first b) (first_line l rest p.1)

pub lines_back : (ls : List (List ℕ)) → Every NoFeed ls → lines_of (ended_lines ls) ≡ ls
lines_back [] p = refl
lines_back (l ∷ ls) p = first_line l (ended_lines ls) p.0 ∙ ap (λ ms. l ∷ ms) (lines_back ls p.1)

feed_ended : (rest : List ℕ) → ended rest ≡ true → ended (10 ∷ rest) ≡ true
feed_ended [] h = refl
feed_ended (b ∷ rest) h = h

behind_ended : (l rest : List ℕ) → ended (10 ∷ rest) ≡ true → ended (l ++ 10 ∷ rest) ≡ true
behind_ended [] rest h = h
behind_ended (b ∷ []) rest h = h
behind_ended (b ∷ c ∷ l) rest h = behind_ended (c ∷ l) rest h

all_lines_ended : (ls : List (List ℕ)) → ended (ended_lines ls) ≡ true
all_lines_ended [] = refl
all_lines_ended (l ∷ ls) = behind_ended l (ended_lines ls) (feed_ended (ended_lines ls) (all_lines_ended ls))

-- ## The tests of a whole text

pub text_passes : (ls : List (List ℕ)) → length (ended_lines ls) ≤ 32768 → text_answer (ended_lines ls) ≡ Ok tt
text_passes ls h = sym (all_ended (ended_lines ls) h (all_lines_ended ls))

pub text_passed : (text : List ℕ) → text_answer text ≡ Ok tt → (ended_lines (lines_of text) ≡ text) × (length text ≤ 32768)
text_passed text h =
    let (short, rest) = test_passed (leb (length text) 32768) _ _ tt h in
    (accepted_lines text (text_answer text) refl (ap is_ok h), leb-true (length text) 32768 short)
