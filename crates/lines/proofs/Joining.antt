-- What is written of a record holds no separator, and parting at commas undoes joining by commas.
use Rattle.std.proofs.Common.{◌≡◌, ℕ, ◌<◌, true, false, eqb, leb, List, [], ◌∷◌, decimal, refl, ap, ◌∙◌, arith}
use Rattle.std.specs.Char.{is_ascii_digit}
use Rattle.std.specs.List.{AllByRecursion}
use Rattle.std.specs.Str.{all_ascii_digits}
use Rattle.std.proofs.lemmas.Bool.{ne_eqb, and_parts, leb-true}
use Rattle.std.proofs.lemmas.Fmt.{digits_decimal}
use Rattle.std.proofs.lemmas.List.Elements.{All-from_recursion}
use Rattle.std.proofs.lemmas.List.Splits.{slice_split_none, slice_split_at}
use Rattle.mixed.specs.declared.letters.Letter.{Letter}
use Rattle.mixed.specs.declared.letters.Letter.TheVariants.{E, P}
use Rattle.lines.specs.declared.line.Line.{Line}
use Rattle.lines.specs.declared.line.Line.TheVariants.{Node, Chain, Step}
use Rattle.lines.specs.Fields.{fields_of}
use Rattle.lines.specs.Writing.{letter_bytes, written_fields, by_commas, numbers_of, Small}
use Rattle.lines.proofs.Numerals.{own}

-- ## Fields as they are written

-- digits and letters alone: every byte is at least that of the digit 0, and separators lie below
abbrev pub Plain : List ℕ → Type 0
Plain bs = AllByRecursion (λ b. leb 48 b ≡ true) bs

digits_plain : (bs : List ℕ) → all_ascii_digits bs ≡ true → Plain bs
digits_plain [] h = tt
digits_plain (b ∷ bs) h = let p = and_parts (is_ascii_digit b) (all_ascii_digits bs) h in ((and_parts _ _ p.0).0, digits_plain bs p.1)

letter_plain : (l : Letter) → Plain (letter_bytes l)
letter_plain E = (refl, tt)
letter_plain P = (refl, tt)

numbers_plain : (ns : List ℕ) → Small ns → AllByRecursion (λ n. Plain (decimal n)) ns
numbers_plain [] s = tt
numbers_plain (n ∷ ns) s = (digits_plain (decimal n) (digits_decimal own n (omega (arith, s.0))), numbers_plain ns s.1)

words_plain : (l : Line) → AllByRecursion (λ n. Plain (decimal n)) (numbers_of l) → AllByRecursion Plain (written_fields l)
words_plain (Node x) p = ((refl, (refl, (refl, (refl, tt)))), (p.0, (letter_plain x.letter, tt)))
words_plain (Chain x) p = ((refl, (refl, (refl, (refl, (refl, tt))))), p)
words_plain (Step x) p = ((refl, (refl, (refl, (refl, tt)))), p)

pub fields_plain : (l : Line) → Small (numbers_of l) → AllByRecursion Plain (written_fields l)
fields_plain l s = words_plain l (numbers_plain (numbers_of l) s)

-- ## Parting what is joined

module _ (sep : ℕ) (low : sep < 48) where
  -- no byte is the separator
  pub without : (bs : List ℕ) → Plain bs → AllByRecursion (λ b. eqb b sep ≡ false) bs
  without [] p = tt
  without (b ∷ bs) p = (ne_eqb b sep (λ e. omega (arith, leb-true 48 b p.0)), without bs p.1)

  -- nor any byte of several fields
  pub all_without : (fs : List (List ℕ)) → AllByRecursion Plain fs → AllByRecursion (AllByRecursion (λ b. eqb b sep ≡ false)) fs
  all_without [] p = tt
  all_without (f ∷ fs) p = (without f p.0, all_without fs p.1)

-- no field holds a comma
pub fields_joined : (f : List ℕ) (fs : List (List ℕ)) → AllByRecursion (AllByRecursion (λ b. eqb b 44 ≡ false)) (f ∷ fs) → fields_of (by_commas (f ∷ fs)) ≡ f ∷ fs
fields_joined f [] h = slice_split_none (λ b. eqb b 44) f (All-from_recursion _ f h.0)
fields_joined f (g ∷ fs) h =
    slice_split_at (λ b. eqb b 44) f 44 (by_commas (g ∷ fs)) (All-from_recursion _ f h.0) refl
    ∙ ap (λ gs. f ∷ gs) (fields_joined g fs h.1)
