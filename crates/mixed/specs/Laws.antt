-- The mixture of two lawful node rules is lawful: no look is taken into the two.
use Rattle.std.specs.Prelude.{◌≡◌, ℕ, true, List, ◌++◌, Some, None, Option, refl}
use Rattle.std.proofs.Common.{arith, length-append}
use Rattle.std.proofs.lemmas.List.{get_or_append_left}
use Rattle.std.proofs.lemmas.Bool.Decides.{nat_tests}
use Rattle.records.specs.declared.fields.Row.{Row}
use Rattle.climb.specs.Answers.AtMost.{over}
use Rattle.rules.specs.Rules.{Meaning, Laws, valid, no_row}
use Rattle.rules.proofs.Validity.{valid_shows}
use Rattle.mixed.specs.declared.letters.Letter.{Letter}
use Rattle.mixed.specs.declared.letters.Letter.TheVariants.{E, P}
use Rattle.mixed.specs.declared.letters.Letters.{Letters}
use Rattle.mixed.specs.Mixture.{row_letter, asked_by, mixture}

-- whichever letter is asked by
asked_laws : (o : Option Letter) (first second : Meaning) → Laws first → Laws second → Laws (asked_by o first second)
asked_laws None first second f s =
    record {
      invalid = λ rows js i v. refl;
      bounded = λ rows js i n e. absurd cc;
      jitters = λ rows js ks i u. over;
      appended = λ rows more js ks i v. over;
      cost = λ rows js i. over;
    }
asked_laws (Some E) first second f s = f
asked_laws (Some P) first second f s = s

-- the letter of a row stays as rows are appended
letter_stays : (letters : Letters) (rows more : List Row) (js : List ℕ) (i : ℕ) → valid rows js i ≡ true → row_letter letters (rows ++ more) i ≡ row_letter letters rows i
letter_stays letters rows more js i v =
    let inside = (valid_shows rows js i v).inside in
    grind (arith, nat_tests, length-append, get_or_append_left rows more no_row i inside)

pub mixture_laws : (letters : Letters) (first second : Meaning) → Laws first → Laws second → Laws (mixture letters first second)
unfolding mixture
mixture_laws letters first second f s =
    record {
      invalid = λ rows js i. (at rows i).invalid rows js i;
      bounded = λ rows js i. (at rows i).bounded rows js i;
      jitters = λ rows js ks i. (at rows i).jitters rows js ks i;
      appended = λ rows more js ks i v. rw (letter_stays letters rows more js i v) ((at rows i).appended rows more js ks i v);
      cost = λ rows js i. (at rows i).cost rows js i;
    }
  where
    at : (rows : List Row) (i : ℕ) → Laws (asked_by (row_letter letters rows i) first second)
    at rows i = asked_laws (row_letter letters rows i) first second f s
