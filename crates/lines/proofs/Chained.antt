-- Reading one field after another, up to the first fault.
use Rattle.std.proofs.Common.{◌≡◌, ℕ, ◌+◌, List, IsErrAnd, Ok, Err, Result, sym, refl, ap, ◌∙◌, Bor}
use Rattle.std.proofs.lemmas.Result.{err_from_is_err_and}
use Rattle.lines.specs.declared.cursor.Cursor.{Cursor}
use Rattle.lines.specs.declared.faults.Fault.{Fault}
use Rattle.lines.specs.declared.faults.LineFault.{LineFault}
use Rattle.lines.specs.Fields.{fields_of, at_place}
use Rattle.lines.specs.Lines.{◌then◌}
use Rattle.lines.specs.Places.{placed, all_fields, Moved}

-- the cursor stands on this line, with these fields, after k of them
pub record At (fields : List (List ℕ)) (k : ℕ) (c : Cursor) : Type 0 where
  pub fields_are : all_fields c ≡ fields
  pub field : c.field ≡ k

abbrev fields_behind : Bor (List ℕ) → List (List ℕ)
fields_behind line = fields_of line.now

pub start : (c : Cursor) → c.field ≡ 1 → At (all_fields c) 1 c
start c e = record { fields_are = refl; field = e }

pub next : {fields : List (List ℕ)} {k : ℕ} {c d : Cursor} → At fields k c → Moved c d → At fields (k + 1) d
next a m =
    record {
      fields_are = ap fields_behind m.line ∙ a.fields_are;
      field = m.field ∙ ap (λ j. j + 1) a.field;
    }

-- what is read of the next field, by the line's own fields
value_here : {X : Type 0} {fields : List (List ℕ)} {k : ℕ} {c : Cursor} {r : Result X LineFault} (answer : List ℕ → Result X Fault) → At fields k c → r ≡ placed (c.field + 1) (answer (at_place (all_fields c) (c.field + 1))) → placed (k + 1) (answer (at_place fields (k + 1))) ≡ r
value_here {fields} {k} {c} answer a e =
    sym (ap (λ fs. placed (c.field + 1) (answer (at_place fs (c.field + 1)))) a.fields_are ∙ ap (λ j. placed (j + 1) (answer (at_place fields (j + 1)))) a.field)
    ∙ sym e

-- ## Along a chain of readings

pub goes_on : {X Y F : Type 0} {r : Result X F} {x : X} {y : Result Y F} (f : X → Result Y F) → r ≡ Ok x → y ≡ f x → y ≡ ◌then◌ r f
goes_on f e h = h ∙ sym (ap (λ s. ◌then◌ s f) e)

pub stops : {X Y F : Type 0} {r : Result X F} {fault : F} (f : X → Result Y F) → r ≡ Err fault → Err fault ≡ ◌then◌ r f
stops f e = sym (ap (λ s. ◌then◌ s f) e)

-- what a `?` returns at a fault that it hands on as it is
pub handed_on : {Y F : Type 0} {fault : F} (r : Result Y F) → IsErrAnd r (λ y. y ≡ fault) → r ≡ Err fault
handed_on r h = let p = err_from_is_err_and r h in p.1 ∙ ap Err p.2

-- ## From field to field

-- the next field gives a value, and what follows is read after it
pub then_read : {X Y : Type 0} {fields : List (List ℕ)} {k : ℕ} {c d : Cursor} {r : Result X LineFault} {x : X} {y : Result Y LineFault} (answer : List ℕ → Result X Fault) (f : X → Result Y LineFault) → At fields k c → r ≡ placed (c.field + 1) (answer (at_place (all_fields c) (c.field + 1))) → Moved c d → r ≡ Ok x → (At fields (k + 1) d → y ≡ f x) → y ≡ ◌then◌ (placed (k + 1) (answer (at_place fields (k + 1)))) f
then_read answer f a e m is h = goes_on f (value_here answer a e ∙ is) (h (next a m))

-- the next field gives a fault
pub then_stop : {X Y : Type 0} {fields : List (List ℕ)} {k : ℕ} {c : Cursor} {r : Result X LineFault} {fault : LineFault} (answer : List ℕ → Result X Fault) (f : X → Result Y LineFault) → At fields k c → r ≡ placed (c.field + 1) (answer (at_place (all_fields c) (c.field + 1))) → r ≡ Err fault → Err fault ≡ ◌then◌ (placed (k + 1) (answer (at_place fields (k + 1)))) f
then_stop answer f a e is = stops f (value_here answer a e ∙ is)
