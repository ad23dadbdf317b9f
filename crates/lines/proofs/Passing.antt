-- A chain of answers that ends well went well at every link.
use Rattle.std.proofs.Common.{◌≡◌, ℕ, Bool, true, false, cond, Ok, Err, Result, refl, ap, ◌∙◌, arith}
use Rattle.std.specs.Result.{result_map_both}
use Rattle.lines.specs.Lines.{◌then◌}

pub no_fault : {A F : Type 0} {fault : F} {a : A} → ◌≡◌ {A = Result A F} (Err fault) (Ok a) → ⊥
no_fault h = let z : ◌≡◌ {A = ℕ} 0 1 = cc in omega arith

pub same_ok : {A F : Type 0} {a b : A} → ◌≡◌ {A = Result A F} (Ok a) (Ok b) → a ≡ b
same_ok h = cc

pub then_passed : {A B F : Type 0} (r : Result A F) (f : A → Result B F) (b : B) → ◌then◌ r f ≡ Ok b → (a : A) × (r ≡ Ok a) × (f a ≡ Ok b)
then_passed (Ok a) f b h = (a, refl, h)
then_passed (Err fault) f b h = absurd (no_fault h)

pub then_passes : {A B F : Type 0} {r : Result A F} {a : A} {s : Result B F} (f : A → Result B F) → r ≡ Ok a → f a ≡ s → ◌then◌ r f ≡ s
then_passes f e h = ap (λ r. ◌then◌ r f) e ∙ h

-- the fault of an answer may be written otherwise
pub mapped_passed : {A F G : Type 0} (g : F → G) (r : Result A F) (a : A) → result_map_both (λ x. x) g r ≡ Ok a → r ≡ Ok a
mapped_passed g (Ok b) a h = cc
mapped_passed g (Err fault) a h = absurd (no_fault h)

pub mapped_passes : {A F G : Type 0} (g : F → G) {r : Result A F} {a : A} → r ≡ Ok a → result_map_both (λ x. x) g r ≡ Ok a
mapped_passes g e = ap (λ r. result_map_both (λ x. x) g r) e

-- a test that must hold, and one that must not
pub test_passed : {A F : Type 0} (t : Bool) (r : Result A F) (fault : F) (a : A) → cond t r (Err fault) ≡ Ok a → (t ≡ true) × (r ≡ Ok a)
test_passed true r fault a h = (refl, h)
test_passed false r fault a h = absurd (no_fault h)

pub not_test_passed : {A F : Type 0} (t : Bool) (r : Result A F) (fault : F) (a : A) → cond t (Err fault) r ≡ Ok a → (t ≡ false) × (r ≡ Ok a)
not_test_passed true r fault a h = absurd (no_fault h)
not_test_passed false r fault a h = (refl, h)
