-- A chain that is complete is entered behind the others.
use Rattle.std.proofs.Common.{◌≡◌, ℕ, ◌+◌, ◌≤◌, Bool, true, false, not, ◌||◌, eqb, leb, List, [], ◌∷◌, ◌++◌, map, length, take, Some, None, Ok, Err, Option, sym, refl, ap, ◌∙◌, ap₂, arith}
use Rattle.std.proofs.lemmas.List.{length-append, length-map, map-append, take_all}
use Rattle.std.proofs.lemmas.Bool.{not-true, not_from_false, false≢true, leb-true, le-leb, and_from}
use Rattle.std.specs.Result.{is_ok}
use Rattle.records.specs.Ranges.{within, chain_fits}
use Rattle.records.proofs.InRange.{within_true}
use Rattle.law.specs.declared.answers.Reply.TheVariants.{Done}
use Rattle.law.specs.declared.answers.Refusal.{Refusal}
use Rattle.law.specs.Assignments.{Held, rows_of}
use Rattle.law.specs.Runs.{Answer, held_as, holds, first_bad, need, need_fields, room_answer, entry_answer}
use Rattle.lines.specs.declared.line.NodeLine.{NodeLine}
use Rattle.lines.specs.Faults.{on_line}
use Rattle.reading.specs.Reading.{Panel, Begun, entered, entry, with_chain}
use Rattle.sheets.specs.Sheets.{Written, Sheet, letters_of, held_of, panel_of, Every, Apart, NodeFits, StepFits, ChainFits, all_steps}
use Rattle.sheets.proofs.Numbered.{every_append, every_back, has, apart_push, apart_before}
use Rattle.lines.proofs.Passing.{no_fault, same_ok, mapped_passed, mapped_passes}
use Rattle.sheets.proofs.Steps.{none_bad, all_kept, begun_with}

abbrev pub sheet : List NodeLine → List Written → Sheet
sheet xs cs = record { nodes = xs; chains = cs }

abbrev chain_id : Written → ℕ
chain_id c = c.fields.id

-- what a table that may be read keeps, but for the length of its text
pub record Kept (s : Sheet) : Type 0 where
  pub nodes : Every NodeFits s.nodes
  pub nodes_once : Apart (λ x. x.node) s.nodes
  pub chains : Every (ChainFits s.nodes) s.chains
  pub ids_once : Apart (λ c. c.fields.id) s.chains
  pub few_chains : length s.chains ≤ 16
  pub few_steps : all_steps s.chains ≤ 64

-- ## What the chains held say of the chains written

holds_has : (cs : List Written) (i : ℕ) → holds (map held_of cs) i ≡ has chain_id cs i
holds_has [] i = refl
holds_has (c ∷ cs) i = ap (λ t. eqb c.fields.id i || t) (holds_has cs i)

rows_are_steps : (cs : List Written) → length (rows_of (map held_of cs)) ≡ all_steps cs
rows_are_steps [] = refl
rows_are_steps (c ∷ cs) = length-append (held_of c).rows (rows_of (map held_of cs)) ∙ ap₂ ◌+◌ (length-map c.steps _) (rows_are_steps cs)

all_steps_append : (cs ds : List Written) → all_steps (cs ++ ds) ≡ all_steps cs + all_steps ds
all_steps_append [] ds = omega arith
all_steps_append (c ∷ cs) ds = let e = all_steps_append cs ds in omega arith

-- ## The tests of an entry

need_passed : (b : Bool) (why : Refusal) (rest : Answer) → is_ok (need b why rest) ≡ true → (b ≡ true) × (is_ok rest ≡ true)
need_passed true why rest h = (refl, h)
need_passed false why rest h = absurd (false≢true h)

need_fields_passed : (o : Option ℕ) (rest : Answer) → is_ok (need_fields o rest) ≡ true → is_ok rest ≡ true
need_fields_passed None rest h = h
need_fields_passed (Some place) rest h = absurd (false≢true h)

-- what makes room for a chain of so many steps behind these
record Room (cs : List Written) (id n : ℕ) : Type 0 where
  some_step : 1 ≤ n
  few : n ≤ 16
  few_chains : length cs + 1 ≤ 16
  few_steps : all_steps cs + n ≤ 64
  new_id : has chain_id cs id ≡ false

room_passed : (cs : List Written) (id n : ℕ) → is_ok (room_answer (map held_of cs) id n) ≡ true → Room cs id n
room_passed cs id n h =
    let (a, h) = need_passed (within 1 16 n) _ _ h in
    let (b, h) = need_passed (leb (length (map held_of cs) + 1) 16) _ _ h in
    let (c, h) = need_passed (leb (length (rows_of (map held_of cs)) + n) 64) _ _ h in
    let (d, h) = need_passed (not (holds (map held_of cs) id)) _ _ h in
    let count = within_true 1 16 n a in
    record {
      some_step = count.0;
      few = count.1;
      few_chains = omega (arith, leb-true _ _ b, length-map cs held_of);
      few_steps = omega (arith, leb-true _ _ c, rows_are_steps cs);
      new_id = sym (holds_has cs id) ∙ not-true _ d;
    }

need_passes : (b : Bool) (why : Refusal) (rest : Answer) → b ≡ true → rest ≡ Ok Done → need b why rest ≡ Ok Done
need_passes b why rest e h = ap (λ t. need t why rest) e ∙ h

room_passes : (cs : List Written) (id n : ℕ) → Room cs id n → room_answer (map held_of cs) id n ≡ Ok Done
room_passes cs id n r =
    need_passes _ _ _ (and_from _ _ (le-leb 1 n r.some_step) (le-leb n 16 r.few))
    (need_passes _ _ _ (le-leb (length (map held_of cs) + 1) 16 (omega (arith, length-map cs held_of)))
    (need_passes _ _ _ (le-leb (length (rows_of (map held_of cs)) + n) 64 (omega (arith, rows_are_steps cs)))
    (need_passes _ _ _ (not_from_false _ (holds_has cs id ∙ r.new_id)) refl)))

entered_passed : (p : Panel) (c : Begun) (a : Answer) (q : Panel) → entered p c a ≡ Ok q → (is_ok a ≡ true) × (entered p c (Ok Done) ≡ Ok q)
entered_passed p c (Ok reply) q h = (refl, h)
entered_passed p c (Err why) q h = absurd (no_fault h)

-- ## The chain behind the others

abbrev panel_with : List NodeLine → List Held → Panel
panel_with xs hs = record { letters = letters_of xs; chains = hs }

panel_push : (xs : List NodeLine) (cs : List Written) (c : Written) → panel_of (sheet xs (cs ++ c ∷ [])) ≡ panel_with xs (map held_of cs ++ held_of c ∷ [])
panel_push xs cs c = ap (panel_with xs) (map-append held_of cs (c ∷ []))

kept_push : (xs : List NodeLine) (cs : List Written) (c : Written) → Kept (sheet xs cs) → chain_fits c.fields ≡ true → Every (StepFits xs) c.steps → Room cs c.fields.id (length c.steps) → Kept (sheet xs (cs ++ c ∷ []))
kept_push xs cs c k fits steps room =
    record {
      nodes = k.nodes;
      nodes_once = k.nodes_once;
      chains = every_append (ChainFits xs) cs (c ∷ []) k.chains (record { fields = fits; some_step = room.some_step; few_steps = room.few; steps = steps }, tt);
      ids_once = apart_push chain_id cs c k.ids_once room.new_id;
      few_chains = omega (arith, length-append cs (c ∷ []), room.few_chains);
      few_steps = omega (arith, all_steps_append cs (c ∷ []), room.few_steps);
    }

-- a chain that is entered keeps what a table must keep
pub chain_passed : (xs : List NodeLine) (cs : List Written) (n : ℕ) (c : Written) (q : Panel) → Kept (sheet xs cs) → chain_fits c.fields ≡ true → Every (StepFits xs) c.steps → with_chain (panel_of (sheet xs cs)) (begun_with n c) ≡ Ok q → Kept (sheet xs (cs ++ c ∷ [])) × (panel_of (sheet xs (cs ++ c ∷ [])) ≡ q)
chain_passed xs cs n c q k fits steps h =
    let p = panel_of (sheet xs cs) in
    let kept = take 17 c.steps in
    let (taken, is) = entered_passed p (begun_with n c) (entry_answer p.chains c.fields kept) q (mapped_passed (on_line n) (entry p (begun_with n c)) q h) in
    let room = room_passed cs c.fields.id (length kept) (need_fields_passed (first_bad kept) _ taken) in
    let all : take 17 c.steps ≡ c.steps = all_kept 17 c.steps (omega (arith, room.few)) in
    let made : panel_with xs (map held_of cs ++ held_as c.fields kept ∷ []) ≡ q = same_ok is in (
      kept_push xs cs c k fits steps (rw all at room),
      panel_push xs cs c ∙ ap (λ ss. panel_with xs (map held_of cs ++ held_as c.fields ss ∷ [])) (sym all) ∙ made,
    )

-- and where a table keeps that, each of its chains is entered behind those before it
pub chain_passes : (xs : List NodeLine) (cs : List Written) (n : ℕ) (c : Written) (ds : List Written) → Kept (sheet xs (cs ++ c ∷ ds)) → with_chain (panel_of (sheet xs cs)) (begun_with n c) ≡ Ok (panel_of (sheet xs (cs ++ c ∷ [])))
chain_passes xs cs n c ds k =
    let p = panel_of (sheet xs cs) in
    let fits = (every_back (ChainFits xs) cs (c ∷ ds) k.chains).0 in
    let all : take 17 c.steps ≡ c.steps = take_all 17 c.steps (omega (arith, fits.few_steps)) in
    let room : Room cs c.fields.id (length c.steps) =
    record {
      some_step = fits.some_step;
      few = fits.few_steps;
      few_chains = omega (arith, k.few_chains, length-append cs (c ∷ ds));
      few_steps = omega (arith, k.few_steps, all_steps_append cs (c ∷ ds));
      new_id = apart_before chain_id cs c ds k.ids_once;
    } in
    let done : entry_answer p.chains c.fields c.steps ≡ Ok Done = ap (λ o. need_fields o (room_answer p.chains c.fields.id (length c.steps))) (none_bad xs c.steps fits.steps) ∙ room_passes cs c.fields.id (length c.steps) room in
    mapped_passes (on_line n) (
    ap (λ ss. entry p (record { line = n; fields = c.fields; steps = ss })) all
    ∙ ap (entered p (record { line = n; fields = c.fields; steps = c.steps })) done ∙ ap Ok (sym (panel_push xs cs c))
    )
