use Rattle.std.proofs.Common.{◌≡◌, sym, ap, ◌∷◌, ◌∙◌, length, rules, arith}
use Rattle.std.proofs.lemmas.Bool.{eqb-true, eqb-false}
use Rattle.lines.specs.Fields.{first_of, rest_of}
use Rattle.lines.specs.Texts.{lines_of, number_after}
use Rattle.lines.proofs.Ending.{line_here, no_line}
use Rattle.lines.proofs.texts.TextCursorIterator.next.Goals as goal

pub returns-then-is_empty-clause-steps : goal.returns-then-is_empty-clause-steps
returns-then-is_empty-clause-steps c =
    let none = no_line c.args.self.now.rest.now (eqb-true _ _ (sym c.if-is_empty.ensures)) in
    ((none, none), sym (ap (number_after c.args.self.now.number) none))

-- of what stands here, however it was cut
here : (c : goal.After-self-1) → lines_of c.args.self.now.rest.now ≡ first_of 10 c.args.self.now.rest.now ∷ lines_of (rest_of 10 c.args.self.now.rest.now)
here c = line_here c.args.self.now.rest.now (omega (arith, eqb-false _ _ (sym c.if-is_empty.ensures)))

pub returns-clause-steps : goal.returns-clause-steps
returns-clause-steps c = let steps = here c in (search rules, c.saturating_add-self.ensures ∙ sym (ap (number_after c.args.self.now.number) steps))

pub returns-clause-goes : goal.returns-clause-goes
returns-clause-goes c = let shorter = ap length (here c) in search rules
