use Rattle.std.proofs.Common.{refl, ◌∙◌}
use Rattle.lines.specs.Numbers.{number_answer}
use Rattle.lines.proofs.Chained.{start, then_read, then_stop, handed_on}
use Rattle.lines.proofs.kinds.StepKindLineKind.read.Goals as goal

pub returns-in_err-value-2 : goal.returns-in_err-value-2
returns-in_err-value-2 c =
    handed_on c.from_residual-in_err-value-2.result c.from_residual-in_err-value-2.ensures.1
    ∙ then_read number_answer _ (start c.args.cursor.now c.requires) c.value.ensures.value c.value.ensures.after c.in_ok-value.was (λ a.
    then_stop number_answer _ a c.value-2.ensures.value c.in_err-value-2.was)

pub returns-in_err-value-3 : goal.returns-in_err-value-3
returns-in_err-value-3 c =
    handed_on c.from_residual-in_err-value-3.result c.from_residual-in_err-value-3.ensures.1
    ∙ then_read number_answer _ (start c.args.cursor.now c.requires) c.value.ensures.value c.value.ensures.after c.in_ok-value.was (λ a.
    then_read number_answer _ a c.value-2.ensures.value c.value-2.ensures.after c.in_ok-value-2.was (λ a.
    then_stop number_answer _ a c.value-3.ensures.value c.in_err-value-3.was))

pub returns-in_err-value-4 : goal.returns-in_err-value-4
returns-in_err-value-4 c =
    handed_on c.from_residual-in_err-value-4.result c.from_residual-in_err-value-4.ensures.1
    ∙ then_read number_answer _ (start c.args.cursor.now c.requires) c.value.ensures.value c.value.ensures.after c.in_ok-value.was (λ a.
    then_read number_answer _ a c.value-2.ensures.value c.value-2.ensures.after c.in_ok-value-2.was (λ a.
    then_read number_answer _ a c.value-3.ensures.value c.value-3.ensures.after c.in_ok-value-3.was (λ a.
    then_stop number_answer _ a c.value-4.ensures.value c.in_err-value-4.was)))

pub returns-in_err-value-5 : goal.returns-in_err-value-5
returns-in_err-value-5 c =
    handed_on c.from_residual-in_err-value-5.result c.from_residual-in_err-value-5.ensures.1
    ∙ then_read number_answer _ (start c.args.cursor.now c.requires) c.value.ensures.value c.value.ensures.after c.in_ok-value.was (λ a.
    then_read number_answer _ a c.value-2.ensures.value c.value-2.ensures.after c.in_ok-value-2.was (λ a.
    then_read number_answer _ a c.value-3.ensures.value c.value-3.ensures.after c.in_ok-value-3.was (λ a.
    then_read number_answer _ a c.value-4.ensures.value c.value-4.ensures.after c.in_ok-value-4.was (λ a.
    then_stop number_answer _ a c.value-5.ensures.value c.in_err-value-5.was))))

pub returns-in_err-value-6 : goal.returns-in_err-value-6
returns-in_err-value-6 c =
    handed_on c.from_residual-in_err-value-6.result c.from_residual-in_err-value-6.ensures.1
    ∙ then_read number_answer _ (start c.args.cursor.now c.requires) c.value.ensures.value c.value.ensures.after c.in_ok-value.was (λ a.
    then_read number_answer _ a c.value-2.ensures.value c.value-2.ensures.after c.in_ok-value-2.was (λ a.
    then_read number_answer _ a c.value-3.ensures.value c.value-3.ensures.after c.in_ok-value-3.was (λ a.
    then_read number_answer _ a c.value-4.ensures.value c.value-4.ensures.after c.in_ok-value-4.was (λ a.
    then_read number_answer _ a c.value-5.ensures.value c.value-5.ensures.after c.in_ok-value-5.was (λ a.
    then_stop number_answer _ a c.value-6.ensures.value c.in_err-value-6.was)))))

pub returns : goal.returns
returns c =
    then_read number_answer _ (start c.args.cursor.now c.requires) c.value.ensures.value c.value.ensures.after c.in_ok-value.was (λ a.
    then_read number_answer _ a c.value-2.ensures.value c.value-2.ensures.after c.in_ok-value-2.was (λ a.
    then_read number_answer _ a c.value-3.ensures.value c.value-3.ensures.after c.in_ok-value-3.was (λ a.
    then_read number_answer _ a c.value-4.ensures.value c.value-4.ensures.after c.in_ok-value-4.was (λ a.
    then_read number_answer _ a c.value-5.ensures.value c.value-5.ensures.after c.in_ok-value-5.was (λ a.
    then_read number_answer _ a c.value-6.ensures.value c.value-6.ensures.after c.in_ok-value-6.was (λ a.
    refl))))))
