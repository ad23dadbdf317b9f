use Rattle.std.proofs.Common.{Err, sym, ap, ◌∙◌, rules}
use borrow.Author.Tests.{tests}
use Rattle.std.proofs.lemmas.Iterator.Consumers.{count_from_yields_List}
use Rattle.std.proofs.lemmas.Iterator.Splits.{YieldsList-from_slice_split}
use Rattle.lines.specs.Faults.{on_line}
use Rattle.lines.proofs.Ending.{not_ended, joined_lines}
use Rattle.lines.proofs.texts.check_text.Goals as goal

pub returns-then-not-is_ended-clause-value : goal.returns-then-not-is_ended-clause-value
returns-then-not-is_ended-clause-value c =
    ap Err (c.on-then-not-is_ended.ensures ∙ ap (on_line _) c.at-then-not-is_ended.ensures)
    ∙ not_ended c.args.text.now _ c.if-text-gt-LONGEST_TEXT.false (sym c.if-not-is_ended.ensures)
    (count_from_yields_List c.split.result _ c.count-lines.ensures.ran
    (YieldsList-from_slice_split _ _ c.args.text.now c.split.ensures.rest c.split.ensures.done c.split.ensures.closure (λ x b q k. search (rules, tests))))

pub returns-clause-lines : goal.returns-clause-lines
returns-clause-lines c ok = joined_lines c.args.text.now (sym c.if-not-is_ended.ensures)
