use Rattle.std.proofs.Common.{rules}
use Rattle.lines.proofs.Numerals.{inverse}
use Rattle.lines.proofs.numbers.number_in.Goals as goal

pub returns-in_default-clause-inverse : goal.returns-in_default-clause-inverse
returns-in_default-clause-inverse c = inverse _ _ (search rules)

pub returns-then-is_empty-clause-inverse : goal.returns-then-is_empty-clause-inverse
returns-then-is_empty-clause-inverse c = inverse _ _ (search rules)

pub returns-else-rest-lt-MOST_DIGITS-clause-inverse : goal.returns-else-rest-lt-MOST_DIGITS-clause-inverse
returns-else-rest-lt-MOST_DIGITS-clause-inverse c = inverse _ _ (search rules)
