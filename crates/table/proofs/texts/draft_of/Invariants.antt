use Rattle.std.proofs.Common.{length}
use Rattle.lines.specs.Texts.{lines_left}
use Rattle.table.proofs.Turns.{Turn}
use Rattle.table.proofs.texts.draft_of.Given as goal

abbrev pub invariant-loop-line : goal.invariant-loop-line
invariant-loop-line l = Turn l.text l.lines l.draft

abbrev pub decreases-loop-line : goal.decreases-loop-line
decreases-loop-line l = length (lines_left l.lines)
