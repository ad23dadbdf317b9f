use Rattle.std.proofs.Common.{◌≡◌, ◌+◌, ◌-◌, ◌^◌, min, length}
use Rattle.writing.proofs.Lines.{so_far}
use Rattle.writing.proofs.LineText.len.Given as goal

abbrev pub invariant-loop-field : goal.invariant-loop-field
invariant-loop-field l = l.len ≡ min (length (so_far l.self.word.now l.self.fields.now l.field-index) + 1) (2 ^ 64 - 1)
