use Rattle.std.proofs.Common.{◌≡◌, ◌+◌, length}
use Rattle.writing.specs.Writing.{put_at}
use Rattle.writing.proofs.Lines.{so_far}
use Rattle.writing.proofs.LineText.put.Given as goal

abbrev pub invariant-loop-field : goal.invariant-loop-field
invariant-loop-field l =
    let bytes = so_far l.self.word.now l.self.fields.now l.field-index in
    record { place : l.end ≡ l.at + length bytes; wrote : l.buffer ≡ put_at l.fn.buffer l.at bytes }
