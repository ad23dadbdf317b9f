use Rattle.std.proofs.Common.{◌+◌, ◌≤◌, length, get_or, decimal, rules, sym, ap, ◌∙◌, arith}
use Rattle.writing.specs.Writing.{put_at, line_bytes}
use Rattle.writing.proofs.Placed.{set_behind, fitting, after_byte}
use Rattle.writing.proofs.Lines.{so_far, so_far_more, so_far_end, length_more, length_part}
use Rattle.writing.proofs.LineText.put.Goals as goal

pub loop-field-preserved : goal.loop-field-preserved
loop-field-preserved c =
    let line = c.args.self.now in
    let k = c.loop-field.field-index in
    let bytes = so_far line.word.now line.fields.now k in
    let number = decimal (get_or line.fields.now k 0) in
    let part = length_part line.word.now line.fields.now (k + 1) in
    let more = length_more line.word.now line.fields.now k c.loop-field-test.true in
    let room : c.args.at + length (line_bytes line.word.now line.fields.now) ≤ length c.args.buffer.now = search rules in
    record {
      place = search rules;
      wrote =
          c.put-in-loop-field.ensures.after ∙ rw (c.loop-field.invariant.wrote, c.loop-field.invariant.place) (after_byte c.args.buffer.now c.args.at bytes 44 number (omega arith))
          ∙ ap (put_at c.args.buffer.now c.args.at) (sym (so_far_more line.word.now line.fields.now k c.loop-field-test.true));
    }

pub returns-clause-after : goal.returns-clause-after
returns-clause-after c =
    let line = c.args.self.now in
    let k = c.loop-field.field-index in
    let bytes = so_far line.word.now line.fields.now k in
    let part = length_part line.word.now line.fields.now k in
    let room : c.args.at + length (line_bytes line.word.now line.fields.now) ≤ length c.args.buffer.now = search rules in
    rw (c.loop-field.invariant.wrote, c.loop-field.invariant.place) (set_behind c.args.buffer.now c.args.at bytes 10 (omega arith))
    ∙ ap (put_at c.args.buffer.now c.args.at) (sym (so_far_end line.word.now line.fields.now k c.loop-field-test.false))
    ∙ sym (fitting c.args.buffer.now c.args.at (line_bytes line.word.now line.fields.now) room)
