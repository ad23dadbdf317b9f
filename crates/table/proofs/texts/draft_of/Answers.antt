use Rattle.table.proofs.Turns.{turn_none}
use Rattle.table.proofs.texts.draft_of.Goals as goal

pub loop-line-init : goal.loop-line-init
loop-line-init c = turn_none _ _ _ c.requires c.new-lines.ensures.left c.new-lines.ensures.number c.new-draft.ensures.value c.new-draft.ensures.unsolved
