use Rattle.table.proofs.Entering.{still_unsolved}
use Rattle.table.proofs.begun.ChainBegun.enter.Goals as goal

pub returns-clause-unsolved : goal.returns-clause-unsolved
returns-clause-unsolved c =
    let added = c.in_ok-add.ensures in
    still_unsolved _ _ _ _ added.rule added.after c.requires added.run
