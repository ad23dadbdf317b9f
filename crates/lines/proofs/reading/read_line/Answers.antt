use Rattle.std.proofs.Common.{rules}
use Rattle.lines.proofs.Taken.{exactly}
use Rattle.lines.proofs.reading.read_line.Goals as goal

pub returns-in_err-record-in-Node-clause-inverse : goal.returns-in_err-record-in-Node-clause-inverse
returns-in_err-record-in-Node-clause-inverse c = exactly _ _ (search rules)

pub returns-in_err-record-in-Chain-clause-inverse : goal.returns-in_err-record-in-Chain-clause-inverse
returns-in_err-record-in-Chain-clause-inverse c = exactly _ _ (search rules)

pub returns-in_err-record-in-Step-clause-inverse : goal.returns-in_err-record-in-Step-clause-inverse
returns-in_err-record-in-Step-clause-inverse c = exactly _ _ (search rules)

pub returns-in_ok-record-in-Node-clause-inverse : goal.returns-in_ok-record-in-Node-clause-inverse
returns-in_ok-record-in-Node-clause-inverse c = exactly _ _ (search rules)

pub returns-in_ok-record-in-Chain-clause-inverse : goal.returns-in_ok-record-in-Chain-clause-inverse
returns-in_ok-record-in-Chain-clause-inverse c = exactly _ _ (search rules)

pub returns-in_ok-record-in-Step-clause-inverse : goal.returns-in_ok-record-in-Step-clause-inverse
returns-in_ok-record-in-Step-clause-inverse c = exactly _ _ (search rules)
