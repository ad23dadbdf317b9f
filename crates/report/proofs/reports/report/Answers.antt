use Rattle.report.proofs.Meaning.{fault_written}
use Rattle.report.proofs.reports.report.Goals as goal

pub returns-in_err-write_fault-in-Err-clause-after : goal.returns-in_err-write_fault-in-Err-clause-after
returns-in_err-write_fault-in-Err-clause-after c = fault_written _ _ _ _ c.in-Err.ensures.value c.in_err-write_fault-in-Err.ensures.after

pub returns-in_ok-write_fault-in-Err-clause-after : goal.returns-in_ok-write_fault-in-Err-clause-after
returns-in_ok-write_fault-in-Err-clause-after c = fault_written _ _ _ _ c.in-Err.ensures.value c.in_ok-write_fault-in-Err.ensures.after
