-- What the conversion of plain fields into a record answers. Assumes nothing.
use Rattle.std.specs.Prelude.{◌≡◌, ℕ, Option, Result, IfOk}
use Rattle.records.specs.declared.fields.ChainFields.{ChainFields}
use Rattle.records.specs.declared.fields.RecordFault.{RecordFault}
use Rattle.records.specs.declared.fields.StepFields.{StepFields}
use Rattle.records.specs.declared.record.Chain.{Chain}
use Rattle.records.specs.declared.record.Step.{Step}
use Rattle.records.specs.Ranges.{fault_place, bad_chain_field, bad_step_field}

-- the fault names the first field out of range, if there is one; a record has the fields that it was made of
pub record Checked {A : Type 0} (bad : Option ℕ) (Kept : A → Type 0) (result : Result A RecordFault) : Type 0 where
  pub fault : fault_place result ≡ bad
  pub kept : IfOk result Kept

abbrev pub CheckedChain : ChainFields → Result Chain RecordFault → Type 0
CheckedChain fields = Checked (bad_chain_field fields) (λ chain. chain.fields ≡ fields)

abbrev pub CheckedStep : StepFields → Result Step RecordFault → Type 0
CheckedStep fields = Checked (bad_step_field fields) (λ step. step.fields ≡ fields)
