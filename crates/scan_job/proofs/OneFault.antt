-- A run answers one fault at most.
use Rattle.std.proofs.Common.{◌≡◌, inl, inr}
use Rattle.base_types.specs.declared.fault.Fault.{Fault}
use Rattle.base_types.specs.FirstFault.{IsFirstFault, FaultLaw}
use Rattle.scan_job.specs.Faults.{OneFaultLaw}
use Rattle.scan_job.proofs.Sizes.{size_none}

one_first : FaultLaw → (Holds : Fault → Type 0) (f g : Fault) → IsFirstFault Holds f → IsFirstFault Holds g → f ≡ g
one_first law Holds f g a b = law f g (λ first. b.least f a.holds first) (λ first. a.least g b.holds first)

pub one_fault : FaultLaw → OneFaultLaw
one_fault law request files f g (inl a) (inl b) = one_first law _ f g a b
one_fault law request files f g (inl a) (inr b) = absurd (size_none request files b.0 f a.holds)
one_fault law request files f g (inr a) (inl b) = absurd (size_none request files a.0 g b.holds)
one_fault law request files f g (inr a) (inr b) = one_first law _ f g a.1 b.1
