use Rattle.std.proofs.Common.{true}
use Rattle.std.specs.Fn.{FnReturnsAt}
use Rattle.std.specs.List.{AllWithin}
use Rattle.wu_audit.proofs.against.first_against.Given as goal

abbrev pub invariant-loop-place : goal.invariant-loop-place
invariant-loop-place g l = AllWithin (λ x. FnReturnsAt g.F.Fn l.is_right x true) l.elements 0 l.place
