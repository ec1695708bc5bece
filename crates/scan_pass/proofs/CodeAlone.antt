-- The steps of linear scan have one result each and see code alone. The implementation of the trait of passes names these two, so
-- their file leads to no more than they need.
use Rattle.scan_pass.specs.Scanned.{ScanIsOne, ScanSeesCodeAlone}
use Rattle.scan_rule.proofs.Originless.{allotment_sees_code_alone}
use Rattle.scan_rule.proofs.Same.{allotment_is_one}
use Rattle.scan_slots.proofs.One.{settling_is_one}
use Rattle.scan_slots.proofs.Originless.{settling_sees_code_alone}

pub scan_is_one : ScanIsOne
scan_is_one reserve = (allotment_is_one reserve, (settling_is_one, tt))

pub scan_sees_code_alone : ScanSeesCodeAlone
scan_sees_code_alone reserve = (allotment_sees_code_alone reserve, (settling_sees_code_alone, tt))
