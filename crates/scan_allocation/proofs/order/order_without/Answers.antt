use Rattle.std.proofs.Common.{rules}
use Rattle.scan_allocation.proofs.AllocationOrder.{is_physical}
use Rattle.scan_allocation.proofs.order.order_without.Goals as goal

pub returns-clause-physical : goal.returns-clause-physical
returns-clause-physical c = is_physical c.args.reserve.now c.args.scratch.now c.keep_others.new.order.items (search rules)
