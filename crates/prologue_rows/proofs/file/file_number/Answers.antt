use Rattle.std.proofs.Common.{arith, []}
use Rattle.prologue_rows.proofs.file.file_number.Goals as goal

pub overflow_sub-result : goal.overflow_sub-result
overflow_sub-result c = omega (arith, c.in_ok-number.ensures.number [])
