use Rattle.prologue_rows.proofs.Places.{rows_begin}
use Rattle.prologue_rows.proofs.laws.rows_begin_at_prologues.Goals as goal

pub returns : goal.returns
returns c = rows_begin
