use Rattle.prologue_rows.proofs.Places.{rows_give_places}
use Rattle.prologue_rows.proofs.laws.rows_give_places.Goals as goal

pub returns : goal.returns
returns c = rows_give_places
