-- Which registers may be spilled.
use Rattle.std.specs.Prelude.{ℕ, List, filter}
use Rattle.rv64_instr.specs.Reserve.{RESERVABLE}
use Rattle.spill_proof.specs.spill_select.Incoming.{is_among}

-- those of the given registers that may be spilled, without duplicates, in ascending order
abbrev pub reserve_of : List ℕ → List ℕ
reserve_of registers = filter (is_among registers) RESERVABLE
