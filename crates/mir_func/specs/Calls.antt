-- Items that are calls.
use Rattle.std.specs.Prelude.{Bool, false}
use Rattle.rv64_instr.specs.LocationEffects.{is_call}
use Rattle.rv64_instr.specs.Row.{row_of}
use Rattle.mir_func.specs.declared.item.ItemKind.{ItemKind}
use Rattle.mir_func.specs.declared.item.ItemKind.TheVariants.{Code, Mark, Phi}

-- code that is a call
abbrev pub is_call_kind : ItemKind → Bool
is_call_kind (Code i k) = is_call (row_of i)
is_call_kind (Mark v m) = false
is_call_kind (Phi p k) = false
