-- Items that lead back to the caller leave the function.
use Rattle.std.proofs.Common.{◌≡◌, true, false, refl}
use Rattle.rv64_instr.specs.Row.{Row, Returns, Unfit, row_of}
use Rattle.mir_func.specs.declared.exit.Exit.TheVariants.{Onward, Final}
use Rattle.mir_func.specs.declared.item.ItemKind.{ItemKind}
use Rattle.mir_func.specs.declared.item.ItemKind.TheVariants.{Code, Mark, Phi}
use Rattle.mir_func.specs.Exits.{row_exit, exit_of, row_leads_back, leads_back}

row_ends : (r : Row) → row_leads_back r ≡ true → row_exit r ≡ Final
row_ends (Returns ending) h = refl
row_ends Unfit h = refl
row_ends _ h = cc

pub leads_out : (k : ItemKind) → leads_back k ≡ true → exit_of k ≡ Final
leads_out (Code i n) h = row_ends (row_of i) h
leads_out (Mark v m) h = cc
leads_out (Phi p n) h = cc

row_goes : (r : Row) → row_exit r ≡ Onward → row_leads_back r ≡ false
row_goes (Returns ending) h = cc
row_goes Unfit h = cc
row_goes _ h = refl

-- what goes on leads nowhere else
pub onward_leads : (k : ItemKind) → exit_of k ≡ Onward → leads_back k ≡ false
onward_leads (Code i n) h = row_goes (row_of i) h
onward_leads (Mark v m) h = refl
onward_leads (Phi p n) h = refl
