-- The constants of the pool that code names.
use Rattle.std.specs.Prelude.{ℕ, Bool, true, nat_eq, List}
use Rattle.std.specs.List.{list_all, list_any}
use Rattle.rv64_instr.specs.declared.operand.Operand.{Operand}
use Rattle.rv64_instr.specs.declared.operand.Operand.TheVariants.{Part}
use Rattle.rv64_instr.specs.declared.symbol.Symbol.{Symbol}
use Rattle.rv64_instr.specs.declared.symbol.Symbol.TheVariants.{Global, Constant}
use Rattle.mir_func.specs.declared.block.Block.{Block}
use Rattle.mir_func.specs.declared.item.Item.{Item}
use Rattle.mir_func.specs.declared.item.ItemKind.{ItemKind}
use Rattle.mir_func.specs.declared.item.ItemKind.TheVariants.{Code, Mark, Phi}

-- a global, or the constant of one of these numbers
abbrev pub is_symbol_known : (ids : List ℕ) → Symbol → Bool
is_symbol_known ids (Global name) = true
is_symbol_known ids (Constant n) = list_any (nat_eq n) ids

-- no half of the address of another constant
abbrev pub is_operand_known : (ids : List ℕ) → Operand → Bool
is_operand_known ids (Part half y) = is_symbol_known ids y.symbol
is_operand_known ids _ = true

abbrev pub is_kind_known : (ids : List ℕ) → ItemKind → Bool
is_kind_known ids (Code i k) = list_all (is_operand_known ids) i.operands
is_kind_known ids (Mark v m) = true
is_kind_known ids (Phi p k) = true

abbrev pub is_item_known : (ids : List ℕ) → Item → Bool
is_item_known ids i = is_kind_known ids i.kind

-- each constant that the code of these blocks names has one of these numbers
abbrev pub are_known : (ids : List ℕ) → List Block → Bool
are_known ids blocks = list_all (λ b. list_all (is_item_known ids) b.items) blocks
