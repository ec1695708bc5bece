-- The lines of long branches.
use Rattle.std.specs.Prelude.{ℕ, List, [], ◌∷◌, Option, Some, None}
use Rattle.rv64_instr.specs.declared.operand.Operand.{Operand}
use Rattle.rv64_instr.specs.Inverse.{inverse}
use Rattle.mir_func.specs.declared.item.Item.{Item}
use Rattle.mir_func.specs.declared.item.ItemKind.TheVariants.{Code}
use Rattle.emit_code.specs.LongBranch.{jump_to}
use Rattle.emit_code.specs.Rule.{added_before}
use Rattle.listing_text.specs.declared.output.Line.{Line}
use Rattle.listing_text.specs.declared.output.Line.TheVariants.{Skip}
use Rattle.listing_meaning.specs.Listing.{implicits, line_at}
use Rattle.listing_function.specs.declared.branch.Branch.{Branch}
use Rattle.listing_function.specs.declared.lines.Long.{Long}

-- a long branch, if the instruction is a conditional branch and has the address of its jump
abbrev pub long_by : Option ℕ → Option Branch → Option Long
long_by None b = None
long_by (Some a) None = None
long_by (Some a) (Some b) = Some (record { jump = a; branch = b })

-- the two lines of a long branch: the skip, and the jump, which has the item's number, origin and debug location
abbrev pub long_lines : (address : ℕ) → Long → Item → List Operand → (number : Option ℕ) → List Line
long_lines a l item operands k = Skip (record {
  address = a;
  origin = added_before item.origin;
  op = inverse l.branch.op;
  first = l.branch.first;
  second = l.branch.second;
  implicit = implicits operands;
}) ∷ line_at (Some l.jump) item (Code (jump_to l.branch.target) k) ∷ []
