-- The source position of code: file, line and column, by the code's origin.
use Rattle.std.specs.Prelude.{ℕ, List, [], ◌∷◌, drop, Option, Some, None, cond, nat_eq}
use Rattle.std.specs.Option.{option_and_then}
use Rattle.read_metadata.specs.Maps.{Maps}
use Rattle.read_metadata.specs.Metadata.{location_at, file_of_scope_at}
use Rattle.read_metadata.specs.declared.node.LocationNode.{LocationNode}
use Rattle.mir_func.specs.declared.block.Block.{Block}
use Rattle.mir_func.specs.declared.item.Item.{Item}
use Rattle.mir_func.specs.declared.item.ItemKind.{ItemKind}
use Rattle.mir_func.specs.declared.item.ItemKind.TheVariants.{Code, Mark, Phi}
use Rattle.mir_func.specs.declared.location.Loc.{Loc}
use Rattle.mir_func.specs.declared.location.Loc.TheVariants.{Absent, Node, Inline}
use Rattle.mir_func.specs.declared.position.Pos.{Pos}
use Rattle.mir_func.specs.declared.position.Origin.{Origin}
use Rattle.mir_func.specs.Positions.{position_of}
use Rattle.dwarf_line_table.specs.declared.file.SourceFile.{SourceFile}
use Rattle.dwarf_line_table.specs.declared.scope_line.ScopeLine.{ScopeLine}
use Rattle.dwarf_line_table.specs.Files.{file_or}

-- a source position
pub record SourceLine : Type 0 where
  pub file : SourceFile
  pub line : ℕ
  pub column : ℕ

-- the line of code without a source line
abbrev pub no_line : ScopeLine
no_line = record { line = 0; column = 0; scope = None }

-- the line, column and scope of a DILocation node, and `no_line` if there is none
abbrev pub node_line : Option LocationNode → ScopeLine
node_line None = no_line
node_line (Some l) = record { line = l.line; column = l.column; scope = l.scope }

-- the line of a debug location, and `no_line` if it is absent or not readable
abbrev pub scope_line : Maps → Loc → ScopeLine
scope_line meta Absent = no_line
scope_line meta (Node n) = node_line (location_at meta n)
scope_line meta (Inline l) = record { line = l.line; column = l.column; scope = Some l.scope }

-- the file of a scope, and the unit's if none is readable
abbrev pub scope_file : Maps → (unit : SourceFile) → Option ℕ → SourceFile
scope_file meta unit scope = file_or (option_and_then (file_of_scope_at meta) scope) unit

-- the source position of a line, in the file of its scope
abbrev pub in_file : Maps → (unit : SourceFile) → ScopeLine → SourceLine
in_file meta unit l = record { file = scope_file meta unit l.scope; line = l.line; column = l.column }

-- the source position of a debug location
abbrev pub line_at : Maps → (unit : SourceFile) → Loc → SourceLine
line_at meta unit loc = in_file meta unit (scope_line meta loc)

-- the debug location of code, and otherwise that of what follows: a debug value or DBG_PHI has no address
abbrev pub loc_if_code : ItemKind → (own others : Loc) → Loc
loc_if_code (Code i k) own others = own
loc_if_code (Mark v m) own others = others
loc_if_code (Phi p k) own others = others

-- the debug location of the first code of items
abbrev pub first_loc : List Item → Loc
first_loc [] = Absent
first_loc (i ∷ is) = loc_if_code i.kind i.loc (first_loc is)

-- the debug location of the first code at or after a position, in the position's block
abbrev pub loc_of : List Block → Pos → Loc
loc_of [] p = Absent
loc_of (b ∷ bs) p = cond (nat_eq b.id p.block) (first_loc (drop p.item b.items)) (loc_of bs p)

-- the source position of code with this origin, in the blocks of the function as it was read
abbrev pub line_of : Maps → SourceFile → List Block → Origin → SourceLine
line_of meta unit blocks origin = line_at meta unit (loc_of blocks (position_of origin))
