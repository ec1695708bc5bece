-- The output that a text shows.
use Rattle.std.specs.Prelude.{◌≡◌, ℕ, ◌≤◌, false, List, length, All, Option, None, IfSome}
use Rattle.base_ids.specs.Limits.{FIXED}
use Rattle.rv64_instr.specs.Form.{IsSigned}
use Rattle.mir_func.specs.declared.position.Pos.{Pos}
use Rattle.mir_func.specs.declared.position.Origin.{Origin}
use Rattle.mir_func.specs.declared.position.Origin.TheVariants.{Kept, Before}
use Rattle.mir_func.specs.declared.debug_substitution.DebugSubstitution.{DebugSubstitution}
use Rattle.mir_func.specs.declared.debug_substitution.OperandPair.{OperandPair}
use Rattle.mir_printer.specs.Printable.{Declared, IsNumber, IsPrintable}
use Rattle.listing_text.specs.declared.output.ItemLine.{ItemLine}
use Rattle.listing_text.specs.declared.output.Implicit.{Implicit}
use Rattle.listing_text.specs.declared.output.Implicit.TheVariants.{Def, Use}
use Rattle.listing_text.specs.declared.output.SkipLine.{SkipLine}
use Rattle.listing_text.specs.declared.output.Line.{Line}
use Rattle.listing_text.specs.declared.output.Line.TheVariants.{Item, Skip}
use Rattle.listing_text.specs.declared.output.ListedVariable.{ListedVariable}
use Rattle.listing_text.specs.declared.output.ObjectPlace.{ObjectPlace}
use Rattle.listing_text.specs.declared.output.ObjectPlace.TheVariants.{InArea, FromEntry}
use Rattle.listing_text.specs.declared.output.ListedObject.{ListedObject}
use Rattle.listing_text.specs.declared.output.ListedBlock.{ListedBlock}
use Rattle.listing_text.specs.declared.output.ListedFunction.{ListedFunction}
use Rattle.listing_text.specs.declared.output.Output.{Output}
use Rattle.listing_text.specs.Output.{spelling}

-- block and item of a position have 32 bits
abbrev pub HasNumbersAt : Pos → Type 0
HasNumbersAt p = IsNumber p.block × IsNumber p.item

-- an origin that can be printed: its position has 32-bit numbers
abbrev pub IsPrintableOrigin : Origin → Type 0
IsPrintableOrigin (Kept p) = HasNumbersAt p
IsPrintableOrigin (Before p) = HasNumbersAt p

-- Listed items name no stack objects: an access to one is listed by x2. `inlined` maps the node of a DILocation to that of its `inlinedAt`.
abbrev pub declared_by : (inlined : ℕ → Option ℕ) → Declared
declared_by inlined = record { objects = λ n. false; inlined = inlined }

-- An item's line that can be printed and read back: it has a 32-bit address or none, and a printable origin and item.
pub record IsPrintableItem (inlined : ℕ → Option ℕ) (l : ItemLine) : Type 0 where
  pub address : IfSome l.address IsNumber
  pub origin : IsPrintableOrigin l.item.origin
  pub item : IsPrintable (declared_by inlined) l.item

-- the register of an implicit operand has 32 bits
abbrev pub IsPrintableImplicit : Implicit → Type 0
IsPrintableImplicit (Def r) = IsNumber r
IsPrintableImplicit (Use r) = IsNumber r

-- a skip line that can be printed and read back: its numbers have 32 bits
pub record IsPrintableSkip (s : SkipLine) : Type 0 where
  pub address : IsNumber s.address
  pub origin : IsPrintableOrigin s.origin
  pub first : IsNumber s.first
  pub second : IsNumber s.second
  pub implicit : All IsPrintableImplicit s.implicit

-- a line that can be printed and read back
abbrev pub IsPrintableLine : (inlined : ℕ → Option ℕ) → Line → Type 0
IsPrintableLine inlined (Item l) = IsPrintableItem inlined l
IsPrintableLine inlined (Skip s) = IsPrintableSkip s

-- A variable's line that can be printed and read back: its numbers have 32 bits, and the variable has no fragment, since the line has no room for
-- one.
pub record IsPrintableVariable (v : ListedVariable) : Type 0 where
  pub list : IsNumber v.list
  pub node : IsNumber v.variable.node
  pub inlined_at : IfSome v.variable.inlined_at IsNumber
  pub whole : v.variable.fragment ≡ None

-- the debug instruction number and the operand have 32 bits
abbrev pub HasNumbers : OperandPair → Type 0
HasNumbers q = IsNumber q.number × IsNumber q.operand

-- an offset has 32 bits; a fixed object, of which a text has the N alone, has the number of one
abbrev pub IsPrintableObjectPlace : (id : ℕ) → ObjectPlace → Type 0
IsPrintableObjectPlace id (InArea n) = IsNumber n
IsPrintableObjectPlace id (FromEntry d) = IsSigned d × (FIXED ≤ id)

-- number, size and offset of a stack object have 32 bits
pub record IsPrintableObject (o : ListedObject) : Type 0 where
  pub id : IsNumber o.id
  pub size : IsNumber o.size
  pub place : IsPrintableObjectPlace o.id o.place

-- the numbers of a debug value substitution have 32 bits
pub record IsPrintableEntry (e : DebugSubstitution) : Type 0 where
  pub src : HasNumbers e.src
  pub dst : HasNumbers e.dst
  pub subreg : IsNumber e.subreg

-- a basic block that can be printed and read back
pub record IsPrintableBlock (inlined : ℕ → Option ℕ) (b : ListedBlock) : Type 0 where
  pub id : IsNumber b.id
  pub lines : All (IsPrintableLine inlined) b.lines

-- a listed function that can be printed and read back
pub record IsPrintableFunction (inlined : ℕ → Option ℕ) (f : ListedFunction) : Type 0 where
  pub low : IsNumber f.low
  pub high : IsNumber f.high
  pub objects : All IsPrintableObject f.objects
  pub variables : All IsPrintableVariable f.variables
  pub substitutions : All IsPrintableEntry f.substitutions
  pub prologue : All (IsPrintableLine inlined) f.prologue
  pub blocks : All (IsPrintableBlock inlined) f.blocks

-- An output that can be printed and read back: numbers and addresses have 32 bits, and items are printable. `inlined` maps the node of a DILocation
-- to that of its `inlinedAt`.
pub record IsPrintableOutput (inlined : ℕ → Option ℕ) (o : Output) : Type 0 where
  pub text : IsNumber (length o.text)
  pub abbreviations : IsNumber (length o.abbreviations)
  pub info : IsNumber (length o.info)
  pub rows : IsNumber (length o.rows)
  pub loclists : IsNumber (length o.loclists)
  pub frame : IfSome o.frame (λ bytes. IsNumber (length bytes))
  pub ranges : IfSome o.ranges (λ bytes. IsNumber (length bytes))
  pub functions : All (IsPrintableFunction inlined) o.functions

-- the text is that of the output, which is printable
pub record Shows (inlined : ℕ → Option ℕ) (text : List ℕ) (o : Output) : Type 0 where
  pub spelled : text ≡ spelling o
  pub printable : IsPrintableOutput inlined o

-- The text shows some output, and P holds of every output that it shows.
pub record OfShown (inlined : ℕ → Option ℕ) (P : Output → Type 0) (text : List ℕ) : Type 0 where
  pub output : Output
  pub shown : Shows inlined text output
  pub every : (o : Output) → Shows inlined text o → P o
