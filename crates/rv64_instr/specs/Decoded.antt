-- The row of a decoded instruction.
use Rattle.std.specs.Prelude.{◌≡◌, ℕ, List}
use Rattle.rv64_instr.specs.Row as row
use Rattle.rv64_instr.specs.Row.{Row}
use Rattle.rv64_instr.specs.declared.symbol.LinkedAddress.{LinkedAddress}
use Rattle.rv64_instr.specs.declared.decoded.Input.{Input}
use Rattle.rv64_instr.specs.declared.decoded.Input.TheVariants.{Content, Number, PartOf}
use Rattle.rv64_instr.specs.declared.decoded.Base.{Base}
use Rattle.rv64_instr.specs.declared.decoded.Base.TheVariants.{PointedBy, ObjectAt, BesidePart}
use Rattle.rv64_instr.specs.declared.decoded.Callee.{Callee}
use Rattle.rv64_instr.specs.declared.decoded.Callee.TheVariants.{Named, Held}
use Rattle.rv64_instr.specs.declared.decoded.Way.{Way}
use Rattle.rv64_instr.specs.declared.decoded.Way.TheVariants.{Back, Tail, Never}
use Rattle.rv64_instr.specs.declared.decoded.Decoded.{Decoded}
use Rattle.rv64_instr.specs.declared.decoded.Decoded.TheVariants.{Fixes, Moves, Sets, Addresses, Loads, Stores, LoadsSlot, StoresSlot, Branches, Jumps, Calls}
use Rattle.rv64_instr.specs.declared.decoded.Decoded.TheVariants.{Returns}

-- b is the input of which this is known
abbrev pub ShowsInput : Input → row.Input → Type 0
ShowsInput (Content r) b = b ≡ row.Content r
ShowsInput (Number n) b = b ≡ row.Number n
ShowsInput (PartOf half) b = (y : LinkedAddress) × (b ≡ row.PartOf half y)

-- b is the base of which this is known
abbrev pub ShowsBase : Base → row.Base → Type 0
ShowsBase (PointedBy r) b = b ≡ row.PointedBy r
ShowsBase (ObjectAt n) b = b ≡ row.ObjectAt n
ShowsBase (BesidePart r) b = (y : LinkedAddress) × (b ≡ row.BesidePart r y)

-- c is the callee of which this is known
abbrev pub ShowsCallee : Callee → row.Callee → Type 0
ShowsCallee Named c = (name : List ℕ) × (c ≡ row.Named name)
ShowsCallee (Held r) c = c ≡ row.Held r

-- w is the way of which this is known
abbrev pub ShowsWay : Way → row.Way row.Callee → Type 0
ShowsWay Back w = w ≡ row.Back
ShowsWay (Tail callee) w = (c : row.Callee) × (w ≡ row.Tail c) × ShowsCallee callee c
ShowsWay (Never callee) w = (c : row.Callee) × (w ≡ row.Never c) × ShowsCallee callee c

-- r is the row of the decoded instruction, which leaves out the symbol and the number of a half of an address, a callee's name, a call's
-- arguments and an ending's values
abbrev pub Shows : Decoded → Row → Type 0
Shows (Fixes rd n) r = r ≡ row.Fixes rd n
Shows (Moves rd rs) r = r ≡ row.Moves rd rs
Shows (Sets rd op a b) r = (input : row.Input) × (r ≡ row.Sets rd op a input) × ShowsInput b input
Shows (Addresses rd n offset) r = r ≡ row.Addresses rd n offset
Shows (Loads rd op base offset) r = (b : row.Base) × (r ≡ row.Loads rd op b offset) × ShowsBase base b
Shows (Stores op rs base offset) r = (b : row.Base) × (r ≡ row.Stores op rs b offset) × ShowsBase base b
Shows (LoadsSlot rd n) r = r ≡ row.LoadsSlot rd n
Shows (StoresSlot rs n) r = r ≡ row.StoresSlot rs n
Shows (Branches op a b target) r = r ≡ row.Branches op a b target
Shows (Jumps target) r = r ≡ row.Jumps target
Shows (Calls callee) r = (call : row.CallSite) × (r ≡ row.Calls call) × ShowsCallee callee call.callee
Shows (Returns way) r = (ending : row.Ending row.Callee) × (r ≡ row.Returns ending) × ShowsWay way ending.way
