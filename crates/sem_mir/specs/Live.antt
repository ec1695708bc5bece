-- Liveness over paths.
use Rattle.std.specs.Prelude.{◌≡◌, true}
use Rattle.mir_func.specs.rv64_instr.declared.place.Place.{Place}
use Rattle.mir_func.specs.rv64_instr.Row.{row_of}
use Rattle.mir_func.specs.rv64_instr.LocationEffects.{uses_of, defines_of}
use Rattle.mir_func.specs.declared.position.Pos.{Pos}
use Rattle.mir_func.specs.declared.item.ItemKind.{ItemKind}
use Rattle.mir_func.specs.declared.item.ItemKind.TheVariants.{Code}
use Rattle.mir_func.specs.Graph.{Fetch, Here, Program, Edge}

-- the item is code that reads the place. Debug items read none
abbrev pub KindUses : ItemKind → Place → Type 0
KindUses (Code i k) x = uses_of i x ≡ true
KindUses _ x = ⊥

-- the item is code that sets the place. Debug items set none
abbrev pub KindDefines : ItemKind → Place → Type 0
KindDefines (Code i k) x = defines_of (row_of i) x ≡ true
KindDefines _ x = ⊥

-- code reads the place. Debug items are no uses
abbrev pub Uses : Fetch → Place → Type 0
Uses (Here i) x = KindUses i.kind x
Uses _ x = ⊥

-- code sets the place. Debug items are no definitions
abbrev pub Defines : Fetch → Place → Type 0
Defines (Here i) x = KindDefines i.kind x
Defines _ x = ⊥

-- some path from the position reaches a use of the place before a definition of it
pub data Live (g : Program) (x : Place) : Pos → Type 0 where
  used : {p : Pos} → Uses (g.fetch p) x → Live g x p
  later : {p q : Pos} → (Defines (g.fetch p) x → ⊥) → Edge g p q → Live g x q → Live g x p
