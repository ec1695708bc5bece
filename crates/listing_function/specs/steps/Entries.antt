-- Definitions for the loop over items and their entries.
use Rattle.std.specs.Prelude.{◌≡◌, ℕ, ◌<◌, ◌^◌, Bool, ◌&&◌, cond, nat_eq, List, [], ◌∷◌, ◌++◌, drop, Option, Some, None}
use Rattle.mir_func.specs.declared.item.ItemKind.{ItemKind}
use Rattle.mir_func.specs.declared.position.ProgramPoint.{ProgramPoint}
use Rattle.mir_func.specs.declared.position.Pos.{Pos}
use Rattle.mir_func.specs.Function.{FramedFunction}
use Rattle.mir_func.specs.Sound.{SlotsIn, ObjectsIn}
use Rattle.mir_func.specs.SoundFrame.{own_size, slot_offsets, KindReaches, IsFramed}
use Rattle.emit_code.specs.declared.code.EncodedInstruction.{EncodedInstruction}
use Rattle.emit_code.specs.declared.objects.ObjectOffsets.{ObjectOffsets}
use Rattle.emit_code.specs.Rule.{Layout, Site, entries_at}
use Rattle.emit_code.specs.steps.Emitted.{point_of}
use Rattle.emit_code.specs.steps.Plans.{AreOffsetsOf}

-- an address below 2^32
abbrev pub IsLow : EncodedInstruction → Type 0
IsLow e = e.address < 2 ^ 32

-- the address of the first entry
abbrev pub first_address : List EncodedInstruction → Option ℕ
first_address [] = None
first_address (e ∷ es) = Some e.address

abbrev pub is_same_point : ProgramPoint → ProgramPoint → Bool
is_same_point p q = nat_eq p.block q.block && nat_eq p.item q.item

-- the address of the second entry, if both entries are of the same point
abbrev pub second_address : List EncodedInstruction → Option ℕ
second_address [] = None
second_address (x ∷ []) = None
second_address (x ∷ y ∷ es) = cond (is_same_point x.point y.point) (Some y.address) None

-- no entry, or a first entry of another point
abbrev pub BeginsApart : Pos → List EncodedInstruction → Type 0
BeginsApart p [] = Unit {0}
BeginsApart p (e ∷ es) = e.point ≡ point_of p → ⊥

-- The entries from index `at` on are those of the item at s, and then others, of which the first is of another point.
pub record StandsAt (l : Layout) (entries : List EncodedInstruction) (at : ℕ) (s : Site) (others : List EncodedInstruction) : Type 0 where
  pub here : drop at entries ≡ entries_at l s ++ others
  pub apart : BeginsApart s.point others

-- The table has the offsets of the stack objects of the layout's function with its frame.
pub record IsSource (l : Layout) (o : ObjectOffsets) : Type 0 where
  pub framed : IsFramed l.framed
  pub offsets : AreOffsetsOf l.framed o

-- the slots and the stack objects that an item names exist, and an address that it forms lies low enough above x2
abbrev pub IsPlaced : FramedFunction → ItemKind → Type 0
IsPlaced f kind = SlotsIn (slot_offsets f) kind × ObjectsIn f.objects kind × KindReaches (own_size f) f.objects kind
