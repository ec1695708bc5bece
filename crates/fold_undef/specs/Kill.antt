-- Kills, without the block at whose start they are.
use Rattle.std.specs.Prelude.{ℕ, List, Option, Some, None, Bool, false, nat_eq}
use Rattle.std.specs.List.{filter_map}
use Rattle.mir_func.specs.declared.item.Item.{Item}
use Rattle.mir_func.specs.declared.item.ItemKind.{ItemKind}
use Rattle.mir_func.specs.declared.item.ItemKind.TheVariants.{Code, Mark, Phi}
use Rattle.mir_func.specs.declared.location.Loc.{Loc}
use Rattle.mir_func.specs.declared.location.Loc.TheVariants.{Absent}
use Rattle.mir_func.specs.declared.position.Origin.TheVariants.{Before}
use Rattle.mir_func.specs.declared.variable.MarkValue.TheVariants.{Nothing}
use Rattle.mir_func.specs.Variables.{is_same}
use Rattle.fold_undef.specs.declared.kill.Kill.{Kill}
use Rattle.fold_undef.specs.declared.kill.Kill.TheVariants.{Part, Number}

-- the kill for a debug item
abbrev pub kill_of : ItemKind → Loc → Option Kill
kill_of (Mark v m) l = Some (Part v l)
kill_of (Phi p k) l = Some (Number k)
kill_of (Code i k) l = None

-- the kill as an item at the start of a block
abbrev pub kill_item : (block : ℕ) → Kill → Item
kill_item b (Part v l) = record { kind = Mark v Nothing; origin = Before (record { block = b; item = 0 }); loc = l }
kill_item b (Number k) = record { kind = Phi None k; origin = Before (record { block = b; item = 0 }); loc = Absent }

-- the kills for items
abbrev pub kills_in : List Item → List Kill
kills_in items = filter_map (λ i. kill_of i.kind i.loc) items

-- kills of the same variable fragment, or of the same number
abbrev pub is_same_kill : Kill → Kill → Bool
is_same_kill (Part v l) (Part w m) = is_same v w
is_same_kill (Number k) (Number l) = nat_eq k l
is_same_kill (Part v l) (Number k) = false
is_same_kill (Number k) (Part v l) = false
