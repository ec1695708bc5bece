-- What remains of items and what is lost, given which are dead and which places are wrong before each.
use Rattle.std.specs.Prelude.{ℕ, suc, List, [], ◌∷◌, ◌++◌, Option, Some, None, Bool, true, false, cond, slice_index_or, option_to_list}
use Rattle.std.specs.List.{flat_map}
use Rattle.rv64_instr.specs.declared.place.Place.{Place}
use Rattle.rv64_instr.specs.declared.place.Place.TheVariants.{Register}
use Rattle.mir_func.specs.declared.position.Pos.{Pos}
use Rattle.mir_func.specs.declared.position.Origin.{Origin}
use Rattle.mir_func.specs.declared.variable.MarkValue.TheVariants.{Nothing, Constant, At, Pair}
use Rattle.mir_func.specs.declared.block.Block.{Block}
use Rattle.mir_func.specs.declared.item.Item.{Item}
use Rattle.mir_func.specs.declared.item.ItemKind.{ItemKind}
use Rattle.mir_func.specs.declared.item.ItemKind.TheVariants.{Code, Mark, Phi}
use Rattle.pass_trait.specs.declared.loss.Reason.TheVariants.{Removed, WrongPlace}
use Rattle.pass_trait.specs.declared.loss.Loss.{Loss}
use Rattle.pass_trait.specs.Rule.{number_lost, mark_lost}
use Rattle.dce_stale.specs.dce_rule.Dead.{Places, Ends}
use Rattle.dce_stale.specs.dce_rule.Wrong.{silenced}
use Rattle.dce_stale.specs.dce_analysis.Judge.{verdicts}

-- a DBG_PHI of this location reads a wrong place
abbrev pub asks_wrong : (wrong : Places) → Option Place → Bool
asks_wrong wrong (Some x) = wrong x
asks_wrong wrong None = false

-- what remains of an item, if these places are wrong before it
abbrev pub left_of : (wrong : Places) → (dead : Bool) → Item → List Item
left_of wrong true i = []
left_of wrong false i = record i { kind = silenced wrong i.kind } ∷ []

-- what is lost of an item: the number of dead code, and a debug value or DBG_PHI of a wrong place
abbrev pub lost_of : (wrong : Places) → (dead : Bool) → ItemKind → Origin → Option Loss
lost_of wrong dead (Code i (Some k)) o = cond dead (Some (number_lost k Removed)) None
lost_of wrong dead (Code i None) o = None
lost_of wrong dead (Mark v (At r)) o = cond (wrong (Register r)) (Some (mark_lost o WrongPlace)) None
lost_of wrong dead (Mark v Nothing) o = None
lost_of wrong dead (Mark v (Constant n)) o = None
lost_of wrong dead (Mark v (Pair q)) o = None
lost_of wrong dead (Phi (Some x) k) o = cond (wrong x) (Some (number_lost k WrongPlace)) None
lost_of wrong dead (Phi None k) o = None

module _ (wrong : ℕ → Places) (dead : List Bool) where
  -- what remains of the items from an index on
  abbrev pub left_from : (index : ℕ) → List Item → List Item
  left_from n [] = []
  left_from n (i ∷ is) = left_of (wrong n) (slice_index_or dead n false) i ++ left_from (suc n) is

  -- what is lost of them
  abbrev pub lost_from : (index : ℕ) → List Item → List Loss
  lost_from n [] = []
  lost_from n (i ∷ is) = option_to_list (lost_of (wrong n) (slice_index_or dead n false) i.kind i.origin) ++ lost_from (suc n) is

module _ (wrong : Pos → Places) (ends : Ends) where
  abbrev pub lost_in_block : Block → List Loss
  lost_in_block b = lost_from (λ n. wrong (record { block = b.id; item = n })) (verdicts b.items (ends b.id)) 0 b.items

  -- what is lost of these blocks, in the order of the text
  abbrev pub lost_in : List Block → List Loss
  lost_in blocks = flat_map lost_in_block blocks
