-- A dead copy loses its number and stays: the items and substitutions after that.
use Rattle.std.specs.Prelude.{ℕ, zero, suc, List, [], ◌∷◌, ◌++◌, take, drop, Option, Some, None, Bool, true, false, nat_eq, slice_get, slice_index_or}
use Rattle.rv64_instr.specs.Row.{Row, Moves, row_of}
use Rattle.mir_func.specs.declared.position.Origin.{Origin}
use Rattle.mir_func.specs.declared.debug_substitution.DebugSubstitution.{DebugSubstitution}
use Rattle.mir_func.specs.declared.item.Item.{Item}
use Rattle.mir_func.specs.declared.item.ItemKind.{ItemKind}
use Rattle.mir_func.specs.declared.item.ItemKind.TheVariants.{Code, Mark, Phi}
use Rattle.pass_salvage.specs.pass_trait.declared.loss.Reason.TheVariants.{WrongPlace}
use Rattle.pass_salvage.specs.pass_trait.declared.loss.Loss.{Loss}
use Rattle.pass_salvage.specs.pass_trait.Rule.{item_before, number_lost}
use Rattle.pass_salvage.specs.declared.salvage_action.SalvageAction.{SalvageAction}
use Rattle.pass_salvage.specs.declared.salvage_action.SalvageAction.TheVariants.{HasEntry, GetsEntry, GetsPhi}
use Rattle.pass_salvage.specs.Salvage.{above_after, phi_for, entries_for, fresh_after}
use Rattle.pass_salvage.specs.SalvageAction.{salvage_action}
use Rattle.dce_salvage.specs.declared.salvage_numbers.Copied.{Copied}

-- the copy that code with this number and row is; a copy into x0 is none
abbrev pub copied_by : Row → (number : ℕ) → Option Copied
copied_by (Moves (suc rd) s) k = Some (record { number = k; source = s; own = nat_eq (suc rd) s })
copied_by _ k = None

-- the numbered copy that an item is, if it is one
abbrev pub numbered_copy : ItemKind → Option Copied
numbered_copy (Code i (Some k)) = copied_by (row_of i) k
numbered_copy (Code i None) = None
numbered_copy (Mark v m) = None
numbered_copy (Phi p k) = None

-- code without its debug instruction number
abbrev pub without_number : ItemKind → ItemKind
without_number (Code i k) = Code i None
without_number (Mark v m) = Mark v m
without_number (Phi p k) = Phi p k

-- the DBG_PHI for a copy with this origin. It counts as right after the copy, so it is undef if the copy sets its own source
abbrev pub phi_by_own : (own : Bool) → (number source : ℕ) → Origin → Item
phi_by_own true k s o = item_before (Phi None k) o
phi_by_own false k s o = phi_for k s o

-- the DBG_PHI for this copy, with its number
abbrev pub salvage_phi : Copied → Origin → Item
salvage_phi c o = phi_by_own c.own c.number c.source o

-- what is added before the copy: a DBG_PHI, if its number isn't substituted
abbrev pub added_by_salvage : SalvageAction → Copied → Origin → List Item
added_by_salvage HasEntry c o = []
added_by_salvage (GetsEntry d p n) c o = []
added_by_salvage GetsPhi c o = salvage_phi c o ∷ []

-- the number is lost if the copy sets its own source
abbrev pub lost_if_own : Bool → (number : ℕ) → List Loss
lost_if_own true k = number_lost k WrongPlace ∷ []
lost_if_own false k = []

-- the losses of this salvage
abbrev pub lost_by_salvage : SalvageAction → Copied → List Loss
lost_by_salvage HasEntry c = []
lost_by_salvage (GetsEntry d p n) c = []
lost_by_salvage GetsPhi c = lost_if_own c.own c.number

-- what replaces the items from the copy on
abbrev pub salvaged_from : SalvageAction → Copied → List Item → List Item
salvaged_from w c [] = []
salvaged_from w c (x ∷ xs) = added_by_salvage w c x.origin ++ record x { kind = without_number x.kind } ∷ xs

-- the items of a block after that; the one at an index was the copy
abbrev pub salvaged_items : SalvageAction → (at : ℕ) → Copied → List Item → List Item
salvaged_items w at c items = above_after w (take at items) ++ salvaged_from w c (drop at items)

-- the state along a block: its items, the substitutions, the next fresh number and the losses so far
pub record SoFar : Type 0 where
  pub items : List Item
  pub subs : List DebugSubstitution
  pub fresh : ℕ
  pub lost : List Loss

-- a copy at an index loses its number by this salvage
abbrev pub salvage_by : (at : ℕ) → Copied → SoFar → SalvageAction → SoFar
salvage_by at c a w = record {
  items = salvaged_items w at c a.items;
  subs = a.subs ++ entries_for w c.number;
  fresh = fresh_after w a.fresh;
  lost = a.lost ++ lost_by_salvage w c;
}

-- a copy at an index loses its number; the items at the indices in `removed` will be removed
abbrev pub salvage_copy : (removed : List ℕ) → (at : ℕ) → SoFar → Option Copied → SoFar
salvage_copy removed at a (Some c) = salvage_by at c a (salvage_action removed a.subs a.fresh c.number c.source (take at a.items))
salvage_copy removed at a None = a

-- the numbered copy that the item is, if there is one
abbrev pub copy_in : Option Item → Option Copied
copy_in (Some x) = numbered_copy x.kind
copy_in None = None

-- the item at an index loses its number, if it will be removed and is a numbered copy
abbrev pub salvage_at : (removed : List ℕ) → (at : ℕ) → (goes : Bool) → SoFar → SoFar
salvage_at removed at true a = salvage_copy removed at a (copy_in (slice_get a.items at))
salvage_at removed at false a = a

-- the dead copies of a block before an index lose their numbers, from the last to the first
abbrev pub salvage_down : (removed : List ℕ) → (dead : List Bool) → (index : ℕ) → SoFar → SoFar
salvage_down removed dead zero a = a
salvage_down removed dead (suc n) a = salvage_down removed dead n (salvage_at removed n (slice_index_or dead n false) a)
