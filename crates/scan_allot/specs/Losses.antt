-- What is lost where debug values and DBG_PHIs become undef, in the order of the text.
use Rattle.std.specs.Prelude.{ℕ, ◌+◌, List, [], ◌∷◌, ◌++◌, Option, Some, None, Bool, cond}
use Rattle.rv64_instr.specs.declared.place.Place.{Place}
use Rattle.rv64_instr.specs.declared.place.Place.TheVariants.{Register, Slot, Const}
use Rattle.mir_func.specs.declared.block.Block.{Block}
use Rattle.mir_func.specs.declared.item.Item.{Item}
use Rattle.mir_func.specs.declared.item.ItemKind.{ItemKind}
use Rattle.mir_func.specs.declared.item.ItemKind.TheVariants.{Code, Mark, Phi}
use Rattle.mir_func.specs.declared.position.Origin.{Origin}
use Rattle.mir_func.specs.declared.position.Pos.{Pos}
use Rattle.mir_func.specs.declared.variable.MarkValue.{MarkValue}
use Rattle.mir_func.specs.declared.variable.MarkValue.TheVariants.{Nothing, Constant, At, Pair}
use Rattle.mir_func.specs.Positions.{position_of}
use Rattle.pass_trait.specs.declared.loss.Loss.{Loss}
use Rattle.pass_trait.specs.declared.loss.Lost.{Lost}
use Rattle.pass_trait.specs.declared.loss.Lost.TheVariants as lost
use Rattle.pass_trait.specs.declared.loss.Reason.TheVariants.{WrongPlace}

-- it is lost since the place is wrong
abbrev pub wrong_place : Lost → Loss
wrong_place what = record { what = what; reason = WrongPlace }

-- a debug value of this origin
abbrev pub lost_value : (silent : ℕ → Bool) → Origin → MarkValue → List Loss
lost_value silent o Nothing = []
lost_value silent o (Constant n) = []
lost_value silent o (At r) = cond (silent r) (wrong_place (lost.Mark (position_of o)) ∷ []) []
lost_value silent o (Pair q) = []

-- a DBG_PHI with this number
abbrev pub lost_place : (silent : ℕ → Bool) → (number : ℕ) → Option Place → List Loss
lost_place silent k None = []
lost_place silent k (Some (Register r)) = cond (silent r) (wrong_place (lost.Number k) ∷ []) []
lost_place silent k (Some (Slot n)) = []
lost_place silent k (Some (Const c)) = []

abbrev pub lost_kind : (silent : ℕ → Bool) → ItemKind → Origin → List Loss
lost_kind silent (Code i k) o = []
lost_kind silent (Mark v m) o = lost_value silent o m
lost_kind silent (Phi p k) o = lost_place silent k p

module _ (silent : Pos → ℕ → Bool) where
  -- the items of a block, from the one with index n on
  abbrev pub lost_items : (block n : ℕ) → List Item → List Loss
  lost_items b n [] = []
  lost_items b n (i ∷ is) = lost_kind (silent (record { block = b; item = n })) i.kind i.origin ++ lost_items b (n + 1) is

  abbrev pub lost_blocks : List Block → List Loss
  lost_blocks [] = []
  lost_blocks (b ∷ bs) = lost_items b.id 0 b.items ++ lost_blocks bs
