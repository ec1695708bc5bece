-- Code loses its number, and no item has it any more, except perhaps an undef DBG_PHI.
use Rattle.std.specs.Prelude.{◌≡◌, ℕ, Some, None}
use Rattle.rv64_instr.specs.Instruction.{Instruction}
use Rattle.mir_func.specs.declared.position.Origin.{Origin}
use Rattle.mir_func.specs.declared.location.Loc.{Loc}
use Rattle.mir_func.specs.declared.item.Item.{Item}
use Rattle.mir_func.specs.declared.item.ItemKind.{ItemKind}
use Rattle.mir_func.specs.declared.item.ItemKind.TheVariants.{Code, Phi}
use Rattle.mir_func.specs.Sound.{number_of}
use Rattle.pass_trait.specs.Rule.{item}
use Rattle.pass_salvage.proofs.Edits.{Edits}

module _ (k : ℕ) where
  -- the item has another number than k, or none
  abbrev pub IsUnlike : ItemKind → Type 0
  IsUnlike kind = (m : ℕ) → number_of kind ≡ Some m → k ≡ m → ⊥

  -- an item with another number or none is unchanged, and code with number k loses it
  pub data DropPair : Item → Item → Type 0 where
    elsewhere : {x : Item} → IsUnlike x.kind → DropPair x x
    drops : {i : Instruction} {p : Origin} {l : Loc} → DropPair (item (Code i (Some k)) p l) (item (Code i None) p l)

  -- and undef DBG_PHIs with number k may be added
  pub data DropPut : Item → Type 0 where
    puts : {p : Origin} {l : Loc} → DropPut (item (Phi None k) p l)

  abbrev pub drop_edits : Edits
  drop_edits = record {
    Stage = Unit {0};
    entry = λ n. tt;
    IsOver = λ a. Unit {0};
    Pair = λ a b x y. DropPair x y;
    Out = λ a b x. ⊥;
    Put = λ a b y. DropPut y;
  }
