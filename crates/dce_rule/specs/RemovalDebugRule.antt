-- The debug rule of removing dead code whose copies have no numbers any more.
use Rattle.std.specs.Prelude.{◌≡◌, ◌↔◌, List, [], Some, None, Contains, true}
use Rattle.rv64_instr.specs.declared.place.Place.{Place}
use Rattle.rv64_instr.specs.declared.place.Place.TheVariants.{Register}
use Rattle.rv64_instr.specs.Row.{row_of}
use Rattle.mir_func.specs.declared.position.Pos.{Pos}
use Rattle.mir_func.specs.declared.position.Origin.{Origin}
use Rattle.mir_func.specs.declared.variable.MarkValue.TheVariants.{Nothing, Constant, At, Pair}
use Rattle.mir_func.specs.declared.item.Item.{Item}
use Rattle.mir_func.specs.declared.item.ItemKind.{ItemKind}
use Rattle.mir_func.specs.declared.item.ItemKind.TheVariants.{Code, Mark, Phi}
use Rattle.mir_func.specs.Function.{Function}
use Rattle.pass_trait.specs.declared.loss.Reason.TheVariants.{Removed, WrongPlace}
use Rattle.pass_trait.specs.declared.loss.Loss.{Loss}
use Rattle.pass_trait.specs.Order.{IsInOrder}
use Rattle.pass_trait.specs.Rule.{Rule, IsCopy, StandsAt, number_lost, mark_lost}
use Rattle.dce_rule.specs.Dead.{Places, Ends}
use Rattle.dce_rule.specs.Wrong.{is_dead_at, IsWrongAt}

-- anything but a copy with a debug instruction number
abbrev pub IsNoNumberedCopy : ItemKind → Type 0
IsNoNumberedCopy (Code i (Some k)) = IsCopy (row_of i) → ⊥
IsNoNumberedCopy (Code i None) = Unit {0}
IsNoNumberedCopy (Mark v m) = Unit {0}
IsNoNumberedCopy (Phi p k) = Unit {0}

module _ (ends : Ends) (f : Function) where
  -- what is lost of an item at a position: the number of dead code, and a debug value or DBG_PHI of a wrong place
  abbrev pub LosesOf : (at : Pos) → ItemKind → Origin → Loss → Type 0
  LosesOf at (Code i (Some k)) o loss = (is_dead_at ends f at ≡ true) × (loss ≡ number_lost k Removed)
  LosesOf at (Code i None) o loss = ⊥
  LosesOf at (Mark v (At r)) o loss = IsWrongAt ends f (Register r) at × (loss ≡ mark_lost o WrongPlace)
  LosesOf at (Mark v Nothing) o loss = ⊥
  LosesOf at (Mark v (Constant n)) o loss = ⊥
  LosesOf at (Mark v (Pair q)) o loss = ⊥
  LosesOf at (Phi (Some x) k) o loss = IsWrongAt ends f x at × (loss ≡ number_lost k WrongPlace)
  LosesOf at (Phi None k) o loss = ⊥

  abbrev pub LosesAt : (at : Pos) → Loss → Type 0
  LosesAt at loss = (i : Item) × StandsAt f at i × LosesOf at i.kind i.origin loss

  -- no dead copy has a number
  abbrev pub NoCopies : Type 0
  NoCopies = (at : Pos) (i : Item) → StandsAt f at i → is_dead_at ends f at ≡ true → IsNoNumberedCopy i.kind

  -- the losses are exactly these, in order and without duplicates
  pub record AreLosses (losses : List Loss) : Type 0 where
    pub each : (l : Loss) → Contains losses l ↔ ((at : Pos) × LosesAt at l)
    pub ordered : IsInOrder losses

  -- the test has exactly the places that are wrong at each position
  abbrev pub AreWrong : (wrong : Pos → Places) → Type 0
  AreWrong wrong = (p : Pos) (x : Place) → (wrong p x ≡ true) ↔ IsWrongAt ends f x p

-- the debug rule of a round
abbrev pub out_rule : Ends → Rule
out_rule ends = record {
  loses = λ c at loss. LosesAt ends c.old at loss;
  leaves = λ c r why. ⊥;
  spills = λ c r slot. ⊥;
  renames = λ c r now. ⊥;
  numbers = λ c at k. ⊥;
  salvages = λ c at p. ⊥;
  substitutes = λ c more. more ≡ [];
  kills = λ c block kills. kills ≡ [];
}
