-- The debug rule of a round of dead code elimination, over the function before the round and the one after it.
use Rattle.std.specs.Prelude.{◌≡◌, ℕ, List, [], ◌∷◌, ◌++◌, Some, None, Bool, true, slice_get}
use Rattle.rv64_instr.specs.declared.place.Place.{Place}
use Rattle.rv64_instr.specs.declared.place.Place.TheVariants.{Register}
use Rattle.rv64_instr.specs.Instruction.{Instruction}
use Rattle.rv64_instr.specs.Row.{row_of}
use Rattle.mir_func.specs.declared.position.Pos.{Pos}
use Rattle.mir_func.specs.declared.position.Origin.{Origin}
use Rattle.mir_func.specs.declared.location.Loc.{Loc}
use Rattle.mir_func.specs.declared.variable.MarkValue.TheVariants.{At}
use Rattle.mir_func.specs.declared.variable.VarId.{VarId}
use Rattle.mir_func.specs.declared.item.Item.{Item}
use Rattle.mir_func.specs.declared.item.ItemKind.{ItemKind}
use Rattle.mir_func.specs.declared.item.ItemKind.TheVariants.{Code, Mark, Phi}
use Rattle.mir_func.specs.Graph.{below}
use Rattle.pass_trait.specs.declared.loss.Reason.TheVariants.{Removed, WrongPlace}
use Rattle.pass_trait.specs.declared.loss.Loss.{Loss}
use Rattle.pass_trait.specs.Change.{Change}
use Rattle.pass_trait.specs.Rule.{Rule, IsCopy, StandsAt, number_lost, mark_lost, item}
use Rattle.dce_round.specs.dce_rule.Wrong.{is_dead_at, IsWrongAt}
use Rattle.dce_round.specs.dce_analysis.Judge.{AreJudged}
use Rattle.dce_round.specs.dce_salvage_proof.SalvageLaws.{all_off}
use Rattle.dce_proof.specs.SalvageLedger.{Line, ledger}

-- which items of the old function are dead, and the ledger's line of the item at a position
pub record HasLine (c : Change) (at : Pos) (l : Line) : Type 0 where
  pub dead : List (List Bool)
  pub judged : AreJudged c.old dead
  pub stands : slice_get (ledger c.old c.old_subs dead at.block) at.item ≡ Some l

-- what is lost of an item at a position: the number of dead code that isn't a copy; a debug value or DBG_PHI of a wrong place; and the
-- number of a copy that goes to a DBG_PHI, if the copied register is wrong right after the copy
pub data Loses (c : Change) (at : Pos) : ItemKind → Origin → Loss → Type 0 where
  number : {i : Instruction} {k : ℕ} {o : Origin} (dead : List (List Bool)) (judged : AreJudged c.old dead) → is_dead_at judged.ends c.old at ≡ true →
      (IsCopy (row_of i) → ⊥) → Loses c at (Code i (Some k)) o (number_lost k Removed)
  copy : {i : Instruction} {k s : ℕ} {o : Origin} (l : Line) (has : HasLine c at l) → l.phi ≡ Some s →
      IsWrongAt has.judged.ends c.old (Register s) (below at) → Loses c at (Code i (Some k)) o (number_lost k WrongPlace)
  mark : {v : VarId} {r : ℕ} {o : Origin} (dead : List (List Bool)) (judged : AreJudged c.old dead) →
      IsWrongAt judged.ends c.old (Register r) at → Loses c at (Mark v (At r)) o (mark_lost o WrongPlace)
  phi : {x : Place} {k : ℕ} {o : Origin} (dead : List (List Bool)) (judged : AreJudged c.old dead) →
      IsWrongAt judged.ends c.old x at → Loses c at (Phi (Some x) k) o (number_lost k WrongPlace)

-- the item at this position is code without a number, and has this number once all dead copies have lost theirs
abbrev pub IsNumbered : Change → (at : Pos) → ℕ → Type 0
IsNumbered c at k = (l : Line) × HasLine c at l × (i : Instruction) × (o : Origin) × (d : Loc) × StandsAt c.old at (item (Code i None) o d) ×
    (l.now ≡ item (Code i (Some k)) o d ∷ [])

-- the debug rule of a round
abbrev pub dead_rule : Rule
dead_rule = record {
  loses = λ c at loss. (x : Item) × StandsAt c.old at x × Loses c at x.kind x.origin loss;
  leaves = λ c r why. ⊥;
  spills = λ c r slot. ⊥;
  renames = λ c r now. ⊥;
  numbers = IsNumbered;
  salvages = λ c at p. (l : Line) × HasLine c at l × (s : ℕ) × (l.phi ≡ Some s) × (p ≡ Register s);
  substitutes = λ c more. (dead : List (List Bool)) × AreJudged c.old dead × ((all_off c.old c.old_subs dead).subs ≡ c.old_subs ++ more);
  kills = λ c block kills. kills ≡ [];
}
