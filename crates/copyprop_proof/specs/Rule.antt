-- The debug rule of copy propagation: nothing is lost.
use Rattle.std.specs.Prelude.{◌≡◌, ℕ, [], ◌++◌, Some, slice_get}
use Rattle.rv64_instr.specs.declared.place.Place.TheVariants.{Register}
use Rattle.mir_func.specs.declared.position.Pos.{Pos}
use Rattle.pass_trait.specs.Change.{Change}
use Rattle.pass_trait.specs.Rule.{Rule}
use Rattle.pass_trait.specs.Steps.{PassStep}
use Rattle.copyprop_rule.specs.Rule.{IsCopied, salvaged_entries}
use Rattle.copyprop_proof.specs.Ledger.{Line, ledger}

-- the ledger's line of the item at a position
pub record HasLine (c : Change) (at : Pos) (l : Line) : Type 0 where
  pub stands : slice_get (ledger c.old c.old_subs at.block) at.item ≡ Some l

-- code gets a number if the ledger lists one, a DBG_PHI of the copied register replaces a copy if the ledger lists one, and the
-- substitutions are those of the copies whose number refers to other code now, in the order of the text
abbrev pub copy_debug_rule : Rule
copy_debug_rule = record {
  loses = λ c at loss. ⊥;
  leaves = λ c r why. ⊥;
  spills = λ c r slot. ⊥;
  renames = λ c r now. ⊥;
  numbers = λ c at k. (l : Line) × HasLine c at l × (l.gained ≡ Some k);
  salvages = λ c at p. (l : Line) × (s : ℕ) × HasLine c at l × (l.phi ≡ Some s) × (p ≡ Register s);
  substitutes = λ c more. c.old_subs ++ more ≡ salvaged_entries c.old c.old_subs;
  kills = λ c block kills. kills ≡ [];
}

-- the pass's one step
abbrev pub copy_step : PassStep
copy_step = record { code = IsCopied; debug = copy_debug_rule }
