-- The passes of the compiler, and the guarantees of a list of them.
use Rattle.std.specs.Prelude.{ℕ, ◌+◌, ◌*◌, ◌≤◌, List, [], ◌∷◌, ◌++◌, Bool, true, false, ◌&&◌, ◌||◌, IsTrue}
use Rattle.mir_func.specs.Limits.{MAX_SLOTS}
use Rattle.pass_trait.specs.Change.{Change}
use Rattle.pass_trait.specs.Sizes.{greatest, greatest_number, item_count, code_count, call_count, IsPhysical, most}
use Rattle.pass_trait.specs.Steps.{PassStep}
use Rattle.copyprop_pass.specs.copyprop_proof.Rule.{copy_step}
use Rattle.dce_pass.specs.Steps.{dead_steps}
use Rattle.fold_pass.specs.fold_proof.Debug.{fold_step}
use Rattle.pass_list.specs.declared.kind.PassKind.{PassKind}
use Rattle.pass_list.specs.declared.kind.PassKind.TheVariants.{Copy, Remat, Spill, Dead, Fold}
use Rattle.remat_pass.specs.Pass.{remat_step}
use Rattle.spill_pass.specs.Reserve.{reserve_of}
use Rattle.spill_pass.specs.spill_proof.Step.{spill_step}

-- ---- one pass: one line for each

-- its steps; the reserve has the registers that may be spilled
abbrev pub steps_of_pass : (reserve : List ℕ) → PassKind → List PassStep
steps_of_pass reserve Copy = copy_step ∷ []
steps_of_pass reserve Remat = remat_step ∷ []
steps_of_pass reserve Spill = spill_step (reserve_of reserve) ∷ []
steps_of_pass reserve Dead = dead_steps
steps_of_pass reserve Fold = fold_step ∷ []

-- whether it requires matched block ends
abbrev pub asks : PassKind → Bool
asks Copy = false
asks Remat = false
asks Spill = false
asks Dead = false
asks Fold = true

-- whether it keeps matched block ends
abbrev pub keeps : PassKind → Bool
keeps Copy = true
keeps Remat = true
keeps Spill = true
keeps Dead = true
keeps Fold = false

-- its factor in the size bounds
abbrev pub factor : PassKind → ℕ
factor Copy = 1
factor Remat = 1
factor Spill = 4
factor Dead = 1
factor Fold = 1

-- its count in the size bounds: items more for each block, numbers for each item, and multiples of `MAX_SLOTS` for slots
abbrev pub count : PassKind → ℕ
count Copy = 1
count Remat = 1
count Spill = 1
count Dead = 1
count Fold = 1

-- ---- a list of passes

-- the steps of each pass
abbrev pub passes_of : (reserve : List ℕ) → List PassKind → List (List PassStep)
passes_of reserve [] = []
passes_of reserve (p ∷ ps) = steps_of_pass reserve p ∷ passes_of reserve ps

-- all these steps, in order
abbrev pub joined : List (List PassStep) → List PassStep
joined [] = []
joined (steps ∷ passes) = steps ++ joined passes

-- whether some pass requires matched block ends
abbrev pub any_asks : List PassKind → Bool
any_asks [] = false
any_asks (p ∷ ps) = asks p || any_asks ps

-- whether all passes keep matched block ends
abbrev pub all_keep : List PassKind → Bool
all_keep [] = true
all_keep (p ∷ ps) = keeps p && all_keep ps

-- the list fits: each pass keeps matched block ends if a later one requires them
abbrev pub Fit : List PassKind → Type 0
Fit [] = Unit {0}
Fit (p ∷ ps) = (IsTrue (any_asks ps) → IsTrue (keeps p)) × Fit ps

-- the bound on items after the passes
abbrev pub most_after : List PassKind → (items : ℕ) → ℕ
most_after [] n = n
most_after (p ∷ ps) n = most_after ps (most (factor p) (count p) n)

-- the bound on the debug instruction numbers that the passes may use above the greatest one, for a function with this many items
abbrev pub numbers_after : List PassKind → (items : ℕ) → ℕ
numbers_after [] n = 0
numbers_after (p ∷ ps) n = count p * most (factor p) (count p) n + numbers_after ps (most (factor p) (count p) n)

-- the bound on new slot numbers, in multiples of `MAX_SLOTS`
abbrev pub slots_after : List PassKind → ℕ
slots_after [] = 0
slots_after (p ∷ ps) = count p + slots_after ps

-- the size bounds of a list of passes
pub record KeepsGrowth (passes : List PassKind) (c : Change) : Type 0 where
  pub items : item_count c.new ≤ most_after passes (item_count c.old)
  pub code : code_count c.new ≤ most_after passes (code_count c.old)
  pub calls : call_count c.new ≤ call_count c.old
  pub physical : IsPhysical c.old → IsPhysical c.new
  pub numbers : greatest_number c.new c.new_subs ≤ greatest_number c.old c.old_subs + numbers_after passes (item_count c.old)
  pub slots : greatest c.new.slots ≤ greatest c.old.slots + MAX_SLOTS * slots_after passes
