-- The values in location lists are known to the source.
use Rattle.std.specs.Prelude.{◌≡◌, ℕ, ◌≤◌, List, length, Option, Some, None, false, slice_get, All, Contains}
use Rattle.std.specs.List.{AllPairs}
use Rattle.rv64_instr.specs.declared.place.Place.{Place}
use Rattle.mir_func.specs.declared.debug_substitution.OperandPair.{OperandPair}
use Rattle.mir_func.specs.declared.variable.VarId.{VarId}
use Rattle.mir_func.specs.Function.{Function}
use Rattle.mir_func.specs.declared.item.ItemKind.{ItemKind}
use Rattle.mir_func.specs.declared.item.ItemKind.TheVariants.{Code, Mark, Phi}
use Rattle.mir_func.specs.Sound.{AllItems}
use Rattle.mir_func.specs.Variables.{is_same_variable}
use Rattle.dwarf_loclists.specs.declared.range.Location.{Location}
use Rattle.dwarf_loclists.specs.declared.range.Location.TheVariants.{Whole, Parts}
use Rattle.dwarf_loclists.specs.declared.range.Range.{Range}
use Rattle.dwarf_loclists.specs.Ranges.{ArePlaces, location_in}
use Rattle.location_of_variable.specs.Groups.{part_of}
use Rattle.location_of_variable.specs.VariableLocation.{bytes_of}
use Rattle.sem_machine.specs.Headline.{Headline}
use Rattle.sem_machine.specs.Image.{Image}
use Rattle.emit_code.specs.Laid.{LaidCode}
use Rattle.selftest_count.specs.sim_machine.Shown.{ShowsCode}
use Rattle.selftest_count.specs.declared.counts.Counts.{Counts}
use Rattle.selftest_count.specs.Runs.{AreCountsOf}

-- each place in a location of a variable is related to its part of the variable by `gives`
abbrev pub IsGiven : (gives : VarId → (address : ℕ) → Place → Type 0) → VarId → (address : ℕ) → Location → Type 0
IsGiven gives v a (Whole p) = gives (part_of v None) a p
IsGiven gives v a (Parts pieces) = All (λ x. gives (part_of v (Some (bytes_of x))) a x.place) pieces

-- if the item is a debug value, its part of a variable is one of these
abbrev pub MarksPartOf : List VarId → ItemKind → Type 0
MarksPartOf parts (Mark v m) = Contains parts v
MarksPartOf parts (Code i k) = Unit {0}
MarksPartOf parts (Phi p k) = Unit {0}

-- There is a list for each variable, no two variables are the same, each place in the lists is related by `gives`, and the source's debug values are
-- for the given parts.
pub record AreGiven (gives : VarId → (address : ℕ) → Place → Type 0) (source : Function) (variables parts : List VarId) (lists : List (List Range)) :
    Type 0 where
  pub for_all : length lists ≡ length variables
  pub apart : AllPairs (λ v w. is_same_variable v w ≡ false) variables
  pub places : All ArePlaces lists
  pub each : (k : ℕ) (v : VarId) (ranges : List Range) (a : ℕ) (l : Location) → slice_get variables k ≡ Some v → slice_get lists k ≡ Some ranges →
      location_in ranges a ≡ Some l → IsGiven gives v a l
  pub marked : AllItems (λ i. MarksPartOf parts i.kind) source.blocks

-- If the headline holds of an image of the code, for a relation `gives` that covers all places of the lists, a run from the start reads no more
-- values than are known.
abbrev pub ReadsAreKnown : (gives : VarId → (address : ℕ) → Place → Type 0) → Type 0
ReadsAreKnown gives = (source : Function) (resolve : OperandPair → Option OperandPair) (image : Image) (c : LaidCode) (lists : List (List Range))
    (variables parts : List VarId) (limit : ℕ) (n : Counts) →
    Headline source resolve image gives → ShowsCode c image → AreGiven gives source variables parts lists → AreCountsOf source resolve c lists parts limit n →
    n.reads ≤ n.known
