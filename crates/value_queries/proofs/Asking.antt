-- What was looked up where the walk stands are the places that are wanted at the position that was asked for.
use Rattle.std.proofs.Common.{◌≡◌, ℕ, List, length, subst}
use Rattle.std.specs.Prelude.{Option}
use Rattle.rv64_instr.specs.declared.place.Place.{Place}
use Rattle.mir_func.specs.declared.block.Block.{Block}
use Rattle.mir_func.specs.declared.position.Pos.{Pos}
use Rattle.mir_func.specs.Graph.{block_start}
use Rattle.mir_func.specs.Successors.{pos_in}
use Rattle.value_tracker.specs.declared.index.TrackedIndex.{TrackedIndex}
use Rattle.location_of_variable.specs.VariableLocation.{AreWantedPlaces}
use Rattle.location_ranges.specs.declared.transfer_tracker.TransferTracker.{TransferTracker}
use Rattle.location_ranges.specs.declared.values.Values.{Values}
use Rattle.location_ranges.specs.Stands.{program, AreValuesOf, Stands}
use Rattle.location_ranges.specs.steps.Places.{ArePlacesAt}
use Rattle.location_ranges.proofs.Looking.{places_wanted}

at_position : (s : TransferTracker) (b i : ℕ) → s.block ≡ b → s.item ≡ i → pos_in s.block s.item ≡ pos_in b i
at_position s b i eb ei = λ k. pos_in (eb k) (ei k)

pub wanted_at : (blocks : List Block) (v : Values) (index : TrackedIndex) (s : TransferTracker) (found : List (Option Place)) (b i : ℕ) → AreValuesOf blocks v →
    Stands blocks v index s → length found ≡ length v.variables.now → ArePlacesAt s found → s.block ≡ b → s.item ≡ i →
    AreWantedPlaces (program blocks v.subs.now) (block_start 0) (pos_in b i) v.variables.now found
wanted_at blocks v index s found b i are stands count at eb ei =
    subst (λ (p : Pos). AreWantedPlaces (program blocks v.subs.now) (block_start 0) p v.variables.now found) (at_position s b i eb ei)
    (places_wanted blocks v index are s stands found count at)
