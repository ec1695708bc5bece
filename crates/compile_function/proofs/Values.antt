-- What the solver knows is what the walk asks for: the same lists, behind slices.
use Rattle.std.proofs.Common.{◌≡◌, ℕ, List, length, subst, subst₂, sym}
use Rattle.std.specs.Prelude.{map, slice_get, Some}
use Rattle.mir_func.specs.declared.variable.VarId.{VarId}
use Rattle.mir_func.specs.Function.{FramedFunction}
use Rattle.mir_func.specs.Graph.{framed_program}
use Rattle.mir_func.specs.Resolve.{resolve}
use Rattle.value_live_ins.specs.value_solver.declared.tracked.Tracked.{Tracked}
use Rattle.value_live_ins.specs.value_solver.declared.entry.BlockEntry.{BlockEntry}
use Rattle.value_live_ins.specs.value_solver.Entry.{thing, IsEntry}
use Rattle.value_live_ins.specs.value_proof.PreferredByClass.{AreEnoughFor}
use Rattle.value_live_ins.specs.value_tracker.Things.{AreThings}
use Rattle.compile_passes.specs.location_ranges.declared.values.Values.{Values}
use Rattle.compile_passes.specs.location_ranges.Stands.{AreValuesOf}

pub are_values : (f g : FramedFunction) (v : Values) (parts : List VarId) (things : List Tracked) (entries : List BlockEntry) → f ≡ g →
    v.variables.now ≡ parts → v.things.now ≡ things → v.entries.now ≡ entries → AreThings parts things →
    AreEnoughFor (framed_program f.blocks (resolve v.subs.now)) (map thing things) →
    ((b : ℕ) (e : BlockEntry) → slice_get entries b ≡ Some e → IsEntry (framed_program f.blocks (resolve v.subs.now)) things b e) →
    length entries ≡ length f.blocks → AreValuesOf g.blocks v
are_values f g v parts things entries fg vp vt ve are of each all =
    subst (λ (h : FramedFunction). AreValuesOf h.blocks v) fg (record {
      things = subst₂ AreThings (sym vp) (sym vt) are;
      of = subst (λ (z : List Tracked). AreEnoughFor (framed_program f.blocks (resolve v.subs.now)) (map thing z)) (sym vt) of;
      entries = λ b e at.
          subst (λ (z : List Tracked). IsEntry (framed_program f.blocks (resolve v.subs.now)) z b e) (sym vt)
          (each b e (subst (λ (z : List BlockEntry). slice_get z b ≡ Some e) ve at));
      for_all = subst (λ (z : List BlockEntry). length z ≡ length f.blocks) (sym ve) all;
    })
