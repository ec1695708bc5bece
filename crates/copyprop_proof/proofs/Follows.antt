-- What a function followed, it follows without its copies that are known.
use Rattle.std.proofs.Common.{ℕ, ◌+◌, ◌<◌, List, [], ◌∷◌, ◌++◌, All, true}
use Rattle.std.specs.List.{flat_map}
use Rattle.std.proofs.Math.Nat.{le_refl}
use Rattle.std.proofs.lemmas.List.Elements.{All-nil}
use Rattle.mir_func.specs.declared.debug_substitution.DebugSubstitution.{DebugSubstitution}
use Rattle.mir_func.specs.declared.block.Block.{Block}
use Rattle.mir_func.specs.declared.item.Item.{Item}
use Rattle.mir_func.specs.Function.{Function}
use Rattle.mir_func.specs.Graph.{Program, program_of}
use Rattle.mir_func.specs.Resolve.{resolve}
use Rattle.mir_func.specs.Sound.{items_of, IsSound}
use Rattle.pass_trait.specs.Change.{change}
use Rattle.pass_trait.specs.Sizes.{numbers_of, greatest_number}
use Rattle.pass_salvage.proofs.Edits.{no_blocks}
use Rattle.pass_edits.specs.WeakSimulation.{PreservesWeakSimulation}
use Rattle.pass_edits.proofs.Loose.{loosely, then, Step}
use Rattle.pass_edits.proofs.Numbers.{all_first, all_second}
use Rattle.copyprop_rule.specs.Rule.{begins, salvaged_function, salvaged_entries}
use Rattle.copyprop_proof.specs.Renamed.{renamed_function}
use Rattle.copyprop_proof.proofs.Renamed.{renaming_follows}
use Rattle.copyprop_proof.specs.RemovalLaws.{CopiesFollow}
use Rattle.pass_edits.proofs.Under.{KindUnder, greatest_under, items_under, blocks_under, entries_under}
use Rattle.copyprop_proof.proofs.Chain.{BlocksReady, over_function, renamed_blocks_under}
use Rattle.copyprop_proof.proofs.Stores.{blocks_laid, stores_meet}

-- where the copies begin to go
pub ready_at_start : (f : Function) (subs : List DebugSubstitution) → IsSound f → BlocksReady f (begins f subs) f.blocks
ready_at_start f subs sound =
    let m : ℕ = greatest_number f subs in
    let on_items : List ℕ = flat_map (λ (i : Item). numbers_of i.kind) (items_of f.blocks) in
    let in_subs : List ℕ = flat_map (λ (e : DebugSubstitution). e.src.number ∷ e.dst.number ∷ []) subs in
    let all : All (λ (n : ℕ). n < m + 1) (on_items ++ in_subs) = greatest_under m (on_items ++ in_subs) (le_refl m) in
    record {
      sound = (renaming_follows f subs sound).0;
      in_blocks = All-nil (λ (b : Block). All (λ (x : Item). KindUnder (m + 1) x.kind) b.items);
      in_rest = renamed_blocks_under (m + 1) f.blocks
          (blocks_under (m + 1) f.blocks (items_under (m + 1) (items_of f.blocks) (all_first (λ (n : ℕ). n < m + 1) on_items in_subs all)));
      in_entries = entries_under (m + 1) subs (all_second (λ (n : ℕ). n < m + 1) on_items in_subs all);
    }

pub copies_follow : CopiesFollow
copies_follow f subs sound =
    let new : Function = salvaged_function f subs in
    let more : List DebugSubstitution = salvaged_entries f subs in
    let renamed = renaming_follows f subs sound in
    let step : Step (renamed_function f) subs new more = over_function f f.blocks (begins f subs) (ready_at_start f subs sound) in
    let loose : PreservesWeakSimulation (change f subs new more) = then f (renamed_function f) new subs subs more renamed.1 step.follows in (
      step.sound,
      record {
        follows = λ src fol ends. (let g = loose.follows src (loosely f subs src fol) in
            let srcp : Program = program_of true src.function.blocks (resolve src.subs) in
            record {
              objects = g.objects;
              follows = record {
                shape = record {
                  among = g.shape.among;
                  first = g.shape.first;
                  back = g.shape.back;
                  order = g.shape.order;
                  items = g.shape.items;
                  volatile = g.shape.volatile;
                  stores = stores_meet f.blocks new.blocks sound.blocks_apart (resolve subs) (resolve more) srcp fol.follows.shape.items sound.origins
                      (blocks_laid f.blocks (begins f subs) [] no_blocks) fol.follows.shape.stores;
                  marks = g.shape.marks;
                };
                runs = g.runs;
              };
            });
        ends = λ keeps src fol whole. loose.ends src (loosely f subs src fol) whole;
      },
    )
