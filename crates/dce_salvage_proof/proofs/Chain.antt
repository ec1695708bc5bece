-- All copies that go lose their numbers, block by block from the last to the first.
use Rattle.std.proofs.Common.{◌≡◌, ℕ, ◌+◌, ◌<◌, List, [], ◌∷◌, ◌++◌, drop, length, get_or, All, Bool, refl, sym, subst}
use Rattle.std.specs.List.{flat_map}
use Rattle.std.proofs.Math.Nat.{le_refl}
use Rattle.std.proofs.lemmas.List.{append_assoc}
use Rattle.std.proofs.lemmas.List.Elements.{All-append, All-cons, All-head, All-tail}
use Rattle.mir_func.specs.declared.debug_substitution.DebugSubstitution.{DebugSubstitution}
use Rattle.mir_func.specs.declared.block.Block.{Block}
use Rattle.mir_func.specs.declared.item.Item.{Item}
use Rattle.mir_func.specs.Function.{Function}
use Rattle.mir_func.specs.Sound.{items_of, IsSound}
use Rattle.pass_trait.specs.Change.{change}
use Rattle.pass_trait.specs.Sizes.{numbers_of, greatest_number}
use Rattle.pass_edits.specs.WeakSimulation.{PreservesWeakSimulation}
use Rattle.pass_edits.proofs.Numbers.{all_first, all_second}
use Rattle.pass_edits.proofs.Under.{KindUnder, BlocksUnder, EntryUnder, greatest_under, items_under, blocks_under, entries_under}
use Rattle.pass_edits.proofs.Loose.{then}
use Rattle.dce_salvage.specs.SalvageNumbers.{SoFar}
use Rattle.pass_salvage.specs.SalvageAction.{going_from}
use Rattle.dce_salvage.specs.SalvageBlocks.{BlocksSoFar, in_block, salvage_block, salvage_next, salvage_blocks}
use Rattle.dce_salvage_proof.specs.SalvageLaws.{begins_off, all_off, NumbersGoOff}
use Rattle.dce_salvage_proof.proofs.Copy.{all_down}
use Rattle.dce_salvage_proof.proofs.Same.{blocks_same, off_stripped}

module _ (f : Function) where
  abbrev of : List Block → Function
  of blocks = record f { blocks = blocks }

  -- what holds of all blocks before each step
  pub record BlocksReady (blocks : List Block) (subs : List DebugSubstitution) (fresh : ℕ) : Type 0 where
    pub sound : IsSound (record f { blocks = blocks })
    pub in_blocks : BlocksUnder fresh blocks
    pub in_entries : All (EntryUnder fresh) subs

  pub record BlocksWent (blocks : List Block) (subs : List DebugSubstitution) (blocks' : List Block) (subs' : List DebugSubstitution)
      (fresh' : ℕ) : Type 0 where
    pub ready : BlocksReady blocks' subs' fresh'
    pub follows : PreservesWeakSimulation (change (record f { blocks = blocks }) subs (record f { blocks = blocks' }) subs')

  abbrev B : ℕ → Block → Type 0
  B b c = All (λ (x : Item). KindUnder b x.kind) c.items

  -- one block
  one_block : (above : List Block) (b : Block) (dead : List Bool) (a : BlocksSoFar) → BlocksReady (above ++ b ∷ a.blocks) a.subs a.fresh →
      BlocksWent (above ++ b ∷ a.blocks) a.subs (above ++ (salvage_next dead b a).blocks) (salvage_next dead b a).subs (salvage_next dead b a).fresh
  one_block above b dead a r =
      let rest = all_second (B a.fresh) above (b ∷ a.blocks) r.in_blocks in
      let e : SoFar = salvage_block dead b a in
      let w = all_down f above b.id b.source_end a.blocks (going_from 0 dead) dead (length b.items)
      (in_block b a)
      (record {
        sound = r.sound;
        in_above = all_first (B a.fresh) above (b ∷ a.blocks) r.in_blocks;
        in_items = All-head (B a.fresh) b a.blocks rest;
        in_behind = All-tail (B a.fresh) b a.blocks rest;
        in_entries = r.in_entries;
      }) in
      record {
        ready = record {
          sound = w.ready.sound;
          in_blocks = All-append (B e.fresh) above (record b { items = e.items } ∷ a.blocks) w.ready.in_above
              (All-cons (B e.fresh) (record b { items = e.items }) a.blocks w.ready.in_items w.ready.in_behind);
          in_entries = w.ready.in_entries;
        };
        follows = w.follows;
      }

  all_blocks : (above bs : List Block) (dead : List (List Bool)) (a : BlocksSoFar) → a.blocks ≡ [] → BlocksReady (above ++ bs) a.subs a.fresh →
      BlocksWent (above ++ bs) a.subs (above ++ (salvage_blocks dead bs a).blocks) (salvage_blocks dead bs a).subs (salvage_blocks dead bs a).fresh
  all_blocks above [] dead a none r =
      subst (λ (cs : List Block). BlocksWent (above ++ []) a.subs (above ++ cs) a.subs a.fresh) (sym none)
      (record { ready = r; follows = record { follows = λ src h. h; ends = λ src h w. w } })
  all_blocks above (b ∷ bs) dead a none r =
      let up : List Block = above ++ b ∷ [] in
      let same : (cs : List Block) → up ++ cs ≡ above ++ b ∷ cs = λ cs. append_assoc above (b ∷ []) cs in
      let m : BlocksSoFar = salvage_blocks (drop 1 dead) bs a in
      let d : List Bool = get_or dead 0 [] in
      let deeper = all_blocks up bs (drop 1 dead) a none (subst (λ (cs : List Block). BlocksReady cs a.subs a.fresh) (sym (same bs)) r) in
      let first : BlocksWent (above ++ b ∷ bs) a.subs (above ++ b ∷ m.blocks) m.subs m.fresh =
      subst (λ (cs : List Block). BlocksWent cs a.subs (above ++ b ∷ m.blocks) m.subs m.fresh) (same bs)
      (subst (λ (cs : List Block). BlocksWent (up ++ bs) a.subs cs m.subs m.fresh) (same m.blocks) deeper) in
      let second = one_block above b d m first.ready in
      let n : BlocksSoFar = salvage_next d b m in
      record {
        ready = second.ready;
        follows = then (of (above ++ b ∷ bs)) (of (above ++ b ∷ m.blocks)) (of (above ++ n.blocks)) a.subs m.subs n.subs first.follows second.follows;
      }

-- all numbers are less than the next fresh one, and are so still where copies have lost theirs
pub all_went : (f : Function) (subs : List DebugSubstitution) (dead : List (List Bool)) → IsSound f →
    BlocksWent f f.blocks subs (all_off f subs dead).blocks (all_off f subs dead).subs (all_off f subs dead).fresh
all_went f subs dead sound =
    let m : ℕ = greatest_number f subs in
    let on_items : List ℕ = flat_map (λ (i : Item). numbers_of i.kind) (items_of f.blocks) in
    let in_subs : List ℕ = flat_map (λ (e : DebugSubstitution). e.src.number ∷ e.dst.number ∷ []) subs in
    let all : All (λ (n : ℕ). n < m + 1) (on_items ++ in_subs) = greatest_under m (on_items ++ in_subs) (le_refl m) in
    all_blocks f [] f.blocks dead (begins_off f subs) refl (record {
      sound = sound;
      in_blocks = blocks_under (m + 1) f.blocks (items_under (m + 1) (items_of f.blocks) (all_first (λ (n : ℕ). n < m + 1) on_items in_subs all));
      in_entries = entries_under (m + 1) subs (all_second (λ (n : ℕ). n < m + 1) on_items in_subs all);
    })

pub salvage_numbers : NumbersGoOff
salvage_numbers f subs dead sound =
    let w = all_went f subs dead sound in
    record {
      sound = w.ready.sound;
      same = blocks_same dead f.blocks (begins_off f subs) refl;
      stripped_is = off_stripped f subs dead;
      follows = w.follows;
    }
