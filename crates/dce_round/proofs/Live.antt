-- What is live where is the same in functions of the same code.
use Rattle.std.proofs.Common.{◌≡◌, ℕ, suc, List, [], ◌∷◌, drop, length, Option, None, Bool, false, refl, ap, sym, ◌∙◌, subst}
use Rattle.rv64_instr.specs.declared.place.Place.{Place}
use Rattle.mir_func.specs.declared.block.Block.{Block}
use Rattle.mir_func.specs.declared.debug_substitution.OperandPair.{OperandPair}
use Rattle.mir_func.specs.declared.item.Item.{Item}
use Rattle.mir_func.specs.declared.position.Pos.{Pos}
use Rattle.mir_func.specs.Function.{Function}
use Rattle.mir_func.specs.Graph.{program_of, block_start, rest_in}
use Rattle.mir_func.specs.Sound.{ids_of}
use Rattle.sem_mir.specs.Live.{Live, used, later}
use Rattle.dce_sweep.specs.pass_liveness.Liveness.{LiveSets, AreLiveSets}
use Rattle.dce_salvage_proof.specs.dce_rule.Same.{SameItems, none, SameBlocks, no_blocks, one_more}
use Rattle.dce_salvage_proof.proofs.dce_rule.Same.{Beside, blocks_back, from_same, live_same}

-- whatever pairs resolve to, and whether or not marks see x2
either : (see see' : Bool) (to to' : OperandPair → Option OperandPair) (bs : List Block) (x : Place) {p : Pos} →
    Live (program_of see bs to) x p → Live (program_of see' bs to') x p
either see see' to to' bs x (used uses) = used uses
either see see' to to' bs x (later ne edge more) = later ne edge (either see see' to to' bs x more)

ids_same : {us vs : List Block} → SameBlocks us vs → ids_of vs ≡ ids_of us
ids_same no_blocks = refl
ids_same (one_more a b id items more) = let rest = ids_same more in λ i. sym id i ∷ rest i

long_same : {us vs : List Block} → SameBlocks us vs → length vs ≡ length us
long_same no_blocks = refl
long_same (one_more a b id items more) = ap suc (long_same more)

drop_zero : (xs : List Item) → drop 0 xs ≡ xs
drop_zero [] = refl
drop_zero (x ∷ xs) = refl

-- the same code stands from the starts of blocks of one number on
same_from : {us vs : List Block} → SameBlocks us vs → SameItems (rest_in us 0) (rest_in vs 0)
same_from no_blocks = none
same_from (one_more a b id items more) =
    subst (λ (xs : List Item). SameItems xs (drop 0 b.items)) (sym (drop_zero a.items)) (subst (SameItems a.items) (sym (drop_zero b.items)) items)

starts_beside : (f g : Function) (same : SameBlocks f.blocks g.blocks) (n : ℕ) → Beside f g same (block_start n) (block_start n)
starts_beside f g same n = record { block = refl; rests = same_from (from_same same n) }

goes_over : (f g : Function) → SameBlocks f.blocks g.blocks → (see : Bool) (to : OperandPair → Option OperandPair) (x : Place) (n : ℕ) →
    Live (program_of see f.blocks to) x (block_start n) → Live (program_of see g.blocks to) x (block_start n)
goes_over f g same see to x n l =
    let nothing : OperandPair → Option OperandPair = λ q. None in
    either false see nothing to g.blocks x
    (live_same f g same x (either see false to nothing f.blocks x l) (block_start n) (starts_beside f g same n))

pub still_live : (f g : Function) (l : LiveSets) → SameBlocks f.blocks g.blocks → g.slots ≡ f.slots → AreLiveSets f l → AreLiveSets g l
still_live f g l same slots sets = record {
  slots = sets.slots ∙ sym slots;
  blocks = sets.blocks ∙ sym (ids_same same);
  apart = sets.apart;
  long = sets.long ∙ sym (long_same same);
  starts = λ n x see to. (let s = sets.starts n x see to in (
    λ t. goes_over f g same see to x n (s.0 t),
    λ l. s.1 (goes_over g f (blocks_back same) see to x n l),
  ));
}
