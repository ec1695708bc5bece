-- How much there is where copies have lost their numbers.
use Rattle.std.proofs.Common.{◌≡◌, ℕ, zero, suc, ◌+◌, ◌<◌, ◌≤◌, List, [], ◌∷◌, ◌++◌, map, length, take, drop, get_or, All}
use Rattle.std.proofs.Common.{Option, Some, None, Bool, true, false}
use Rattle.std.proofs.Common.{cond, slice_get, refl, sym, ap, subst, arith, length-append}
use Rattle.std.proofs.Math.Nat.{le_refl, le_trans}
use Rattle.std.proofs.lemmas.List.Elements.{All-cons, All-append, All-head, All-tail}
use Rattle.rv64_instr.specs.declared.operand.Operand.TheVariants.{Def, Use}
use Rattle.mir_func.specs.declared.block.Block.{Block}
use Rattle.mir_func.specs.declared.item.Item.{Item}
use Rattle.mir_func.specs.declared.item.ItemKind.{ItemKind}
use Rattle.mir_func.specs.declared.item.ItemKind.TheVariants.{Code, Mark, Phi}
use Rattle.mir_func.specs.Sound.{items_of, AllItems}
use Rattle.mir_func.specs.SoundFrame.{IsPhysical, HasPhysical}
use Rattle.pass_salvage.specs.declared.salvage_action.SalvageAction.{SalvageAction}
use Rattle.pass_salvage.specs.declared.salvage_action.SalvageAction.TheVariants.{HasEntry, GetsEntry, GetsPhi}
use Rattle.pass_salvage.specs.SalvageAction.{salvage_action}
use Rattle.pass_salvage.specs.Salvage.{with_number, numbered_at, above_after}
use Rattle.dce_round.proofs.pass_edits.Numbers.{all_first, all_second}
use Rattle.rv64_instr.proofs.Moves.{moves_by}
use Rattle.dce_salvage.specs.declared.salvage_numbers.Copied.{Copied}
use Rattle.dce_salvage.specs.SalvageNumbers.{without_number, numbered_copy, phi_by_own, added_by_salvage, salvaged_from}
use Rattle.dce_salvage.specs.SalvageNumbers.{salvaged_items, SoFar, salvage_copy, copy_in, salvage_at, salvage_down}
use Rattle.pass_salvage.specs.SalvageAction.{going_from}
use Rattle.dce_salvage.specs.SalvageBlocks.{BlocksSoFar, in_block, salvage_block, salvage_next, salvage_blocks}
use Rattle.dce_salvage.proofs.Down.{off_grows, fresh_least}
use Rattle.dce_round.specs.dce_rule.Dead.{Ends}
use Rattle.dce_round.specs.dce_analysis.Judge.{verdicts}
use Rattle.dce_round.proofs.dce_salvage_proof.Copy.{IsCopyOf, copy_of, split_at}
use Rattle.dce_proof.proofs.Counts.{below, below_all, dead_in}

-- ---- each fresh number and each phi is for a copy that goes

record Grows (a b : SoFar) (most : ℕ) : Type 0 where
  grows : length b.items + b.fresh ≤ length a.items + a.fresh + most
  least : a.fresh ≤ b.fresh

at_grows : (removed : List ℕ) (at : ℕ) (goes : Bool) (a : SoFar) → Grows a (salvage_at removed at goes a) (cond goes 1 0)
at_grows removed at false a = record { grows = omega arith; least = le_refl a.fresh }
at_grows removed at true a = by_item (slice_get a.items at) where
  by_copy : (c : Option Copied) → Grows a (salvage_copy removed at a c) 1
  by_copy None = record { grows = omega arith; least = le_refl a.fresh }
  by_copy (Some c) =
      let w : SalvageAction = salvage_action removed a.subs a.fresh c.number c.source (take at a.items) in
      record { grows = off_grows w at c a.items a.fresh; least = fresh_least w a.fresh }

  by_item : (x : Option Item) → Grows a (salvage_copy removed at a (copy_in x)) 1
  by_item None = record { grows = omega arith; least = le_refl a.fresh }
  by_item (Some x) = by_copy (numbered_copy x.kind)

down_grows : (removed : List ℕ) (dead : List Bool) (n : ℕ) (a : SoFar) → Grows a (salvage_down removed dead n a) (below dead n)
down_grows removed dead zero a = record { grows = omega arith; least = le_refl a.fresh }
down_grows removed dead (suc n) a =
    let b : SoFar = salvage_at removed n (get_or dead n false) a in
    let one = at_grows removed n (get_or dead n false) a in
    let more = down_grows removed dead n b in
    let x = one.grows in
    let y = more.grows in
    record { grows = omega (arith, x, y); least = le_trans one.least more.least }

pub record BlocksGrow (ends : Ends) (bs : List Block) (a b : BlocksSoFar) : Type 0 where
  pub grows : length (items_of b.blocks) + b.fresh ≤ length (items_of bs) + a.fresh + dead_in ends bs
  pub least : a.fresh ≤ b.fresh

abbrev pub verdicts_of : Ends → List Block → List (List Bool)
verdicts_of ends bs = map (λ (b : Block). verdicts b.items (ends b.id)) bs

drop_nothing : {A : Type 0} (xs : List A) → drop 0 xs ≡ xs
drop_nothing [] = refl
drop_nothing (x ∷ xs) = refl

pub blocks_grow : (ends : Ends) (bs : List Block) (a : BlocksSoFar) → a.blocks ≡ [] → BlocksGrow ends bs a (salvage_blocks (verdicts_of ends bs) bs a)
blocks_grow ends [] a none =
    let e : length (items_of a.blocks) ≡ 0 = ap (λ (cs : List Block). length (items_of cs)) none in
    record { grows = omega (arith, e); least = le_refl a.fresh }
blocks_grow ends (b ∷ bs) a none =
    subst (λ (ds : List (List Bool)). BlocksGrow ends (b ∷ bs) a (salvage_next (verdicts b.items (ends b.id)) b (salvage_blocks ds bs a)))
    (sym (drop_nothing (verdicts_of ends bs))) (made (blocks_grow ends bs a none)) where
      made : BlocksGrow ends bs a (salvage_blocks (verdicts_of ends bs) bs a) →
          BlocksGrow ends (b ∷ bs) a (salvage_next (verdicts b.items (ends b.id)) b (salvage_blocks (verdicts_of ends bs) bs a))
      made rest =
          let v : List Bool = verdicts b.items (ends b.id) in
          let n : BlocksSoFar = salvage_blocks (verdicts_of ends bs) bs a in
          let here = down_grows (going_from 0 v) v (length b.items) (in_block b n) in
          let x = rest.grows in
          let y = here.grows in
          let z = below_all b.items (ends b.id) in
          let e = length-append (salvage_block v b n).items (items_of n.blocks) in
          let f = length-append b.items (items_of bs) in
          record { grows = omega (arith, x, y, z, e, f); least = le_trans rest.least here.least }

-- ---- no virtual register comes in

abbrev P : Item → Type 0
P i = HasPhysical i.kind

numbered_kind : (n : ℕ) (k : ItemKind) → HasPhysical k → HasPhysical (with_number n k)
numbered_kind n (Code i m) h = h
numbered_kind n (Mark v m) h = h
numbered_kind n (Phi p m) h = h

bare_kind : (k : ItemKind) → HasPhysical k → HasPhysical (without_number k)
bare_kind (Code i m) h = h
bare_kind (Mark v m) h = h
bare_kind (Phi p m) h = h

numbered_physical : (d n : ℕ) (xs : List Item) → All P xs → All P (numbered_at d n xs)
numbered_physical d n [] h = h
numbered_physical zero n (x ∷ xs) h =
    All-cons P (record x { kind = with_number n x.kind }) xs (numbered_kind n x.kind (All-head P x xs h)) (All-tail P x xs h)
numbered_physical (suc d) n (x ∷ xs) h = All-cons P x (numbered_at d n xs) (All-head P x xs h) (numbered_physical d n xs (All-tail P x xs h))

above_physical : (w : SalvageAction) (xs : List Item) → All P xs → All P (above_after w xs)
above_physical HasEntry xs h = h
above_physical (GetsEntry d o n) xs h = numbered_physical d n xs h
above_physical GetsPhi xs h = h

source_physical : (k : ItemKind) (c : Copied) → IsCopyOf k c → HasPhysical k → c.source < 32
source_physical k c w h =
    let by = moves_by w.code (suc w.target) c.source w.row in
    let all : All IsPhysical w.code.operands = subst (λ (z : ItemKind). HasPhysical z) w.is h in
    let os : All IsPhysical (Def (suc w.target) ∷ Use c.source ∷ by.rest) = subst (All IsPhysical) by.operands all in
    All-head IsPhysical (Use c.source) by.rest (All-tail IsPhysical (Def (suc w.target)) (Use c.source ∷ by.rest) os)

put_physical : (w : SalvageAction) (c : Copied) (x : Item) (xs : List Item) → c.source < 32 → P x → All P xs →
    All P (added_by_salvage w c x.origin ++ record x { kind = without_number x.kind } ∷ xs)
put_physical HasEntry c x xs lt h hs = All-cons P (record x { kind = without_number x.kind }) xs (bare_kind x.kind h) hs
put_physical (GetsEntry d o n) c x xs lt h hs = All-cons P (record x { kind = without_number x.kind }) xs (bare_kind x.kind h) hs
put_physical GetsPhi c x xs lt h hs = by_own c.own where
  rest : All P (record x { kind = without_number x.kind } ∷ xs)
  rest = All-cons P (record x { kind = without_number x.kind }) xs (bare_kind x.kind h) hs

  by_own : (own : Bool) → All P (phi_by_own own c.number c.source x.origin ∷ record x { kind = without_number x.kind } ∷ xs)
  by_own true = All-cons P _ (record x { kind = without_number x.kind } ∷ xs) tt rest
  by_own false = All-cons P _ (record x { kind = without_number x.kind } ∷ xs) lt rest

off_physical : (w : SalvageAction) (at : ℕ) (c : Copied) (xs : List Item) (x : Item) → slice_get xs at ≡ Some x → numbered_copy x.kind ≡ Some c → All P xs →
    All P (salvaged_items w at c xs)
off_physical w at c xs x there is h =
    let s = split_at xs at x there in
    let all : All P (take at xs ++ x ∷ drop (suc at) xs) = subst (All P) s.whole h in
    let up = all_first P (take at xs) (x ∷ drop (suc at) xs) all in
    let rest = all_second P (take at xs) (x ∷ drop (suc at) xs) all in
    let here = All-head P x (drop (suc at) xs) rest in
    let lt = source_physical x.kind c (copy_of x.kind c is) here in
    All-append P (above_after w (take at xs)) (salvaged_from w c (drop at xs)) (above_physical w (take at xs) up)
    (subst (λ (ys : List Item). All P (salvaged_from w c ys)) (sym s.behind)
    (put_physical w c x (drop (suc at) xs) lt here (All-tail P x (drop (suc at) xs) rest)))

at_physical : (removed : List ℕ) (at : ℕ) (goes : Bool) (a : SoFar) → All P a.items → All P (salvage_at removed at goes a).items
at_physical removed at false a h = h
at_physical removed at true a h = by_item (slice_get a.items at) refl where
  by_copy : (x : Item) → slice_get a.items at ≡ Some x → (c : Option Copied) → numbered_copy x.kind ≡ c → All P (salvage_copy removed at a c).items
  by_copy x there None is = h
  by_copy x there (Some c) is = off_physical (salvage_action removed a.subs a.fresh c.number c.source (take at a.items)) at c a.items x there is h

  by_item : (x : Option Item) → slice_get a.items at ≡ x → All P (salvage_copy removed at a (copy_in x)).items
  by_item None there = h
  by_item (Some x) there = by_copy x there (numbered_copy x.kind) refl

down_physical : (removed : List ℕ) (dead : List Bool) (n : ℕ) (a : SoFar) → All P a.items → All P (salvage_down removed dead n a).items
down_physical removed dead zero a h = h
down_physical removed dead (suc n) a h =
    down_physical removed dead n (salvage_at removed n (get_or dead n false) a) (at_physical removed n (get_or dead n false) a h)

pub blocks_physical : (dead : List (List Bool)) (bs : List Block) (a : BlocksSoFar) → a.blocks ≡ [] → AllItems P bs →
    AllItems P (salvage_blocks dead bs a).blocks
blocks_physical dead [] a none h = subst (λ (cs : List Block). AllItems P cs) (sym none) h
blocks_physical dead (b ∷ bs) a none h =
    let d : List Bool = get_or dead 0 [] in
    let m : BlocksSoFar = salvage_blocks (drop 1 dead) bs a in
    All-cons (λ (c : Block). All P c.items) (record b { items = (salvage_block d b m).items }) m.blocks
    (down_physical (going_from 0 d) d (length b.items) (in_block b m) (All-head (λ (c : Block). All P c.items) b bs h))
    (blocks_physical (drop 1 dead) bs a none (All-tail (λ (c : Block). All P c.items) b bs h))
