-- The code stays the same where copies lose their numbers.
use Rattle.std.proofs.Common.{◌≡◌, ℕ, zero, suc, List, [], ◌∷◌, ◌++◌, take, drop, length, get_or, Option, Some, None, Bool, true, false, slice_get}
use Rattle.std.proofs.Common.{refl, sym, ap, ◌∙◌, subst}
use Rattle.std.specs.List.{cons_option}
use Rattle.std.proofs.lemmas.List.{take-append-drop}
use Rattle.std.proofs.lemmas.List.Elements.{filter_map-append}
use Rattle.rv64_instr.specs.Instruction.{Instruction}
use Rattle.mir_func.specs.declared.block.Block.{Block}
use Rattle.mir_func.specs.declared.debug_substitution.DebugSubstitution.{DebugSubstitution}
use Rattle.mir_func.specs.declared.position.Origin.{Origin}
use Rattle.mir_func.specs.declared.location.Loc.{Loc}
use Rattle.mir_func.specs.declared.item.Item.{Item}
use Rattle.mir_func.specs.declared.item.ItemKind.{ItemKind}
use Rattle.mir_func.specs.declared.item.ItemKind.TheVariants.{Code, Mark, Phi}
use Rattle.mir_func.specs.Function.{Function}
use Rattle.mir_func.specs.Strip.{bare, stripped_item, stripped_items, stripped_blocks, stripped}
use Rattle.pass_trait.specs.Rule.{item}
use Rattle.pass_salvage.specs.declared.salvage_action.SalvageAction.{SalvageAction}
use Rattle.pass_salvage.specs.declared.salvage_action.SalvageAction.TheVariants.{HasEntry, GetsEntry, GetsPhi}
use Rattle.pass_salvage.specs.SalvageAction.{salvage_action}
use Rattle.pass_salvage.specs.Salvage.{with_number, numbered_at, above_after}
use Rattle.dce_rule.specs.Same.{SameItems, none, both, first, second, SameBlocks, no_blocks, one_more}
use Rattle.dce_salvage.specs.declared.salvage_numbers.Copied.{Copied}
use Rattle.dce_salvage.specs.SalvageNumbers.{without_number, numbered_copy, phi_by_own, salvaged_from, salvaged_items}
use Rattle.dce_salvage.specs.SalvageNumbers.{SoFar, salvage_copy, copy_in, salvage_at, salvage_down}
use Rattle.pass_salvage.specs.SalvageAction.{going_from}
use Rattle.dce_salvage.specs.SalvageBlocks.{BlocksSoFar, in_block, salvage_block, salvage_blocks}
use Rattle.dce_salvage_proof.specs.SalvageLaws.{begins_off, function_off}

-- ---- items with the same code

abbrev code_of : Item → List Item → List Item
code_of x xs = cons_option (stripped_item x) xs

same_of : (xs ys : List Item) → stripped_items xs ≡ stripped_items ys → SameItems xs ys
same_of [] [] e = none
same_of [] (y ∷ ys) e = by_kind y.kind y.origin y.loc e (same_of [] ys) where
  by_kind : (k : ItemKind) (o : Origin) (l : Loc) → [] ≡ cons_option (bare k o l) (stripped_items ys) → ([] ≡ stripped_items ys → SameItems [] ys) →
      SameItems [] (item k o l ∷ ys)
  by_kind (Code i n) o l e rec = cc
  by_kind (Mark v m) o l e rec = second (item (Mark v m) o l) refl (rec e)
  by_kind (Phi p n) o l e rec = second (item (Phi p n) o l) refl (rec e)
same_of (x ∷ xs) ys e = by_kind x.kind x.origin x.loc e (same_of xs) where
  with_code : (i : Instruction) (n : Option ℕ) (o : Origin) (l : Loc) → ((zs : List Item) → stripped_items xs ≡ stripped_items zs → SameItems xs zs) →
      (zs : List Item) → item (Code i None) o l ∷ stripped_items xs ≡ stripped_items zs → SameItems (item (Code i n) o l ∷ xs) zs
  with_code i n o l rec [] e = cc
  with_code i n o l rec (z ∷ zs) e = by_second z.kind z.origin z.loc e (with_code i n o l rec zs) where
    by_second : (k : ItemKind) (p : Origin) (q : Loc) → item (Code i None) o l ∷ stripped_items xs ≡ cons_option (bare k p q) (stripped_items zs) →
        (item (Code i None) o l ∷ stripped_items xs ≡ stripped_items zs → SameItems (item (Code i n) o l ∷ xs) zs) →
        SameItems (item (Code i n) o l ∷ xs) (item k p q ∷ zs)
    by_second (Code j m) p q e more =
        let head : item (Code i None) o l ≡ item (Code j None) p q = cc in
        let kind : Code i None ≡ Code j None = ap (λ (y : Item). y.kind) head in
        let code : i ≡ j = cc in
        let tail : stripped_items xs ≡ stripped_items zs = cc in
        both (item (Code i n) o l) (item (Code j m) p q) i n m refl (λ t. Code (sym code t) m) (rec zs tail)
    by_second (Mark v m) p q e more = second (item (Mark v m) p q) refl (more e)
    by_second (Phi r m) p q e more = second (item (Phi r m) p q) refl (more e)

  by_kind : (k : ItemKind) (o : Origin) (l : Loc) → cons_option (bare k o l) (stripped_items xs) ≡ stripped_items ys →
      ((zs : List Item) → stripped_items xs ≡ stripped_items zs → SameItems xs zs) → SameItems (item k o l ∷ xs) ys
  by_kind (Code i n) o l e rec = with_code i n o l rec ys e
  by_kind (Mark v m) o l e rec = first (item (Mark v m) o l) refl (rec ys e)
  by_kind (Phi p n) o l e rec = first (item (Phi p n) o l) refl (rec ys e)

-- ---- a copy loses its number

code_append : (xs ys : List Item) → stripped_items (xs ++ ys) ≡ stripped_items xs ++ stripped_items ys
code_append xs ys = filter_map-append stripped_item xs ys

bare_numbered : (n : ℕ) (k : ItemKind) (o : Origin) (l : Loc) → bare (with_number n k) o l ≡ bare k o l
bare_numbered n (Code i m) o l = refl
bare_numbered n (Mark v m) o l = refl
bare_numbered n (Phi p m) o l = refl

bare_without : (k : ItemKind) (o : Origin) (l : Loc) → bare (without_number k) o l ≡ bare k o l
bare_without (Code i m) o l = refl
bare_without (Mark v m) o l = refl
bare_without (Phi p m) o l = refl

code_numbered : (d n : ℕ) (xs : List Item) → stripped_items (numbered_at d n xs) ≡ stripped_items xs
code_numbered d n [] = refl
code_numbered zero n (x ∷ xs) = ap (λ (o : Option Item). cons_option o (stripped_items xs)) (bare_numbered n x.kind x.origin x.loc)
code_numbered (suc d) n (x ∷ xs) = ap (cons_option (stripped_item x)) (code_numbered d n xs)

code_above : (w : SalvageAction) (xs : List Item) → stripped_items (above_after w xs) ≡ stripped_items xs
code_above HasEntry xs = refl
code_above (GetsEntry d o n) xs = code_numbered d n xs
code_above GetsPhi xs = refl

code_first : (x : Item) (xs : List Item) → stripped_items (record x { kind = without_number x.kind } ∷ xs) ≡ stripped_items (x ∷ xs)
code_first x xs = ap (λ (o : Option Item). cons_option o (stripped_items xs)) (bare_without x.kind x.origin x.loc)

code_behind : (w : SalvageAction) (c : Copied) (xs : List Item) → stripped_items (salvaged_from w c xs) ≡ stripped_items xs
code_behind w c [] = refl
code_behind HasEntry c (x ∷ xs) = code_first x xs
code_behind (GetsEntry d o n) c (x ∷ xs) = code_first x xs
code_behind GetsPhi c (x ∷ xs) = by_own c.own where
  by_own : (own : Bool) → stripped_items (phi_by_own own c.number c.source x.origin ∷ record x { kind = without_number x.kind } ∷ xs) ≡ stripped_items (x ∷ xs)
  by_own true = code_first x xs
  by_own false = code_first x xs

code_off : (w : SalvageAction) (at : ℕ) (c : Copied) (xs : List Item) → stripped_items (salvaged_items w at c xs) ≡ stripped_items xs
code_off w at c xs =
    code_append (above_after w (take at xs)) (salvaged_from w c (drop at xs)) ∙ (λ j. code_above w (take at xs) j ++ code_behind w c (drop at xs) j) ∙
    sym (code_append (take at xs) (drop at xs)) ∙ ap (λ (ys : List Item). stripped_items ys) (take-append-drop at xs)

code_at : (removed : List ℕ) (at : ℕ) (goes : Bool) (a : SoFar) → stripped_items (salvage_at removed at goes a).items ≡ stripped_items a.items
code_at removed at false a = refl
code_at removed at true a = by_item (slice_get a.items at) where
  by_copy : (c : Option Copied) → stripped_items (salvage_copy removed at a c).items ≡ stripped_items a.items
  by_copy None = refl
  by_copy (Some c) = code_off (salvage_action removed a.subs a.fresh c.number c.source (take at a.items)) at c a.items

  by_item : (x : Option Item) → stripped_items (salvage_copy removed at a (copy_in x)).items ≡ stripped_items a.items
  by_item None = refl
  by_item (Some x) = by_copy (numbered_copy x.kind)

code_down : (removed : List ℕ) (dead : List Bool) (n : ℕ) (a : SoFar) → stripped_items (salvage_down removed dead n a).items ≡ stripped_items a.items
code_down removed dead zero a = refl
code_down removed dead (suc n) a =
    code_down removed dead n (salvage_at removed n (get_or dead n false) a) ∙ code_at removed n (get_or dead n false) a

pub blocks_same : (dead : List (List Bool)) (bs : List Block) (a : BlocksSoFar) → a.blocks ≡ [] → SameBlocks bs (salvage_blocks dead bs a).blocks
blocks_same dead [] a empty = subst (λ (cs : List Block). SameBlocks [] cs) (sym empty) no_blocks
blocks_same dead (b ∷ bs) a empty =
    let m : BlocksSoFar = salvage_blocks (drop 1 dead) bs a in
    let d : List Bool = get_or dead 0 [] in
    one_more b (record b { items = (salvage_block d b m).items }) refl
    (same_of b.items (salvage_block d b m).items (sym (code_down (going_from 0 d) d (length b.items) (in_block b m)))) (blocks_same (drop 1 dead) bs a empty)

blocks_stripped : (dead : List (List Bool)) (bs : List Block) (a : BlocksSoFar) → a.blocks ≡ [] →
    stripped_blocks (salvage_blocks dead bs a).blocks ≡ stripped_blocks bs
blocks_stripped dead [] a empty = ap stripped_blocks empty
blocks_stripped dead (b ∷ bs) a empty =
    let m : BlocksSoFar = salvage_blocks (drop 1 dead) bs a in
    let d : List Bool = get_or dead 0 [] in
    let here = code_down (going_from 0 d) d (length b.items) (in_block b m) in
    let rest = blocks_stripped (drop 1 dead) bs a empty in
    λ i. record { id = b.id; items = here i; source_end = b.source_end } ∷ rest i

-- the function without debug items is the same
pub off_stripped : (f : Function) (subs : List DebugSubstitution) (dead : List (List Bool)) → stripped (function_off f subs dead) ≡ stripped f
off_stripped f subs dead = let e = blocks_stripped dead f.blocks (begins_off f subs) refl in λ i. record (stripped f) { blocks = e i }
