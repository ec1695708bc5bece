-- Copies go from a function as from it without its debug items: what is known never hangs on a mark, a phi or a number.
use Rattle.std.proofs.Common.{◌≡◌, ℕ, zero, suc, List, [], ◌∷◌, ◌++◌, map, Option, Some, None, append-nil, cond, is_some, refl, sym, ap, ◌∙◌}
use Rattle.std.proofs.lemmas.List.{append_assoc, map-append}
use Rattle.std.proofs.lemmas.List.Elements.{filter_map-append}
use Rattle.rv64_instr.specs.Row.{row_of}
use Rattle.mir_func.specs.declared.block.Block.{Block}
use Rattle.mir_func.specs.declared.debug_substitution.DebugSubstitution.{DebugSubstitution}
use Rattle.mir_func.specs.declared.item.Item.{Item}
use Rattle.mir_func.specs.declared.item.ItemKind.{ItemKind}
use Rattle.mir_func.specs.declared.item.ItemKind.TheVariants.{Code, Mark, Phi}
use Rattle.mir_func.specs.declared.location.Loc.{Loc}
use Rattle.mir_func.specs.declared.position.Origin.{Origin}
use Rattle.mir_func.specs.Function.{Function}
use Rattle.mir_func.specs.Strip.{stripped_item, stripped_items, stripped_block, stripped_blocks, stripped}
use Rattle.pass_trait.specs.Rule.{item}
use Rattle.copyprop_block.specs.pass_salvage.declared.salvage_action.SalvageAction.{SalvageAction}
use Rattle.copyprop_block.specs.pass_salvage.declared.salvage_action.SalvageAction.TheVariants.{HasEntry, GetsEntry, GetsPhi}
use Rattle.copyprop_block.specs.pass_salvage.SalvageAction.{salvage_action}
use Rattle.copyprop_block.specs.pass_salvage.Salvage.{numbered_at, above_after, put_for}
use Rattle.copyprop_block.specs.Roots.{renamed, known_source, roots_after}
use Rattle.copyprop_block.specs.Copied.{SoFar, goes_by, by_fate, next_item, over_items, at_block, BlocksSoFar, next_block, over_blocks}
use Rattle.copyprop_rule.specs.Rule.{copied_items, copied_block, copied, begins, salvaged_function}

two_stripped : (xs ys : List Item) → stripped_items (xs ++ ys) ≡ stripped_items xs ++ stripped_items ys
two_stripped xs ys = filter_map-append stripped_item xs ys

-- a number more shows in no code
numbered_kind : (d n : ℕ) (k : ItemKind) (o : Origin) (l : Loc) (xs : List Item) →
    stripped_items (numbered_at zero n (item k o l ∷ xs)) ≡ stripped_items (item k o l ∷ xs)
numbered_kind d n (Code i m) o l xs = refl
numbered_kind d n (Mark v m) o l xs = refl
numbered_kind d n (Phi p m) o l xs = refl

first_stripped : (k : ItemKind) (o : Origin) (l : Loc) (xs ys : List Item) → stripped_items xs ≡ stripped_items ys →
    stripped_items (item k o l ∷ xs) ≡ stripped_items (item k o l ∷ ys)
first_stripped (Code i m) o l xs ys h = ap (λ (zs : List Item). item (Code i None) o l ∷ zs) h
first_stripped (Mark v m) o l xs ys h = h
first_stripped (Phi p m) o l xs ys h = h

numbered_stripped : (d n : ℕ) (xs : List Item) → stripped_items (numbered_at d n xs) ≡ stripped_items xs
numbered_stripped d n [] = refl
numbered_stripped zero n (x ∷ xs) = numbered_kind zero n x.kind x.origin x.loc xs
numbered_stripped (suc d) n (x ∷ xs) = first_stripped x.kind x.origin x.loc (numbered_at d n xs) xs (numbered_stripped d n xs)

above_stripped : (w : SalvageAction) (xs : List Item) → stripped_items (above_after w xs) ≡ stripped_items xs
above_stripped HasEntry xs = refl
above_stripped (GetsEntry d o n) xs = numbered_stripped d n xs
above_stripped GetsPhi xs = refl

-- nor does what is put
put_stripped : (w : SalvageAction) (k s : ℕ) (o : Origin) (xs : List Item) → stripped_items (above_after w xs ++ put_for w k s o) ≡ stripped_items xs
put_stripped w k s o xs = two_stripped (above_after w xs) (put_for w k s o) ∙ (λ i. above_stripped w xs i ++ none w i) ∙ append-nil (stripped_items xs) where
  none : (w : SalvageAction) → stripped_items (put_for w k s o) ≡ []
  none HasEntry = refl
  none (GetsEntry d p n) = refl
  none GetsPhi = refl

-- one item more
one_stripped : (a : SoFar) (k : ItemKind) (o : Origin) (l : Loc) (xs : List Item) →
    stripped_items (next_item a (item k o l)).done ++ copied_items (next_item a (item k o l)).roots (stripped_items xs) ≡
    stripped_items a.done ++ copied_items a.roots (stripped_items (item k o l ∷ xs))
one_stripped a (Mark v m) o l xs =
    ap (λ (ys : List Item). ys ++ copied_items a.roots (stripped_items xs))
    (two_stripped a.done (item (Mark v m) o l ∷ []) ∙ append-nil (stripped_items a.done))
one_stripped a (Phi p m) o l xs =
    ap (λ (ys : List Item). ys ++ copied_items a.roots (stripped_items xs)) (two_stripped a.done (item (Phi p m) o l ∷ []) ∙ append-nil (stripped_items a.done))
one_stripped a (Code i n) o l xs = by_source (known_source a.roots (row_of (renamed a.roots i))) where
  by_number : (n : Option ℕ) (s : ℕ) →
      stripped_items (by_fate a (item (Code (renamed a.roots i) n) o l) (goes_by n (Some s))).done ++
      copied_items (by_fate a (item (Code (renamed a.roots i) n) o l) (goes_by n (Some s))).roots (stripped_items xs) ≡
      stripped_items a.done ++ copied_items a.roots (stripped_items xs)
  by_number None s = refl
  by_number (Some k) s =
      ap (λ (ys : List Item). ys ++ copied_items a.roots (stripped_items xs)) (put_stripped (salvage_action [] a.subs a.fresh k s a.done) k s o a.done)

  by_source : (s : Option ℕ) →
      stripped_items (by_fate a (item (Code (renamed a.roots i) n) o l) (goes_by n s)).done ++
      copied_items (by_fate a (item (Code (renamed a.roots i) n) o l) (goes_by n s)).roots (stripped_items xs) ≡
      stripped_items a.done ++ cond (is_some s) (copied_items a.roots (stripped_items xs))
      (item (Code (renamed a.roots i) None) o l ∷ copied_items (roots_after (row_of (renamed a.roots i)) a.roots) (stripped_items xs))
  by_source None =
      let more : List Item = copied_items (roots_after (row_of (renamed a.roots i)) a.roots) (stripped_items xs) in
      ap (λ (ys : List Item). ys ++ more) (two_stripped a.done (item (Code (renamed a.roots i) n) o l ∷ [])) ∙
      append_assoc (stripped_items a.done) (item (Code (renamed a.roots i) None) o l ∷ []) more
  by_source (Some s) = by_number n s

items_stripped : (xs : List Item) (a : SoFar) → stripped_items (over_items a xs).done ≡ stripped_items a.done ++ copied_items a.roots (stripped_items xs)
items_stripped [] a = sym (append-nil (stripped_items a.done))
items_stripped (x ∷ xs) a = items_stripped xs (next_item a x) ∙ one_stripped a x.kind x.origin x.loc xs

blocks_append : (xs ys : List Block) → stripped_blocks (xs ++ ys) ≡ stripped_blocks xs ++ stripped_blocks ys
blocks_append xs ys = map-append stripped_block xs ys

blocks_stripped : (bs : List Block) (a : BlocksSoFar) →
    stripped_blocks (over_blocks a bs).blocks ≡ stripped_blocks a.blocks ++ map copied_block (stripped_blocks bs)
blocks_stripped [] a = sym (append-nil (stripped_blocks a.blocks))
blocks_stripped (b ∷ bs) a =
    let more : List Block = map copied_block (stripped_blocks bs) in
    let items = items_stripped b.items (at_block a.subs a.fresh) in
    let one : stripped_blocks (next_block a b).blocks ≡ stripped_blocks a.blocks ++ copied_block (stripped_block b) ∷ [] =
    blocks_append a.blocks (record { id = b.id; items = (over_items (at_block a.subs a.fresh) b.items).done; source_end = b.source_end } ∷ []) ∙
    ap (λ (ys : List Item). stripped_blocks a.blocks ++ record { id = b.id; items = ys; source_end = b.source_end } ∷ []) items in
    blocks_stripped bs (next_block a b) ∙ ap (λ (ys : List Block). ys ++ more) one ∙
    append_assoc (stripped_blocks a.blocks) (copied_block (stripped_block b) ∷ []) more

pub code_is_copied : (f : Function) (subs : List DebugSubstitution) → stripped (salvaged_function f subs) ≡ copied (stripped f)
code_is_copied f subs =
    let e = blocks_stripped f.blocks (begins f subs) in λ i. record { name = f.name; slots = f.slots; objects = f.objects; blocks = e i }
