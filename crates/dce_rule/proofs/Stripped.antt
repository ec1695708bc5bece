-- Taking out dead code and stripping debug items come to the same in either order.
use Rattle.std.proofs.Common.{◌≡◌, ◌↔◌, ℕ, suc, List, [], ◌∷◌, map, None, Bool, true, false, cond, refl, sym, ap, ◌∙◌}
use Rattle.rv64_instr.specs.declared.place.Place.{Place}
use Rattle.mir_func.specs.declared.position.Pos.{Pos}
use Rattle.mir_func.specs.declared.position.Origin.{Origin}
use Rattle.mir_func.specs.declared.location.Loc.{Loc}
use Rattle.mir_func.specs.declared.block.Block.{Block}
use Rattle.mir_func.specs.declared.item.Item.{Item}
use Rattle.mir_func.specs.declared.item.ItemKind.{ItemKind}
use Rattle.mir_func.specs.declared.item.ItemKind.TheVariants.{Code, Mark, Phi}
use Rattle.mir_func.specs.Function.{Function}
use Rattle.mir_func.specs.Strip.{stripped, stripped_items, stripped_block, stripped_blocks}
use Rattle.mir_func.specs.Successors.{pos_in}
use Rattle.rv64_instr.specs.Row.{row_of}
use Rattle.dce_rule.specs.Dead.{Places, Ends, is_dead_code, is_dead, needed_before, needed_at, without_dead, thinned_block, thinned, LiveAtEnd, IsRound}
use Rattle.dce_rule.specs.Wrong.{silenced, silenced_left, taken_out}
use Rattle.dce_rule.specs.Same.{SameItems, none, both, first, SameBlocks, no_blocks, one_more}
use Rattle.dce_rule.proofs.Lists.{quiet_is, taken}
use Rattle.dce_rule.proofs.Same.{ends_same}

-- debug items need nothing
needed_stripped : (xs : List Item) (needed : Places) → needed_at (stripped_items xs) needed ≡ needed_at xs needed
needed_stripped [] needed = refl
needed_stripped (x ∷ xs) needed = by_kind x.kind x.origin x.loc (needed_stripped xs needed) where
  by_kind : (k : ItemKind) (o : Origin) (l : Loc) → needed_at (stripped_items xs) needed ≡ needed_at xs needed →
      needed_at (stripped_items (record { kind = k; origin = o; loc = l } ∷ xs)) needed ≡ needed_before k (needed_at xs needed)
  by_kind (Code i n) o l h = ap (needed_before (Code i n)) h
  by_kind (Mark v m) o l h = h
  by_kind (Phi p n) o l h = h

module _ (wrong : ℕ → Places) (needed : Places) where
  items_stripped : (n : ℕ) (xs : List Item) → stripped_items (silenced_left wrong n xs needed) ≡ without_dead (stripped_items xs) needed
  items_stripped n [] = refl
  items_stripped n (x ∷ xs) = by_kind x.kind x.origin x.loc (items_stripped (suc n) xs) where
    -- a mark or a phi is left out, silenced or not
    left_out : (k : ItemKind) (o : Origin) (l : Loc) → stripped_items (record { kind = k; origin = o; loc = l } ∷ silenced_left wrong (suc n) xs needed) ≡
        stripped_items (silenced_left wrong (suc n) xs needed) →
        stripped_items (record { kind = silenced (wrong n) k; origin = o; loc = l } ∷ silenced_left wrong (suc n) xs needed) ≡
        stripped_items (silenced_left wrong (suc n) xs needed)
    left_out k o l e = quiet_is (λ z. stripped_items (record { kind = z; origin = o; loc = l } ∷ silenced_left wrong (suc n) xs needed) ≡
        stripped_items (silenced_left wrong (suc n) xs needed)) (wrong n) k e (λ v r e. refl) (λ y j e. refl)

    by_kind : (k : ItemKind) (o : Origin) (l : Loc) → stripped_items (silenced_left wrong (suc n) xs needed) ≡ without_dead (stripped_items xs) needed →
        stripped_items (cond (is_dead k (needed_at xs needed)) (silenced_left wrong (suc n) xs needed)
        (record { kind = silenced (wrong n) k; origin = o; loc = l } ∷ silenced_left wrong (suc n) xs needed)) ≡
        without_dead (stripped_items (record { kind = k; origin = o; loc = l } ∷ xs)) needed
    by_kind (Code i m) o l h =
        by_test (is_dead_code i (needed_at xs needed)) ∙
        ap (λ (z : Places). cond (is_dead_code i z) (without_dead (stripped_items xs) needed)
        (record { kind = Code i None; origin = o; loc = l } ∷ without_dead (stripped_items xs) needed)) (sym (needed_stripped xs needed)) where
          by_test : (z : Bool) → stripped_items (cond z (silenced_left wrong (suc n) xs needed)
              (record { kind = Code i m; origin = o; loc = l } ∷ silenced_left wrong (suc n) xs needed)) ≡
              cond z (without_dead (stripped_items xs) needed) (record { kind = Code i None; origin = o; loc = l } ∷ without_dead (stripped_items xs) needed)
          by_test true = h
          by_test false = ap (λ (ys : List Item). record { kind = Code i None; origin = o; loc = l } ∷ ys) h
    by_kind (Mark v m) o l h = left_out (Mark v m) o l refl ∙ h
    by_kind (Phi p m) o l h = left_out (Phi p m) o l refl ∙ h

blocks_stripped : (wrong : Pos → Places) (ends : Ends) (bs : List Block) →
    stripped_blocks (map (taken wrong ends) bs) ≡ map (thinned_block ends) (stripped_blocks bs)
blocks_stripped wrong ends [] = refl
blocks_stripped wrong ends (b ∷ bs) =
    let e = items_stripped (λ n. wrong (pos_in b.id n)) (ends b.id) 0 b.items in
    let es = blocks_stripped wrong ends bs in
    λ i. record { id = b.id; items = e i; source_end = b.source_end } ∷ es i

-- whatever is silenced
pub stripped_taken : (wrong : Pos → Places) (ends : Ends) (f : Function) → stripped (taken_out wrong ends f) ≡ thinned ends (stripped f)
stripped_taken wrong ends f = let e = blocks_stripped wrong ends f.blocks in λ i. record (stripped f) { blocks = e i }

-- ---- the stripped function has the same code

same_stripped_items : (xs : List Item) → SameItems xs (stripped_items xs)
same_stripped_items [] = none
same_stripped_items (x ∷ xs) = by_kind x.kind x.origin x.loc (same_stripped_items xs) where
  by_kind : (k : ItemKind) (o : Origin) (l : Loc) → SameItems xs (stripped_items xs) →
      SameItems (record { kind = k; origin = o; loc = l } ∷ xs) (stripped_items (record { kind = k; origin = o; loc = l } ∷ xs))
  by_kind (Code i n) o l h = both _ _ i n None refl refl h
  by_kind (Mark v m) o l h = first _ refl h
  by_kind (Phi p n) o l h = first _ refl h

pub same_stripped : (bs : List Block) → SameBlocks bs (stripped_blocks bs)
same_stripped [] = no_blocks
same_stripped (b ∷ bs) = one_more b (stripped_block b) refl (same_stripped_items b.items) (same_stripped bs)

-- without its debug items a function goes through the same round
pub round_stripped : (f : Function) (ends : Ends) → ((b : ℕ) (x : Place) → (ends b x ≡ true) ↔ LiveAtEnd f b x) → (wrong : Pos → Places) →
    IsRound (stripped f) (stripped (taken_out wrong ends f))
round_stripped f ends live wrong = record {
  ends = ends;
  live = λ b x. (let e = ends_same f (stripped f) (same_stripped f.blocks) b x in let l = live b x in (λ h. e.0 (l.0 h), λ h. l.1 (e.1 h)));
  thins = stripped_taken wrong ends f;
}
