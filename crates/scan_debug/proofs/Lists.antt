-- Numbers, kinds and ends of items that are changed each in its place.
use Rattle.std.proofs.Common.{◌≡◌, ℕ, ◌+◌, List, [], ◌∷◌, ◌++◌, map, slice_get, Option, Some, None, Bool, refl, sym, ap, ◌∙◌, subst}
use Rattle.std.specs.Option.{option_map}
use Rattle.std.proofs.lemmas.List.{map-append}
use Rattle.std.proofs.lemmas.List.Concat.{flat_map-cons}
use Rattle.std.proofs.lemmas.Option.{slice_get-map}
use Rattle.mir_func.specs.declared.block.Block.{Block}
use Rattle.mir_func.specs.declared.exit.Exit.{Exit}
use Rattle.mir_func.specs.declared.exit.Exit.TheVariants.{Onward, Perhaps, Always, Final}
use Rattle.mir_func.specs.declared.item.Item.{Item}
use Rattle.mir_func.specs.declared.item.ItemKind.{ItemKind}
use Rattle.mir_func.specs.declared.item.ItemKind.TheVariants.{Code, Mark, Phi}
use Rattle.mir_func.specs.declared.position.Pos.{Pos}
use Rattle.mir_func.specs.Exits.{exit_of, IsAlways, Leaves}
use Rattle.mir_func.specs.Graph.{Program}
use Rattle.mir_func.specs.Sound.{items_of, ids_of, number_of, code_number, NumbersOnce, IsJumpAtMost, MayFollow, EndsWell, Closes, LastCloses}
use Rattle.scan_simulation.specs.scan_allocation.Coloring.{IsColoring}
use Rattle.scan_simulation.specs.scan_rule.Rewrite.{kind_now, item_now, items_now, block_now, blocks_now}
use Rattle.scan_simulation.proofs.Rows.{exit_now}

module _ (given : ℕ → Option ℕ) (silent : Pos → ℕ → Bool) where
  -- what each item has whatever its place, the list has
  module _ {A : Type 0} (h : Item → A) (same : (p : Pos) (x : Item) → h (item_now given silent p x) ≡ h x) where
    map_in : (b n : ℕ) (xs : List Item) → map h (items_now given silent b n xs) ≡ map h xs
    map_in b n [] = refl
    map_in b n (x ∷ xs) = let e = same (record { block = b; item = n }) x in let es = map_in b (n + 1) xs in λ t. e t ∷ es t

    pub map_now : (bs : List Block) → map h (items_of (blocks_now given silent bs)) ≡ map h (items_of bs)
    map_now [] = refl
    map_now (b ∷ bs) =
        let e = map_in b.id 0 b.items in
        let es = map_now bs in
        ap (map h) (flat_map-cons (λ (c : Block). c.items) (block_now given silent b) (blocks_now given silent bs)) ∙
        map-append h (items_now given silent b.id 0 b.items) (items_of (blocks_now given silent bs)) ∙ (λ t. e t ++ es t) ∙
        sym (map-append h b.items (items_of bs)) ∙ ap (map h) (sym (flat_map-cons (λ (c : Block). c.items) b bs))

    -- an item of the new list was at the same index of the old one
    pub item_at : (bs : List Block) (i : ℕ) (y : Item) → slice_get (items_of (blocks_now given silent bs)) i ≡ Some y →
        (x : Item) × (slice_get (items_of bs) i ≡ Some x) × (h x ≡ h y)
    item_at bs i y e = by_old (slice_get (items_of bs) i) refl
        (sym (slice_get-map h (items_of bs) i) ∙ ap (λ (xs : List A). slice_get xs i) (sym (map_now bs)) ∙
        slice_get-map h (items_of (blocks_now given silent bs)) i ∙ ap (option_map h) e) where
          by_old : (o : Option Item) → slice_get (items_of bs) i ≡ o → option_map h o ≡ Some (h y) →
              (x : Item) × (slice_get (items_of bs) i ≡ Some x) × (h x ≡ h y)
          by_old None z k = (let bad : ◌≡◌ {A = Option A} None (Some (h y)) = k in cc)
          by_old (Some x) z k = (x, z, (let same_value : h x ≡ h y = cc in same_value))

  number_now : (k : ItemKind) (s : ℕ → Bool) → number_of (kind_now given s k) ≡ number_of k
  number_now (Code i n) s = refl
  number_now (Mark v m) s = refl
  number_now (Phi q n) s = refl

  code_number_now : (k : ItemKind) (s : ℕ → Bool) → code_number (kind_now given s k) ≡ code_number k
  code_number_now (Code i n) s = refl
  code_number_now (Mark v m) s = refl
  code_number_now (Phi q n) s = refl

  -- numbers stay once
  pub numbers_once : (bs : List Block) → NumbersOnce (items_of bs) → NumbersOnce (items_of (blocks_now given silent bs))
  numbers_once bs once i j x y k at number at' number' =
      let first = item_at (λ (z : Item). code_number z.kind) (λ p z. code_number_now z.kind (silent p)) bs i x at in
      let second = item_at (λ (z : Item). number_of z.kind) (λ p z. number_now z.kind (silent p)) bs j y at' in
      once i j first.0 second.0 k first.1 (first.2 ∙ number) second.1 (second.2 ∙ number')

  pub ids_now : (bs : List Block) → ids_of (blocks_now given silent bs) ≡ ids_of bs
  ids_now [] = refl
  ids_now (b ∷ bs) = ap (λ (ns : List ℕ). b.id ∷ ns) (ids_now bs)

  -- ---- ends

  module _ (f : Program) (col : IsColoring f given) where
    jump_at_most : (b n : ℕ) (xs : List Item) → IsJumpAtMost xs → IsJumpAtMost (items_now given silent b n xs)
    jump_at_most b n [] h = tt
    jump_at_most b n (x ∷ []) h = subst IsAlways (sym (exit_now f given col (silent (record { block = b; item = n })) x.kind)) h
    jump_at_most b n (x ∷ y ∷ xs) h = absurd h

    may_follow : (e : Exit) (b n : ℕ) (xs : List Item) → MayFollow e xs → MayFollow e (items_now given silent b n xs)
    may_follow Onward b n xs h = tt
    may_follow (Perhaps t) b n xs h = jump_at_most b n xs h
    may_follow (Always t) b n xs h = ap (items_now given silent b n) h
    may_follow Final b n xs h = ap (items_now given silent b n) h

    pub ends_well : (b n : ℕ) (xs : List Item) → EndsWell xs → EndsWell (items_now given silent b n xs)
    ends_well b n [] h = tt
    ends_well b n (x ∷ xs) h = (
      subst (λ (e : Exit). MayFollow e (items_now given silent b (n + 1) xs)) (sym (exit_now f given col (silent (record { block = b; item = n })) x.kind))
          (may_follow (exit_of x.kind) b (n + 1) xs h.0),
      ends_well b (n + 1) xs h.1,
    )

    closes : (b n : ℕ) (xs : List Item) → Closes xs → Closes (items_now given silent b n xs)
    closes b n [] h = absurd h
    closes b n (x ∷ []) h = subst Leaves (sym (exit_now f given col (silent (record { block = b; item = n })) x.kind)) h
    closes b n (x ∷ y ∷ xs) h = closes b (n + 1) (y ∷ xs) h

    pub last_closes : (bs : List Block) → LastCloses bs → LastCloses (blocks_now given silent bs)
    last_closes [] h = absurd h
    last_closes (b ∷ []) h = closes b.id 0 b.items h
    last_closes (b ∷ c ∷ bs) h = last_closes (c ∷ bs) h
