-- What holds of each item, and how many items pass a test, where copies go from blocks.
use Rattle.std.proofs.Common.{◌≡◌, ℕ, zero, suc, ◌+◌, ◌≤◌, List, [], ◌∷◌, ◌++◌, All, count_by, Option, Some, None, Bool, cond, append-nil}
use Rattle.std.proofs.Common.{refl, ap, ◌∙◌, arith}
use Rattle.std.proofs.lemmas.List.Elements.{All-nil, All-cons, All-head, All-tail, All-append}
use Rattle.std.proofs.lemmas.List.Sums.{sum_by-cons, sum_by-append}
use Rattle.std.proofs.lemmas.Grind.{flat_map-append}
use Rattle.rv64_instr.specs.declared.place.Place.TheVariants.{Register}
use Rattle.rv64_instr.specs.Instruction.{Instruction}
use Rattle.rv64_instr.specs.Row.{row_of}
use Rattle.mir_func.specs.declared.block.Block.{Block}
use Rattle.mir_func.specs.declared.item.Item.{Item}
use Rattle.mir_func.specs.declared.item.ItemKind.{ItemKind}
use Rattle.mir_func.specs.declared.item.ItemKind.TheVariants.{Code, Mark, Phi}
use Rattle.mir_func.specs.declared.location.Loc.{Loc}
use Rattle.mir_func.specs.declared.position.Origin.{Origin}
use Rattle.mir_func.specs.Sound.{items_of, AllItems}
use Rattle.pass_trait.specs.Rule.{item}
use Rattle.copyprop_block.specs.pass_salvage.declared.salvage_action.SalvageAction.{SalvageAction}
use Rattle.copyprop_block.specs.pass_salvage.declared.salvage_action.SalvageAction.TheVariants.{HasEntry, GetsEntry, GetsPhi}
use Rattle.copyprop_block.specs.pass_salvage.SalvageAction.{salvage_action}
use Rattle.copyprop_block.specs.pass_salvage.Salvage.{with_number, numbered_at, above_after, put_for, phi_for}
use Rattle.copyprop_block.specs.declared.roots.Root.{Root}
use Rattle.copyprop_block.specs.Roots.{renamed, known_source}
use Rattle.copyprop_block.specs.Copied.{SoFar, renamed_kind, roots_with, goes_by, by_fate, next_item, over_items, at_block, BlocksSoFar}
use Rattle.copyprop_block.specs.Copied.{next_block, over_blocks}

-- ---- what holds of each item

-- P stays where an item is renamed, and where it gets a number, and holds of the phi that is put for a copy; R is what is known of roots
pub record Stays (P : ItemKind → Type 0) (R : List Root → Type 0) : Type 0 where
  pub starts : R []
  pub renamed : (e : List Root) (k : ItemKind) → R e → P k → P (renamed_kind e k)
  pub taught : (e : List Root) (k : ItemKind) → R e → P k → R (roots_with k e)
  pub numbered : (n : ℕ) (k : ItemKind) → P k → P (with_number n k)
  pub phi : (e : List Root) (i : Instruction) (n : Option ℕ) (s k : ℕ) → R e → P (Code i n) → known_source e (row_of i) ≡ Some s → P (Phi (Some (Register s)) k)

module _ (P : ItemKind → Type 0) (R : List Root → Type 0) (stays : Stays P R) where
  abbrev Q : Item → Type 0
  Q i = P i.kind

  each_numbered : (d n : ℕ) (xs : List Item) → All Q xs → All Q (numbered_at d n xs)
  each_numbered d n [] h = All-nil Q
  each_numbered zero n (x ∷ xs) h =
      All-cons Q (record x { kind = with_number n x.kind }) xs (stays.numbered n x.kind (All-head Q x xs h)) (All-tail Q x xs h)
  each_numbered (suc d) n (x ∷ xs) h = All-cons Q x (numbered_at d n xs) (All-head Q x xs h) (each_numbered d n xs (All-tail Q x xs h))

  each_above : (w : SalvageAction) (xs : List Item) → All Q xs → All Q (above_after w xs)
  each_above HasEntry xs h = h
  each_above (GetsEntry d o n) xs h = each_numbered d n xs h
  each_above GetsPhi xs h = h

  each_put : (w : SalvageAction) (k s : ℕ) (o : Origin) → P (Phi (Some (Register s)) k) → All Q (put_for w k s o)
  each_put HasEntry k s o h = All-nil Q
  each_put (GetsEntry d p n) k s o h = All-nil Q
  each_put GetsPhi k s o h = All-cons Q (phi_for k s o) [] h (All-nil Q)

  -- what holds after one item more
  abbrev Each : SoFar → Type 0
  Each a = R a.roots × All Q a.done

  each_stays : (a : SoFar) (k : ItemKind) (o : Origin) (l : Loc) → Each a → P k → All Q (a.done ++ item k o l ∷ [])
  each_stays a k o l h p = All-append Q a.done (item k o l ∷ []) h.1 (All-cons Q (item k o l) [] p (All-nil Q))

  each_fate : (a : SoFar) (i : Instruction) (n : Option ℕ) (o : Origin) (l : Loc) → Each a → P (Code i n) → (s : Option ℕ) →
      known_source a.roots (row_of i) ≡ s →
      Each (by_fate a (item (Code i n) o l) (goes_by n s))
  each_fate a i n o l h p None is = (stays.taught a.roots (Code i n) h.0 p, each_stays a (Code i n) o l h p)
  each_fate a i None o l h p (Some s) is = h
  each_fate a i (Some k) o l h p (Some s) is =
      let w = salvage_action [] a.subs a.fresh k s a.done in
      (h.0, All-append Q (above_after w a.done) (put_for w k s o) (each_above w a.done h.1) (each_put w k s o (stays.phi a.roots i (Some k) s k h.0 p is)))

  each_kind : (a : SoFar) (k : ItemKind) (o : Origin) (l : Loc) → Each a → P k → Each (next_item a (item k o l))
  each_kind a (Code i n) o l h p =
      each_fate a (renamed a.roots i) n o l h (stays.renamed a.roots (Code i n) h.0 p) (known_source a.roots (row_of (renamed a.roots i))) refl
  each_kind a (Mark v m) o l h p = (h.0, each_stays a (Mark v m) o l h p)
  each_kind a (Phi q m) o l h p = (h.0, each_stays a (Phi q m) o l h p)

  pub each_next : (a : SoFar) (x : Item) → Each a → P x.kind → Each (next_item a x)
  each_next a x h p = each_kind a x.kind x.origin x.loc h p

  pub each_over : (xs : List Item) (a : SoFar) → Each a → All Q xs → Each (over_items a xs)
  each_over [] a h all = h
  each_over (x ∷ xs) a h all = each_over xs (next_item a x) (each_next a x h (All-head Q x xs all)) (All-tail Q x xs all)

  abbrev B : Block → Type 0
  B b = All Q b.items

  pub each_blocks : (bs : List Block) (a : BlocksSoFar) → AllItems Q a.blocks → AllItems Q bs → AllItems Q (over_blocks a bs).blocks
  each_blocks [] a h all = h
  each_blocks (b ∷ bs) a h all =
      let items = (each_over b.items (at_block a.subs a.fresh) (stays.starts, All-nil Q) (All-head B b bs all)).1 in
      let made : Block = record { id = b.id; items = (over_items (at_block a.subs a.fresh) b.items).done; source_end = b.source_end } in
      each_blocks bs (next_block a b) (All-append B a.blocks (made ∷ []) h (All-cons B made [] items (All-nil B))) (All-tail B b bs all)

-- ---- how many items pass a test

abbrev pub weight : Bool → ℕ
weight z = cond z 1 0

-- whether one passes doesn't hang on explicit uses and numbers, and the phi that is put for code passes only if the code does
pub record Tests (p : ItemKind → Bool) : Type 0 where
  pub renamed : (e : List Root) (k : ItemKind) → p (renamed_kind e k) ≡ p k
  pub numbered : (n : ℕ) (k : ItemKind) → p (with_number n k) ≡ p k
  pub phi : (i : Instruction) (n : Option ℕ) (s k : ℕ) → weight (p (Phi (Some (Register s)) k)) ≤ weight (p (Code i n))

module _ (p : ItemKind → Bool) (tests : Tests p) where
  abbrev test : Item → Bool
  test i = p i.kind

  count_first : (x : Item) (xs : List Item) → count_by test (x ∷ xs) ≡ weight (p x.kind) + count_by test xs
  count_first x xs = sum_by-cons (λ (y : Item). weight (p y.kind)) x xs

  count_two : (xs ys : List Item) → count_by test (xs ++ ys) ≡ count_by test xs + count_by test ys
  count_two xs ys = sum_by-append (λ (y : Item). weight (p y.kind)) xs ys

  count_one : (x : Item) → count_by test (x ∷ []) ≡ weight (p x.kind)
  count_one x = let e = count_first x [] in let z : count_by test [] ≡ 0 = refl in omega (arith, e, z)

  count_numbered : (d n : ℕ) (xs : List Item) → count_by test (numbered_at d n xs) ≡ count_by test xs
  count_numbered d n [] = refl
  count_numbered zero n (x ∷ xs) =
      let e = count_first (record x { kind = with_number n x.kind }) xs in
      let f = count_first x xs in
      let g : weight (p (with_number n x.kind)) ≡ weight (p x.kind) = ap weight (tests.numbered n x.kind) in
      omega (arith, e, f, g)
  count_numbered (suc d) n (x ∷ xs) =
      let e = count_first x (numbered_at d n xs) in
      let f = count_first x xs in
      let g = count_numbered d n xs in
      omega (arith, e, f, g)

  count_above : (w : SalvageAction) (xs : List Item) → count_by test (above_after w xs) ≡ count_by test xs
  count_above HasEntry xs = refl
  count_above (GetsEntry d o n) xs = count_numbered d n xs
  count_above GetsPhi xs = refl

  count_put : (w : SalvageAction) (k s : ℕ) (o : Origin) → count_by test (put_for w k s o) ≤ weight (p (Phi (Some (Register s)) k))
  count_put HasEntry k s o = let z : count_by test [] ≡ 0 = refl in omega (arith, z)
  count_put (GetsEntry d q n) k s o = let z : count_by test [] ≡ 0 = refl in omega (arith, z)
  count_put GetsPhi k s o = let e = count_one (phi_for k s o) in omega (arith, e)

  count_stays : (a : SoFar) (k : ItemKind) (o : Origin) (l : Loc) → count_by test (a.done ++ item k o l ∷ []) ≤ count_by test a.done + weight (p k)
  count_stays a k o l = let e = count_two a.done (item k o l ∷ []) in let f = count_one (item k o l) in omega (arith, e, f)

  count_fate : (a : SoFar) (i : Instruction) (n : Option ℕ) (o : Origin) (l : Loc) (s : Option ℕ) →
      count_by test (by_fate a (item (Code i n) o l) (goes_by n s)).done ≤ count_by test a.done + weight (p (Code i n))
  count_fate a i n o l None = count_stays a (Code i n) o l
  count_fate a i None o l (Some s) = omega arith
  count_fate a i (Some k) o l (Some s) =
      let w = salvage_action [] a.subs a.fresh k s a.done in
      let e = count_two (above_after w a.done) (put_for w k s o) in
      let f = count_above w a.done in
      let g = count_put w k s o in
      let h = tests.phi i (Some k) s k in
      omega (arith, e, f, g, h)

  count_kind : (a : SoFar) (k : ItemKind) (o : Origin) (l : Loc) → count_by test (next_item a (item k o l)).done ≤ count_by test a.done + weight (p k)
  count_kind a (Code i n) o l =
      let e = count_fate a (renamed a.roots i) n o l (known_source a.roots (row_of (renamed a.roots i))) in
      let f : weight (p (Code (renamed a.roots i) n)) ≡ weight (p (Code i n)) = ap weight (tests.renamed a.roots (Code i n)) in
      omega (arith, e, f)
  count_kind a (Mark v m) o l = count_stays a (Mark v m) o l
  count_kind a (Phi q m) o l = count_stays a (Phi q m) o l

  pub count_over : (xs : List Item) (a : SoFar) → count_by test (over_items a xs).done ≤ count_by test a.done + count_by test xs
  count_over [] a = let z : count_by test [] ≡ 0 = refl in omega (arith, z)
  count_over (x ∷ xs) a =
      let e = count_over xs (next_item a x) in
      let f = count_kind a x.kind x.origin x.loc in
      let g = count_first x xs in
      omega (arith, e, f, g)

  pub count_blocks : (bs : List Block) (a : BlocksSoFar) →
      count_by test (items_of (over_blocks a bs).blocks) ≤ count_by test (items_of a.blocks) + count_by test (items_of bs)
  count_blocks [] a = let z : count_by test [] ≡ 0 = refl in omega (arith, z)
  count_blocks (b ∷ bs) a =
      let made : Block = record { id = b.id; items = (over_items (at_block a.subs a.fresh) b.items).done; source_end = b.source_end } in
      let e = count_blocks bs (next_block a b) in
      let two : items_of (a.blocks ++ made ∷ []) ≡ items_of a.blocks ++ (made.items ++ []) = flat_map-append (λ (c : Block). c.items) a.blocks (made ∷ []) in
      let f : count_by test (items_of (next_block a b).blocks) ≡ count_by test (items_of a.blocks) + count_by test (made.items ++ []) =
      ap (count_by test) two ∙ count_two (items_of a.blocks) (made.items ++ []) in
      let nil : count_by test (made.items ++ []) ≡ count_by test made.items = ap (count_by test) (append-nil made.items) in
      let g = count_over b.items (at_block a.subs a.fresh) in
      let z : count_by test [] ≡ 0 = refl in
      let h = count_two b.items (items_of bs) in
      omega (arith, e, f, nil, g, z, h)
