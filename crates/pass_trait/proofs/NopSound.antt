-- A function without its no-operations is a function still.
use Rattle.std.proofs.Common.{◌≡◌, ℕ, ◌<◌, ◌≤◌, List, [], ◌∷◌, ◌++◌, map, filter, length, All, Some, Bool, true, false, cond, slice_get, get_or, refl, sym, ap}
use Rattle.std.proofs.Common.{◌∙◌, subst, inl, inr, arith}
use Rattle.std.proofs.lemmas.Bool.{cases_order}
use Rattle.std.proofs.lemmas.List.{length-map}
use Rattle.std.proofs.lemmas.List.Elements.{filter-append, All-weaker, All-map}
use Rattle.std.proofs.lemmas.List.Kept.{AllPairs-filter}
use Rattle.std.proofs.lemmas.Option.{slice_get-get_or, get_or_from_slice_get}
use Rattle.std.specs.Prelude.{AllPairs}
use Rattle.sem_simulation.specs.rv64_instr.Row.{Row, Fixes, row_of}
use Rattle.sem_simulation.specs.mir_func.declared.block.Block.{Block}
use Rattle.sem_simulation.specs.mir_func.declared.item.Item.{Item}
use Rattle.sem_simulation.specs.mir_func.declared.item.ItemKind.{ItemKind}
use Rattle.sem_simulation.specs.mir_func.declared.item.ItemKind.TheVariants.{Code, Mark, Phi}
use Rattle.sem_simulation.specs.mir_func.Function.{Function}
use Rattle.sem_simulation.specs.mir_func.Sound.{AreApart, ids_of, items_of, number_of, code_number, NumbersOnce, OriginIn, TargetsIn, SlotsIn, ObjectsIn, LeavesPointer}
use Rattle.sem_simulation.specs.mir_func.Sound.{IsJumpAtMost, MayFollow, EndsWell, Closes, LastCloses, IsSound, KindPassesFirst}
use Rattle.sem_simulation.specs.mir_func.declared.exit.Exit.{Exit}
use Rattle.sem_simulation.specs.mir_func.declared.exit.Exit.TheVariants.{Onward, Perhaps, Always, Final}
use Rattle.sem_simulation.specs.mir_func.Exits.{row_exit, exit_of, IsAlways, Leaves}
use Rattle.sem_simulation.specs.mir_func.Limits.{MAX_BLOCKS}
use Rattle.sem_simulation.proofs.sem_mir.Reading.{within_list}
use Rattle.pass_trait.specs.Nops.{is_nop_row, is_nop, stays, thinned_blocks}
use Rattle.pass_trait.proofs.Thinning.{thin}
use Rattle.pass_trait.proofs.NopFollows.{each_left, origin_thin, stays_else}

pub items_thin : (keep : Item → Bool) (bs : List Block) → items_of (map (thin keep) bs) ≡ filter keep (items_of bs)
items_thin keep [] = refl
items_thin keep (b ∷ bs) = ap (λ (xs : List Item). filter keep b.items ++ xs) (items_thin keep bs) ∙ sym (filter-append keep b.items (items_of bs))

pub ids_thin : (keep : Item → Bool) (bs : List Block) → ids_of (map (thin keep) bs) ≡ ids_of bs
ids_thin keep [] = refl
ids_thin keep (b ∷ bs) = ap (λ (ns : List ℕ). b.id ∷ ns) (ids_thin keep bs)

-- neither of two items has as its number that of the other, which is code
pub record AreUnlike (x y : Item) : Type 0 where
  pub one : (k : ℕ) → code_number x.kind ≡ Some k → number_of y.kind ≡ Some k → ⊥
  pub other : (k : ℕ) → number_of x.kind ≡ Some k → code_number y.kind ≡ Some k → ⊥

unlike_from : (xs : List Item) → NumbersOnce xs → AllPairs AreUnlike xs
unlike_from xs once i j d lt within = record {
  one = λ k cx ny. (let e = once i j (get_or xs i d) (get_or xs j d) k (at i (omega (arith, lt, within))) cx (at j within) ny in omega (arith, e, lt));
  other = λ k nx cy. (let e = once j i (get_or xs j d) (get_or xs i d) k (at j within) cy (at i (omega (arith, lt, within))) nx in omega (arith, e, lt));
} where
  at : (n : ℕ) → n < length xs → slice_get xs n ≡ Some (get_or xs n d)
  at n h = slice_get-get_or xs n d h

once_from : (xs : List Item) → AllPairs AreUnlike xs → NumbersOnce xs
once_from xs unlike i j x y k atx cx aty ny =
    elim (cases_order i j) as (λ _. i ≡ j) [
      | inl e ↦ e
      | inr ne ↦ elim ne as (λ _. i ≡ j) [
        | inl lt ↦ absurd ((below i j lt aty).one k (code i x atx cx) (num j y aty ny))
        | inr lt ↦ absurd ((below j i lt atx).other k (num j y aty ny) (code i x atx cx))
      ]
    ] where
      below : (i j : ℕ) → i < j → {z : Item} → slice_get xs j ≡ Some z → AreUnlike (get_or xs i x) (get_or xs j x)
      below i j lt {z} at = unlike i j x lt (within_list xs j z at)

      code : (n : ℕ) (z : Item) → slice_get xs n ≡ Some z → code_number z.kind ≡ Some k → code_number (get_or xs n x).kind ≡ Some k
      code n z at c = subst (λ (w : Item). code_number w.kind ≡ Some k) (sym (get_or_from_slice_get xs n z x at)) c

      num : (n : ℕ) (z : Item) → slice_get xs n ≡ Some z → number_of z.kind ≡ Some k → number_of (get_or xs n x).kind ≡ Some k
      num n z at c = subst (λ (w : Item). number_of w.kind ≡ Some k) (sym (get_or_from_slice_get xs n z x at)) c

-- an item at which control leaves is no no-operation
leaving_stays : (k : ItemKind) → Leaves (exit_of k) → is_nop k ≡ false
leaving_stays (Code i n) h = by_row (row_of i) h where
  by_row : (r : Row) → Leaves (row_exit r) → is_nop_row r ≡ false
  by_row (Fixes rd n) h = absurd h
  by_row _ h = refl
leaving_stays (Mark v m) h = refl
leaving_stays (Phi p m) h = refl

pub always_leaves : (e : Exit) → IsAlways e → Leaves e
always_leaves (Always n) h = tt
always_leaves _ h = absurd h

module _ (busy : Bool) where
  abbrev keep : Item → Bool
  keep = stays busy

  alone : (x : Item) → is_nop x.kind ≡ false → filter keep (x ∷ []) ≡ x ∷ []
  alone x e = ap (λ (z : Bool). cond z (x ∷ []) []) (stays_else busy (is_nop x.kind) e)

  may_follow : (e : Exit) (rest : List Item) → MayFollow e rest → MayFollow e (filter keep rest)
  may_follow Onward rest h = tt
  may_follow (Perhaps n) [] h = tt
  may_follow (Perhaps n) (x ∷ []) h = subst IsJumpAtMost (sym (alone x (leaving_stays x.kind (always_leaves (exit_of x.kind) h)))) h
  may_follow (Perhaps n) (x ∷ y ∷ rest) h = absurd h
  may_follow (Always n) rest h = ap (filter keep) h
  may_follow Final rest h = ap (filter keep) h

  ends_thin : (xs : List Item) → EndsWell xs → EndsWell (filter keep xs)
  ends_thin [] h = tt
  ends_thin (x ∷ xs) h = by_test (keep x) (ends_thin xs h.1) where
    by_test : (z : Bool) → EndsWell (filter keep xs) → EndsWell (cond z (x ∷ filter keep xs) (filter keep xs))
    by_test true k = (may_follow (exit_of x.kind) xs h.0, k)
    by_test false k = k

  closes_more : (x : Item) (ys : List Item) → Closes ys → Closes (x ∷ ys)
  closes_more x [] h = absurd h
  closes_more x (y ∷ ys) h = h

  closes_thin : (xs : List Item) → Closes xs → Closes (filter keep xs)
  closes_thin [] h = absurd h
  closes_thin (x ∷ []) h = subst Closes (sym (alone x (leaving_stays x.kind h))) h
  closes_thin (x ∷ y ∷ rest) h = by_test (keep x) (closes_thin (y ∷ rest) h) where
    by_test : (z : Bool) → Closes (filter keep (y ∷ rest)) → Closes (cond z (x ∷ filter keep (y ∷ rest)) (filter keep (y ∷ rest)))
    by_test true k = closes_more x (filter keep (y ∷ rest)) k
    by_test false k = k

  last_thin : (bs : List Block) → LastCloses bs → LastCloses (map (thin keep) bs)
  last_thin [] h = absurd h
  last_thin (b ∷ []) h = closes_thin b.items h
  last_thin (b ∷ c ∷ rest) h = last_thin (c ∷ rest) h

  pub sound_thin : (f : Function) → IsSound f → IsSound (record f { blocks = thinned_blocks busy f.blocks })
  sound_thin f s =
      let new : List Block = thinned_blocks busy f.blocks in
      let ids : ids_of new ≡ ids_of f.blocks = ids_thin keep f.blocks in
      record {
        blocks_apart = subst (λ (ns : List ℕ). AreApart ns) (sym ids) s.blocks_apart;
        slots_apart = s.slots_apart;
        objects_apart = s.objects_apart;
        few_blocks = subst (λ (n : ℕ). n ≤ MAX_BLOCKS) (sym (length-map f.blocks (thin keep))) s.few_blocks;
        few_slots = s.few_slots;
        each_object = s.each_object;
        objects_laid = s.objects_laid;
        targets = subst (λ (ns : List ℕ). All (λ (b : Block). All (λ (i : Item). TargetsIn ns i.kind) b.items) new) (sym ids)
            (each_left keep (λ b i. TargetsIn (ids_of f.blocks) i.kind) (λ b i. TargetsIn (ids_of f.blocks) i.kind) (λ b i h. h) f.blocks s.targets);
        slots = each_left keep (λ b i. SlotsIn f.slots i.kind) (λ b i. SlotsIn f.slots i.kind) (λ b i h. h) f.blocks s.slots;
        passed = each_left keep (λ b i. KindPassesFirst f.slots i.kind) (λ b i. KindPassesFirst f.slots i.kind) (λ b i h. h) f.blocks s.passed;
        objects = each_left keep (λ b i. ObjectsIn f.objects i.kind) (λ b i. ObjectsIn f.objects i.kind) (λ b i h. h) f.blocks s.objects;
        pointer = each_left keep (λ b i. LeavesPointer i.kind) (λ b i. LeavesPointer i.kind) (λ b i h. h) f.blocks s.pointer;
        numbers = once_from (items_of new) (subst (λ (xs : List Item). AllPairs AreUnlike xs) (sym (items_thin keep f.blocks))
            (AllPairs-filter AreUnlike keep (items_of f.blocks) (unlike_from (items_of f.blocks) s.numbers)));
        origins = each_left keep (λ b i. OriginIn b i.origin) (λ b i. OriginIn b i.origin) (λ b i h. origin_thin keep b i.origin h) f.blocks s.origins;
        ends = All-map (λ (b : Block). EndsWell b.items) (thin keep) f.blocks
            (All-weaker (λ (b : Block). EndsWell b.items) (λ (b : Block). EndsWell (filter keep b.items)) (λ b h. ends_thin b.items h) f.blocks s.ends);
        last = last_thin f.blocks s.last;
      }
