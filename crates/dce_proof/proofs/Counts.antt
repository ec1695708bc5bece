-- How many items are left of some, and how many of them are dead.
use Rattle.std.proofs.Common.{◌≡◌, ℕ, zero, suc, ◌+◌, ◌≤◌, List, [], ◌∷◌, ◌++◌, map, length, take, get_or, count_by, None, Bool, true, false, cond}
use Rattle.std.proofs.Common.{refl, sym, ap, ◌∙◌, arith, length-append}
use Rattle.std.proofs.lemmas.List.{take_more, take_all}
use Rattle.std.proofs.lemmas.List.Sums.{sum_by-cons, sum_by-append}
use Rattle.rv64_instr.specs.Row.{row_of}
use Rattle.mir_func.specs.declared.position.Pos.{Pos}
use Rattle.mir_func.specs.declared.position.Origin.{Origin}
use Rattle.mir_func.specs.declared.location.Loc.{Loc}
use Rattle.mir_func.specs.declared.block.Block.{Block}
use Rattle.mir_func.specs.declared.item.Item.{Item}
use Rattle.mir_func.specs.declared.item.ItemKind.{ItemKind}
use Rattle.mir_func.specs.declared.item.ItemKind.TheVariants.{Code, Mark, Phi}
use Rattle.mir_func.specs.Sound.{items_of}
use Rattle.mir_func.specs.Strip.{stripped_items, stripped_blocks}
use Rattle.mir_func.specs.Successors.{pos_in}
use Rattle.mir_func.specs.Calls.{is_call_kind}
use Rattle.pass_trait.specs.Rule.{item}
use Rattle.rv64_instr.specs.LocationEffects.{is_call}
use Rattle.dce_round.specs.dce_rule.Dead.{Places, Ends, is_dead, is_dead_code, needed_before, needed_at}
use Rattle.dce_round.specs.dce_rule.Wrong.{silenced, silenced_left, silenced_block}
use Rattle.dce_round.specs.dce_analysis.Judge.{verdicts}

-- ---- verdicts

abbrev pub trues : List Bool → ℕ
trues vs = count_by (λ (d : Bool). d) vs

trues_first : (v : Bool) (vs : List Bool) → trues (v ∷ vs) ≡ cond v 1 0 + trues vs
trues_first v vs = sum_by-cons (λ (d : Bool). cond d 1 0) v vs

trues_both : (us vs : List Bool) → trues (us ++ vs) ≡ trues us + trues vs
trues_both us vs = sum_by-append (λ (d : Bool). cond d 1 0) us vs

-- those before an index
abbrev pub below : (vs : List Bool) → ℕ → ℕ
below vs zero = 0
below vs (suc n) = cond (get_or vs n false) 1 0 + below vs n

below_take : (vs : List Bool) (n : ℕ) → n ≤ length vs → below vs n ≡ trues (take n vs)
below_take vs zero le = refl
below_take vs (suc n) le =
    let rest = below_take vs n (omega (arith, le)) in
    let more : take (n + 1) vs ≡ take n vs ++ get_or vs n false ∷ [] = take_more vs n false (omega (arith, le)) in
    let one : suc n ≡ n + 1 = omega arith in
    let e : trues (take (suc n) vs) ≡ trues (take n vs ++ get_or vs n false ∷ []) = ap (λ (k : ℕ). trues (take k vs)) one ∙ ap trues more in
    let f = trues_both (take n vs) (get_or vs n false ∷ []) in
    let g = trues_first (get_or vs n false) [] in
    let h : trues [] ≡ 0 = refl in
    omega (arith, rest, e, f, g, h)

verdicts_long : (xs : List Item) (needed : Places) → length (verdicts xs needed) ≡ length xs
verdicts_long [] needed = refl
verdicts_long (x ∷ xs) needed = ap suc (verdicts_long xs needed)

pub below_all : (xs : List Item) (needed : Places) → below (verdicts xs needed) (length xs) ≡ trues (verdicts xs needed)
below_all xs needed =
    let len = verdicts_long xs needed in
    below_take (verdicts xs needed) (length xs) (omega (arith, len)) ∙ ap trues (take_all (length xs) (verdicts xs needed) (omega (arith, len)))

-- the dead code of blocks
abbrev pub dead_in : Ends → List Block → ℕ
dead_in ends [] = 0
dead_in ends (b ∷ bs) = trues (verdicts b.items (ends b.id)) + dead_in ends bs

-- ---- without debug items there is as much

record AsStripped (xs : List Item) (needed : Places) : Type 0 where
  same : needed_at (stripped_items xs) needed ≡ needed_at xs needed
  dead : trues (verdicts (stripped_items xs) needed) ≡ trues (verdicts xs needed)

as_stripped : (xs : List Item) (needed : Places) → AsStripped xs needed
as_stripped [] needed = record { same = refl; dead = refl }
as_stripped (x ∷ xs) needed = by_kind x.kind x.origin x.loc (as_stripped xs needed) where
  by_kind : (k : ItemKind) (o : Origin) (l : Loc) → AsStripped xs needed → AsStripped (item k o l ∷ xs) needed
  by_kind (Code i n) o l h =
      let d = h.dead in
      let same : is_dead_code i (needed_at (stripped_items xs) needed) ≡ is_dead_code i (needed_at xs needed) =
      ap (is_dead_code i) h.same in
      let e = trues_first (is_dead_code i (needed_at (stripped_items xs) needed)) (verdicts (stripped_items xs) needed) in
      let f = trues_first (is_dead_code i (needed_at xs needed)) (verdicts xs needed) in
      let g : ◌≡◌ {A = ℕ} (cond (is_dead_code i (needed_at (stripped_items xs) needed)) 1 0)
      (cond (is_dead_code i (needed_at xs needed)) 1 0) = ap (λ (z : Bool). cond z 1 0) same in
      record { same = ap (needed_before (Code i n)) h.same; dead = omega (arith, d, e, f, g) }
  by_kind (Mark v m) o l h =
      let d = h.dead in
      let f = trues_first false (verdicts xs needed) in
      record { same = h.same; dead = omega (arith, d, f) }
  by_kind (Phi p n) o l h =
      let d = h.dead in
      let f = trues_first false (verdicts xs needed) in
      record { same = h.same; dead = omega (arith, d, f) }

dead_stripped : (ends : Ends) (bs : List Block) → dead_in ends (stripped_blocks bs) ≡ dead_in ends bs
dead_stripped ends [] = refl
dead_stripped ends (b ∷ bs) =
    let here = (as_stripped b.items (ends b.id)).dead in
    let rest = dead_stripped ends bs in
    λ i. here i + rest i

pub dead_same : (ends : Ends) (bs cs : List Block) → stripped_blocks cs ≡ stripped_blocks bs → dead_in ends cs ≡ dead_in ends bs
dead_same ends bs cs e = sym (dead_stripped ends cs) ∙ ap (dead_in ends) e ∙ dead_stripped ends bs

-- ---- what is left

left_long : (wrong : ℕ → Places) (n : ℕ) (xs : List Item) (needed : Places) →
    length (silenced_left wrong n xs needed) + trues (verdicts xs needed) ≡ length xs
left_long wrong n [] needed = refl
left_long wrong n (x ∷ xs) needed =
    by_test (is_dead x.kind (needed_at xs needed)) (trues_first (is_dead x.kind (needed_at xs needed)) (verdicts xs needed))
    (left_long wrong (suc n) xs needed) where
      by_test : (z : Bool) → trues (z ∷ verdicts xs needed) ≡ cond z 1 0 + trues (verdicts xs needed) →
          length (silenced_left wrong (suc n) xs needed) + trues (verdicts xs needed) ≡ length xs →
          length (cond z (silenced_left wrong (suc n) xs needed) (record x { kind = silenced (wrong n) x.kind } ∷ silenced_left wrong (suc n) xs needed)) +
          trues (z ∷ verdicts xs needed) ≡ suc (length xs)
      by_test true e h = omega (arith, e, h)
      by_test false e h = omega (arith, e, h)

pub all_left : (wrong : Pos → Places) (ends : Ends) (bs : List Block) →
    length (items_of (map (silenced_block wrong ends) bs)) + dead_in ends bs ≡ length (items_of bs)
all_left wrong ends [] = refl
all_left wrong ends (b ∷ bs) =
    let here = left_long (λ n. wrong (pos_in b.id n)) 0 b.items (ends b.id) in
    let rest = all_left wrong ends bs in
    let e = length-append (silenced_left (λ n. wrong (pos_in b.id n)) 0 b.items (ends b.id)) (items_of (map (silenced_block wrong ends) bs)) in
    let f = length-append b.items (items_of bs) in
    omega (arith, here, rest, e, f)

-- ---- calls

calls_first : (x : Item) (xs : List Item) → count_by (λ (i : Item). is_call_kind i.kind) (x ∷ xs) ≡
    cond (is_call_kind x.kind) 1 0 + count_by (λ (i : Item). is_call_kind i.kind) xs
calls_first x xs = sum_by-cons (λ (i : Item). cond (is_call_kind i.kind) 1 0) x xs

calls_both : (xs ys : List Item) → count_by (λ (i : Item). is_call_kind i.kind) (xs ++ ys) ≡
    count_by (λ (i : Item). is_call_kind i.kind) xs + count_by (λ (i : Item). is_call_kind i.kind) ys
calls_both xs ys = sum_by-append (λ (i : Item). cond (is_call_kind i.kind) 1 0) xs ys

calls_stripped : (xs : List Item) → count_by (λ (i : Item). is_call_kind i.kind) (stripped_items xs) ≡ count_by (λ (i : Item). is_call_kind i.kind) xs
calls_stripped [] = refl
calls_stripped (x ∷ xs) = by_kind x.kind x.origin x.loc (calls_stripped xs) where
  by_kind : (k : ItemKind) (o : Origin) (l : Loc) →
      count_by (λ (i : Item). is_call_kind i.kind) (stripped_items xs) ≡ count_by (λ (i : Item). is_call_kind i.kind) xs →
      count_by (λ (i : Item). is_call_kind i.kind) (stripped_items (item k o l ∷ xs)) ≡ count_by (λ (i : Item). is_call_kind i.kind) (item k o l ∷ xs)
  by_kind (Code i n) o l h =
      calls_first (item (Code i None) o l) (stripped_items xs) ∙ ap (λ (m : ℕ). cond (is_call (row_of i)) 1 0 + m) h ∙
      sym (calls_first (item (Code i n) o l) xs)
  by_kind (Mark v m) o l h = let e = calls_first (item (Mark v m) o l) xs in omega (arith, h, e)
  by_kind (Phi p n) o l h = let e = calls_first (item (Phi p n) o l) xs in omega (arith, h, e)

blocks_calls : (bs : List Block) →
    count_by (λ (i : Item). is_call_kind i.kind) (items_of (stripped_blocks bs)) ≡ count_by (λ (i : Item). is_call_kind i.kind) (items_of bs)
blocks_calls [] = refl
blocks_calls (b ∷ bs) =
    let a = calls_both b.items (items_of bs) in
    let c = calls_both (stripped_items b.items) (items_of (stripped_blocks bs)) in
    let d = calls_stripped b.items in
    let e = blocks_calls bs in
    omega (arith, a, c, d, e)

pub calls_same : (bs cs : List Block) → stripped_blocks cs ≡ stripped_blocks bs →
    count_by (λ (i : Item). is_call_kind i.kind) (items_of cs) ≡ count_by (λ (i : Item). is_call_kind i.kind) (items_of bs)
calls_same bs cs e =
    sym (blocks_calls cs) ∙ ap (λ (ds : List Block). count_by (λ (i : Item). is_call_kind i.kind) (items_of ds)) e ∙ blocks_calls bs
