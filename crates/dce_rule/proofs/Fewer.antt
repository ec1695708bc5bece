-- Where dead code goes, less code is left; and what is left is no larger.
use Rattle.std.proofs.Common.{◌≡◌, ℕ, zero, suc, ◌+◌, ◌*◌, ◌<◌, ◌≤◌, List, [], ◌∷◌, ◌++◌}
use Rattle.std.proofs.Common.{map, drop, length, count_by, Bool, true, false, cond, nat_eq, refl, sym, ap}
use Rattle.std.proofs.Common.{◌∙◌, subst, arith}
use Rattle.std.specs.List.{flat_map}
use Rattle.std.proofs.lemmas.Bool.{eqb-true}
use Rattle.std.proofs.lemmas.List.{append_assoc}
use Rattle.std.proofs.lemmas.List.Sums.{sum_by-cons}
use Rattle.std.proofs.Math.Nat.{le_trans, le_refl}
use Rattle.mir_func.specs.declared.position.Pos.{Pos}
use Rattle.mir_func.specs.declared.block.Block.{Block}
use Rattle.mir_func.specs.declared.debug_substitution.DebugSubstitution.{DebugSubstitution}
use Rattle.mir_func.specs.declared.item.Item.{Item}
use Rattle.mir_func.specs.declared.item.ItemKind.{ItemKind}
use Rattle.mir_func.specs.Function.{Function}
use Rattle.mir_func.specs.Limits.{MAX_SLOTS}
use Rattle.mir_func.specs.Sound.{items_of}
use Rattle.mir_func.specs.SoundFrame.{HasPhysical}
use Rattle.mir_func.specs.Graph.{from_block, rest_in, rest_of}
use Rattle.mir_func.specs.Successors.{pos_in}
use Rattle.mir_func.specs.Calls.{is_call_kind}
use Rattle.sem_mir.specs.Align.{is_code}
use Rattle.pass_trait.specs.Change.{change}
use Rattle.pass_trait.specs.Sizes.{greatest, most_numbers, numbers_of, KeepsSizes}
use Rattle.pass_trait.proofs.NopSizes.{greatest_past, greatest_front}
use Rattle.dce_rule.specs.Dead.{Places, Ends, is_dead, needed_at}
use Rattle.dce_rule.specs.Wrong.{silenced, silenced_left, taken_out}
use Rattle.dce_rule.proofs.Lists.{quiet, quiet_is, taken}
use Rattle.dce_rule.proofs.Follows.{each_left}
use Rattle.dce_rule.proofs.Sound.{Left, none, kept, gone, left_of, left_items}

abbrev weight : Bool → ℕ
weight z = cond z 1 0

count_cons : (test : Item → Bool) (x : Item) (xs : List Item) → count_by test (x ∷ xs) ≡ weight (test x) + count_by test xs
count_cons test x xs = sum_by-cons (λ z. weight (test z)) x xs

module _ (test : Item → Bool) (quiet_test : (w : Places) (x : Item) → test (quiet w x) ≡ test x) where
  -- no more pass a test
  pub count_left : {xs ys : List Item} → Left xs ys → count_by test ys ≤ count_by test xs
  count_left none = le_refl 0
  count_left (kept {xs = xs} {ys = ys} x w more) =
      let h = count_left more in
      let a = count_cons test x xs in
      let b = count_cons test (quiet w x) ys in
      let c : weight (test (quiet w x)) ≡ weight (test x) = ap weight (quiet_test w x) in
      omega (arith, h, a, b, c)
  count_left (gone {xs = xs} {ys = ys} x more) = let h = count_left more in let a = count_cons test x xs in omega (arith, h, a)

  count_append : (xs ys : List Item) → count_by test (xs ++ ys) ≡ count_by test xs + count_by test ys
  count_append [] ys = omega arith
  count_append (x ∷ xs) ys =
      let h = count_append xs ys in
      let a = count_cons test x (xs ++ ys) in
      let b = count_cons test x xs in
      omega (arith, h, a, b)

  -- fewer, where one of them is dead
  fewer_in : (wrong : ℕ → Places) (needed : Places) (n : ℕ) (xs : List Item) (k : ℕ) (x : Item) (rest : List Item) → drop k xs ≡ x ∷ rest →
      is_dead x.kind (needed_at rest needed) ≡ true → test x ≡ true → count_by test (silenced_left wrong n xs needed) < count_by test xs
  fewer_in wrong needed n [] zero x rest e dead passes = cc
  fewer_in wrong needed n [] (suc k) x rest e dead passes = cc
  fewer_in wrong needed n (y ∷ ys) zero x rest e dead passes =
      let head : y ≡ x = cc in
      let tail : ys ≡ rest = cc in
      let d : is_dead y.kind (needed_at ys needed) ≡ true = (λ i. is_dead (head i).kind (needed_at (tail i) needed)) ∙ dead in
      let left : silenced_left wrong n (y ∷ ys) needed ≡ silenced_left wrong (suc n) ys needed =
      ap (λ (z : Bool). cond z (silenced_left wrong (suc n) ys needed) (quiet (wrong n) y ∷ silenced_left wrong (suc n) ys needed)) d in
      let one : weight (test y) ≡ 1 = ap (λ (z : Item). weight (test z)) head ∙ ap weight passes in
      let h = count_left (left_of wrong (suc n) ys needed) in
      let a = count_cons test y ys in
      let b = ap (count_by test) left in
      omega (arith, h, a, b, one)
  fewer_in wrong needed n (y ∷ ys) (suc k) x rest e dead passes =
      by_test (is_dead y.kind (needed_at ys needed)) (fewer_in wrong needed (suc n) ys k x rest e dead passes) where
        by_test : (z : Bool) → count_by test (silenced_left wrong (suc n) ys needed) < count_by test ys →
            count_by test (cond z (silenced_left wrong (suc n) ys needed) (quiet (wrong n) y ∷ silenced_left wrong (suc n) ys needed)) < count_by test (y ∷ ys)
        by_test true h = let a = count_cons test y ys in omega (arith, h, a)
        by_test false h =
            let a = count_cons test y ys in
            let b = count_cons test (quiet (wrong n) y) (silenced_left wrong (suc n) ys needed) in
            let c : weight (test (quiet (wrong n) y)) ≡ weight (test y) = ap weight (quiet_test (wrong n) y) in
            omega (arith, h, a, b, c)

  pub fewer_of : (wrong : Pos → Places) (ends : Ends) (bs : List Block) (p : Pos) (x : Item) (rest : List Item) → rest_of bs p ≡ x ∷ rest →
      is_dead x.kind (needed_at rest (ends p.block)) ≡ true → test x ≡ true → count_by test (items_of (map (taken wrong ends) bs)) < count_by test (items_of bs)
  fewer_of wrong ends [] p x rest e dead passes = cc
  fewer_of wrong ends (b ∷ bs) p x rest e dead passes = by_test (nat_eq b.id p.block) refl e (λ h. fewer_of wrong ends bs p x rest h dead passes) where
    new : List Item
    new = silenced_left (λ n. wrong (pos_in b.id n)) 0 b.items (ends b.id)

    by_test : (z : Bool) → nat_eq b.id p.block ≡ z → rest_in (cond z (b ∷ bs) (from_block bs p.block)) p.item ≡ x ∷ rest →
        (rest_of bs p ≡ x ∷ rest → count_by test (items_of (map (taken wrong ends) bs)) < count_by test (items_of bs)) →
        count_by test (items_of (map (taken wrong ends) (b ∷ bs))) < count_by test (items_of (b ∷ bs))
    by_test true t e later =
        let id : b.id ≡ p.block = eqb-true b.id p.block t in
        let here = fewer_in (λ n. wrong (pos_in b.id n)) (ends b.id) 0 b.items p.item x rest e
        (ap (λ (n : ℕ). is_dead x.kind (needed_at rest (ends n))) id ∙ dead) passes in
        let more = count_left (left_items wrong ends bs) in
        let a = count_append new (items_of (map (taken wrong ends) bs)) in
        let c = count_append b.items (items_of bs) in
        omega (arith, here, more, a, c)
    by_test false t e later =
        let more = later e in
        let here = count_left (left_of (λ n. wrong (pos_in b.id n)) 0 b.items (ends b.id)) in
        let a = count_append new (items_of (map (taken wrong ends) bs)) in
        let c = count_append b.items (items_of bs) in
        omega (arith, here, more, a, c)

-- ---- sizes

length_left : {xs ys : List Item} → Left xs ys → length ys ≤ length xs
length_left none = le_refl 0
length_left (kept x w more) = let h = length_left more in omega (arith, h)
length_left (gone x more) = let h = length_left more in omega (arith, h)

quiet_numbers : (w : Places) (k : ItemKind) → numbers_of (silenced w k) ≡ numbers_of k
quiet_numbers w k = quiet_is (λ z. numbers_of z ≡ numbers_of k) w k refl (λ v r e. sym (ap numbers_of e)) (λ y n e. sym (ap numbers_of e))

numbers_left : {xs ys : List Item} → Left xs ys → (ms : List ℕ) →
    greatest (flat_map (λ (i : Item). numbers_of i.kind) ys ++ ms) ≤ greatest (flat_map (λ (i : Item). numbers_of i.kind) xs ++ ms)
numbers_left none ms = le_refl (greatest ms)
numbers_left (kept {xs = xs} {ys = ys} x w more) ms =
    let h = numbers_left more ms in
    let g : Item → List ℕ = λ i. numbers_of i.kind in
    let a : (g x ++ flat_map g xs) ++ ms ≡ g x ++ (flat_map g xs ++ ms) = append_assoc (g x) (flat_map g xs) ms in
    let b : (g (quiet w x) ++ flat_map g ys) ++ ms ≡ g x ++ (flat_map g ys ++ ms) =
    ap (λ (ns : List ℕ). (ns ++ flat_map g ys) ++ ms) (quiet_numbers w x.kind) ∙ append_assoc (g x) (flat_map g ys) ms in
    subst (λ (ns : List ℕ). greatest ns ≤ greatest ((g x ++ flat_map g xs) ++ ms)) (sym b)
    (subst (λ (ns : List ℕ). greatest (g x ++ (flat_map g ys ++ ms)) ≤ greatest ns) (sym a)
    (greatest_front (g x) (flat_map g ys ++ ms) (flat_map g xs ++ ms) h))
numbers_left (gone {xs = xs} {ys = ys} x more) ms =
    let h = numbers_left more ms in
    let g : Item → List ℕ = λ i. numbers_of i.kind in
    subst (λ (ns : List ℕ). greatest (flat_map g ys ++ ms) ≤ greatest ns) (sym (append_assoc (g x) (flat_map g xs) ms))
    (greatest_past (g x) (flat_map g ys ++ ms) (flat_map g xs ++ ms) h)

le_more : (n m : ℕ) → n ≤ n + m
le_more n m = omega arith

pub quiet_code : (w : Places) (x : Item) → is_code (quiet w x).kind ≡ is_code x.kind
quiet_code w x = quiet_is (λ z. is_code z ≡ is_code x.kind) w x.kind refl (λ v r e. sym (ap is_code e)) (λ y n e. sym (ap is_code e))

quiet_calls : (w : Places) (x : Item) → is_call_kind (quiet w x).kind ≡ is_call_kind x.kind
quiet_calls w x = quiet_is (λ z. is_call_kind z ≡ is_call_kind x.kind) w x.kind refl (λ v r e. sym (ap is_call_kind e)) (λ y n e. sym (ap is_call_kind e))

pub sizes_taken : (wrong : Pos → Places) (ends : Ends) (f : Function) (subs : List DebugSubstitution) →
    KeepsSizes 1 0 (change f subs (taken_out wrong ends f) subs)
sizes_taken wrong ends f subs =
    let l = left_items wrong ends f.blocks in
    let entries : List ℕ = flat_map (λ (s : DebugSubstitution). s.src.number ∷ s.dst.number ∷ []) subs in
    record {
      items = (let k = length_left l in omega (arith, k));
      code = (let k = count_left (λ i. is_code i.kind) quiet_code l in omega (arith, k));
      calls = count_left (λ i. is_call_kind i.kind) quiet_calls l;
      physical = λ h. each_left wrong ends (λ b i. HasPhysical i.kind) (λ b i. HasPhysical i.kind)
          (λ b w x k. quiet_is HasPhysical w x.kind k (λ v r e. tt) (λ y n e. tt)) f.blocks h;
      numbers = le_trans (numbers_left l entries) (le_more (greatest (flat_map (λ (i : Item). numbers_of i.kind) (items_of f.blocks) ++ entries))
          (most_numbers 1 0 f));
      slots = le_more (greatest f.slots) (MAX_SLOTS * 0);
    }
