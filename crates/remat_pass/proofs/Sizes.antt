-- A function with constants set again is as large as it was.
use Rattle.std.proofs.Common.{◌≡◌, ℕ, suc, ◌+◌, ◌*◌, ◌≤◌, Some, None, List, [], ◌∷◌, ◌++◌, length, count_by, Bool, false, cond, refl, sym, ap, ◌∙◌, arith}
use Rattle.std.specs.List.{flat_map}
use Rattle.std.proofs.lemmas.List.Sums.{sum_by-cons}
use Rattle.rv64_instr.specs.LocationEffects.{is_call}
use Rattle.mir_func.specs.declared.debug_substitution.DebugSubstitution.{DebugSubstitution}
use Rattle.mir_func.specs.declared.item.Item.{Item}
use Rattle.mir_func.specs.declared.item.ItemKind.{ItemKind}
use Rattle.mir_func.specs.declared.item.ItemKind.TheVariants.{Code, Mark, Phi}
use Rattle.mir_func.specs.Function.{Function}
use Rattle.mir_func.specs.Limits.{MAX_BLOCKS, MAX_SLOTS}
use Rattle.mir_func.specs.Sound.{items_of}
use Rattle.mir_func.specs.SoundFrame.{IsPhysical, HasPhysical}
use Rattle.mir_func.specs.Calls.{is_call_kind}
use Rattle.sem_mir.specs.Align.{is_code}
use Rattle.pass_trait.specs.Change.{change}
use Rattle.pass_trait.specs.Sizes.{greatest, most_numbers, numbers_of, KeepsSizes}
use Rattle.remat_pass.specs.Known.{Known}
use Rattle.remat_pass.specs.Remat.{constant_for, set_or_same, set_in, set_blocks, rematerialized}
use Rattle.remat_pass.specs.Partly.{MayBeSet, AreItemsSet, none, next}
use Rattle.remat_pass.proofs.Replaced.{replaced, row_stays}
use Rattle.remat_pass.proofs.Pairs.{operands_replaced}
use Rattle.remat_pass.proofs.Partly.{kept_by, all_items_set, blocks_set}
use Rattle.remat_pass.proofs.Sound.{kinds_set}

length_set : (xs ys : List Item) → AreItemsSet xs ys → length ys ≡ length xs
length_set xs ys none = refl
length_set (x ∷ xs) (y ∷ ys) (next m rest) = ap suc (length_set xs ys rest)

count_set : (p : Item → Bool) → ((x y : Item) → MayBeSet x y → p y ≡ p x) → (xs ys : List Item) → AreItemsSet xs ys → count_by p ys ≡ count_by p xs
count_set p same xs ys none = refl
count_set p same (x ∷ xs) (y ∷ ys) (next m rest) =
    let after : count_by p (y ∷ ys) ≡ cond (p y) 1 0 + count_by p ys = sum_by-cons (λ (i : Item). cond (p i) 1 0) y ys in
    let before : count_by p (x ∷ xs) ≡ cond (p x) 1 0 + count_by p xs = sum_by-cons (λ (i : Item). cond (p i) 1 0) x xs in
    let e = same x y m in
    let es = count_set p same xs ys rest in
    after ∙ ((λ t. cond (e t) 1 0 + es t) ∙ sym before)

flat_set : (h : Item → List ℕ) → ((x y : Item) → MayBeSet x y → h y ≡ h x) → (xs ys : List Item) → AreItemsSet xs ys → flat_map h ys ≡ flat_map h xs
flat_set h same xs ys none = refl
flat_set h same (x ∷ xs) (y ∷ ys) (next m rest) = let e = same x y m in let es = flat_set h same xs ys rest in λ t. e t ++ es t

code_kept : (known : Known) (k : ItemKind) → is_code (set_in known k) ≡ is_code k
code_kept known (Code i n) = refl
code_kept known (Mark v m) = refl
code_kept known (Phi p n) = refl

calls_kept : (known : Known) (k : ItemKind) → is_call_kind (set_in known k) ≡ is_call_kind k
calls_kept known (Code i n) =
    row_stays is_call false (λ rd rs. refl) (λ rd s. refl) (λ rd m. refl) known i (set_or_same (constant_for known i) i) (replaced known i)
calls_kept known (Mark v m) = refl
calls_kept known (Phi p n) = refl

numbers_kept : (known : Known) (k : ItemKind) → numbers_of (set_in known k) ≡ numbers_of k
numbers_kept known (Code i None) = refl
numbers_kept known (Code i (Some n)) = refl
numbers_kept known (Mark v m) = refl
numbers_kept known (Phi p n) = refl

physical_kept : (known : Known) (k : ItemKind) → HasPhysical k → HasPhysical (set_in known k)
physical_kept known (Code i n) h =
    operands_replaced IsPhysical (omega arith) (λ z. tt) known i (set_or_same (constant_for known i) i) (replaced known i) h
physical_kept known (Mark v m) h = h
physical_kept known (Phi p n) h = h

no_more : (n m k : ℕ) → n ≡ m → n ≤ 1 * (m + MAX_BLOCKS * k)
no_more n m k e = omega (arith, e)

as_many : (n m : ℕ) → n ≡ m → n ≤ m
as_many n m e = omega (arith, e)

le_more : (n m k : ℕ) → n ≡ m → n ≤ m + k
le_more n m k e = omega (arith, e)

pub sizes_rematerialized : (count : ℕ) (f : Function) (subs : List DebugSubstitution) → KeepsSizes 1 count (change f subs (rematerialized f) subs)
sizes_rematerialized count f subs =
    let xs : List Item = items_of f.blocks in
    let ys : List Item = items_of (set_blocks f.blocks) in
    let r : AreItemsSet xs ys = all_items_set f.blocks (set_blocks f.blocks) (blocks_set f.blocks) in
    let entries : List ℕ = flat_map (λ s. s.src.number ∷ s.dst.number ∷ []) subs in
    record {
      items = no_more (length ys) (length xs) count (length_set xs ys r);
      code = no_more (count_by (λ i. is_code i.kind) ys) (count_by (λ i. is_code i.kind) xs) count
          (count_set (λ i. is_code i.kind) (λ x y m. kept_by is_code code_kept x y m) xs ys r);
      calls = as_many (count_by (λ i. is_call_kind i.kind) ys) (count_by (λ i. is_call_kind i.kind) xs)
          (count_set (λ i. is_call_kind i.kind) (λ x y m. kept_by is_call_kind calls_kept x y m) xs ys r);
      physical = λ h. kinds_set HasPhysical HasPhysical (λ k p. p) physical_kept f.blocks (set_blocks f.blocks) (blocks_set f.blocks) h;
      numbers = le_more (greatest (flat_map (λ i. numbers_of i.kind) ys ++ entries)) (greatest (flat_map (λ i. numbers_of i.kind) xs ++ entries))
          (most_numbers 1 count f)
          (ap (λ (ns : List ℕ). greatest (ns ++ entries)) (flat_set (λ i. numbers_of i.kind) (λ x y m. kept_by numbers_of numbers_kept x y m) xs ys r));
      slots = le_more (greatest f.slots) (greatest f.slots) (MAX_SLOTS * count) refl;
    }
