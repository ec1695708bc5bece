-- A function whose calls and ends read the global registers is as large as it was.
use Rattle.std.proofs.Common.{◌≡◌, ℕ, suc, ◌+◌, ◌*◌, ◌≤◌, Some, None, List, [], ◌∷◌, ◌++◌, length, map, count_by, Bool, cond, refl, sym, ap, ◌∙◌, arith}
use Rattle.std.specs.List.{flat_map}
use Rattle.std.proofs.lemmas.List.Sums.{sum_by-cons}
use Rattle.rv64_instr.specs.LocationEffects.{is_call}
use Rattle.mir_func.specs.declared.debug_substitution.DebugSubstitution.{DebugSubstitution}
use Rattle.mir_func.specs.declared.item.Item.{Item}
use Rattle.mir_func.specs.declared.item.ItemKind.{ItemKind}
use Rattle.mir_func.specs.declared.item.ItemKind.TheVariants.{Code, Mark, Phi}
use Rattle.mir_func.specs.Function.{Function}
use Rattle.mir_func.specs.Limits.{MAX_BLOCKS, MAX_SLOTS}
use Rattle.mir_func.specs.Sound.{items_of}
use Rattle.mir_func.specs.SoundFrame.{IsPhysical, HasPhysical}
use Rattle.mir_func.specs.Calls.{is_call_kind}
use Rattle.sem_mir.specs.Align.{is_code}
use Rattle.pass_trait.specs.Change.{change}
use Rattle.pass_trait.specs.Sizes.{greatest, most_numbers, numbers_of, KeepsSizes}
use Rattle.global_registers.specs.Shared.{kind_by, block_by, function_by}
use Rattle.global_registers.proofs.Behind.{row_shared, operands_hold}
use Rattle.global_registers.proofs.Changed.{MayBeShared, AreItemsShared, none, next, kept_by, all_items_shared, blocks_shared}
use Rattle.global_registers.proofs.Sound.{kinds_shared}

length_shared : (xs ys : List Item) → AreItemsShared xs ys → length ys ≡ length xs
length_shared xs ys none = refl
length_shared (x ∷ xs) (y ∷ ys) (next m rest) = ap suc (length_shared xs ys rest)

count_shared : (p : Item → Bool) → ((x y : Item) → MayBeShared x y → p y ≡ p x) → (xs ys : List Item) → AreItemsShared xs ys → count_by p ys ≡ count_by p xs
count_shared p same xs ys none = refl
count_shared p same (x ∷ xs) (y ∷ ys) (next m rest) =
    let after : count_by p (y ∷ ys) ≡ cond (p y) 1 0 + count_by p ys = sum_by-cons (λ (i : Item). cond (p i) 1 0) y ys in
    let before : count_by p (x ∷ xs) ≡ cond (p x) 1 0 + count_by p xs = sum_by-cons (λ (i : Item). cond (p i) 1 0) x xs in
    let e = same x y m in
    let es = count_shared p same xs ys rest in
    after ∙ ((λ t. cond (e t) 1 0 + es t) ∙ sym before)

flat_shared : (h : Item → List ℕ) → ((x y : Item) → MayBeShared x y → h y ≡ h x) → (xs ys : List Item) → AreItemsShared xs ys → flat_map h ys ≡ flat_map h xs
flat_shared h same xs ys none = refl
flat_shared h same (x ∷ xs) (y ∷ ys) (next m rest) = let e = same x y m in let es = flat_shared h same xs ys rest in λ t. e t ++ es t

code_kept : (shares : Bool) (k : ItemKind) → is_code (kind_by shares k) ≡ is_code k
code_kept shares (Code i n) = refl
code_kept shares (Mark v m) = refl
code_kept shares (Phi p n) = refl

calls_kept : (shares : Bool) (k : ItemKind) → is_call_kind (kind_by shares k) ≡ is_call_kind k
calls_kept shares (Code i n) =
    ap is_call (row_shared shares i)
calls_kept shares (Mark v m) = refl
calls_kept shares (Phi p n) = refl

numbers_kept : (shares : Bool) (k : ItemKind) → numbers_of (kind_by shares k) ≡ numbers_of k
numbers_kept shares (Code i None) = refl
numbers_kept shares (Code i (Some n)) = refl
numbers_kept shares (Mark v m) = refl
numbers_kept shares (Phi p n) = refl

physical_kept : (shares : Bool) (k : ItemKind) → HasPhysical k → HasPhysical (kind_by shares k)
physical_kept shares (Code i n) h =
    operands_hold IsPhysical tt shares i h
physical_kept shares (Mark v m) h = h
physical_kept shares (Phi p n) h = h

no_more : (n m k : ℕ) → n ≡ m → n ≤ 1 * (m + MAX_BLOCKS * k)
no_more n m k e = omega (arith, e)

as_many : (n m : ℕ) → n ≡ m → n ≤ m
as_many n m e = omega (arith, e)

le_more : (n m k : ℕ) → n ≡ m → n ≤ m + k
le_more n m k e = omega (arith, e)

pub sizes_shared : (shares : Bool) (count : ℕ) (f : Function) (subs : List DebugSubstitution) →
    KeepsSizes 1 count (change f subs (function_by shares f) subs)
sizes_shared shares count f subs =
    let xs : List Item = items_of f.blocks in
    let ys : List Item = items_of (map (block_by shares) f.blocks) in
    let r : AreItemsShared xs ys = all_items_shared f.blocks (map (block_by shares) f.blocks) (blocks_shared shares f.blocks) in
    let entries : List ℕ = flat_map (λ s. s.src.number ∷ s.dst.number ∷ []) subs in
    record {
      items = no_more (length ys) (length xs) count (length_shared xs ys r);
      code = no_more (count_by (λ i. is_code i.kind) ys) (count_by (λ i. is_code i.kind) xs) count
          (count_shared (λ i. is_code i.kind) (λ x y m. kept_by is_code code_kept x y m) xs ys r);
      calls = as_many (count_by (λ i. is_call_kind i.kind) ys) (count_by (λ i. is_call_kind i.kind) xs)
          (count_shared (λ i. is_call_kind i.kind) (λ x y m. kept_by is_call_kind calls_kept x y m) xs ys r);
      physical = λ h. kinds_shared HasPhysical HasPhysical physical_kept f.blocks (map (block_by shares) f.blocks) (blocks_shared shares f.blocks) h;
      numbers = le_more (greatest (flat_map (λ i. numbers_of i.kind) ys ++ entries)) (greatest (flat_map (λ i. numbers_of i.kind) xs ++ entries))
          (most_numbers 1 count f)
          (ap (λ (ns : List ℕ). greatest (ns ++ entries)) (flat_shared (λ i. numbers_of i.kind) (λ x y m. kept_by numbers_of numbers_kept x y m) xs ys r));
      slots = le_more (greatest f.slots) (greatest f.slots) (MAX_SLOTS * count) refl;
    }
