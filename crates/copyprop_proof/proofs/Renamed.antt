-- A function with roots for its explicit uses is a function still, and follows what it followed.
use Rattle.std.proofs.Common.{◌≡◌, ℕ, zero, suc, ◌≤◌, List, [], ◌∷◌, ◌++◌, map, length, All, Option, Some, None, Bool, true, false, cond}
use Rattle.std.proofs.Common.{slice_get, is_some, ◌+◌, refl, sym, ap, ◌∙◌, subst}
use Rattle.std.proofs.lemmas.List.{length-map, map-append}
use Rattle.std.proofs.lemmas.List.Elements.{All-nil, All-cons, All-head, All-tail, All-map, All-weaker}
use Rattle.rv64_instr.specs.declared.operand.Operand.{Operand}
use Rattle.rv64_instr.specs.declared.operand.Operand.TheVariants.{Def, Use, Outgoing}
use Rattle.rv64_instr.specs.Row.{Base, PointedBy, ObjectAt, BesidePart}
use Rattle.rv64_instr.specs.Instruction.{Instruction}
use Rattle.rv64_instr.specs.Row.{Row, Calls, Fixes, Moves, Addresses, Loads, Stores, LoadsSlot, StoresSlot, Branches, Jumps, row_of}
use Rattle.rv64_instr.specs.Arithmetic.{load_width, store_width}
use Rattle.mir_func.specs.declared.block.Block.{Block}
use Rattle.mir_func.specs.declared.debug_substitution.OperandPair.{OperandPair}
use Rattle.mir_func.specs.declared.item.Item.{Item}
use Rattle.mir_func.specs.declared.item.ItemKind.{ItemKind}
use Rattle.mir_func.specs.declared.item.ItemKind.TheVariants.{Code, Mark, Phi}
use Rattle.mir_func.specs.declared.object.Object.{Object as StackObject}
use Rattle.mir_func.specs.declared.position.Origin.{Origin}
use Rattle.mir_func.specs.declared.position.Origin.TheVariants.{Kept, Before}
use Rattle.mir_func.specs.declared.exit.Exit.{Exit}
use Rattle.mir_func.specs.declared.exit.Exit.TheVariants.{Onward, Perhaps, Always, Final}
use Rattle.mir_func.specs.Exits.{row_exit, exit_of, IsAlways, Leaves}
use Rattle.mir_func.specs.Function.{Function}
use Rattle.mir_func.specs.Limits.{MAX_BLOCKS}
use Rattle.mir_func.specs.Resolve.{resolve}
use Rattle.mir_func.specs.Graph.{Program, program_of}
use Rattle.mir_func.specs.Sound.{AreApart, AllItems, ids_of, items_of, number_of, code_number, NumbersOnce, OriginIn, TargetIn, TargetsIn, SlotIn, SlotsIn}
use Rattle.mir_func.specs.Sound.{PassedIn, BaseHasBytes, ObjectIn, ObjectsIn, IsNotPointer, LeavesPointer, IsJumpAtMost, MayFollow, EndsWell, Closes}
use Rattle.mir_func.specs.Sound.{LastCloses, IsSound, PassesFirst, KindPassesFirst}
use Rattle.pass_salvage.proofs.Edits.{Edited, over, pair, BlocksEdited, no_blocks, next_block}
use Rattle.pass_edits.proofs.Edited.{edited_loosely}
use Rattle.copyprop_block.specs.declared.roots.Root.{Root}
use Rattle.copyprop_block.specs.Roots.{renamed_operand, renamed, known_source, roots_after}
use Rattle.copyprop_block.specs.Copied.{renamed_kind, renamed_item, roots_with}
use Rattle.copyprop_rule.specs.Rule.{goes}
use Rattle.copyprop_rule.proofs.Rows.{rooted_base, rooted, row_renamed}
use Rattle.rv64_instr.proofs.Moves.{moves_by}
use Rattle.copyprop_rule.proofs.Roots.{Reals, real_root, real_after}
use Rattle.copyprop_proof.specs.Renamed.{known_after, renamed_items, renamed_block, renamed_function, RenamingFollows}
use Rattle.copyprop_proof.proofs.Known.{IsClean, clean_none, keeps_zero, clean_after}
use Rattle.copyprop_proof.proofs.RootedKind.{kind_kin}
use Rattle.copyprop_proof.proofs.ReplacedUsesMatch.{rooted_moves, Rooted, stays, goes_later, rooted_edits, RootCores, rooted_keeps, rooted_itself}

-- ---- what holds of each item

abbrev IsOther : ℕ → Type 0
IsOther r = r ≡ 2 → ⊥

-- roots are clean and none is x2
pub record AreGood (e : List Root) : Type 0 where
  pub clean : IsClean e
  pub other : Reals IsOther e

good_none : AreGood []
good_none = record { clean = clean_none; other = All-nil (λ (x : Root). IsOther x.root) }

operand_other : (e : List Root) → Reals IsOther e → (o : Operand) → IsNotPointer o → IsNotPointer (renamed_operand e o)
operand_other e h (Use r) p = real_root IsOther e r h p
operand_other e h _ p = p

operands_other : (e : List Root) → Reals IsOther e → (os : List Operand) → All IsNotPointer os → All IsNotPointer (map (renamed_operand e) os)
operands_other e h os p = All-map IsNotPointer (renamed_operand e) os
    (All-weaker IsNotPointer (λ (o : Operand). IsNotPointer (renamed_operand e o)) (operand_other e h) os p)

-- a copy's source is one of its operands
source_other : (i : Instruction) (rd s : ℕ) → row_of i ≡ Moves rd s → All IsNotPointer i.operands → IsOther s
source_other i rd s is h =
    let w = moves_by i rd s is in
    let all : All IsNotPointer (Def rd ∷ Use s ∷ w.rest) = subst (All IsNotPointer) w.operands h in
    All-head IsNotPointer (Use s) w.rest (All-tail IsNotPointer (Def rd) (Use s ∷ w.rest) all)

-- what is known after an item is good
good_after : (e : List Root) (k : ItemKind) → AreGood e → LeavesPointer k → AreGood (known_after e (renamed_kind e k))
good_after e (Mark v m) h p = h
good_after e (Phi q m) h p = h
good_after e (Code i n) h p = by_source (known_source e (row_of (renamed e i))) refl where
  by_source : (s : Option ℕ) → known_source e (row_of (renamed e i)) ≡ s → AreGood (cond (is_some s) e (roots_after (row_of (renamed e i)) e))
  by_source (Some s) is = h
  by_source None is = record {
    clean = clean_after e h.clean (row_of (renamed e i))
        (λ rd s row. (rooted_moves e (row_of i) rd s (sym (row_renamed e (keeps_zero e h.clean) i) ∙ row), (moves_by (renamed e i) rd s row).real)) is;
    other = real_after IsOther (row_of (renamed e i)) e (λ rd s row. source_other (renamed e i) rd s row (operands_other e h.other i.operands p)) h.other;
  }

-- ---- the edits

module _ (f g : Program) (blind_f : f.sees_pointer ≡ false) (blind_g : g.sees_pointer ≡ false) (resolves : (q : OperandPair) → g.resolve q ≡ f.resolve q) where
  items_edited : (xs : List Item) (e : List Root) → AreGood e → All (λ (i : Item). LeavesPointer i.kind) xs →
      Edited (rooted_edits f g blind_f blind_g resolves) e xs (renamed_items e xs)
  items_edited [] e h all = over tt
  items_edited (x ∷ xs) e h all =
      by_test (goes e (renamed_kind e x.kind)) refl
      (items_edited xs (known_after e (renamed_kind e x.kind)) (good_after e x.kind h (All-head (λ (i : Item). LeavesPointer i.kind) x xs all))
      (All-tail (λ (i : Item). LeavesPointer i.kind) x xs all)) where
        by_test : (z : Bool) → goes e (renamed_kind e x.kind) ≡ z →
            Edited (rooted_edits f g blind_f blind_g resolves) (cond (goes e (renamed_kind e x.kind)) e (roots_with (renamed_kind e x.kind) e)) xs
            (renamed_items (cond (goes e (renamed_kind e x.kind)) e (roots_with (renamed_kind e x.kind) e)) xs) →
            Edited (rooted_edits f g blind_f blind_g resolves) e (x ∷ xs)
            (renamed_item e x ∷ renamed_items (cond (goes e (renamed_kind e x.kind)) e (roots_with (renamed_kind e x.kind) e)) xs)
        by_test true is more =
            let later : List Root → List Item = λ a. renamed_items a xs in
            let same : cond (goes e (renamed_kind e x.kind)) e (roots_with (renamed_kind e x.kind) e) ≡ e =
            ap (λ (z : Bool). cond z e (roots_with (renamed_kind e x.kind) e)) is in
            pair refl (kind_kin e (keeps_zero e h.clean) x.kind)
            (subst (λ (a : List Root). Rooted f g blind_f blind_g resolves e a x (renamed_item e x)) (sym same) (goes_later h.clean is)) more
        by_test false is more =
            let same : cond (goes e (renamed_kind e x.kind)) e (roots_with (renamed_kind e x.kind) e) ≡ roots_with (renamed_kind e x.kind) e =
            ap (λ (z : Bool). cond z e (roots_with (renamed_kind e x.kind) e)) is in
            pair refl (kind_kin e (keeps_zero e h.clean) x.kind)
            (subst (λ (a : List Root). Rooted f g blind_f blind_g resolves e a x (renamed_item e x)) (sym same) (stays h.clean is)) more

  blocks_edited : (bs : List Block) → AllItems (λ i. LeavesPointer i.kind) bs →
      BlocksEdited (rooted_edits f g blind_f blind_g resolves) bs (map renamed_block bs)
  blocks_edited [] all = no_blocks
  blocks_edited (b ∷ bs) all =
      next_block refl refl
      (items_edited b.items [] good_none (All-head (λ (c : Block). All (λ (i : Item). LeavesPointer i.kind) c.items) b bs all))
      (blocks_edited bs (All-tail (λ (c : Block). All (λ (i : Item). LeavesPointer i.kind) c.items) b bs all))

-- ---- the function is sound

target_rooted : (e : List Root) (ids : List ℕ) (r : Row) → TargetIn ids r → TargetIn ids (rooted e r)
target_rooted e ids (Branches op a b t) h = h
target_rooted e ids (Jumps t) h = h
target_rooted e ids _ h = tt

slot_rooted : (e : List Root) (slots : List ℕ) (r : Row) → SlotIn slots r → SlotIn slots (rooted e r)
slot_rooted e slots (LoadsSlot rd n) h = h
slot_rooted e slots (StoresSlot rs n) h = h
slot_rooted e slots _ h = tt

first_rooted : (e : List Root) (slots : List ℕ) (r : Row) → PassesFirst slots r → PassesFirst slots (rooted e r)
first_rooted e slots (Calls call) h = h
first_rooted e slots _ h = tt

base_rooted : (e : List Root) (objects : List StackObject) (b : Base) (n : ℕ) → BaseHasBytes objects b n → BaseHasBytes objects (rooted_base e b) n
base_rooted e objects (PointedBy r) n h = tt
base_rooted e objects (ObjectAt m) n h = h
base_rooted e objects (BesidePart r y) n h = tt

object_rooted : (e : List Root) (objects : List StackObject) (r : Row) → ObjectIn objects r → ObjectIn objects (rooted e r)
object_rooted e objects (Addresses rd n o) h = h
object_rooted e objects (Loads rd op b o) h = base_rooted e objects b (o + load_width op) h
object_rooted e objects (Stores op rs b o) h = base_rooted e objects b (o + store_width op) h
object_rooted e objects _ h = tt

exit_rooted : (e : List Root) (r : Row) → row_exit (rooted e r) ≡ row_exit r
exit_rooted e (Fixes rd n) = refl
exit_rooted e _ = refl

kind_exit : (e : List Root) → IsClean e → (k : ItemKind) → exit_of (renamed_kind e k) ≡ exit_of k
kind_exit e clean (Code i n) = ap row_exit (row_renamed e (keeps_zero e clean) i) ∙ exit_rooted e (row_of i)
kind_exit e clean (Mark v m) = refl
kind_exit e clean (Phi p m) = refl

-- a property of kinds that holds where the row is rooted
module _ (P : ItemKind → Type 0) (rooted_too : (e : List Root) (k : ItemKind) → AreGood e → LeavesPointer k → P k → P (renamed_kind e k)) where
  each_item : (xs : List Item) (e : List Root) → AreGood e → All (λ (i : Item). LeavesPointer i.kind) xs → All (λ (i : Item). P i.kind) xs →
      All (λ (i : Item). P i.kind) (renamed_items e xs)
  each_item [] e h other all = All-nil (λ (i : Item). P i.kind)
  each_item (x ∷ xs) e h other all =
      let p = All-head (λ (i : Item). LeavesPointer i.kind) x xs other in
      All-cons (λ (i : Item). P i.kind) (renamed_item e x) (renamed_items (known_after e (renamed_kind e x.kind)) xs)
      (rooted_too e x.kind h p (All-head (λ (i : Item). P i.kind) x xs all))
      (each_item xs (known_after e (renamed_kind e x.kind)) (good_after e x.kind h p) (All-tail (λ (i : Item). LeavesPointer i.kind) x xs other)
      (All-tail (λ (i : Item). P i.kind) x xs all))

  each_block : (bs : List Block) → AllItems (λ i. LeavesPointer i.kind) bs → AllItems (λ i. P i.kind) bs → AllItems (λ i. P i.kind) (map renamed_block bs)
  each_block [] other all = All-nil (λ (b : Block). All (λ (i : Item). P i.kind) b.items)
  each_block (b ∷ bs) other all =
      All-cons (λ (c : Block). All (λ (i : Item). P i.kind) c.items) (renamed_block b) (map renamed_block bs)
      (each_item b.items [] good_none (All-head (λ (c : Block). All (λ (i : Item). LeavesPointer i.kind) c.items) b bs other)
      (All-head (λ (c : Block). All (λ (i : Item). P i.kind) c.items) b bs all))
      (each_block bs (All-tail (λ (c : Block). All (λ (i : Item). LeavesPointer i.kind) c.items) b bs other)
      (All-tail (λ (c : Block). All (λ (i : Item). P i.kind) c.items) b bs all))

-- origins stay
origins_in : (b : Block) (xs : List Item) (e : List Root) → All (λ (i : Item). OriginIn b i.origin) xs →
    All (λ (i : Item). OriginIn b i.origin) (renamed_items e xs)
origins_in b [] e all = All-nil (λ (i : Item). OriginIn b i.origin)
origins_in b (x ∷ xs) e all =
    All-cons (λ (i : Item). OriginIn b i.origin) (renamed_item e x) (renamed_items (known_after e (renamed_kind e x.kind)) xs)
    (All-head (λ (i : Item). OriginIn b i.origin) x xs all)
    (origins_in b xs (known_after e (renamed_kind e x.kind)) (All-tail (λ (i : Item). OriginIn b i.origin) x xs all))

in_block : (b : Block) (o : Origin) → OriginIn b o → OriginIn (renamed_block b) o
in_block b (Kept p) h = h
in_block b (Before p) h = h

origins_same : (bs : List Block) → All (λ (b : Block). All (λ (i : Item). OriginIn b i.origin) b.items) bs →
    All (λ (b : Block). All (λ (i : Item). OriginIn b i.origin) b.items) (map renamed_block bs)
origins_same bs all = All-map (λ (b : Block). All (λ (i : Item). OriginIn b i.origin) b.items) renamed_block bs
    (All-weaker (λ (b : Block). All (λ (i : Item). OriginIn b i.origin) b.items)
    (λ (b : Block). All (λ (i : Item). OriginIn (renamed_block b) i.origin) (renamed_items [] b.items))
    (λ b h. All-weaker (λ (i : Item). OriginIn b i.origin) (λ (i : Item). OriginIn (renamed_block b) i.origin) (λ i k. in_block b i.origin k)
    (renamed_items [] b.items)
    (origins_in b b.items [] h)) bs all)

-- numbers stay
kind_number : (e : List Root) (k : ItemKind) → number_of (renamed_kind e k) ≡ number_of k
kind_number e (Code i n) = refl
kind_number e (Mark v m) = refl
kind_number e (Phi p m) = refl

kind_code_number : (e : List Root) (k : ItemKind) → code_number (renamed_kind e k) ≡ code_number k
kind_code_number e (Code i n) = refl
kind_code_number e (Mark v m) = refl
kind_code_number e (Phi p m) = refl

abbrev both_of : Item → Option ℕ × Option ℕ
both_of i = (number_of i.kind, code_number i.kind)

abbrev numbers : List Item → List (Option ℕ × Option ℕ)
numbers xs = map both_of xs

numbers_in : (xs : List Item) (e : List Root) → numbers (renamed_items e xs) ≡ numbers xs
numbers_in [] e = refl
numbers_in (x ∷ xs) e =
    let a = kind_number e x.kind in
    let b = kind_code_number e x.kind in
    let c = numbers_in xs (known_after e (renamed_kind e x.kind)) in
    λ i. (a i, b i) ∷ c i

numbers_of_blocks : (bs : List Block) → numbers (items_of (map renamed_block bs)) ≡ numbers (items_of bs)
numbers_of_blocks [] = refl
numbers_of_blocks (b ∷ bs) =
    map-append both_of (renamed_items [] b.items) (items_of (map renamed_block bs)) ∙
    (let x = numbers_in b.items [] in let y = numbers_of_blocks bs in λ i. x i ++ y i) ∙
    sym (map-append both_of b.items (items_of bs))

-- what stands at an index has the numbers of what stood there
at_same : (xs ys : List Item) → numbers ys ≡ numbers xs → (j : ℕ) (y : Item) → slice_get ys j ≡ Some y →
    (x : Item) × (slice_get xs j ≡ Some x) × (number_of y.kind ≡ number_of x.kind) × (code_number y.kind ≡ code_number x.kind)
at_same xs [] e j y at = cc
at_same [] (z ∷ ys) e j y at = cc
at_same (x ∷ xs) (z ∷ ys) e zero y at =
    let w : z ≡ y = cc in
    let first : both_of z ≡ both_of x = cc in (
      x,
      refl,
      sym (ap (λ (i : Item). number_of i.kind) w) ∙ ap (λ (p : Option ℕ × Option ℕ). p.0) first,
      sym (ap (λ (i : Item). code_number i.kind) w) ∙ ap (λ (p : Option ℕ × Option ℕ). p.1) first,
    )
at_same (x ∷ xs) (z ∷ ys) e (suc j) y at = let rest : numbers ys ≡ numbers xs = cc in at_same xs ys rest j y at

once_same : (xs ys : List Item) → numbers ys ≡ numbers xs → NumbersOnce xs → NumbersOnce ys
once_same xs ys e once i j x y k atx cx aty ny =
    let a = at_same xs ys e i x atx in
    let b = at_same xs ys e j y aty in
    once i j a.0 b.0 k a.1 (sym a.3 ∙ cx) b.1 (sym b.2 ∙ ny)

-- ends stay
alone_item : (e : List Root) → IsClean e → (x : Item) → IsJumpAtMost (x ∷ []) → IsJumpAtMost (renamed_item e x ∷ [])
alone_item e clean x h = subst IsAlways (sym (kind_exit e clean x.kind)) h

may_follow : (e : List Root) → IsClean e → (out : Exit) (xs : List Item) → MayFollow out xs → MayFollow out (renamed_items e xs)
may_follow e clean Onward xs h = tt
may_follow e clean (Perhaps n) [] h = tt
may_follow e clean (Perhaps n) (x ∷ []) h = alone_item e clean x h
may_follow e clean (Perhaps n) (x ∷ y ∷ xs) h = absurd h
may_follow e clean (Always n) xs h = ap (renamed_items e) h
may_follow e clean Final xs h = ap (renamed_items e) h

ends_in : (xs : List Item) (e : List Root) → AreGood e → All (λ (i : Item). LeavesPointer i.kind) xs → EndsWell xs → EndsWell (renamed_items e xs)
ends_in [] e h other ends = tt
ends_in (x ∷ xs) e h other ends =
    let later = good_after e x.kind h (All-head (λ (i : Item). LeavesPointer i.kind) x xs other) in
    let rest = known_after e (renamed_kind e x.kind) in (
      subst (λ (z : Exit). MayFollow z (renamed_items rest xs)) (sym (kind_exit e h.clean x.kind)) (may_follow rest later.clean (exit_of x.kind) xs ends.0),
      ends_in xs rest later (All-tail (λ (i : Item). LeavesPointer i.kind) x xs other) ends.1,
    )

closes_in : (xs : List Item) (e : List Root) → AreGood e → All (λ (i : Item). LeavesPointer i.kind) xs → Closes xs → Closes (renamed_items e xs)
closes_in [] e h other ends = absurd ends
closes_in (x ∷ []) e h other ends = subst Leaves (sym (kind_exit e h.clean x.kind)) ends
closes_in (x ∷ y ∷ xs) e h other ends =
    closes_in (y ∷ xs) (known_after e (renamed_kind e x.kind)) (good_after e x.kind h (All-head (λ (i : Item). LeavesPointer i.kind) x (y ∷ xs) other))
    (All-tail (λ (i : Item). LeavesPointer i.kind) x (y ∷ xs) other) ends

abbrev Others : Block → Type 0
Others b = All (λ (i : Item). LeavesPointer i.kind) b.items

ends_same : (bs : List Block) → All Others bs → All (λ (b : Block). EndsWell b.items) bs → All (λ (b : Block). EndsWell b.items) (map renamed_block bs)
ends_same [] other all = All-nil (λ (b : Block). EndsWell b.items)
ends_same (b ∷ bs) other all =
    All-cons (λ (c : Block). EndsWell c.items) (renamed_block b) (map renamed_block bs)
    (ends_in b.items [] good_none (All-head Others b bs other) (All-head (λ (c : Block). EndsWell c.items) b bs all))
    (ends_same bs (All-tail Others b bs other) (All-tail (λ (c : Block). EndsWell c.items) b bs all))

last_same : (bs : List Block) → All Others bs → LastCloses bs → LastCloses (map renamed_block bs)
last_same [] other h = absurd h
last_same (b ∷ []) other h = closes_in b.items [] good_none (All-head Others b [] other) h
last_same (b ∷ c ∷ bs) other h = last_same (c ∷ bs) (All-tail Others b (c ∷ bs) other) h

ids_same : (bs : List Block) → ids_of (map renamed_block bs) ≡ ids_of bs
ids_same [] = refl
ids_same (b ∷ bs) = ap (λ (ns : List ℕ). b.id ∷ ns) (ids_same bs)

-- by the row of code
by_rooted : (P : Row → Type 0) → ((e : List Root) (r : Row) → P r → P (rooted e r)) → (e : List Root) (i : Instruction) → IsClean e → P (row_of i) →
    P (row_of (renamed e i))
by_rooted P f e i clean h = subst P (sym (row_renamed e (keeps_zero e clean) i)) (f e (row_of i) h)

kind_target : (ids : List ℕ) (e : List Root) (k : ItemKind) → AreGood e → LeavesPointer k → TargetsIn ids k → TargetsIn ids (renamed_kind e k)
kind_target ids e (Code i n) h p t = by_rooted (TargetIn ids) (λ a r. target_rooted a ids r) e i h.clean t
kind_target ids e (Mark v m) h p t = t
kind_target ids e (Phi q m) h p t = t

passed_same : (slots : List ℕ) (e : List Root) (a : Operand) → PassedIn slots a → PassedIn slots (renamed_operand e a)
passed_same slots e (Outgoing n) h = h
passed_same slots e _ h = tt

kind_slot : (slots : List ℕ) (e : List Root) (k : ItemKind) → AreGood e → LeavesPointer k → SlotsIn slots k → SlotsIn slots (renamed_kind e k)
kind_slot slots e (Code i n) h p t = (
  by_rooted (SlotIn slots) (λ a r. slot_rooted a slots r) e i h.clean t.0,
  All-map (PassedIn slots) (renamed_operand e) i.operands (All-weaker (PassedIn slots) (λ a. PassedIn slots (renamed_operand e a)) (passed_same slots e)
      i.operands t.1),
)
kind_slot slots e (Mark v m) h p t = t
kind_slot slots e (Phi q m) h p t = t

kind_first : (slots : List ℕ) (e : List Root) (k : ItemKind) → AreGood e → LeavesPointer k → KindPassesFirst slots k → KindPassesFirst slots (renamed_kind e k)
kind_first slots e (Code i n) h p t = by_rooted (PassesFirst slots) (λ a r. first_rooted a slots r) e i h.clean t
kind_first slots e (Mark v m) h p t = t
kind_first slots e (Phi q m) h p t = t

kind_object : (objects : List StackObject) (e : List Root) (k : ItemKind) → AreGood e → LeavesPointer k → ObjectsIn objects k →
    ObjectsIn objects (renamed_kind e k)
kind_object objects e (Code i n) h p t = by_rooted (ObjectIn objects) (λ a r. object_rooted a objects r) e i h.clean t
kind_object objects e (Mark v m) h p t = t
kind_object objects e (Phi q m) h p t = t

kind_other : (e : List Root) (k : ItemKind) → AreGood e → LeavesPointer k → LeavesPointer k → LeavesPointer (renamed_kind e k)
kind_other e (Code i n) h p t = operands_other e h.other i.operands t
kind_other e (Mark v m) h p t = t
kind_other e (Phi q m) h p t = t

pub sound_renamed : (f : Function) → IsSound f → IsSound (renamed_function f)
sound_renamed f s =
    let new : List Block = map renamed_block f.blocks in
    let ids : ids_of new ≡ ids_of f.blocks = ids_same f.blocks in
    record {
      blocks_apart = subst (λ (ns : List ℕ). AreApart ns) (sym ids) s.blocks_apart;
      slots_apart = s.slots_apart;
      objects_apart = s.objects_apart;
      few_blocks = subst (λ (n : ℕ). n ≤ MAX_BLOCKS) (sym (length-map f.blocks renamed_block)) s.few_blocks;
      few_slots = s.few_slots;
      each_object = s.each_object;
      objects_laid = s.objects_laid;
      targets = subst (λ (ns : List ℕ). All (λ (b : Block). All (λ (i : Item). TargetsIn ns i.kind) b.items) new) (sym ids)
          (each_block (TargetsIn (ids_of f.blocks)) (kind_target (ids_of f.blocks)) f.blocks s.pointer s.targets);
      slots = each_block (SlotsIn f.slots) (kind_slot f.slots) f.blocks s.pointer s.slots;
      passed = each_block (KindPassesFirst f.slots) (kind_first f.slots) f.blocks s.pointer s.passed;
      objects = each_block (ObjectsIn f.objects) (kind_object f.objects) f.blocks s.pointer s.objects;
      pointer = each_block LeavesPointer kind_other f.blocks s.pointer s.pointer;
      numbers = once_same (items_of f.blocks) (items_of new) (numbers_of_blocks f.blocks) s.numbers;
      origins = origins_same f.blocks s.origins;
      ends = ends_same f.blocks s.pointer s.ends;
      last = last_same f.blocks s.pointer s.last;
    }

pub renaming_follows : RenamingFollows
renaming_follows f subs s =
    let new = renamed_function f in
    let fp : Program = program_of false f.blocks (resolve subs) in
    let gp : Program = program_of false new.blocks (resolve subs) in (
      sound_renamed f s,
      edited_loosely (rooted_edits fp gp refl refl (λ q. refl)) (RootCores fp gp refl refl (λ q. refl))
          (record {
            empty = λ n. tt;
            falls = λ a b x h. absurd h;
            no_goes = λ a b x h. absurd h;
            no_end = λ a b x h. absurd h;
            kept = λ a b x h. absurd h;
            marks = λ a b y h. absurd h;
          })
          f new s (sound_renamed f s) subs subs refl (blocks_edited fp gp refl refl (λ q. refl) f.blocks s.pointer) (rooted_keeps fp gp refl refl (λ q. refl))
          (λ n c h. rooted_itself fp gp refl refl (λ q. refl) c),
    )
