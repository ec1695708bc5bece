-- A function with roots for its explicit uses in which copies that go move a register into itself: a function between, with the
-- paths of the one before and the items of the one after.
use Rattle.std.proofs.Common.{◌≡◌, ◌⊎◌, inl, inr, ℕ, zero, suc, ◌<◌, List, [], ◌∷◌, filter, Option, Some, None, Bool, true}
use Rattle.std.proofs.Common.{false, cond, is_some, slice_get, refl, sym, ap, ◌∙◌, subst, arith}
use Rattle.rv64_instr.specs.declared.op.Op.TheVariants.{Copy}
use Rattle.rv64_instr.specs.declared.operand.Operand.TheVariants.{Def, Use}
use Rattle.rv64_instr.specs.Instruction.{Instruction}
use Rattle.rv64_instr.specs.Row.{Row, Fixes, Moves, Sets, Addresses, Loads, Stores, LoadsSlot, StoresSlot, Branches, Jumps, Calls, Returns, Unfit, row_of}
use Rattle.rv64_instr.specs.LocationEffects.{IsSlotStore}
use Rattle.mir_func.specs.declared.position.Pos.{Pos}
use Rattle.mir_func.specs.declared.position.Origin.{Origin}
use Rattle.mir_func.specs.declared.location.Loc.{Loc}
use Rattle.mir_func.specs.declared.block.Block.{Block}
use Rattle.mir_func.specs.declared.item.Item.{Item}
use Rattle.mir_func.specs.declared.item.ItemKind.{ItemKind}
use Rattle.mir_func.specs.declared.item.ItemKind.TheVariants.{Code, Mark, Phi}
use Rattle.mir_func.specs.Graph.{KindEdge, RowEdge}
use Rattle.sem_mir.specs.Follow.{OnRow, Counts}
use Rattle.pass_trait.specs.Rule.{item}
use Rattle.pass_salvage.proofs.Kin.{Kin, kin_itself, kin_save, kin_edge}
use Rattle.pass_edits.specs.Edits.{IsMove}
use Rattle.copyprop_block.specs.declared.roots.Root.{Root}
use Rattle.copyprop_block.specs.Roots.{root_of, renamed, known_source, outlives, roots_after}
use Rattle.copyprop_block.specs.Copied.{renamed_kind, roots_with}
use Rattle.copyprop_rule.specs.Rule.{goes}
use Rattle.copyprop_rule.proofs.Rows.{rooted, row_renamed}
use Rattle.rv64_instr.proofs.Moves.{moves_by}
use Rattle.copyprop_rule.proofs.Sizes.{known_moves}
use Rattle.copyprop_proof.specs.Renamed.{known_after}
use Rattle.copyprop_proof.proofs.Known.{IsClean, keeps_zero, not_itself}
use Rattle.copyprop_proof.proofs.ReplacedUsesMatch.{rooted_moves, none_known, some_known}
use Rattle.copyprop_proof.proofs.RootedKind.{kind_kin}
use Rattle.copyprop_proof.proofs.Chain.{clean_next}

-- a register moved into itself
abbrev pub self_copy : Row → Instruction
self_copy (Moves rd s) = record { op = Copy; operands = Def rd ∷ Use rd ∷ []; volatile = false }
self_copy _ = record { op = Copy; operands = []; volatile = false }

abbrev pub selfed_kind : List Root → ItemKind → ItemKind
selfed_kind e (Code i n) = cond (is_some (known_source e (row_of (renamed e i)))) (Code (self_copy (row_of (renamed e i))) n) (Code (renamed e i) n)
selfed_kind e (Mark v m) = Mark v m
selfed_kind e (Phi p n) = Phi p n

abbrev pub selfed_item : List Root → Item → Item
selfed_item e x = record x { kind = selfed_kind e x.kind }

abbrev pub selfed_items : List Root → List Item → List Item
selfed_items e [] = []
selfed_items e (x ∷ xs) = selfed_item e x ∷ selfed_items (known_after e (renamed_kind e x.kind)) xs

abbrev pub selfed_block : Block → Block
selfed_block b = record { id = b.id; items = selfed_items [] b.items; source_end = b.source_end }

-- what it is where the copy stays, and where it goes
pub selfed_stays : (e : List Root) (k : ItemKind) → goes e (renamed_kind e k) ≡ false → selfed_kind e k ≡ renamed_kind e k
selfed_stays e (Code i n) h = ap (λ (z : Bool). cond z (Code (self_copy (row_of (renamed e i))) n) (Code (renamed e i) n)) h
selfed_stays e (Mark v m) h = refl
selfed_stays e (Phi p n) h = refl

pub record Self (e : List Root) (i : Instruction) (n : Option ℕ) : Type 0 where
  pub rd : ℕ
  pub s : ℕ
  pub row : row_of (renamed e i) ≡ Moves (suc rd) s
  pub root : root_of e (suc rd) ≡ s
  pub instruction : Instruction
  pub is : selfed_kind e (Code i n) ≡ Code instruction n
  pub self : row_of instruction ≡ Moves (suc rd) (suc rd)

pub selfed_goes : (e : List Root) (i : Instruction) (n : Option ℕ) → is_some (known_source e (row_of (renamed e i))) ≡ true → Self e i n
selfed_goes e i n h =
    let w = some_known (known_source e (row_of (renamed e i))) h in
    let m = known_moves e (row_of (renamed e i)) w.0 w.1 in
    record {
      rd = m.0;
      s = w.0;
      row = m.1;
      root = m.2;
      instruction = self_copy (row_of (renamed e i));
      is = ap (λ (z : Bool). cond z (Code (self_copy (row_of (renamed e i))) n) (Code (renamed e i) n)) h;
      self = ap (λ (r : Row). row_of (self_copy r)) m.1;
    }

-- ---- ways

-- control goes the same way, and it stores in a slot only where the other does
pub record SameWay (k l : ItemKind) : Type 0 where
  pub edge : (p q : Pos) → KindEdge (λ n. n) k p q → KindEdge (λ n. n) l p q
  pub save : OnRow IsSlotStore l → OnRow IsSlotStore k

way_then : (k l m : ItemKind) → SameWay k l → SameWay l m → SameWay k m
way_then k l m a b = record { edge = λ p q h. b.edge p q (a.edge p q h); save = λ h. a.save (b.save h) }

kin_way : (k l : ItemKind) → Kin k l → SameWay k l
kin_way k l h = record {
  edge = λ p q e. elim (kin_edge k l h p q p e) as (λ _. KindEdge (λ n. n) l p q) [
    | inl w ↦ subst (KindEdge (λ n. n) l p) (sym w.0) w.1
    | inr w ↦ subst (KindEdge (λ n. n) l p) (sym w.1) w.2
  ];
  save = kin_save k l h;
}

self_way : (i j : Instruction) (n : Option ℕ) (rd s t : ℕ) → row_of i ≡ Moves rd s → row_of j ≡ Moves rd t → SameWay (Code i n) (Code j n)
self_way i j n rd s t a b = record {
  edge = λ p q h. subst (λ (r : Row). RowEdge (λ n. n) r p q) (sym b) (subst (λ (r : Row). RowEdge (λ n. n) r p q) a h);
  save = λ h. absurd (subst IsSlotStore b h);
}

pub selfed_way : (e : List Root) → IsClean e → (k : ItemKind) → SameWay k (selfed_kind e k)
selfed_way e clean (Code i n) = by_test (is_some (known_source e (row_of (renamed e i)))) refl where
  first : SameWay (Code i n) (Code (renamed e i) n)
  first = kin_way (Code i n) (Code (renamed e i) n) (kind_kin e (keeps_zero e clean) (Code i n))

  by_test : (z : Bool) → is_some (known_source e (row_of (renamed e i))) ≡ z →
      SameWay (Code i n) (cond z (Code (self_copy (row_of (renamed e i))) n) (Code (renamed e i) n))
  by_test false h = first
  by_test true h =
      let w = selfed_goes e i n h in
      way_then (Code i n) (Code (renamed e i) n) (Code (self_copy (row_of (renamed e i))) n) first
      (self_way (renamed e i) (self_copy (row_of (renamed e i))) n (suc w.rd) w.s (suc w.rd) w.row
      (ap (λ (r : Row). row_of (self_copy r)) w.row))
selfed_way e clean (Mark v m) = kin_way (Mark v m) (Mark v m) (kin_itself (Mark v m))
selfed_way e clean (Phi p m) = kin_way (Phi p m) (Phi p m) (kin_itself (Phi p m))

-- ---- what counts

-- something is known
pub record IsSome (e : List Root) : Type 0 where
  pub first : Root
  pub rest : List Root
  pub is : e ≡ first ∷ rest

filter_some : (p : Root → Bool) (e : List Root) → IsSome (filter p e) → IsSome e
filter_some p [] h = let bad : [] ≡ h.first ∷ h.rest = h.is in cc
filter_some p (x ∷ e) h = record { first = x; rest = e; is = refl }

-- a copy taught it, or it was known
some_after : (r : Row) (e : List Root) → IsSome (roots_after r e) → ((rd : ℕ) × (s : ℕ) × (r ≡ Moves rd s)) ⊎ IsSome e
some_after (Moves rd s) e h = inl (rd, s, refl)
some_after (Fixes rd n) e h = inr (filter_some (outlives (Fixes rd n)) e h)
some_after (Sets rd op a b) e h = inr (filter_some (outlives (Sets rd op a b)) e h)
some_after (Addresses rd n o) e h = inr (filter_some (outlives (Addresses rd n o)) e h)
some_after (Loads rd op b o) e h = inr (filter_some (outlives (Loads rd op b o)) e h)
some_after (Stores op rs b o) e h = inr (filter_some (outlives (Stores op rs b o)) e h)
some_after (LoadsSlot rd n) e h = inr (filter_some (outlives (LoadsSlot rd n)) e h)
some_after (StoresSlot rs n) e h = inr (filter_some (outlives (StoresSlot rs n)) e h)
some_after (Branches op a b t) e h = inr (filter_some (outlives (Branches op a b t)) e h)
some_after (Jumps t) e h = inr (filter_some (outlives (Jumps t)) e h)
some_after (Calls call) e h = inr (filter_some (outlives (Calls call)) e h)
some_after (Returns v) e h = inr (filter_some (outlives (Returns v)) e h)
some_after Unfit e h = inr (filter_some (outlives Unfit) e h)

module _ (e : List Root) (clean : IsClean e) where
  source_of : (i : Instruction) (rd s : ℕ) → row_of (renamed e i) ≡ Moves rd s → (t : ℕ) × (s ≡ root_of e t)
  source_of i rd s row = rooted_moves e (row_of i) rd s (sym (row_renamed e (keeps_zero e clean) i) ∙ row)

  -- a copy that stays moves no register into itself
  copy_counts : (i : Instruction) (rd s : ℕ) → row_of (renamed e i) ≡ Moves rd s → known_source e (row_of (renamed e i)) ≡ None → rd ≡ s → ⊥
  copy_counts i zero s row unknown same =
      let w = (moves_by (renamed e i) zero s row).real in let a = w.1 in omega (arith, same, a)
  copy_counts i (suc rd) s row unknown same =
      let w = source_of i (suc rd) s row in not_itself e clean rd s w.0 w.1 (ap (known_source e) (sym row) ∙ unknown) (sym same)

  counts_rooted : (r : Row) → ((rd s : ℕ) → rooted e r ≡ Moves rd s → rd ≡ s → ⊥) → Counts r → Counts (rooted e r)
  counts_rooted (Moves rd s) other h = other rd (root_of e s) refl
  counts_rooted (Branches op a b t) other h = h
  counts_rooted (Jumps t) other h = h
  counts_rooted _ other h = tt

  -- what stays counts where it did
  stays_counts : (k : ItemKind) → goes e (renamed_kind e k) ≡ false → OnRow Counts k → OnRow Counts (renamed_kind e k)
  stays_counts (Code i n) h c =
      let unknown = none_known (known_source e (row_of (renamed e i))) h in
      subst Counts (sym (row_renamed e (keeps_zero e clean) i))
      (counts_rooted (row_of i) (λ rd s row. copy_counts i rd s (row_renamed e (keeps_zero e clean) i ∙ row) unknown) c)
  stays_counts (Mark v m) h c = c
  stays_counts (Phi p m) h c = c

  -- and what goes moved a register into itself, or something was known
  goes_knows : (i : Instruction) (n : Option ℕ) → is_some (known_source e (row_of (renamed e i))) ≡ true → Counts (row_of i) → IsSome e
  goes_knows i n h c =
      let w = selfed_goes e i n h in
      by_row (row_of i) c (sym (row_renamed e (keeps_zero e clean) i) ∙ w.row) w.root where
        by_roots : (a : List Root) (rd t : ℕ) → root_of a (suc rd) ≡ root_of a t → (suc rd ≡ t → ⊥) → IsSome a
        by_roots [] rd t same ne = absurd (ne same)
        by_roots (x ∷ a) rd t same ne = record { first = x; rest = a; is = refl }

        by_row : {rd s : ℕ} (r : Row) → Counts r → rooted e r ≡ Moves (suc rd) s → root_of e (suc rd) ≡ s → IsSome e
        by_row {rd} {s} (Moves rd' t) k is root =
            let a : rd' ≡ suc rd = cc in
            let b : root_of e t ≡ s = cc in
            by_roots e rd t (root ∙ sym b) (λ same. k (a ∙ same))
        by_row (Fixes rd' m) k is root = cc
        by_row (Sets rd' op a b) k is root = cc
        by_row (Addresses rd' m o) k is root = cc
        by_row (Loads rd' op b o) k is root = cc
        by_row (Stores op rs b o) k is root = cc
        by_row (LoadsSlot rd' m) k is root = cc
        by_row (StoresSlot rs m) k is root = cc
        by_row (Branches op a b t) k is root = cc
        by_row (Jumps t) k is root = cc
        by_row (Calls call) k is root = cc
        by_row (Returns v) k is root = cc
        by_row Unfit k is root = cc

-- a copy that counts, above
pub record Witness (xs ys : List Item) (below_it : ℕ) : Type 0 where
  pub index : ℕ
  pub above : index < below_it
  pub old : Item
  pub new : Item
  pub at : slice_get xs index ≡ Some old
  pub at_new : slice_get ys index ≡ Some new
  pub origin : new.origin ≡ old.origin
  pub move : IsMove old.kind
  pub counts : OnRow Counts new.kind

further : (x y : Item) (xs ys : List Item) (n : ℕ) → Witness xs ys n → Witness (x ∷ xs) (y ∷ ys) (suc n)
further x y xs ys n w = record {
  index = suc w.index;
  above = (let lt = w.above in omega (arith, lt));
  old = w.old;
  new = w.new;
  at = w.at;
  at_new = w.at_new;
  origin = w.origin;
  move = w.move;
  counts = w.counts;
}

-- code from whose row a move was made is a move
move_back : (e : List Root) (clean : IsClean e) (i : Instruction) (n : Option ℕ) (rd s : ℕ) → row_of (renamed e i) ≡ Moves rd s → IsMove (Code i n)
move_back e clean i n rd s row = by_row (row_of i) refl (sym (row_renamed e (keeps_zero e clean) i) ∙ row) where
  by_row : (r : Row) → row_of i ≡ r → rooted e r ≡ Moves rd s → (d : ℕ) × (t : ℕ) × (row_of i ≡ Moves d t)
  by_row (Moves d t) is h = (d, t, is)
  by_row _ is h = cc

-- what is known behind an item was known, or the item is a copy that counts
known_behind : (e : List Root) (clean : IsClean e) (k : ItemKind) (o : Origin) (l : Loc) (xs : List Item) → IsSome (known_after e (renamed_kind e k)) →
    IsSome e ⊎ Witness (item k o l ∷ xs) (selfed_items e (item k o l ∷ xs)) 1
known_behind e clean (Mark v m) o l xs h = inl h
known_behind e clean (Phi p m) o l xs h = inl h
known_behind e clean (Code i n) o l xs h = by_test (is_some (known_source e (row_of (renamed e i)))) refl h where
  by_test : (z : Bool) → is_some (known_source e (row_of (renamed e i))) ≡ z → IsSome (cond z e (roots_after (row_of (renamed e i)) e)) →
      IsSome e ⊎ Witness (item (Code i n) o l ∷ xs) (selfed_items e (item (Code i n) o l ∷ xs)) 1
  by_test true is k = inl k
  by_test false is k = elim (some_after (row_of (renamed e i)) e k) [
    | inr some ↦ inl some
    | inl w ↦ inr (record {
      index = 0;
      above = omega arith;
      old = item (Code i n) o l;
      new = selfed_item e (item (Code i n) o l);
      at = refl;
      at_new = refl;
      origin = refl;
      move = move_back e clean i n w.0 w.1 w.2;
      counts = subst (OnRow Counts) (sym (selfed_stays e (Code i n) is))
          (subst Counts (sym w.2) (copy_counts e clean i w.0 w.1 w.2 (none_known (known_source e (row_of (renamed e i))) is)));
    })
  ]

-- what counted counts still, or something was known there, or a copy that counts stands above
pub counts_or : (xs : List Item) (e : List Root) → IsClean e → (n : ℕ) (x y : Item) → slice_get xs n ≡ Some x → slice_get (selfed_items e xs) n ≡ Some y →
    OnRow Counts x.kind → OnRow Counts y.kind ⊎ (IsSome e ⊎ Witness xs (selfed_items e xs) n)
counts_or [] e clean n x y a b c = cc
counts_or (z ∷ xs) e clean zero x y a b c =
    let same : z ≡ x = cc in
    let same' : selfed_item e z ≡ y = cc in
    elim (here z.kind (subst (λ (i : Item). OnRow Counts i.kind) (sym same) c)) [
      | inl k ↦ inl (subst (λ (i : Item). OnRow Counts i.kind) same' k)
      | inr k ↦ inr (inl k)
    ] where
      here : (k : ItemKind) → OnRow Counts k → OnRow Counts (selfed_kind e k) ⊎ IsSome e
      here (Mark v m) h = inl h
      here (Phi p m) h = inl h
      here (Code i n) h = by_test (is_some (known_source e (row_of (renamed e i)))) refl where
        by_test : (t : Bool) → is_some (known_source e (row_of (renamed e i))) ≡ t →
            OnRow Counts (cond t (Code (self_copy (row_of (renamed e i))) n) (Code (renamed e i) n)) ⊎ IsSome e
        by_test true is = inr (goes_knows e clean i n is h)
        by_test false is = inl (stays_counts e clean (Code i n) is h)
counts_or (z ∷ xs) e clean (suc n) x y a b c =
    elim (counts_or xs (known_after e (renamed_kind e z.kind)) (clean_after_item e clean z.kind) n x y a b c) [
      | inl k ↦ inl k
      | inr k ↦ inr (behind k)
    ] where
      clean_after_item : (e : List Root) → IsClean e → (k : ItemKind) → IsClean (known_after e (renamed_kind e k))
      clean_after_item e clean k = by_test (goes e (renamed_kind e k)) refl where
        by_test : (t : Bool) → goes e (renamed_kind e k) ≡ t → IsClean (cond t e (roots_with (renamed_kind e k) e))
        by_test true is = clean
        by_test false is = clean_next e clean k is

      widen : Witness (z ∷ xs) (selfed_items e (z ∷ xs)) 1 → Witness (z ∷ xs) (selfed_items e (z ∷ xs)) (suc n)
      widen w = record {
        index = w.index;
        above = (let lt = w.above in omega (arith, lt));
        old = w.old;
        new = w.new;
        at = w.at;
        at_new = w.at_new;
        origin = w.origin;
        move = w.move;
        counts = w.counts;
      }

      behind : IsSome (known_after e (renamed_kind e z.kind)) ⊎ Witness xs (selfed_items (known_after e (renamed_kind e z.kind)) xs) n →
          IsSome e ⊎ Witness (z ∷ xs) (selfed_items e (z ∷ xs)) (suc n)
      behind (inl k) = elim (known_behind e clean z.kind z.origin z.loc xs k) [ inl some ↦ inl some | inr w ↦ inr (widen w) ]
      behind (inr w) = inr (further z (selfed_item e z) xs (selfed_items (known_after e (renamed_kind e z.kind)) xs) n w)
