-- The shape of the function with spilled registers.
use Rattle.std.proofs.Common.{◌≡◌, ℕ, ◌+◌, ◌*◌, ◌<◌, ◌≤◌, List, [], ◌∷◌, ◌++◌, map, All, Option, Some, None}
use Rattle.std.proofs.Common.{refl, sym, ap, ◌∙◌, subst, inl, inr, append_assoc, arith}
use Rattle.std.proofs.Math.Nat.{le_trans}
use Rattle.std.proofs.lemmas.List.Concat.{flat_map-cons}
use Rattle.std.proofs.lemmas.List.Elements.{All-nil, All-cons, All-head, All-tail, All-append, All-weaker, All-map}
use Rattle.rv64_instr.specs.Instruction.{Instruction}
use Rattle.rv64_instr.specs.Row.{Row, Fixes, LoadsSlot, StoresSlot, Branches, Jumps, row_of}
use Rattle.mir_func.specs.declared.debug_substitution.OperandPair.{OperandPair}
use Rattle.mir_func.specs.declared.position.Pos.{Pos}
use Rattle.mir_func.specs.declared.position.Origin.{Origin}
use Rattle.mir_func.specs.declared.position.Origin.TheVariants.{Kept, Before}
use Rattle.mir_func.specs.declared.location.Loc.{Loc}
use Rattle.mir_func.specs.declared.block.Block.{Block}
use Rattle.mir_func.specs.declared.item.Item.{Item}
use Rattle.mir_func.specs.declared.item.ItemKind.{ItemKind}
use Rattle.mir_func.specs.declared.item.ItemKind.TheVariants.{Code, Mark, Phi}
use Rattle.mir_func.specs.Graph.{Program, Fetch, Here, below, block_start}
use Rattle.mir_func.specs.Sound.{OriginIn}
use Rattle.mir_func.specs.Positions.{position_of}
use Rattle.sem_mir.specs.Follow.{MayAdd, HasClass, ItemHasClass, RowFits, KindFits, StaysVolatile, MarkFits, rank, next_rank, InOrder, Among, none, same, left}
use Rattle.rv64_instr.specs.View.{class_of}
use Rattle.sem_mir.specs.InitialState.{first_of}
use Rattle.sem_mir.specs.Follow.{GoesTo}
use Rattle.sem_simulation.proofs.Order.{rank_low}
use Rattle.spill_code.specs.declared.spilling.SlotAssignment.{SlotAssignment}
use Rattle.spill_code.specs.declared.spilling.Spilling.{Spilling}
use Rattle.spill_code.specs.Rewrite.{use_now, def_now, first_used, other_used, first_defined, spilled_code, load, store, added, loads}
use Rattle.spill_code.specs.Rewrite.{two_loads, stores, code_items, kind_items, spilled_item}
use Rattle.spill_code.specs.Rewrite.{spilled_items, spilled_block, entry_stores, first_block, spilled_blocks}
use Rattle.spill_simulation.specs.MaySpill.{uses_in, defs_in, FitsCode, Fits, AreHomes}
use Rattle.spill_simulation.proofs.Explicit.{first_from, used_is, defined_is}
use Rattle.spill_simulation.proofs.Near.{keeps_zero}
use Rattle.spill_simulation.proofs.Rows.{renamed_row, row_renamed}
use Rattle.spill_simulation.proofs.Views.{IsGood}

class_renamed : (u d : ℕ → ℕ) (r : Row) → class_of (renamed_row u d r) ≡ class_of r
class_renamed u d (Jumps t) = refl
class_renamed u d _ = refl

may_renamed : (u d : ℕ → ℕ) (r : Row) (k source_end : ℕ) → MayAdd r k source_end → MayAdd (renamed_row u d r) k source_end
may_renamed u d (Fixes rd n) k source_end h = h
may_renamed u d (LoadsSlot rd n) k source_end h = h
may_renamed u d (StoresSlot rs n) k source_end h = h
may_renamed u d (Jumps t) k source_end h = h
may_renamed u d _ k source_end h = absurd h

pub goes_renamed : (u d : ℕ → ℕ) (r : Row) (n : ℕ) → GoesTo n r → GoesTo n (renamed_row u d r)
goes_renamed u d (Branches op a b t) n h = h
goes_renamed u d (Jumps t) n h = h
goes_renamed u d _ n h = absurd h

has_class : (r r' : Row) (x : Fetch) → class_of r' ≡ class_of r → HasClass r x → HasClass r' x
has_class r r' (Here i) e h = by_kind i.kind h where
  by_kind : (k : ItemKind) → ItemHasClass r k → ItemHasClass r' k
  by_kind (Code c n) h = h ∙ sym e
  by_kind (Mark v m) h = h
  by_kind (Phi p n) h = h
has_class r r' _ e h = absurd h

-- ---- order

abbrev IsEven : ℕ → Type 0
IsEven n = (m : ℕ) × (n ≡ 2 * m)

next_even : (o : Origin) → IsEven (next_rank o)
next_even (Kept p) = (p.item + 1, omega arith)
next_even (Before p) = (p.item, refl)

-- what may stand as kept may stand before
low_before : (n : ℕ) (p : Pos) → IsEven n → n ≤ rank (Kept p) → n ≤ 2 * p.item
low_before n p (m, e) le = omega (arith, e, le)

module _ (s : Spilling) (slots : List ℕ) (homes : AreHomes s slots) where
  -- code that reads or sets a spilled register is kept
  pub kept_use : (i : Instruction) (o : Origin) → FitsCode s i o → (n : ℕ) → first_used s.homes i.operands ≡ Some n → (q : Pos) × (o ≡ Kept q)
  kept_use i o fits n some = by_origin o refl where
    by_origin : (z : Origin) → o ≡ z → (q : Pos) × (o ≡ Kept q)
    by_origin (Kept q) k = (q, k)
    by_origin (Before q) k =
        let d = first_from s.homes (uses_in i.operands) n (sym (used_is s.homes i.operands) ∙ some) in
        let bad : None ≡ Some n = sym (fits.kept q k d.0 (inl d.1)) ∙ d.2 in
        cc

  pub kept_def : (i : Instruction) (o : Origin) → FitsCode s i o → (n : ℕ) → first_defined s.homes i.operands ≡ Some n → (q : Pos) × (o ≡ Kept q)
  kept_def i o fits n some = by_origin o refl where
    by_origin : (z : Origin) → o ≡ z → (q : Pos) × (o ≡ Kept q)
    by_origin (Kept q) k = (q, k)
    by_origin (Before q) k =
        let d = first_from s.homes (defs_in i.operands) n (sym (defined_is s.homes i.operands) ∙ some) in
        let bad : None ≡ Some n = sym (fits.kept q k d.0 (inr d.1)) ∙ d.2 in
        cc

  -- a store behind kept code is in order
  order_store : (b : ℕ) (o : Origin) (z : Option ℕ) (ys : List Item) → ((n : ℕ) → z ≡ Some n → (q : Pos) × (o ≡ Kept q)) → (position_of o).block ≡ b →
      InOrder b (next_rank o) ys → InOrder b (next_rank o) (stores (below (position_of o)) s.first z ++ ys)
  order_store b o None ys kept home h = h
  order_store b o (Some n) ys kept home h = by_kept (kept n refl) where
    by_kept : (q : Pos) × (o ≡ Kept q) → InOrder b (next_rank o) (added (below (position_of o)) (store s.first n) ∷ ys)
    by_kept (q, k) =
        let next : next_rank o ≡ 2 * ((position_of o).item + 1) =
        ap next_rank k ∙ (let e : 2 * q.item + 2 ≡ 2 * (q.item + 1) = omega arith in e) ∙ ap (λ (z : Origin). 2 * ((position_of z).item + 1)) (sym k) in
        (home, (let le : next_rank o ≤ 2 * ((position_of o).item + 1) = omega (arith, next) in le), subst (λ (n : ℕ). InOrder b n ys) next h)

  order_load : (b n : ℕ) (o : Origin) (r : ℕ) (z : Option ℕ) (ys : List Item) → (position_of o).block ≡ b → n ≤ 2 * (position_of o).item →
      ((m : ℕ) → m ≤ 2 * (position_of o).item → InOrder b m ys) → InOrder b n (loads (position_of o) r z ++ ys)
  order_load b n o r None ys home le h = h n le
  order_load b n o r (Some k) ys home le h = (home, le, h (2 * (position_of o).item) (omega arith))

  order_code : (b n : ℕ) (i : Instruction) (k : Option ℕ) (o : Origin) (l : Loc) (ys : List Item) → FitsCode s i o → IsEven n → (position_of o).block ≡ b →
      n ≤ rank o → InOrder b (next_rank o) ys → InOrder b n (code_items s i k o l ++ ys)
  order_code b n i k o l ys fits even home le h =
      subst (InOrder b n) (sym (append_assoc (two_loads s (position_of o) i.operands (first_used s.homes i.operands)) _ ys))
      (by_first (first_used s.homes i.operands) refl) where
        main : Item
        main = record { kind = Code (spilled_code s i) k; origin = o; loc = l }

        behind : List Item
        behind = stores (below (position_of o)) s.first (first_defined s.homes i.operands) ++ ys

        at_main : (m : ℕ) → m ≤ rank o → InOrder b m (main ∷ behind)
        at_main m le =
            (home, le, order_store b o (first_defined s.homes i.operands) ys (λ n e. kept_def i o fits n e) home h)

        low_rank : (m : ℕ) → m ≤ 2 * (position_of o).item → m ≤ rank o
        low_rank m le = le_trans le (rank_low o)

        by_first : (z : Option ℕ) → first_used s.homes i.operands ≡ z → InOrder b n (two_loads s (position_of o) i.operands z ++ (main ∷ behind))
        by_first None e = at_main n le
        by_first (Some m) e =
            let q = kept_use i o fits m e in
            let low : n ≤ 2 * (position_of o).item =
            subst (λ (z : Origin). n ≤ 2 * (position_of z).item) (sym q.1) (low_before n q.0 even (subst (λ (z : Origin). n ≤ rank z) q.1 le)) in (
              home,
              low,
              order_load b (2 * (position_of o).item) o s.second (other_used s.homes m i.operands) (main ∷ behind) home (omega arith)
                  (λ j lo. at_main j (low_rank j lo)),
            )

  module _ (entry : List SlotAssignment) (blocks : List Block) (resolve : OperandPair → Option OperandPair) (srcp : Program) where
    pub order_items : (c : Block) (b n : ℕ) (xs : List Item) → All (IsGood s slots homes entry blocks resolve srcp c) xs → IsEven n → InOrder b n xs →
        InOrder b n (spilled_items s xs)
    order_items c b n [] goods even h = tt
    order_items c b n (x ∷ xs) goods even h =
        subst (InOrder b n) (sym (flat_map-cons (spilled_item s) x xs))
        (by_kind x.kind (All-head (IsGood s slots homes entry blocks resolve srcp c) x xs goods).fits
        (order_items c b (next_rank x.origin) xs (All-tail (IsGood s slots homes entry blocks resolve srcp c) x xs goods) (next_even x.origin) h.2)) where
          by_kind : (k : ItemKind) → Fits s k x.origin → InOrder b (next_rank x.origin) (spilled_items s xs) →
              InOrder b n (kind_items s k x.origin x.loc ++ spilled_items s xs)
          by_kind (Code i m) fits more = order_code b n i m x.origin x.loc (spilled_items s xs) fits even h.0 h.1 more
          by_kind (Mark v m) fits more = (h.0, h.1, more)
          by_kind (Phi p m) fits more = (h.0, h.1, more)

    pub order_entry : (b : ℕ) (hs : List SlotAssignment) (ys : List Item) → InOrder b 0 ys → InOrder b 0 (entry_stores b hs ++ ys)
    order_entry b [] ys h = h
    order_entry b (e ∷ hs) ys h = (refl, omega arith, order_entry b hs ys h)

    -- what holds of each block, and of the first with its stores
    pub each_block : (P : Block → Type 0) (Q : Block → Type 0) → ((b : Block) → P b → Q (spilled_block s b)) → ((b : Block) → P b → Q (first_block s entry b)) →
        (bs : List Block) → All P bs → All Q (spilled_blocks s entry bs)
    each_block P Q other first [] h = All-nil Q
    each_block P Q other first (b ∷ bs) h =
        All-cons Q (first_block s entry b) (map (spilled_block s) bs) (first b (All-head P b bs h))
        (All-map Q (spilled_block s) bs (All-weaker P (λ c. Q (spilled_block s c)) other bs (All-tail P b bs h)))

    pub each_item : (P Q : Item → Type 0) → ((x : Item) → P x → All Q (spilled_item s x)) → (xs : List Item) → All P xs → All Q (spilled_items s xs)
    each_item P Q step [] h = All-nil Q
    each_item P Q step (x ∷ xs) h =
        subst (All Q) (sym (flat_map-cons (spilled_item s) x xs))
        (All-append Q (spilled_item s x) (spilled_items s xs) (step x (All-head P x xs h)) (each_item P Q step xs (All-tail P x xs h)))

    pub each_entry : (Q : Item → Type 0) (b : ℕ) (hs : List SlotAssignment) → ((h : SlotAssignment) → Q (added (block_start b) (store h.register h.slot))) →
        All Q
        (entry_stores b hs)
    each_entry Q b [] q = All-nil Q
    each_entry Q b (h ∷ hs) q = All-cons Q (added (block_start b) (store h.register h.slot)) (entry_stores b hs) (q h) (each_entry Q b hs q)

    each_code : (Q : Item → Type 0) (i : Instruction) (k : Option ℕ) (o : Origin) (l : Loc) →
        ((n r : ℕ) → first_used s.homes i.operands ≡ Some n → (m : ℕ) → Q (added (position_of o) (load r m))) →
        Q (record { kind = Code (spilled_code s i) k; origin = o; loc = l }) → ((n : ℕ) → Q (added (below (position_of o)) (store s.first n))) →
        All Q (code_items s i k o l)
    each_code Q i k o l load_fits main_fits store_fits =
        All-append Q (two_loads s (position_of o) i.operands (first_used s.homes i.operands)) _ (by_first (first_used s.homes i.operands) refl)
        (All-cons Q _ (stores (below (position_of o)) s.first (first_defined s.homes i.operands)) main_fits (by_def (first_defined s.homes i.operands))) where
          by_def : (z : Option ℕ) → All Q (stores (below (position_of o)) s.first z)
          by_def None = All-nil Q
          by_def (Some n) = All-cons Q _ [] (store_fits n) (All-nil Q)

          by_other : (n : ℕ) → first_used s.homes i.operands ≡ Some n → (z : Option ℕ) → All Q (loads (position_of o) s.second z)
          by_other n e None = All-nil Q
          by_other n e (Some m) = All-cons Q _ [] (load_fits n s.second e m) (All-nil Q)

          by_first : (z : Option ℕ) → first_used s.homes i.operands ≡ z → All Q (two_loads s (position_of o) i.operands z)
          by_first None e = All-nil Q
          by_first (Some n) e =
              All-cons Q _ (loads (position_of o) s.second (other_used s.homes n i.operands)) (load_fits n s.first e n)
              (by_other n e (other_used s.homes n i.operands))

    pub renames : (i : Instruction) → row_of (spilled_code s i) ≡ renamed_row (use_now s (first_used s.homes i.operands)) (def_now s) (row_of i)
    renames i =
        row_renamed (use_now s (first_used s.homes i.operands)) (def_now s) (keeps_zero s slots homes (first_used s.homes i.operands)) i

    row_fits : (i : Instruction) (source_end : ℕ) (o : Origin) → RowFits srcp (row_of i) source_end o → RowFits srcp (row_of (spilled_code s i)) source_end o
    row_fits i source_end (Kept p) h =
        has_class (row_of i) (row_of (spilled_code s i)) (srcp.fetch p)
        (ap class_of (renames i) ∙ class_renamed (use_now s (first_used s.homes i.operands)) (def_now s) (row_of i)) h
    row_fits i source_end (Before p) h =
        subst (λ (r : Row). MayAdd r p.item source_end) (sym (renames i))
        (may_renamed (use_now s (first_used s.homes i.operands)) (def_now s) (row_of i) p.item source_end h)

    pub kinds_item : (b : Block) (x : Item) → IsGood s slots homes entry blocks resolve srcp b x →
        All (λ (i : Item). KindFits srcp i.kind b.source_end i.origin) (spilled_item s x)
    kinds_item b x good = by_kind x.kind good.fits good.kind where
      inner : (o : Origin) → OriginIn b o → (q : Pos) × (o ≡ Kept q) → (position_of o).item < b.source_end
      inner o h (q, e) = let k = (subst (OriginIn b) e h).1 in subst (λ (z : Origin). (position_of z).item < b.source_end) (sym e) k

      by_kind : (k : ItemKind) → Fits s k x.origin → KindFits srcp k b.source_end x.origin →
          All (λ (i : Item). KindFits srcp i.kind b.source_end i.origin) (kind_items s k x.origin x.loc)
      by_kind (Code i n) fits kind =
          each_code (λ (j : Item). KindFits srcp j.kind b.source_end j.origin) i n x.origin x.loc
          (λ m r e k. inner x.origin good.inside (kept_use i x.origin fits m e)) (row_fits i b.source_end x.origin kind) (λ m. tt)
      by_kind (Mark v m) fits kind = All-cons (λ (i : Item). KindFits srcp i.kind b.source_end i.origin) _ [] tt (All-nil (λ (i : Item). KindFits srcp i.kind
          b.source_end i.origin))
      by_kind (Phi p n) fits kind = All-cons (λ (i : Item). KindFits srcp i.kind b.source_end i.origin) _ [] tt (All-nil (λ (i : Item). KindFits srcp i.kind
          b.source_end i.origin))

    abbrev VolatileIs : Item → Type 0
    VolatileIs i = StaysVolatile srcp i.kind i.origin

    pub volatile_item : (x : Item) → VolatileIs x → All VolatileIs (spilled_item s x)
    volatile_item x h = by_kind x.kind x.origin h where
      main : (i : Instruction) (n : Option ℕ) (o : Origin) → StaysVolatile srcp (Code i n) o → StaysVolatile srcp (Code (spilled_code s i) n) o
      main i n (Kept p) h = h
      main i n (Before p) h = tt

      by_kind : (k : ItemKind) (o : Origin) → StaysVolatile srcp k o → All VolatileIs (kind_items s k o x.loc)
      by_kind (Code i n) o h = each_code VolatileIs i n o x.loc (λ m r e k. tt) (main i n o h) (λ m. tt)
      by_kind (Mark v m) o h = All-cons VolatileIs _ [] tt (All-nil VolatileIs)
      by_kind (Phi p n) o h = All-cons VolatileIs _ [] tt (All-nil VolatileIs)

    abbrev MarkIs : Item → Type 0
    MarkIs i = MarkFits i.kind i.origin

    pub marks_item : (x : Item) → MarkIs x → All MarkIs (spilled_item s x)
    marks_item x h = by_kind x.kind h where
      by_kind : (k : ItemKind) → MarkFits k x.origin → All MarkIs (kind_items s k x.origin x.loc)
      by_kind (Code i n) h = each_code MarkIs i n x.origin x.loc (λ m r e k. tt) tt (λ m. tt)
      by_kind (Mark v m) h = All-cons MarkIs _ [] h (All-nil MarkIs)
      by_kind (Phi p n) h = All-cons MarkIs _ [] tt (All-nil MarkIs)

    others_among : {bs src : List Block} → Among bs src → Among (map (spilled_block s) bs) src
    others_among none = none
    others_among (same e z rest) = same e z (others_among rest)
    others_among (left rest) = left (others_among rest)

    pub spilled_among : {bs src : List Block} → Among bs src → Among (spilled_blocks s entry bs) src
    spilled_among none = none
    spilled_among (same e z rest) = same e z (others_among rest)
    spilled_among (left rest) = left (spilled_among rest)

    pub first_same : (bs : List Block) → first_of (spilled_blocks s entry bs) ≡ first_of bs
    first_same [] = refl
    first_same (b ∷ bs) = refl
