-- What followed a source follows it without its no-operations.
use Rattle.std.proofs.Common.{◌≡◌, ℕ, ◌≤◌, List, [], ◌∷◌, map, filter, All, Contains, Option, Some, None, Bool, true, false, cond, not, ◌&&◌, ◌||◌, refl, sym}
use Rattle.std.proofs.Common.{ap, ◌∙◌, subst, slice_get, get_or, arith}
use Rattle.std.specs.List.{list_any}
use Rattle.std.proofs.lemmas.List.{length-map}
use Rattle.std.proofs.lemmas.List.Elements.{All-cons, All-contains, All-contains_itself, All-weaker, All-filter, All-map, Contains-append_left}
use Rattle.std.proofs.lemmas.List.Elements.{Contains-append_right}
use Rattle.std.proofs.lemmas.Option.{slice_get-get_or, get_or_from_slice_get}
use Rattle.std.proofs.Math.Nat.{le_trans}
use Rattle.sem_simulation.specs.rv64_instr.Row.{Row, Fixes, LoadsSlot, StoresSlot, Branches, Jumps, Returns, row_of}
use Rattle.sem_simulation.specs.mir_func.declared.debug_substitution.OperandPair.{OperandPair}
use Rattle.sem_simulation.specs.mir_func.declared.object.Object.{Object}
use Rattle.sem_simulation.specs.mir_func.declared.position.Pos.{Pos}
use Rattle.sem_simulation.specs.mir_func.declared.position.Origin.{Origin}
use Rattle.sem_simulation.specs.mir_func.declared.position.Origin.TheVariants.{Kept, Before}
use Rattle.sem_simulation.specs.mir_func.declared.block.Block.{Block}
use Rattle.sem_simulation.specs.mir_func.declared.debug_substitution.DebugSubstitution.{DebugSubstitution}
use Rattle.sem_simulation.specs.mir_func.declared.item.Item.{Item}
use Rattle.sem_simulation.specs.mir_func.declared.item.ItemKind.{ItemKind}
use Rattle.sem_simulation.specs.mir_func.declared.item.ItemKind.TheVariants.{Code, Mark, Phi}
use Rattle.sem_simulation.specs.mir_func.Function.{Function}
use Rattle.sem_simulation.specs.mir_func.Sound.{items_of, number_of, NumbersOnce, OriginIn, IsSound}
use Rattle.sem_simulation.specs.sem_mir.State.{Core, State}
use Rattle.sem_simulation.specs.sem_mir.Step.{Falls, Goes, Traps, act, does, slot_loaded, with_core, are_written, numbered, do_item}
use Rattle.sem_simulation.specs.rv64_instr.LocationEffects.{is_call, IsSlotStore}
use Rattle.sem_simulation.specs.mir_func.Graph.{Here, Program, fetch_in, from_block, program_of}
use Rattle.sem_simulation.specs.mir_func.Resolve.{resolve}
use Rattle.sem_simulation.specs.sem_mir.Align.{is_jump, is_jump_row, waits_at, moves_on, Count, ByItems, ByEnds, sync_point_at, AnyOrigin, RunsMatch, After, since_of}
use Rattle.sem_simulation.specs.sem_mir.InitialState.{first_of, IsInitialState}
use Rattle.sem_simulation.specs.sem_mir.Follow.{MayAdd, KindFits, StaysVolatile, MarkFits, InOrder, next_rank, Among, none, same, left, OnRow, GoesTo, Shape, SameEnd}
use Rattle.sem_simulation.specs.sem_mir.Follow.{IsEnd, KindsEndAlike, EndIsKept, EndComesFrom}
use Rattle.sem_simulation.proofs.sem_mir.Reading.{found_in, front_item, within_list}
use Rattle.sem_simulation.proofs.Order.{rank_next}
use Rattle.sem_simulation.proofs.sem_mir.Told.{tells_itself}
use Rattle.pass_trait.specs.Change.{change}
use Rattle.pass_trait.specs.Simulation.{PreservesSimulation}
use Rattle.pass_trait.specs.Nops.{is_nop_row, is_nop, is_save_row, is_added_save, has_added_saves, stays, thinned_blocks, thinned}
use Rattle.pass_trait.proofs.Thinning.{thin, item_from, item_to}
use Rattle.pass_trait.proofs.NopRuns.{IsGone, IsSteady, nops_run}

pub order_less : (b n m : ℕ) (xs : List Item) → n ≤ m → InOrder b m xs → InOrder b n xs
order_less b n m [] le o = tt
order_less b n m (x ∷ xs) le o = (o.0, le_trans le o.1, o.2)

-- what passes a test is in order still
pub order_thin : (keep : Item → Bool) (b n : ℕ) (xs : List Item) → InOrder b n xs → InOrder b n (filter keep xs)
order_thin keep b n [] o = tt
order_thin keep b n (x ∷ xs) o = by_test (keep x) (order_thin keep b (next_rank x.origin) xs o.2) where
  by_test : (z : Bool) → InOrder b (next_rank x.origin) (filter keep xs) → InOrder b n (cond z (x ∷ filter keep xs) (filter keep xs))
  by_test true h = (o.0, o.1, h)
  by_test false h = order_less b n (next_rank x.origin) (filter keep xs) (rank_next x.origin n o.1) h

among_thin : (keep : Item → Bool) {bs src : List Block} → Among bs src → Among (map (thin keep) bs) src
among_thin keep none = none
among_thin keep (same e s rest) = same e s (among_thin keep rest)
among_thin keep (left rest) = left (among_thin keep rest)

first_thin : (keep : Item → Bool) (bs : List Block) → first_of (map (thin keep) bs) ≡ first_of bs
first_thin keep [] = refl
first_thin keep (b ∷ bs) = refl

-- each item of each block is one of the function's
members : (bs : List Block) → All (λ (b : Block). All (λ (x : Item). Contains (items_of bs) x) b.items) bs
members [] = none_in where
  none_in : All (λ (b : Block). All (λ (x : Item). Contains (items_of []) x) b.items) []
  none_in k d lt = absurd (omega (arith, lt))
members (b ∷ bs) =
    All-cons (λ (c : Block). All (λ (x : Item). Contains (items_of (b ∷ bs)) x) c.items) b bs
    (All-weaker (Contains b.items) (Contains (items_of (b ∷ bs))) (λ x k. Contains-append_left b.items (items_of bs) x k) b.items (All-contains_itself b.items))
    (All-weaker (λ (c : Block). All (Contains (items_of bs)) c.items) (λ (c : Block). All (Contains (items_of (b ∷ bs))) c.items)
    (λ c h. All-weaker (Contains (items_of bs)) (Contains (items_of (b ∷ bs))) (λ x k. Contains-append_right b.items (items_of bs) x k) c.items h) bs
    (members bs))

-- what isn't a no-operation stays
pub stays_else : (busy nop : Bool) → nop ≡ false → not (not busy && nop) ≡ true
stays_else true nop e = refl
stays_else false true e = cc
stays_else false false e = refl

going_stays : (k : ItemKind) (n : ℕ) → OnRow (GoesTo n) k → is_nop k ≡ false
going_stays (Code i m) n h = by_row (row_of i) h where
  by_row : (r : Row) → GoesTo n r → is_nop_row r ≡ false
  by_row (Branches op a b t) h = refl
  by_row (Jumps t) h = refl
  by_row _ h = absurd h
going_stays (Mark v m) n h = absurd h
going_stays (Phi p m) n h = absurd h

-- an end of a block is no no-operation
end_stays : (k l : ItemKind) → KindsEndAlike k l → is_nop l ≡ false
end_stays (Code i n) (Code j m) h = by_rows (row_of i) (row_of j) h where
  by_rows : (r s : Row) → SameEnd r s → is_nop_row s ≡ false
  by_rows (Branches op a b t) (Branches op' a' b' t') h = refl
  by_rows (Jumps t) (Jumps t') h = refl
  by_rows (Returns v) (Returns w) h = refl
  by_rows _ _ h = absurd h
end_stays (Code i n) (Mark v m) h = absurd h
end_stays (Code i n) (Phi p m) h = absurd h
end_stays (Mark v m) l h = absurd h
end_stays (Phi p m) l h = absurd h

-- added code goes elsewhere only if it is a jump
pub added_goes : (r : Row) (item source_end : ℕ) (k : Core → Core) (c c' : Core) (n : ℕ) → MayAdd r item source_end → with_core k (act r c) ≡ Goes n c' →
    is_jump_row r ≡ true
added_goes (Fixes rd m) item source_end k c c' n may e = unfold act in unfold does in cc
added_goes (LoadsSlot rd m) item source_end k c c' n may e = unfold act in unfold does in by_slot (c.slots m) e where
  by_slot : (v : Option ℕ) → with_core k (slot_loaded rd c v) ≡ Goes n c' → false ≡ true
  by_slot None e = cc
  by_slot (Some v) e = cc
added_goes (StoresSlot rs m) item source_end k c c' n may e = unfold act in unfold does in either (are_written c (rs ∷ [])) _ e where
  either : (z : Bool) (x : Core) → with_core k (cond z (Falls x) Traps) ≡ Goes n c' → false ≡ true
  either true x e = cc
  either false x e = cc
added_goes (Jumps t) item source_end k c c' n may e = refl
added_goes _ item source_end k c c' n may e = absurd may

-- so code of a function that follows a source goes elsewhere only where the source moves on after it
pub moves_after : (ct : Count) (src : Program) (f : Program) (k : ItemKind) (o : Origin) (source_end : ℕ) → ((k : ItemKind) → moves_on ct k ≡ is_jump k) →
    KindFits src k source_end o →
    (c c' : Core) (n : ℕ) → do_item f k c ≡ Goes n c' → since_of (waits_at (moves_on ct k) o) ≡ After
moves_after ct src f k (Kept p) source_end counts fits c c' n e = refl
moves_after ct src f (Code i m) (Before p) source_end counts fits c c' n e =
    let j : is_jump_row (row_of i) ≡ true = added_goes (row_of i) p.item source_end (numbered f.sees_pointer (is_call (row_of i)) m i.operands) c c' n fits e in
    ap (λ (z : Bool). since_of (waits_at z (Before p))) (counts (Code i m) ∙ j)
moves_after ct src f (Mark v m) (Before p) source_end counts fits c c' n e = cc
moves_after ct src f (Phi q m) (Before p) source_end counts fits c c' n e = cc

-- the number of what stays isn't gone
own_number : (busy : Bool) (blocks : List Block) (resolve : OperandPair → Option OperandPair) → NumbersOnce (items_of blocks) → (x : Item) →
    Contains (items_of blocks) x → stays busy x ≡ true → (k : ℕ) → number_of x.kind ≡ Some k → IsGone busy blocks resolve k → ⊥
own_number busy blocks resolve once x (i, lt, at) stay k number gone =
    let y = gone.item in
    let j = gone.member in
    let here : slice_get (items_of blocks) i ≡ Some x = slice_get-get_or (items_of blocks) i x lt ∙ ap Some at in
    let there : slice_get (items_of blocks) j.0 ≡ Some y = slice_get-get_or (items_of blocks) j.0 y j.1 ∙ ap Some j.2 in
    let e : j.0 ≡ i = once j.0 i y x k there gone.number here number in
    let w : Some y ≡ Some x = sym there ∙ ap (slice_get (items_of blocks)) e ∙ here in
    let z : y ≡ x = cc in
    let bad : false ≡ true = sym gone.out ∙ ap (stays busy) z ∙ stay in
    cc

-- what holds of all items holds of what stands somewhere
at_item : (P : Item → Type 0) (sp : Bool) (blocks : List Block) (resolve : OperandPair → Option OperandPair) → All (λ (b : Block). All P b.items) blocks →
    (p : Pos) (i : Item) → (program_of sp blocks resolve).fetch p ≡ Here i → P i
at_item P sp blocks resolve all p i e = by_blocks (from_block blocks p.block) refl e where
  by_blocks : (bs : List Block) → from_block blocks p.block ≡ bs → fetch_in bs p.item ≡ Here i → P i
  by_blocks [] h e = cc
  by_blocks (b ∷ bs) h e =
      let at = front_item b.items p.item b.source_end bs i e in
      subst P (get_or_from_slice_get b.items p.item i i at)
      (All-contains (λ (b : Block). All P b.items) blocks b all (found_in blocks p.block b bs h).0 p.item i (within_list b.items p.item i at))

none_of_either : (x y : Bool) → (x || y) ≡ false → (x ≡ false) × (y ≡ false)
none_of_either true y e = cc
none_of_either false y e = (refl, e)

none_any : {A : Type 0} (test : A → Bool) (xs : List A) → list_any test xs ≡ false → All (λ x. test x ≡ false) xs
none_any test [] e = none_in where
  none_in : All (λ x. test x ≡ false) []
  none_in k d lt = absurd (omega (arith, lt))
none_any test (x ∷ xs) e = let h = none_of_either (test x) (list_any test xs) e in All-cons (λ x. test x ≡ false) x xs h.0 (none_any test xs h.1)

no_saves : (blocks : List Block) → has_added_saves blocks ≡ false →
    All (λ (b : Block). All (λ (i : Item). is_added_save i.kind i.origin ≡ false) b.items) blocks
no_saves blocks e =
    All-weaker (λ (b : Block). list_any (λ (i : Item). is_added_save i.kind i.origin) b.items ≡ false)
    (λ (b : Block). All (λ (i : Item). is_added_save i.kind i.origin ≡ false) b.items)
    (λ b h. none_any (λ (i : Item). is_added_save i.kind i.origin) b.items h) blocks
    (none_any (λ (b : Block). list_any (λ (i : Item). is_added_save i.kind i.origin) b.items) blocks e)

save_is_added : (k : ItemKind) (o : Origin) (p : Pos) → OnRow IsSlotStore k → o ≡ Before p → is_added_save k o ≡ true
save_is_added (Code i n) o p save e = rw e (by_row (row_of i) save) where
  by_row : (r : Row) → IsSlotStore r → is_save_row r ≡ true
  by_row (StoresSlot rs m) h = refl
  by_row _ h = absurd h
save_is_added (Mark v m) o p save e = absurd save
save_is_added (Phi q n) o p save e = absurd save

-- blocks in which nothing is taken out
keeps_all : (xs : List Item) → filter (stays true) xs ≡ xs
keeps_all [] = refl
keeps_all (x ∷ xs) = ap (λ (ys : List Item). x ∷ ys) (keeps_all xs)

pub thins_none : (bs : List Block) → thinned_blocks true bs ≡ bs
thins_none [] = refl
thins_none (b ∷ bs) = let e = keeps_all b.items in let es = thins_none bs in λ i. record { id = b.id; items = e i; source_end = b.source_end } ∷ es i

-- for each item of each block that is left
pub each_left : (keep : Item → Bool) (P : Block → Item → Type 0) (Q : Block → Item → Type 0) → ((b : Block) (i : Item) → P b i → Q (thin keep b) i) →
    (bs : List Block) → All (λ (b : Block). All (P b) b.items) bs → All (λ (b : Block). All (Q b) b.items) (map (thin keep) bs)
each_left keep P Q f bs h =
    All-map (λ (b : Block). All (Q b) b.items) (thin keep) bs
    (All-weaker (λ (b : Block). All (P b) b.items) (λ (b : Block). All (Q (thin keep b)) (filter keep b.items))
    (λ b k. All-weaker (P b) (Q (thin keep b)) (f b) (filter keep b.items) (All-filter keep (P b) b.items k)) bs h)

pub origin_thin : (keep : Item → Bool) (b : Block) (o : Origin) → OriginIn b o → OriginIn (thin keep b) o
origin_thin keep b (Kept p) h = h
origin_thin keep b (Before p) h = h

module _ (f : Function) (sound : IsSound f) (src : List Block) (srcp : Program) (resolve : OperandPair → Option OperandPair)
    (none_added : has_added_saves f.blocks ≡ false) where
  abbrev keep : Item → Bool
  keep = stays false

  abbrev new : List Block
  new = thinned_blocks false f.blocks

  abbrev fp : Program
  fp = program_of false f.blocks resolve

  abbrev gp : Program
  gp = program_of false new resolve

  module _ (shape : Shape src f.blocks srcp fp) where
    order_new : All (λ (b : Block). InOrder b.id 0 b.items) new
    order_new = All-map (λ (b : Block). InOrder b.id 0 b.items) (thin keep) f.blocks
        (All-weaker (λ (b : Block). InOrder b.id 0 b.items) (λ (b : Block). InOrder b.id 0 (filter keep b.items))
        (λ b h. order_thin keep b.id 0 b.items h) f.blocks shape.order)

    origins_new : All (λ (b : Block). All (λ (i : Item). OriginIn b i.origin) b.items) new
    origins_new = each_left keep (λ b i. OriginIn b i.origin) (λ b i. OriginIn b i.origin) (λ b i h. origin_thin keep b i.origin h) f.blocks sound.origins

    steady : (ct : Count) → ((k : ItemKind) → moves_on ct k ≡ is_jump k) → All (λ (b : Block). All (IsSteady false f.blocks resolve ct) b.items) f.blocks
    steady ct counts k d lt j e within =
        let b : Block = get_or f.blocks k d in
        let x : Item = get_or b.items j e in
        let member : Contains (items_of f.blocks) x = members f.blocks k d lt j e within in
        record {
          moves = λ c c' n go. moves_after ct srcp fp x.kind x.origin b.source_end counts (shape.items k d lt j e within) c c' n go;
          own = λ stay n number gone. own_number false f.blocks resolve sound.numbers x member stay n number gone;
          gone = λ out n number. record { item = x; member = member; out = out; number = number };
        }

    pub shape_new : Shape src new srcp gp
    shape_new = record {
      among = among_thin keep shape.among;
      first = first_thin keep f.blocks ∙ shape.first;
      back = λ q leads edge. (let w = shape.back q leads edge in
          let at = item_to keep false f.blocks resolve w.0 w.1 (stays_else false (is_nop w.1.kind) (going_stays w.1.kind (first_of src) w.3)) w.2 in
          (at.0, w.1, at.2, w.3));
      order = order_new;
      items = each_left keep (λ b i. KindFits srcp i.kind b.source_end i.origin) (λ b i. KindFits srcp i.kind b.source_end i.origin)
          (λ b i h. h) f.blocks shape.items;
      volatile = each_left keep (λ b i. StaysVolatile srcp i.kind i.origin) (λ b i. StaysVolatile srcp i.kind i.origin) (λ b i h. h) f.blocks shape.volatile;
      stores = λ b member p i block at save o.
          (let w = item_from keep false f.blocks resolve p i at in
          let bad : false ≡ true = sym (at_item (λ (i : Item). is_added_save i.kind i.origin ≡ false) false f.blocks resolve
          (no_saves f.blocks none_added) w.0 i w.2) ∙ save_is_added i.kind i.origin _ save o in cc);
      marks = each_left keep (λ b i. MarkFits i.kind i.origin) (λ b i. MarkFits i.kind i.origin) (λ b i h. h) f.blocks shape.marks;
    }

    runs_new : (ct : Count) (objects : List Object) → ((k : ItemKind) → moves_on ct k ≡ is_jump k) →
        ((s : State) → IsInitialState objects (first_of src) s → RunsMatch srcp fp (sync_point_at ct fp) (AnyOrigin (sync_point_at ct fp)) s s) →
        (s : State) → IsInitialState objects (first_of src) s → RunsMatch srcp gp (sync_point_at ct gp) (AnyOrigin (sync_point_at ct gp)) s s
    runs_new ct objects counts runs s start =
        nops_run false f.blocks resolve ct srcp s (steady ct counts) sound.blocks_apart shape.order order_new sound.origins origins_new
        (ap (λ (p : Pos). p.item) start.pos) (tells_itself s.core, λ k o gone. start.pairs k o) (runs s start)

    ends_kept : ((p : Pos) (i : Item) → srcp.fetch p ≡ Here i → OnRow IsEnd i.kind → EndIsKept fp p i) → (p : Pos) (i : Item) → srcp.fetch p ≡ Here i →
        OnRow IsEnd i.kind → EndIsKept gp p i
    ends_kept kept p i at end =
        let w = kept p i at end in
        let there = item_to keep false f.blocks resolve w.0 w.1 (stays_else false (is_nop w.1.kind) (end_stays i.kind w.1.kind w.4)) w.2 in
        (there.0, w.1, there.2, w.3, w.4)

    ends_only : ((q : Pos) (j : Item) → fp.fetch q ≡ Here j → OnRow IsEnd j.kind → EndComesFrom srcp j) → (q : Pos) (j : Item) → gp.fetch q ≡ Here j →
        OnRow IsEnd j.kind → EndComesFrom srcp j
    ends_only only q j at end = let w = item_from keep false f.blocks resolve q j at in only w.0 j w.2 end

-- what the pass keeps where it takes out no-operations
following_new : (f : Function) (subs : List DebugSubstitution) → IsSound f → has_added_saves f.blocks ≡ false →
    PreservesSimulation false true (change f subs (record f { blocks = thinned_blocks false f.blocks }) subs)
following_new f subs sound none_added = record {
  follows = λ src fol ends.
      let srcp : Program = program_of true src.function.blocks (resolve src.subs) in
      record {
        objects = fol.objects;
        follows = record {
          shape = shape_new f sound src.function.blocks srcp (resolve subs) none_added fol.follows.shape;
          runs = runs_new f sound src.function.blocks srcp (resolve subs) none_added fol.follows.shape ByItems src.function.objects (λ k. refl)
              fol.follows.runs;
        };
      };
  ends = λ keeps src fol whole.
      let srcp : Program = program_of true src.function.blocks (resolve src.subs) in
      record {
        blocks = length-map f.blocks (thin (stays false)) ∙ whole.blocks;
        kept = ends_kept f sound src.function.blocks srcp (resolve subs) none_added fol.follows.shape whole.kept;
        only = ends_only f sound src.function.blocks srcp (resolve subs) none_added fol.follows.shape whole.only;
        runs = runs_new f sound src.function.blocks srcp (resolve subs) none_added fol.follows.shape ByEnds src.function.objects (λ k. refl)
            whole.runs;
      };
}

pub following_itself : (f : Function) (subs : List DebugSubstitution) → PreservesSimulation false true (change f subs f subs)
following_itself f subs = record { follows = λ src fol ends. fol; ends = λ keeps src fol whole. whole }

pub nops_follow : (f : Function) (subs : List DebugSubstitution) → IsSound f →
    PreservesSimulation false true (change f subs (thinned f) subs)
nops_follow f subs sound = by_saves (has_added_saves f.blocks) refl where
  by_saves : (z : Bool) → has_added_saves f.blocks ≡ z →
      PreservesSimulation false true (change f subs (record f { blocks = thinned_blocks z f.blocks }) subs)
  by_saves true e = subst (λ (bs : List Block). PreservesSimulation false true
      (change f subs (record f { blocks = bs }) subs)) (sym (thins_none f.blocks))
      (following_itself f subs)
  by_saves false e = following_new f subs sound e
