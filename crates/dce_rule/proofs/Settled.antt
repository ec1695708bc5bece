-- Where a round takes nothing out, what follows loosely follows: each slot that is stored is loaded later.
use Rattle.std.proofs.Common.{◌≡◌, inl, inr, ℕ, zero, suc, ◌+◌, ◌<◌, ◌≤◌, List, [], ◌∷◌, map, drop, length, All, Contains, Option, Some, None, Bool}
use Rattle.std.proofs.Common.{true, false, cond, not, ◌&&◌, ◌⊎◌, refl, sym, ap, ◌∙◌, subst, arith}
use Rattle.std.specs.List.{list_any}
use Rattle.std.proofs.lemmas.Bool.{cases_eq, cases_lt, eqb-true, or_cases, and_parts}
use Rattle.std.proofs.lemmas.List.{drop-drop}
use Rattle.std.proofs.lemmas.List.Elements.{All-contains}
use Rattle.rv64_instr.specs.declared.place.Place.TheVariants.{Register, Slot}
use Rattle.rv64_instr.specs.declared.op.Op.{Op}
use Rattle.rv64_instr.specs.declared.op.Op.TheVariants.{Load}
use Rattle.rv64_instr.specs.declared.op.LoadOp.{LoadOp}
use Rattle.rv64_instr.specs.declared.operand.Operand.{Operand}
use Rattle.rv64_instr.specs.declared.operand.Operand.TheVariants.{Def, Use, Imm, Slot as SlotOperand, Object as ObjectOperand, Part}
use Rattle.rv64_instr.specs.Instruction.{is_load, is_volatile_load}
use Rattle.rv64_instr.specs.Row.{Row, LoadsSlot, StoresSlot, Branches, Jumps, Calls, Returns, Unfit, row_of, row_by, load_row}
use Rattle.rv64_instr.specs.LocationEffects.{IsSlotStore, names_slot, slot_read, has_implicit_uses, is_outgoing}
use Rattle.mir_func.specs.declared.position.Pos.{Pos}
use Rattle.mir_func.specs.declared.position.Origin.{Origin}
use Rattle.mir_func.specs.declared.position.Origin.TheVariants.{Kept, Before}
use Rattle.mir_func.specs.declared.block.Block.{Block}
use Rattle.mir_func.specs.declared.debug_substitution.DebugSubstitution.{DebugSubstitution}
use Rattle.mir_func.specs.declared.item.Item.{Item}
use Rattle.mir_func.specs.declared.item.ItemKind.{ItemKind}
use Rattle.mir_func.specs.declared.item.ItemKind.TheVariants.{Code, Mark, Phi}
use Rattle.mir_func.specs.Function.{Function}
use Rattle.mir_func.specs.Sound.{IsSound, AreApart, ids_of, OriginIn, EndsWell, MayFollow, IsJumpAtMost}
use Rattle.mir_func.specs.Exits.{exit_of, row_exit, IsAlways}
use Rattle.mir_func.specs.Graph.{Fetch, Here, EndOfBlock, Outside, Program, below, block_start, from_block}
use Rattle.mir_func.specs.Graph.{program_of, Edge, FetchEdge, KindEdge, RowEdge, Leads, stay, go, rest_in, rest_of}
use Rattle.mir_func.specs.Resolve.{resolve}
use Rattle.mir_func.specs.Successors.{pos_in, ComesDown}
use Rattle.mir_func.specs.Positions.{position_of}
use Rattle.sem_mir.specs.Live.{Uses, KindUses, Live, used, later}
use Rattle.sem_mir.specs.Follow.{MayAdd, KindFits, HasClass, OnRow, Counts, IsMetApart}
use Rattle.sem_mir.proofs.Edges.{leads_on, leads_trans}
use Rattle.sem_mir.proofs.Reading.{found, found_in}
use Rattle.sem_simulation.specs.MatchStates.{Laid}
use Rattle.sem_simulation.proofs.Laid.{laid_out}
use Rattle.pass_trait.specs.Simulation.{Source, SimulatesSource}
use Rattle.dce_rule.specs.Dead.{Places, Ends, is_dead_row, is_dead, needed_at, without_dead, thinned_block, paths_of, IsRound}
use Rattle.pass_edits.specs.WeakSimulation.{LooseShape, WeakSimulation}
use Rattle.dce_rule.proofs.Unneeded.{ends_at, two_above}
use Rattle.dce_rule.proofs.Lists.{rest_at}
use Rattle.dce_rule.proofs.Live.{needed_live}
use Rattle.dce_rule.proofs.Follows.{among_in, none_silent}

-- ---- nothing is dead

shorter : (xs : List Item) (needed : Places) → length (without_dead xs needed) ≤ length xs
shorter [] needed = omega arith
shorter (x ∷ xs) needed = by_test (is_dead x.kind (needed_at xs needed)) (shorter xs needed) where
  by_test : (z : Bool) → length (without_dead xs needed) ≤ length xs → length (cond z (without_dead xs needed) (x ∷ without_dead xs needed)) ≤ length (x ∷ xs)
  by_test true h = omega (arith, h)
  by_test false h = omega (arith, h)

-- where no item goes, none is dead
none_dead : (xs : List Item) (needed : Places) → without_dead xs needed ≡ xs → (k : ℕ) (x : Item) (rest : List Item) → drop k xs ≡ x ∷ rest →
    is_dead x.kind (needed_at rest needed) ≡ false
none_dead [] needed same zero x rest e = cc
none_dead [] needed same (suc k) x rest e = cc
none_dead (y ∷ ys) needed same k x rest e = by_test (is_dead y.kind (needed_at ys needed)) refl same k e (λ t j h. none_dead ys needed t j x rest h) where
  by_test : (z : Bool) → is_dead y.kind (needed_at ys needed) ≡ z → cond z (without_dead ys needed) (y ∷ without_dead ys needed) ≡ y ∷ ys → (k : ℕ) →
      drop k (y ∷ ys) ≡ x ∷ rest →
      (without_dead ys needed ≡ ys → (j : ℕ) → drop j ys ≡ x ∷ rest → is_dead x.kind (needed_at rest needed) ≡ false) →
      is_dead x.kind (needed_at rest needed) ≡ false
  by_test true d same k e more = let n : length (without_dead ys needed) ≡ length (y ∷
      ys) = ap length same in let h = shorter ys needed in absurd (omega (arith, n, h))
  by_test false d same zero e more =
      let head : y ≡ x = cc in
      let tail : ys ≡ rest = cc in
      (let h = sym head in let t = sym tail in λ i. is_dead (h i).kind (needed_at (t i) needed)) ∙ d
  by_test false d same (suc k) e more = more (let tail : without_dead ys needed ≡ ys = cc in tail) k e

diff : (k m : ℕ) → k < m → (d : ℕ) × (m ≡ suc k + d)
diff k zero lt = absurd (omega (arith, lt))
diff zero (suc m) lt = (m, omega arith)
diff (suc k) (suc m) lt = let w = diff k m (omega (arith, lt)) in (w.0, (let e = w.1 in omega (arith, e)))

drop_tail : (xs : List Item) (k : ℕ) (y : Item) (ys : List Item) → drop k xs ≡ y ∷ ys → drop (suc k) xs ≡ ys
drop_tail [] zero y ys e = cc
drop_tail [] (suc k) y ys e = cc
drop_tail (x ∷ xs) zero y ys e = (let zeroth : drop 0 xs ≡ xs = drop_zero xs in zeroth) ∙ (let tail : xs ≡ ys = cc in tail) where
  drop_zero : (zs : List Item) → drop 0 zs ≡ zs
  drop_zero [] = refl
  drop_zero (z ∷ zs) = refl
drop_tail (x ∷ xs) (suc k) y ys e = drop_tail xs k y ys e

in_drop : (xs : List Item) (k : ℕ) (y : Item) (ys : List Item) → drop k xs ≡ y ∷ ys → Contains xs y
in_drop [] zero y ys e = cc
in_drop [] (suc k) y ys e = cc
in_drop (x ∷ xs) zero y ys e = let head : x ≡ y = cc in (0, omega arith, head)
in_drop (x ∷ xs) (suc k) y ys e = let w = in_drop xs k y ys e in (suc w.0, (let l = w.1 in omega (arith, l)), w.2)

-- below a jump that is the last item stands none
jump_from : (z : Item) (zs : List Item) (d : ℕ) (x : Item) (xs : List Item) → IsJumpAtMost (z ∷ zs) → drop d (z ∷ zs) ≡ x ∷ xs → IsJumpAtMost (x ∷ xs)
jump_from z [] zero x xs at e = subst IsJumpAtMost e at
jump_from z [] (suc zero) x xs at e = cc
jump_from z [] (suc (suc d)) x xs at e = cc
jump_from z (y ∷ ys) d x xs at e = absurd at

-- blocks of one number are one
one_block_in : (bs : List Block) → AreApart (ids_of bs) → (c b : Block) → Contains bs c → Contains bs b → c.id ≡ b.id → c ≡ b
one_block_in bs apart c b inside member id =
    let u = found bs apart c inside in
    let v = found bs apart b member in
    let w : c ∷ u.rest ≡ b ∷ v.rest = sym u.at ∙ ap (from_block bs) id ∙ v.at in
    cc

module _ (f : Function) (subs : List DebugSubstitution) (sound : IsSound f) (round : IsRound f f) (src : Source) where
  abbrev ends : Ends
  ends = round.ends

  abbrev fp : Program
  fp = program_of false f.blocks (resolve subs)

  abbrev srcp : Program
  srcp = program_of true src.function.blocks (resolve src.subs)

  abbrev rf : Pos → List Item
  rf = rest_of f.blocks

  laid : Laid fp rf
  laid = laid_out false f.blocks (resolve subs)

  -- no item of a block goes
  block_same : (bs cs : List Block) → bs ≡ map (thinned_block ends) cs → bs ≡ cs → (n : ℕ) (b : Block) (rest : List Block) → from_block cs n ≡ b ∷ rest →
      without_dead b.items (ends b.id) ≡ b.items
  block_same bs cs thin same n b rest at = by_list cs (sym same ∙ thin) (found_in cs n b rest at).0 where
    by_list : (cs : List Block) → cs ≡ map (thinned_block ends) cs → Contains cs b → without_dead b.items (ends b.id) ≡ b.items
    by_list [] e (k, lt, is) = absurd (omega (arith, lt))
    by_list (c ∷ cs) e (zero, lt, is) =
        let head : c ≡ thinned_block ends c = cc in
        subst (λ (z : Block). without_dead z.items (ends z.id) ≡ z.items) is (ap (λ (z : Block). z.items) (sym head))
    by_list (c ∷ cs) e (suc k, lt, is) = by_list cs (let tail : cs ≡ map (thinned_block ends) cs = cc in tail) (k, omega (arith, lt), is)

  stays_at : (p : Pos) (x : Item) (xs : List Item) → rf p ≡ x ∷ xs → is_dead x.kind (needed_at xs (ends p.block)) ≡ false
  stays_at p x xs at = by_blocks (from_block f.blocks p.block) refl at where
    by_blocks : (bs : List Block) → from_block f.blocks p.block ≡ bs → rest_in bs p.item ≡ x ∷ xs → is_dead x.kind (needed_at xs (ends p.block)) ≡ false
    by_blocks [] h e = cc
    by_blocks (b ∷ bs) h e =
        let id : b.id ≡ p.block = (found_in f.blocks p.block b bs h).1 in
        let same = block_same f.blocks f.blocks (ap (λ (g : Function). g.blocks) round.thins) refl p.block b bs h in
        ap (λ (n : ℕ). is_dead x.kind (needed_at xs (ends n))) (sym id) ∙ none_dead b.items (ends b.id) same p.item x xs e

  -- ---- a slot that is stored is live

  not_false : (b : Bool) → not b ≡ false → b ≡ true
  not_false true e = refl
  not_false false e = cc

  load_stores : (op : LoadOp) (os : List Operand) → IsSlotStore (load_row op os) → ⊥
  load_stores op (Def rd ∷ Use base ∷ Imm i ∷ rest) h = h
  load_stores op (Def rd ∷ SlotOperand n ∷ rest) h = h
  load_stores op (Def rd ∷ ObjectOperand n ∷ Imm i ∷ rest) h = h
  load_stores op (Def rd ∷ Use base ∷ Part half y ∷ rest) h = h
  load_stores op _ h = h

  -- a store to a slot is no load
  store_no_load : (op : Op) (os : List Operand) (volatile : Bool) → IsSlotStore (row_by op os) → (is_load op && volatile) ≡ false
  store_no_load (Load op) os volatile h = absurd (load_stores op os h)
  store_no_load _ os volatile h = refl

  slot_needed : (k : ItemKind) (needed : Places) → OnRow IsSlotStore k → is_dead k needed ≡ false → (m : ℕ) × (needed (Slot m) ≡ true)
  slot_needed (Code i n) needed store stays = by_row (row_of i) store (not_both (is_dead_row (row_of i) needed) stays) where
    not_both : (b : Bool) → (b && not (is_volatile_load i)) ≡ false → b ≡ false
    not_both true e =
        let e' : not (is_volatile_load i) ≡ false = e in
        let bad : true ≡ false = sym (ap not (store_no_load i.op i.operands i.volatile store)) ∙ e' in
        cc
    not_both false e = refl

    by_row : (r : Row) → IsSlotStore r → is_dead_row r needed ≡ false → (m : ℕ) × (needed (Slot m) ≡ true)
    by_row (StoresSlot rs m) store stays = (m, not_false (needed (Slot m)) stays)
    by_row _ store stays = absurd store
  slot_needed (Mark v m) needed store stays = absurd store
  slot_needed (Phi l n) needed store stays = absurd store

  -- control goes on below a slot store
  store_below : (k : ItemKind) → OnRow IsSlotStore k → (p q : Pos) → (KindEdge (λ n. n) k p (below p)) × (KindEdge (λ n. n) k p q → q ≡ below p)
  store_below (Code i n) store p q = by_row (row_of i) store where
    by_row : (r : Row) → IsSlotStore r → (RowEdge (λ n. n) r p (below p)) × (RowEdge (λ n. n) r p q → q ≡ below p)
    by_row (StoresSlot rs m) store = (refl, λ e. e)
    by_row _ store = absurd store
  store_below (Mark v m) store p q = absurd store
  store_below (Phi l n) store p q = absurd store

  -- above a slot store no item goes to a block
  no_branch : (y z : Item) (zs : List Item) → MayFollow (exit_of y.kind) (z ∷ zs) → (p : Pos) (n : ℕ) → KindEdge (λ m. m) y.kind p (block_start n) →
      IsJumpAtMost (z ∷ zs)
  no_branch y z zs follow p n edge = by_kind y.kind follow edge where
    up : {A : Type 0} → block_start n ≡ below p → A
    up e = let k : 0 ≡ p.item + 1 = ap (λ (q : Pos). q.item) e in absurd (omega (arith, k))

    by_row : (r : Row) → MayFollow (row_exit r) (z ∷ zs) → RowEdge (λ m. m) r p (block_start n) → IsJumpAtMost (z ∷ zs)
    by_row (Branches op a b t) follow edge = follow
    by_row (Jumps t) follow edge = let bad : z ∷ zs ≡ [] = follow in cc
    by_row (Returns v) follow edge = absurd edge
    by_row Unfit follow edge = absurd edge
    by_row _ follow edge = up edge

    by_kind : (k : ItemKind) → MayFollow (exit_of k) (z ∷ zs) → KindEdge (λ m. m) k p (block_start n) → IsJumpAtMost (z ∷ zs)
    by_kind (Code c m) follow edge = by_row (row_of c) follow edge
    by_kind (Mark v m) follow edge = up edge
    by_kind (Phi l m) follow edge = up edge

  no_jump : (z : Item) (zs : List Item) → IsJumpAtMost (z ∷ zs) → OnRow IsSlotStore z.kind → ⊥
  no_jump z [] always store = by_kind z.kind always store where
    by_row : (r : Row) → IsAlways (row_exit r) → IsSlotStore r → ⊥
    by_row (Jumps t) always store = store
    by_row _ always store = always

    by_kind : (k : ItemKind) → IsAlways (exit_of k) → OnRow IsSlotStore k → ⊥
    by_kind (Code c m) always store = by_row (row_of c) always store
    by_kind (Mark v m) always store = always
    by_kind (Phi l m) always store = always
  no_jump z (y ∷ ys) always store = always

  -- where control comes down a block and leaves it, it does so below each of its slot stores
  leaves_below : (p : Pos) (x : Item) (xs : List Item) → rf p ≡ x ∷ xs → OnRow IsSlotStore x.kind → (k n : ℕ) → Edge fp (pos_in p.block k) (block_start n) →
      p.item < k
  leaves_below p x xs at store k n edge = elim (cases_lt p.item k) [
    | inl lt ↦ lt
    | inr le ↦ elim (cases_eq k p.item) [
      | inl same ↦ absurd (at_store (subst (λ (i : ℕ). Edge fp (pos_in p.block i) (block_start n)) same edge))
      | inr ne ↦ absurd (above (omega (arith, le, ne)))
    ]
  ] where
    at_store : Edge fp p (block_start n) → ⊥
    at_store e =
        let here : KindEdge (λ m. m) x.kind p (block_start n) = subst (λ (z : Fetch). FetchEdge (λ m. m) z p (block_start n)) (laid.cons p x xs at).0 e in
        let k : 0 ≡ p.item + 1 = ap (λ (q : Pos). q.item) ((store_below x.kind store p (block_start n)).1 here) in
        omega (arith, k)

    above : k < p.item → ⊥
    above lt = by_blocks (from_block f.blocks p.block) refl at where
      by_blocks : (bs : List Block) → from_block f.blocks p.block ≡ bs → rest_in bs p.item ≡ x ∷ xs → ⊥
      by_blocks [] h e = cc
      by_blocks (b ∷ bs) h e =
          let w = two_above b.items p.item k x xs e lt in
          let there : rf (pos_in p.block k) ≡ w.0 ∷ w.1 ∷ w.2 = ap (λ (z : List Block). rest_in z k) h ∙ w.3 in
          let well : EndsWell (w.0 ∷ w.1 ∷ w.2) = subst EndsWell there (ends_at f sound.ends (pos_in p.block k)) in
          let cons = laid.cons (pos_in p.block k) w.0 (w.1 ∷ w.2) there in
          let here : KindEdge (λ m. m) w.0.kind (pos_in p.block k) (block_start n) =
          subst (λ (z : Fetch). FetchEdge (λ m. m) z (pos_in p.block k) (block_start n)) cons.0 edge in
          let at_most = no_branch w.0 w.1 w.2 well.0 (pos_in p.block k) n here in
          let one = diff k p.item lt in
          let below_is : drop (suc k) b.items ≡ w.1 ∷ w.2 = drop_tail b.items k w.0 (w.1 ∷ w.2) w.3 in
          let at_p : drop one.0 (w.1 ∷ w.2) ≡ x ∷ xs = ap (drop one.0) (sym below_is) ∙ drop-drop one.0 (suc k) b.items ∙
          ap (λ (n : ℕ). drop n b.items) (sym one.1) ∙ e in
          no_jump x xs (jump_from w.1 w.2 one.0 x xs at_most at_p) store

  -- ---- the load of a slot that is stored

  -- a row that may read the slot: a load of it, or a call or return, which may pass it
  abbrev ReadsSlot : ℕ → Row → Type 0
  ReadsSlot m r = (slot_read r ≡ Some m) ⊎ (has_implicit_uses r ≡ true)

  slot_loads : (i : Item) (m : ℕ) → KindUses i.kind (Slot m) → OnRow (ReadsSlot m) i.kind
  slot_loads i m uses = by_kind i.kind uses where
    by_row : (o : Option ℕ) → names_slot o m ≡ true → o ≡ Some m
    by_row (Some n) e = ap Some (eqb-true n m e)
    by_row None e = cc

    by_kind : (k : ItemKind) → KindUses k (Slot m) → OnRow (ReadsSlot m) k
    by_kind (Code c n) uses =
        let implicit = has_implicit_uses (row_of c) in
        let passes = list_any (is_outgoing m) c.operands in
        elim (or_cases (names_slot (slot_read (row_of c)) m) (implicit && passes) uses) as (λ _. ReadsSlot m (row_of c)) [
          | inl e ↦ inl (by_row (slot_read (row_of c)) e)
          | inr e ↦ inr (and_parts implicit passes e).0
        ]
    by_kind (Mark v m) uses = absurd uses
    by_kind (Phi l n) uses = absurd uses

  -- a path from where a slot is live to code that reads it
  live_leads : (m : ℕ) {p : Pos} → Live (paths_of f) (Slot m) p →
      (q : Pos) × (j : Item) × (fp.fetch q ≡ Here j) × OnRow (ReadsSlot m) j.kind × Leads fp p q
  live_leads m {p} (used uses) = by_fetch (fp.fetch p) refl uses where
    by_fetch : (x : Fetch) → fp.fetch p ≡ x → Uses x (Slot m) →
        (q : Pos) × (j : Item) × (fp.fetch q ≡ Here j) × OnRow (ReadsSlot m) j.kind × Leads fp p q
    by_fetch (Here j) e uses = (p, j, e, slot_loads j m uses, stay)
    by_fetch (EndOfBlock k n) e uses = absurd uses
    by_fetch Outside e uses = absurd uses
  live_leads m {p} (later ne edge more) = let w = live_leads m more in (w.0, w.1, w.2, w.3, go edge w.4)

  -- control comes down from one index of a block to another
  down_leads : (b k : ℕ) → ComesDown fp b k → (j e : ℕ) → j + e ≡ k → Leads fp (pos_in b j) (pos_in b k)
  down_leads b k down j zero is = let same : j ≡ k = omega (arith, is) in subst (λ (n : ℕ). Leads fp (pos_in b j) (pos_in b n)) same stay
  down_leads b k down j (suc e) is = go (down j (omega (arith, is))) (down_leads b k down (j + 1) e (omega (arith, is)))

  store_loads : (p : Pos) (x : Item) (xs : List Item) → rf p ≡ x ∷ xs → OnRow IsSlotStore x.kind →
      (m : ℕ) × (q : Pos) × (j : Item) × (fp.fetch q ≡ Here j) × OnRow (ReadsSlot m) j.kind × Leads fp p q
  store_loads p x xs at store =
      let s = slot_needed x.kind (needed_at xs (ends p.block)) store (stays_at p x xs at) in
      let edge : Edge fp p (below p) = subst (λ (z : Fetch). FetchEdge (λ n. n) z p (below p)) (sym (laid.cons p x xs at).0) (store_below x.kind store p p).0 in
      let real : Slot s.0 ≡ Register 0 → ⊥ = λ e. cc in
      elim (needed_live f sound.ends ends round.live (Slot s.0) real xs (below p) (laid.cons p x xs at).1 s.1) [
        | inl l ↦ (let w = live_leads s.0 l in (s.0, w.0, w.1, w.2, w.3, go edge w.4))
        | inr h ↦ (let w = (round.live p.block (Slot s.0)).0 h.0 in
            let lt = leaves_below p x xs at store w.1.0 w.0 w.1.2 in
            let d = diff p.item w.1.0 lt in
            let v = live_leads s.0 w.2 in (
              s.0,
              v.0,
              v.1,
              v.2,
              v.3,
              leads_trans fp (leads_on fp (down_leads p.block w.1.0 w.1.1 p.item (suc d.0) (let k = d.1 in omega (arith, k))) w.1.2) v.4,
            ))
      ]

  module _ (shape : LooseShape src.function.blocks f.blocks srcp fp) where
    -- a load stands at no silent position
    load_inside : (q : Pos) (j : Item) (m : ℕ) → fp.fetch q ≡ Here j → OnRow (ReadsSlot m) j.kind → (b : Block) → Contains f.blocks b →
        position_of j.origin ≡ record { block = b.id; item = b.source_end } → ⊥
    load_inside q j m at loads b member from =
        let a = among_in shape.among b member in
        let r = rest_at false f.blocks (resolve subs) q j at in
        by_blocks (from_block f.blocks q.block) refl r.1 a where
          none_there : (a : Block) × Contains src.function.blocks a × (b.id ≡ a.id) × (b.source_end ≡ a.source_end) → (i : Item) →
              srcp.fetch (record { block = b.id; item = b.source_end }) ≡ Here i → ⊥
          none_there a i e = none_silent src.function.blocks true (resolve src.subs) src.read a.0 a.1 (record { block = b.id; item = b.source_end }) a.2 a.3 i e

          by_origin : (a : (a : Block) × Contains src.function.blocks a × (b.id ≡ a.id) × (b.source_end ≡ a.source_end)) →
              (k : ItemKind) (o : Origin) (c : Block) → Contains f.blocks c → OnRow (ReadsSlot m) k → KindFits srcp k c.source_end o →
              OriginIn c o → position_of o ≡ record { block = b.id; item = b.source_end } → ⊥
          by_origin a (Code i n) (Kept o) c inside loads fits home from = by_fetch (srcp.fetch o) refl fits where
            by_fetch : (x : Fetch) → srcp.fetch o ≡ x → HasClass (row_of i) x → ⊥
            by_fetch (Here y) e h = none_there a y (sym (ap srcp.fetch from) ∙ e)
            by_fetch (EndOfBlock k l) e h = h
            by_fetch Outside e h = h
          by_origin a (Code i n) (Before o) c inside loads fits home from =
              let block : c.id ≡ b.id = sym home.0 ∙ ap (λ (z : Pos). z.block) from in
              let item : o.item ≡ b.source_end = ap (λ (z : Pos). z.item) from in
              let same : c ≡ b = one_block_in f.blocks sound.blocks_apart c b inside member block in
              let lt : o.item < c.source_end = by_row (row_of i) loads fits in
              let s : c.source_end ≡ b.source_end = ap (λ (z : Block). z.source_end) same in
              omega (arith, lt, item, s) where
                by_row : (r : Row) → ReadsSlot m r → MayAdd r o.item c.source_end → o.item < c.source_end
                by_row (LoadsSlot rd k) loads may = may
                by_row (Calls call) loads may = absurd may
                by_row (Returns ending) loads may = absurd may
                by_row _ (inl loads) may = cc
                by_row _ (inr implicit) may = cc
          by_origin a (Mark v l) o c inside loads fits home from = loads
          by_origin a (Phi l n) o c inside loads fits home from = loads

          by_blocks : (bs : List Block) → from_block f.blocks q.block ≡ bs → rest_in bs q.item ≡ j ∷ (rest_at false f.blocks (resolve subs) q j at).0 →
              (a : Block) × Contains src.function.blocks a × (b.id ≡ a.id) × (b.source_end ≡ a.source_end) → ⊥
          by_blocks [] h e a = cc
          by_blocks (c ∷ cs) h e a =
              let k = found_in f.blocks q.block c cs h in
              let inside : Contains c.items j = in_drop c.items q.item j _ e in
              by_origin a j.kind j.origin c k.0 loads
              (All-contains (λ (i : Item). KindFits srcp i.kind c.source_end i.origin) c.items j
              (All-contains (λ (b : Block). All (λ (i : Item). KindFits srcp i.kind b.source_end i.origin) b.items) f.blocks c shape.items k.0) inside)
              (All-contains (λ (i : Item). OriginIn c i.origin) c.items j
              (All-contains (λ (b : Block). All (λ (i : Item). OriginIn b i.origin) b.items) f.blocks c sound.origins k.0) inside)
              from

    stores : (b : Block) → Contains f.blocks b → (p : Pos) (i : Item) → p.block ≡ b.id → fp.fetch p ≡ Here i → OnRow IsSlotStore i.kind →
        i.origin ≡ Before (record { block = b.id; item = b.source_end }) → (q : Pos) × (j : Item) × IsMetApart fp p b.source_end q j
    stores b member p i block at store from =
        let r = rest_at false f.blocks (resolve subs) p i at in
        let w = store_loads p i r.0 r.1 store in (
          w.1,
          w.2,
          (
            w.3,
            counts w.2.kind w.0 w.4,
            (λ e. load_inside w.1 w.2 w.0 w.3 w.4 b member (e ∙ (λ n. record { block = block n; item = b.source_end }))),
            inr w.5,
          ),
        ) where
          counts : (k : ItemKind) (m : ℕ) → OnRow (ReadsSlot m) k → OnRow Counts k
          counts (Code c n) m loads = by_row (row_of c) loads where
            by_row : (r : Row) → ReadsSlot m r → Counts r
            by_row (LoadsSlot rd k) e = tt
            by_row (Calls call) e = tt
            by_row (Returns ending) e = tt
            by_row _ (inl e) = cc
            by_row _ (inr e) = cc
          counts (Mark v l) m loads = loads
          counts (Phi l n) m loads = loads

-- where a round takes nothing out, a function that follows a source loosely follows it
pub settled_follows : (f : Function) (subs : List DebugSubstitution) → IsSound f → IsRound f f → (src : Source) → WeakSimulation src f subs →
    SimulatesSource src f subs
settled_follows f subs sound round src fol = record {
  objects = fol.objects;
  follows = record {
    shape = record {
      among = fol.shape.among;
      first = fol.shape.first;
      back = fol.shape.back;
      order = fol.shape.order;
      items = fol.shape.items;
      volatile = fol.shape.volatile;
      stores = stores f subs sound round src fol.shape;
      marks = fol.shape.marks;
    };
    runs = fol.runs;
  };
}
