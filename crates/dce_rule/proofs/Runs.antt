-- The run of a function without its dead code.
use Rattle.std.proofs.Common.{◌≡◌, ◌⊎◌, inl, inr, ℕ, suc, ◌+◌, List, [], ◌∷◌, map, drop, All, Contains, Option, Some, None, Bool, true, false}
use Rattle.std.proofs.Common.{cond, slice_get, refl, sym, ap, ◌∙◌, subst, arith}
use Rattle.std.proofs.lemmas.Bool.{cases_eq}
use Rattle.std.proofs.lemmas.List.Elements.{All-contains, All-head, All-drop}
use Rattle.rv64_instr.specs.declared.place.Place.{Place}
use Rattle.rv64_instr.specs.declared.place.Place.TheVariants.{Register, Slot, Const}
use Rattle.rv64_instr.specs.Instruction.{Instruction}
use Rattle.rv64_instr.specs.Row.{Row, Jumps, Unfit, row_of}
use Rattle.rv64_instr.specs.LocationEffects.{defines_of}
use Rattle.mir_func.specs.declared.debug_substitution.OperandPair.{OperandPair}
use Rattle.mir_func.specs.declared.position.Pos.{Pos}
use Rattle.mir_func.specs.declared.position.Origin.{Origin}
use Rattle.mir_func.specs.declared.position.Origin.TheVariants.{Kept, Before}
use Rattle.mir_func.specs.declared.variable.MarkValue.TheVariants.{Nothing, Constant, At, Pair}
use Rattle.mir_func.specs.declared.block.Block.{Block}
use Rattle.mir_func.specs.declared.item.Item.{Item}
use Rattle.mir_func.specs.declared.item.ItemKind.{ItemKind}
use Rattle.mir_func.specs.declared.item.ItemKind.TheVariants.{Code, Mark, Phi}
use Rattle.mir_func.specs.Function.{Function}
use Rattle.mir_func.specs.Sound.{AllItems, IsSound, number_of, code_number, LeavesPointer, OriginIn, HasForm}
use Rattle.mir_func.specs.Graph.{Fetch, Here, EndOfBlock, Program, below, block_start, from_block, index_of, program_of, Edge, FetchEdge, rest_in, rest_of}
use Rattle.mir_func.specs.Successors.{pos_in}
use Rattle.mir_func.specs.Positions.{position_of}
use Rattle.sem_mir.specs.State.{Core, State}
use Rattle.sem_mir.specs.Step.{Outcome, Falls, Goes, Gives, Traps, Asks, Breaks, Went, moved, do_item, do_fetch}
use Rattle.sem_mir.specs.Step.{pair_value}
use Rattle.sem_mir.specs.Align.{is_code, is_jump, is_jump_row, Count, moves_on}
use Rattle.sem_mir.specs.Align.{end_sync_point, sync_point_at, IsOrigin, Since, After, AnyOrigin, RunsMatch}
use Rattle.sem_mir.specs.Align.{since_of, waits_at, sync_point_of}
use Rattle.sem_mir.specs.Effects.{held_in, EndAlike, OnCore, FallsInto}
use Rattle.sem_mir.specs.Live.{Defines, KindDefines}
use Rattle.sem_mir.specs.Follow.{InOrder}
use Rattle.sem_mir.proofs.Edges.{step_edge}
use Rattle.sem_mir.proofs.Reading.{found_in}
use Rattle.sem_simulation.specs.Refinement.{FaultsAt}
use Rattle.sem_simulation.specs.MatchStates.{Sides, MatchStates, since_item, Laid, DoBoth}
use Rattle.sem_simulation.specs.InPlace.{FallsOrTraps, DoAlike, MayTrap, IsIdleAt, View, ended, both, taken as view_taken, paired, InPlace}
use Rattle.sem_simulation.proofs.Stations.{moves_on_less, code_sync_point, end_is_sync_point, IsSyncPointOf, of_item, of_end, sync_point_is_of}
use Rattle.sem_simulation.proofs.Laid.{laid_out, in_order_at, one_end, from_home, from_within, from_before_end, falls_down}
use Rattle.sem_simulation.proofs.InPlace.{in_place_follows}
use Rattle.pass_edits.specs.sem_agreement.Agreement.{Alike, KillDefs, HeldAfter, Depends}
use Rattle.pass_edits.specs.sem_agreement.Laws.{ItemsAreAlike}
use Rattle.pass_edits.proofs.sem_agreement.Items.{items_are_alike}
use Rattle.pass_edits.proofs.sem_agreement.Views.{does_both, pure_form}
use Rattle.pass_edits.proofs.sem_agreement.Outcomes.{leaves_pair}
use Rattle.dce_rule.specs.Dead.{Places, Ends, is_dead_row, is_dead_code, is_dead, needed_at, paths_of}
use Rattle.dce_rule.specs.Wrong.{silenced, silenced_left, is_dead_at, IsWrongAt, made, on, IsClosed, begins_dead}
use Rattle.dce_rule.specs.Gone.{IsGone, judged_of}
use Rattle.dce_rule.proofs.Unneeded.{dead_row, dead_parts, kept_uses_none}
use Rattle.dce_rule.proofs.Forms.{numbers_held, no_pointer}
use Rattle.dce_rule.proofs.Lists.{quiet, quiet_is, taken, item_from, end_from, end_there, one_past, rest_taken, judged_at, judged_there}

-- ---- outcomes

-- dead code has a form
no_unfit : (r : Row) (needed : Places) → is_dead_row r needed ≡ true → r ≡ Unfit → ⊥
no_unfit r needed e u = let bad : false ≡ true = ap (λ (z : Row). is_dead_row z needed) (sym u) ∙ e in cc

dead_no_jump : (r : Row) (needed : Places) → is_dead_row r needed ≡ true → is_jump_row r ≡ false
dead_no_jump (Jumps t) needed e = cc
dead_no_jump _ needed e = refl

-- a place is x0 or not
zero_or : (y : Place) → (y ≡ Register 0) ⊎ (y ≡ Register 0 → ⊥)
zero_or (Register r) = elim (cases_eq r 0) [ inl e ↦ inl (ap Register e) | inr ne ↦ inr (λ e. ne (let w : r ≡ 0 = cc in w)) ]
zero_or (Slot n) = inr (λ e. cc)
zero_or (Const z) = inr (λ e. cc)

abbrev verdict : Item → Bool → Option (Item × Bool)
verdict x a = Some (x, a)

second_is : (x y : Item) (a b : Bool) → verdict x a ≡ verdict y b → a ≡ b
second_is x y a b e = ap second e where
  second : Option (Item × Bool) → Bool
  second None = false
  second (Some w) = w.1

decided : (b : Bool) → (b ≡ true) ⊎ (b ≡ false)
decided true = inl refl
decided false = inr refl

module _ (f : Function) (resolve : OperandPair → Option OperandPair) (sound : IsSound f) (forms : AllItems (λ i. HasForm i.kind) f.blocks)
    (ends : Ends) (closed : IsClosed ends f) (wrong : Pos → Places) (covers : (p : Pos) (x : Place) → IsWrongAt ends f x p → wrong p x ≡ true) where
  abbrev fp : Program
  fp = program_of false f.blocks resolve

  abbrev gp : Program
  gp = program_of false (map (taken wrong ends) f.blocks) resolve

  abbrev rf : Pos → List Item
  rf = rest_of f.blocks

  abbrev rg : Pos → List Item
  rg = rest_of (map (taken wrong ends) f.blocks)

  laid : Laid fp rf
  laid = laid_out false f.blocks resolve

  -- where items stand in their block
  pub record Inside (p : Pos) (xs : List Item) : Type 0 where
    pub block : Block
    pub member : Contains f.blocks block
    pub id : block.id ≡ p.block
    pub at : drop p.item block.items ≡ xs

  pub inside : (p : Pos) (x : Item) (xs : List Item) → rf p ≡ x ∷ xs → Inside p (x ∷ xs)
  inside p x xs e = by_blocks (from_block f.blocks p.block) refl e where
    by_blocks : (bs : List Block) → from_block f.blocks p.block ≡ bs → rest_in bs p.item ≡ x ∷ xs → Inside p (x ∷ xs)
    by_blocks [] h e = cc
    by_blocks (b ∷ bs) h e = let k = found_in f.blocks p.block b bs h in record { block = b; member = k.0; id = k.1; at = e }

  -- what holds of all items of blocks holds of what stands from a position on
  pub all_at : (P : Block → Item → Type 0) → All (λ (b : Block). All (P b) b.items) f.blocks → (p : Pos) (x : Item) (xs : List Item) (e : rf p ≡ x ∷ xs) →
      All (P (inside p x xs e).block) (x ∷ xs)
  all_at P all p x xs e =
      let w = inside p x xs e in
      subst (All (P w.block)) w.at
      (All-drop (P w.block) p.item w.block.items (All-contains (λ (b : Block). All (P b) b.items) f.blocks w.block all w.member))

  pub each_at : (P : Item → Type 0) → AllItems P f.blocks → (p : Pos) (x : Item) (xs : List Item) → rf p ≡ x ∷ xs → P x
  each_at P all p x xs e = All-head P x xs (all_at (λ b i. P i) all p x xs e)

  -- the place is right at the position, or x0
  abbrev pub Right : Pos → Place → Type 0
  Right p x = IsWrongAt ends f x p → x ≡ Register 0

  -- x2 is right everywhere
  pointer_defined : (p : Pos) (x : Item) (xs : List Item) → rf p ≡ x ∷ xs → is_dead x.kind (needed_at xs (ends p.block)) ≡ true →
      KindDefines x.kind (Register 2) → ⊥
  pointer_defined p x xs at dead defines =
      by_kind x.kind (each_at (λ i. HasForm i.kind) forms p x xs at) (each_at (λ i. LeavesPointer i.kind) sound.pointer p x xs at) dead defines where
        by_kind : (k : ItemKind) → HasForm k → LeavesPointer k → is_dead k (needed_at xs (ends p.block)) ≡ true → KindDefines k (Register 2) → ⊥
        by_kind (Code i n) form plain dead defines = no_pointer i form plain (dead_parts i (needed_at xs (ends p.block)) dead).0 defines
        by_kind (Mark v m) form plain dead defines = cc
        by_kind (Phi l n) form plain dead defines = cc

  pointer_right : {p : Pos} → IsWrongAt ends f (Register 2) p → ⊥
  pointer_right (made p dead defines edge) = by_rest (rf p) refl dead where
    by_rest : (xs : List Item) → rf p ≡ xs → begins_dead xs (ends p.block) ≡ true → ⊥
    by_rest [] at dead = cc
    by_rest (x ∷ xs) at dead =
        pointer_defined p x xs at dead (subst (λ (z : Fetch). Defines z (Register 2)) (laid.cons p x xs at).0 defines)
  pointer_right (on p w ne edge) = pointer_right w

  -- ---- how the cores are related

  -- alike but at wrong places, and g knows no number of dead code
  pub record MatchCores (p : Pos) (c d : Core) : Type 0 where
    pub alike : Alike (Right p) (λ k. ⊥) c d
    pub none : (k o : ℕ) → IsGone ends f k → d.pairs k o ≡ None

  abbrev HasNone : Core → Type 0
  HasNone d = (k o : ℕ) → IsGone ends f k → d.pairs k o ≡ None

  -- where all that is right at q is held alike, or x0
  kin_at : (q : Pos) (H : Place → Type 0) (c d : Core) → ((y : Place) → Right q y → H y ⊎ (y ≡ Register 0)) → Alike H (λ k. ⊥) c d → HasNone d →
      MatchCores q c d
  kin_at q H c d right h none = record {
    alike = record { held = record { world = h.held.world; places = λ y r. at y (right y r) }; told = h.told };
    none = none;
  } where
    at : (y : Place) → H y ⊎ (y ≡ Register 0) → held_in y c ≡ held_in y d
    at y (inl k) = h.held.places y k
    at y (inr e) = subst (λ (z : Place). held_in z c ≡ held_in z d) (sym e) refl

  none_kept : (k : ItemKind) (d : Core) → HasNone d → ((n : ℕ) → number_of k ≡ Some n → IsGone ends f n → ⊥) → OnCore HasNone (do_item gp k d)
  none_kept k d none own = by_outcome (do_item gp k d) (λ n gone. leaves_pair gp k n d (λ m e same. own m e (subst (IsGone ends f) same gone))) where
    by_outcome : (x : Outcome) → ((n : ℕ) → IsGone ends f n → OnCore (λ e. e.pairs n ≡ d.pairs n) x) → OnCore HasNone x
    by_outcome (Falls e) h = λ n o gone. ap (λ (z : ℕ → Option ℕ). z o) (h n gone) ∙ none n o gone
    by_outcome (Goes t e) h = λ n o gone. ap (λ (z : ℕ → Option ℕ). z o) (h n gone) ∙ none n o gone
    by_outcome (Gives v) h = tt
    by_outcome Traps h = tt
    by_outcome Asks h = tt
    by_outcome Breaks h = tt

  -- the number of what stays isn't gone
  own_number : (p : Pos) (x : Item) (xs : List Item) → rf p ≡ x ∷ xs → is_dead x.kind (needed_at xs (ends p.block)) ≡ false →
      (n : ℕ) → number_of x.kind ≡ Some n → IsGone ends f n → ⊥
  own_number p x xs at stay n number gone =
      let j = judged_there ends f.blocks p x xs at in
      let here = judged_at ends f.blocks j.0 x _ j.1 in
      let there = judged_at ends f.blocks gone.index gone.item true gone.stands in
      let same : gone.index ≡ j.0 = sound.numbers gone.index j.0 gone.item x n there gone.number here number in
      let e : verdict gone.item true ≡ verdict x (is_dead x.kind (needed_at xs (ends p.block))) =
      sym gone.stands ∙ ap (λ (k : ℕ). slice_get (judged_of ends f.blocks) k) same ∙ j.1 in
      let bad : true ≡ false = second_is gone.item x true (is_dead x.kind (needed_at xs (ends p.block))) e ∙ stay in
      cc

  gone_number : (p : Pos) (x : Item) (xs : List Item) → rf p ≡ x ∷ xs → is_dead x.kind (needed_at xs (ends p.block)) ≡ true →
      (n : ℕ) → code_number x.kind ≡ Some n → IsGone ends f n
  gone_number p x xs at dead n number =
      let j = judged_there ends f.blocks p x xs at in
      record { index = j.0; item = x; stands = j.1 ∙ ap (λ (z : Bool). Some (x, z)) dead; number = number }

  -- what an item does leads along an edge
  edge_of : (p : Pos) (x : Item) (xs : List Item) → rf p ≡ x ∷ xs → (c : Core) (u : State) → moved (λ n. n) p (do_item fp x.kind c) ≡ Went u →
      Edge (paths_of f) p u.pos
  edge_of p x xs at c u e = step_edge fp (record { pos = p; core = c }) u
      (ap (λ (z : Fetch). moved (λ n. n) p (do_fetch fp z c)) (laid.cons p x xs at).0 ∙ e)

  falls_edge : (p : Pos) (x : Item) (xs : List Item) → rf p ≡ x ∷ xs → (c e : Core) → do_item fp x.kind c ≡ Falls e → Edge (paths_of f) p (below p)
  falls_edge p x xs at c e go = edge_of p x xs at c (record { pos = below p; core = e }) (ap (moved (λ n. n) p) go)

  goes_edge : (p : Pos) (x : Item) (xs : List Item) → rf p ≡ x ∷ xs → (c e : Core) (n : ℕ) → do_item fp x.kind c ≡ Goes n e →
      Edge (paths_of f) p (block_start n)
  goes_edge p x xs at c e n go = edge_of p x xs at c (record { pos = block_start n; core = e }) (ap (moved (λ n. n) p) go)

  -- ---- items

  -- what is right behind an item that stays is right before it, or defined by it, or x0
  right_before : (p q : Pos) (x : Item) (xs : List Item) → rf p ≡ x ∷ xs → Edge (paths_of f) p q → (y : Place) → Right q y →
      (KindDefines x.kind y → ⊥) → Right p y
  right_before p q x xs at edge y right ne =
      λ w. right (on p w (λ stay defines. ne (subst (λ (z : Fetch). Defines z y) (laid.cons p x xs at).0 defines)) edge)

  held_before : (p q : Pos) (x : Item) (xs : List Item) → rf p ≡ x ∷ xs → Edge (paths_of f) p q → (y : Place) → Right q y →
      HeldAfter (Right p) x.kind y ⊎ (y ≡ Register 0)
  held_before p q x xs at edge y right = by_kind x.kind (right_before p q x xs at edge y right) where
    by_kind : (k : ItemKind) → ((KindDefines k y → ⊥) → Right p y) → HeldAfter (Right p) k y ⊎ (y ≡ Register 0)
    by_kind (Code i n) h = elim (decided (defines_of (row_of i) y)) [
      | inl e ↦ inl (inl e)
      | inr e ↦ inl (inr (h (λ d. (let bad : true ≡ false = sym d ∙ e in cc))))
    ]
    by_kind (Mark v m) h = inl (h (λ d. d))
    by_kind (Phi l n) h = inl (h (λ d. d))

  -- what is right behind dead code is right before it and not defined by it, or x0
  right_dead : (p : Pos) (x : Item) (xs : List Item) (i : Instruction) (n : Option ℕ) → rf p ≡ x ∷ xs → x.kind ≡ Code i n →
      is_dead x.kind (needed_at xs (ends p.block)) ≡ true → Edge (paths_of f) p (below p) → (y : Place) → Right (below p) y →
      KillDefs (Right p) i y ⊎ (y ≡ Register 0)
  right_dead p x xs i n at code dead edge y right =
      let here : (paths_of f).fetch p ≡ Here x = (laid.cons p x xs at).0 in
      let dead_here : is_dead_at ends f p ≡ true = ap (λ (z : List Item). begins_dead z (ends p.block)) at ∙ dead in
      elim (decided (defines_of (row_of i) y)) [
        | inl e ↦ inr (right (made p dead_here (subst (λ (z : Fetch). Defines z y) (sym here) (subst (λ (k : ItemKind). KindDefines k y) (sym code) e)) edge))
        | inr e ↦ inl (
          e,
          right_before p (below p) x xs at edge y right
              (λ d. (let t : defines_of (row_of i) y ≡ true = subst (λ (k : ItemKind). KindDefines k y) code d in let bad : true ≡ false = sym t ∙ e in cc)),
        )
      ]

  module _ (ct : Count) (src : Program) (s0 : State) where
    abbrev sides : Sides
    sides = record { old = record { program = fp; rest = rf; start = s0 }; new = record { program = gp; rest = rg; start = s0 } }

    laws : (p : Pos) → ItemsAreAlike (Right p) (λ k. ⊥)
    laws p = items_are_alike (Right p) (λ k. ⊥)

    -- the items of g's block from an item of f's on
    abbrev pub left_at : Pos → List Item → List Item
    left_at p xs = silenced_left (λ n. wrong (pos_in p.block n)) p.item xs (ends p.block)

    abbrev pub match_states : MatchStates
    match_states = record {
      Stage = Pos;
      entry = block_start;
      MatchItems = λ p b xs ys. (rf p ≡ xs) × (p.block ≡ b) × (ys ≡ left_at p xs);
      MatchCores = λ p b xs ys c d. MatchCores p c d;
    }

    -- both go on, or end alike
    with_none : (R : Core → Core → Type 0) (x y : Outcome) → EndAlike R x y → OnCore HasNone y → EndAlike (λ c d. R c d × HasNone d) x y
    with_none R (Falls c) (Falls d) h k = (h, k)
    with_none R (Goes m c) (Goes n d) h k = (h.0, (h.1, k))
    with_none R (Gives v) (Gives w) h k = h
    with_none R Traps Traps h k = tt
    with_none R Asks Asks h k = tt
    with_none R Breaks Breaks h k = tt
    with_none R _ _ h k = absurd h

    do_alike : (p : Pos) (x : Item) (xs : List Item) → rf p ≡ x ∷ xs → (H : Place → Type 0) (c : Core) (m : Since) (ys : List Item) →
        ((q : Pos) → Edge (paths_of f) p q → (y : Place) → Right q y → H y ⊎ (y ≡ Register 0)) →
        ((e : Core) (n : ℕ) → do_item fp x.kind c ≡ Goes n e → m ≡ After) →
        (o o' : Outcome) → do_item fp x.kind c ≡ o → EndAlike (λ e e'. Alike H (λ k. ⊥) e e' × HasNone e') o o' →
        DoAlike ct src sides match_states p.block xs ys m (below p) o o'
    do_alike p x xs at H c m ys right go (Falls e) (Falls e') is h = kin_at (below p) H e e' (right (below p) (falls_edge p x xs at c e is)) h.0 h.1
    do_alike p x xs at H c m ys right go (Goes n e) (Goes n' e') is h =
        (h.0, (go e n is, kin_at (block_start n) H e e' (right (block_start n) (goes_edge p x xs at c e n is)) h.1.0 h.1.1))
    do_alike p x xs at H c m ys right go (Gives v) (Gives w) is h = h
    do_alike p x xs at H c m ys right go Traps Traps is h = tt
    do_alike p x xs at H c m ys right go Asks Asks is h = tt
    do_alike p x xs at H c m ys right go Breaks Breaks is h = tt
    do_alike p x xs at H c m ys right go _ _ is h = absurd h

    -- code that stays depends on what is right
    depends : (p : Pos) (x : Item) (xs : List Item) (i : Instruction) (n : Option ℕ) → rf p ≡ x ∷ xs → x.kind ≡ Code i n →
        is_dead x.kind (needed_at xs (ends p.block)) ≡ false → (c d : Core) → Depends fp gp (Right p) (Code i n) c d
    depends p x xs i n at code stay c d = (
      λ y uses w. elim (zero_or y) [
        | inl e ↦ e
        | inr ne ↦ absurd (kept_uses_none f sound.ends ends closed y ne p i n x xs at code
            (ap (λ (k : ItemKind). is_dead k (needed_at xs (ends p.block))) (sym code) ∙ stay) uses w)
      ],
      numbers_held i (Right p) (λ w. refl) (λ w. absurd (pointer_right w)) (subst HasForm code (each_at (λ i. HasForm i.kind) forms p x xs at)) n,
    )

    -- a mark or a phi does alike, silenced where its place is wrong
    debug_alike : (p : Pos) (k : ItemKind) (c d : Core) → is_code k ≡ false → Alike (Right p) (λ n. ⊥) c d →
        EndAlike (Alike (Right p) (λ n. ⊥)) (do_item fp k c) (do_item gp (silenced (wrong p) k) d)
    debug_alike p (Code i n) c d code h = cc
    debug_alike p (Mark v Nothing) c d code h = (laws p).both fp gp (Mark v Nothing) c d refl h tt
    debug_alike p (Mark v (Constant z)) c d code h = (laws p).both fp gp (Mark v (Constant z)) c d refl h tt
    debug_alike p (Mark v (At r)) c d code h = by_test (wrong p (Register r)) refl where
      by_test : (z : Bool) → wrong p (Register r) ≡ z →
          EndAlike (Alike (Right p) (λ n. ⊥)) (do_item fp (Mark v (At r)) c) (do_item gp (cond z (Mark v Nothing) (Mark v (At r))) d)
      by_test true e = (laws p).silent_mark fp gp v (At r) c d h
      by_test false e = (laws p).both fp gp (Mark v (At r)) c d refl h (λ w. (let bad : true ≡ false = sym (covers p (Register r) w) ∙ e in cc))
    debug_alike p (Mark v (Pair q)) c d code h = (laws p).both fp gp (Mark v (Pair q)) c d refl h (by_pair (resolve q)) where
      by_pair : (o : Option OperandPair) → (n : ℕ) → pair_value o d ≡ Some n → pair_value o c ≡ Some n
      by_pair None n e = cc
      by_pair (Some o) n e = h.told.pairs o.number o.operand (λ b. b) n e
    debug_alike p (Phi None n) c d code h = (laws p).both fp gp (Phi None n) c d refl h tt
    debug_alike p (Phi (Some y) n) c d code h = by_test (wrong p y) refl where
      by_test : (z : Bool) → wrong p y ≡ z →
          EndAlike (Alike (Right p) (λ n. ⊥)) (do_item fp (Phi (Some y) n) c) (do_item gp (cond z (Phi None n) (Phi (Some y) n)) d)
      by_test true e = (laws p).silent_phi fp gp (Some y) n c d h
      by_test false e = (laws p).both fp gp (Phi (Some y) n) c d refl h (λ w. (let bad : true ≡ false = sym (covers p y w) ∙ e in cc))

    -- what is taken for granted of the source here, and of g: an item that stays goes elsewhere only where the source moves on after it, and
    -- where dead code was added before a position and the source stops there, g may idle
    pub record GoesAlong : Type 0 where
      pub moves : (p : Pos) (x : Item) (xs : List Item) → rf p ≡ x ∷ xs → (c e : Core) (n : ℕ) → do_item fp x.kind c ≡ Goes n e → since_item ct x ≡ After
      pub idles : (p : Pos) (x : Item) (xs : List Item) → rf p ≡ x ∷ xs → is_dead x.kind (needed_at xs (ends p.block)) ≡ true → (q : Pos) →
          x.origin ≡ Before q → FaultsAt src s0 q → All (IsIdleAt ct gp q) (left_at (below p) xs)

    module _ (along : GoesAlong) where
      next : (p : Pos) (x : Item) (xs : List Item) → rf p ≡ x ∷ xs → match_states.MatchItems (below p) p.block xs (left_at (below p) xs)
      next p x xs at = ((laid.cons p x xs at).1, refl, refl)

      may_trap : (p : Pos) (x : Item) (xs : List Item) → rf p ≡ x ∷ xs → is_dead x.kind (needed_at xs (ends p.block)) ≡ true →
          MayTrap ct src sides match_states x (left_at (below p) xs)
      may_trap p x xs at dead = by_origin x.origin refl where
        by_origin : (o : Origin) → x.origin ≡ o → MayTrap ct src sides match_states x (left_at (below p) xs)
        by_origin (Kept q) e = inl (ap (λ (o : Origin). since_of (waits_at (moves_on ct x.kind) o)) e)
        by_origin (Before q) e = inr (subst (λ (o : Origin). FaultsAt src s0 (position_of o) →
            All (IsIdleAt ct gp (position_of o)) (left_at (below p) xs)) (sym e)
            (along.idles p x xs at dead q e))

      dead_falls : (p : Pos) (x : Item) (xs : List Item) (i : Instruction) (n : Option ℕ) (at : rf p ≡ x ∷ xs) → x.kind ≡ Code i n →
          (dead : is_dead x.kind (needed_at xs (ends p.block)) ≡ true) → (c d : Core) → MatchCores p c d →
          FallsOrTraps (MayTrap ct src sides match_states x (left_at (below p) xs)) (λ e. MatchCores (below p) e d) (do_item fp x.kind c)
      dead_falls p x xs i n at code dead c d kin =
          let row : is_dead_code i (needed_at xs (ends p.block)) ≡ true = ap (λ (k : ItemKind). is_dead k (needed_at xs (ends p.block)))
          (sym code) ∙ dead in
          let pure = (dead_parts i (needed_at xs (ends p.block)) row).0 in
          let number : (k : ℕ) → n ≡ Some k → (⊥ → ⊥) → (o : ℕ) → d.pairs k o ≡ None =
          λ k e free o. kin.none k o (gone_number p x xs at dead k (ap code_number code ∙ e)) in
          by_outcome (do_item fp x.kind c) refl
          (subst (λ (k : ItemKind). FallsInto (λ e. Alike (KillDefs (Right p) i) (λ k. ⊥) e d) (do_item fp k c)) (sym code)
          ((laws p).alone fp i n c d pure kin.alike number))
          (subst (λ (k : ItemKind). do_item fp k c ≡ Breaks → ⊥) (sym code)
          (pure_form fp (Code i n) c (pure, no_unfit (row_of i) (needed_at xs (ends p.block)) (dead_row i (needed_at xs (ends p.block)) row)))) where
            by_outcome : (o : Outcome) → do_item fp x.kind c ≡ o → FallsInto (λ e. Alike (KillDefs (Right p) i) (λ k. ⊥) e d) o → (o ≡ Breaks → ⊥) →
                FallsOrTraps (MayTrap ct src sides match_states x (left_at (below p) xs)) (λ e. MatchCores (below p) e d) o
            by_outcome (Falls e) is h b =
                kin_at (below p) (KillDefs (Right p) i) e d (right_dead p x xs i n at code dead (falls_edge p x xs at c e is)) h kin.none
            by_outcome (Goes t e) is h b = absurd h
            by_outcome (Gives v) is h b = absurd h
            by_outcome Traps is h b = may_trap p x xs at dead
            by_outcome Asks is h b = absurd h
            by_outcome Breaks is h b = absurd (b refl)

      quiet_code : (w : Places) (k : ItemKind) → is_code (silenced w k) ≡ is_code k
      quiet_code w k = quiet_is (λ z. is_code z ≡ is_code k) w k refl (λ v r e. sym (ap is_code e)) (λ y n e. sym (ap is_code e))

      quiet_number : (w : Places) (k : ItemKind) → number_of (silenced w k) ≡ number_of k
      quiet_number w k = quiet_is (λ z. number_of z ≡ number_of k) w k refl (λ v r e. sym (ap number_of e)) (λ y n e. sym (ap number_of e))

      debug_pairs : (p : Pos) (x : Item) (xs : List Item) → rf p ≡ x ∷ xs → is_code x.kind ≡ false → is_dead x.kind (needed_at xs (ends p.block)) ≡ false →
          (c d : Core) → MatchCores p c d → DoBoth fp gp x (quiet (wrong p) x) c d (MatchCores (below p))
      debug_pairs p x xs at code stay c d kin =
          let k : EndAlike (Alike (Right p) (λ n. ⊥)) (do_item fp x.kind c) (do_item gp (silenced
          (wrong p) x.kind) d) = debug_alike p x.kind c d code kin.alike in
          let none = none_kept (silenced (wrong p) x.kind) d kin.none
          (λ n e. own_number p x xs at stay n (sym (quiet_number (wrong p) x.kind) ∙ e)) in
          let w = does_both _ fp gp x (quiet (wrong p) x) c d code (quiet_code (wrong p) x.kind ∙ code)
          (with_none (Alike (Right p) (λ n. ⊥)) (do_item fp x.kind c) (do_item gp (silenced (wrong p) x.kind) d) k none) in (
            w.0,
            w.1,
            w.2,
            w.3,
            kin_at (below p) (Right p) w.0 w.1
                (λ y right. inl (right_before p (below p) x xs at (falls_edge p x xs at c w.0 w.2) y right (no_defines x.kind code y))) w.4.0 w.4.1,
          ) where
            no_defines : (k : ItemKind) → is_code k ≡ false → (y : Place) → KindDefines k y → ⊥
            no_defines (Code i n) e y h = cc
            no_defines (Mark v m) e y h = h
            no_defines (Phi l n) e y h = h

      code_pairs : (p : Pos) (x : Item) (xs : List Item) (i : Instruction) (n : Option ℕ) → rf p ≡ x ∷ xs → x.kind ≡ Code i n →
          is_dead x.kind (needed_at xs (ends p.block)) ≡ false → (c d : Core) → MatchCores p c d →
          DoAlike ct src sides match_states p.block xs (left_at (below p) xs) (since_item ct x) (below p) (do_item fp x.kind c) (do_item gp x.kind d)
      code_pairs p x xs i n at code stay c d kin =
          do_alike p x xs at (HeldAfter (Right p) x.kind) c (since_item ct x) (left_at (below p) xs) (λ q edge. held_before p q x xs at edge)
          (λ e m go. along.moves p x xs at c e m go) (do_item fp x.kind c) (do_item gp x.kind d) refl
          (with_none (Alike (HeldAfter (Right p) x.kind) (λ k. ⊥)) (do_item fp x.kind c) (do_item gp x.kind d)
          (subst (λ (k : ItemKind). EndAlike (Alike (HeldAfter (Right p) k) (λ k. ⊥)) (do_item fp k c) (do_item gp k d)) (sym code)
          ((laws p).both fp gp (Code i n) c d refl kin.alike (depends p x xs i n at code stay c d)))
          (none_kept x.kind d kin.none (own_number p x xs at stay)))

      -- ---- the views

      view_at : (p : Pos) (x : Item) (xs : List Item) → rf p ≡ x ∷ xs → (z : Bool) → is_dead x.kind (needed_at xs (ends p.block)) ≡ z →
          View ct src sides match_states p.block p (x ∷ xs) (cond z (silenced_left (λ n. wrong (pos_in p.block n)) (suc p.item) xs (ends p.block))
          (quiet (wrong p) x ∷ silenced_left (λ n. wrong (pos_in p.block n)) (suc p.item) xs (ends p.block)))
      view_at p x xs at z verdict_is = subst (λ (m : ℕ). View ct src sides match_states p.block p (x ∷ xs)
          (cond z (silenced_left (λ n. wrong (pos_in p.block n)) m xs (ends p.block))
          (quiet (wrong p) x ∷ silenced_left (λ n. wrong (pos_in p.block n)) m xs (ends p.block)))) one (by_verdict z verdict_is) where
            one : p.item + 1 ≡ suc p.item
            one = omega arith

            by_kind : (k : ItemKind) → x.kind ≡ k → is_dead x.kind (needed_at xs (ends p.block)) ≡ false →
                View ct src sides match_states p.block p (x ∷ xs) (quiet (wrong p) x ∷ left_at (below p) xs)
            by_kind (Code i n) code stay =
                let same : quiet (wrong p) x ≡ x = (λ j. record x { kind = silenced (wrong p) (code j) }) ∙
                (let back = sym code in λ j. record x { kind = back j }) in
                subst (λ (y : Item). View ct src sides match_states p.block p (x ∷ xs) (y ∷ left_at (below p) xs)) (sym same)
                (both {k' = below p} (ap is_code code) (ap is_code code) refl refl (next p x xs at) (λ c d kin. code_pairs p x xs i n at code stay c d kin))
            by_kind (Mark v m) kind stay =
                let no_code : is_code x.kind ≡ false = ap is_code kind in
                paired {k' = below p} no_code (quiet_code (wrong p) x.kind ∙ no_code) (next p x xs at) (λ c d kin. debug_pairs p x xs at no_code stay c d kin)
            by_kind (Phi l n) kind stay =
                let no_code : is_code x.kind ≡ false = ap is_code kind in
                paired {k' = below p} no_code (quiet_code (wrong p) x.kind ∙ no_code) (next p x xs at) (λ c d kin. debug_pairs p x xs at no_code stay c d kin)

            by_dead : (k : ItemKind) → x.kind ≡ k → is_dead x.kind (needed_at xs (ends p.block)) ≡ true →
                View ct src sides match_states p.block p (x ∷ xs) (left_at (below p) xs)
            by_dead (Code i n) code dead =
                let row : is_dead_code i (needed_at xs (ends p.block)) ≡ true =
                ap (λ (k : ItemKind). is_dead k (needed_at xs (ends p.block))) (sym code) ∙ dead in
                view_taken {k' = below p} (ap is_code code) (moves_on_less ct x.kind (ap is_jump code ∙ dead_no_jump (row_of i) (needed_at xs
                (ends p.block)) (dead_row i (needed_at xs (ends p.block)) row)))
                (next p x xs at) (λ c d kin. dead_falls p x xs i n at code dead c d kin)
            by_dead (Mark v m) kind dead =
                let bad : false ≡ true = ap (λ (k : ItemKind). is_dead k (needed_at xs (ends p.block))) (sym kind) ∙ dead in cc
            by_dead (Phi l n) kind dead =
                let bad : false ≡ true = ap (λ (k : ItemKind). is_dead k (needed_at xs (ends p.block))) (sym kind) ∙ dead in cc

            by_verdict : (z : Bool) → is_dead x.kind (needed_at xs (ends p.block)) ≡ z →
                View ct src sides match_states p.block p (x ∷ xs) (cond z (left_at (below p) xs) (quiet (wrong p) x ∷ left_at (below p) xs))
            by_verdict true dead = by_dead x.kind refl dead
            by_verdict false stay = by_kind x.kind refl stay

      view : (p : Pos) (b : ℕ) (xs ys : List Item) → match_states.MatchItems p b xs ys → View ct src sides match_states b p xs ys
      view p b [] ys (at, id, left) = subst (View ct src sides match_states b p []) (sym left) ended
      view p b (x ∷ xs) ys (at, id, left) =
          subst (λ (n : ℕ). View ct src sides match_states n p (x ∷ xs) ys) id
          (subst (View ct src sides match_states p.block p (x ∷ xs)) (sym left) (view_at p x xs at (is_dead x.kind (needed_at xs (ends p.block))) refl))

      past_end : (k p : Pos) (j n : ℕ) (c d : Core) → fp.fetch p ≡ EndOfBlock j n → match_states.MatchItems k p.block [] [] → MatchCores k c d →
          MatchCores (block_start n) c d
      past_end k p j n c d fetch (at, id, left) kin =
          let there : fp.fetch k ≡ EndOfBlock j n = one_past wrong ends false f.blocks resolve k p j n id at fetch in
          let edge : Edge (paths_of f) k (block_start n) = subst (λ (z : Fetch). FetchEdge (λ m. m) z k (block_start n)) (sym there) refl in
          kin_at (block_start n) (Right k) c d (λ y right. inl (λ w. right (on k w (λ stay defines. subst (λ (z : Fetch). Defines z y) there defines) edge)))
          kin.alike kin.none

      origin_from : (p : Pos) → IsOrigin (sync_point_at ct gp) p → IsOrigin (sync_point_at ct fp) p
      origin_from p o = by_sync_point (sync_point_is_of ct gp o.place o.sync_point o.stands) where
        by_sync_point : IsSyncPointOf ct gp o.place o.sync_point → IsOrigin (sync_point_at ct fp) p
        by_sync_point (of_item y at code st) =
            let w = item_from wrong ends false f.blocks resolve o.place y at in
            let kind : y.kind ≡ silenced w.source_end w.item.kind = ap (λ (z : Item). z.kind) w.is in
            let code' : is_code w.item.kind ≡ true = sym (quiet_code w.source_end w.item.kind) ∙ ap is_code (sym kind) ∙ code in
            record {
              place = w.pos;
              sync_point = o.sync_point;
              stands = code_sync_point ct fp w.pos w.item w.stands code' ∙ ap Some (quiet_sync_point w.source_end w.item code' ∙ ap (λ
                  (z : Item). sync_point_of ct z) (sym w.is)) ∙ ap Some st;
              from = o.from;
            } where
              quiet_sync_point : (s : Places) (x : Item) → is_code x.kind ≡ true →
                  sync_point_of ct x ≡ sync_point_of ct (quiet s x)
              quiet_sync_point s x code = by_kind x.kind code where
                by_kind : (k : ItemKind) → is_code k ≡ true → sync_point_of ct (record x { kind = k }) ≡
                    sync_point_of ct (record x { kind = silenced s k })
                by_kind (Code i n) e = refl
                by_kind (Mark v m) e = cc
                by_kind (Phi l n) e = cc
        by_sync_point (of_end k n at ends_at st) =
            let w = end_from wrong ends false f.blocks resolve o.place k n at in
            record {
              place = w.0;
              sync_point = o.sync_point;
              stands = end_is_sync_point ct fp w.0 k n w.2 ∙ ap (λ (z : ℕ). end_sync_point ct (record { block = z; item = k })) w.1 ∙
                  ap (λ (z : Count). end_sync_point z (record { block = o.place.block; item = k })) ends_at ∙ ap Some (sym st);
              from = o.from;
            }

      -- it runs along where the function with its dead code did
      pub dead_runs : All (λ (b : Block). InOrder b.id 0 b.items) f.blocks → All (λ (b : Block). InOrder b.id 0 b.items) (map (taken wrong ends) f.blocks) →
          All (λ (b : Block). All (λ (i : Item). OriginIn b i.origin) b.items) (map (taken wrong ends) f.blocks) →
          s0.pos.item ≡ 0 → MatchCores s0.pos s0.core s0.core →
          RunsMatch src fp (sync_point_at ct fp) (AnyOrigin (sync_point_at ct fp)) s0 s0 →
          RunsMatch src gp (sync_point_at ct gp) (AnyOrigin (sync_point_at ct gp)) s0 s0
      dead_runs ordered ordered' origins' first kin runs =
          in_place_follows match_states ct src sides (index_of f.blocks) in_place first refl (at_start kin) runs where
            at_start : MatchCores s0.pos s0.core s0.core → MatchCores (block_start s0.pos.block) s0.core s0.core
            at_start k = subst (λ (n : ℕ). MatchCores (record { block = s0.pos.block; item = n }) s0.core s0.core) first k

            in_place : InPlace ct src sides match_states (index_of f.blocks)
            in_place = record {
              laid_f = laid;
              laid_g = laid_out false (map (taken wrong ends) f.blocks) resolve;
              enter_f = λ n. refl;
              enter_g = λ n. refl;
              view = view;
              starts = λ n. (refl, refl, rest_taken wrong ends false f.blocks resolve n);
              order_f = in_order_at false f.blocks resolve ordered;
              order_g = in_order_at false (map (taken wrong ends) f.blocks) resolve ordered';
              home = from_home false (map (taken wrong ends) f.blocks) resolve origins';
              within = from_within false (map (taken wrong ends) f.blocks) resolve origins';
              within_f = λ q e x k n at ends_at same. (let w = end_from wrong ends false f.blocks resolve e k n ends_at in
                  from_before_end false f.blocks resolve sound.origins q w.0 x k n at w.2 (same ∙ sym w.1));
              one_end = one_end false (map (taken wrong ends) f.blocks) resolve;
              origins = origin_from;
              onward = λ p q k n same none none' ends_at. (let there = end_there wrong ends false f.blocks resolve p q k n same none ends_at in
                  (there, falls_down false f.blocks resolve sound.blocks_apart p k n there));
              ends = λ k p j n c d at fetch rests kin. past_end k p j n c d fetch rests kin;
              shows = λ k b xs ys c d kin. record { events = sym kin.alike.held.world.events; told = kin.alike.told.marks };
            }
