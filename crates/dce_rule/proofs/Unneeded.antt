-- A wrong place isn't needed: so no code that stays reads it.
use Rattle.std.proofs.Common.{◌≡◌, ◌⊎◌, inl, inr, ℕ, zero, suc, ◌+◌, ◌<◌, List, [], ◌∷◌, drop, All, Option, None, Bool, true, false, cond}
use Rattle.std.proofs.Common.{not, ◌&&◌, ◌||◌, refl, sym, ap, ◌∙◌, subst, arith}
use Rattle.std.proofs.lemmas.Bool.{and_parts, cases_eq}
use Rattle.std.proofs.lemmas.List.Elements.{All-contains}
use Rattle.std.specs.List.{list_any}
use Rattle.rv64_instr.specs.declared.place.Place.{Place}
use Rattle.rv64_instr.specs.declared.place.Place.TheVariants.{Register, Slot, Const}
use Rattle.rv64_instr.specs.Instruction.{Instruction, is_volatile_load}
use Rattle.rv64_instr.specs.Row.{Row, Branches, Jumps, Returns, Calls, Unfit, row_of}
use Rattle.rv64_instr.specs.LocationEffects.{set_by, is_pure, is_call, uses_of, defines_of}
use Rattle.rv64_instr.specs.LocationEffects.{first_use, second_use, is_register, is_implicit_use, has_implicit_uses}
use Rattle.rv64_instr.specs.LocationEffects.{names_slot, slot_read, is_outgoing}
use Rattle.mir_func.specs.declared.position.Pos.{Pos}
use Rattle.mir_func.specs.declared.block.Block.{Block}
use Rattle.mir_func.specs.declared.item.Item.{Item}
use Rattle.mir_func.specs.declared.item.ItemKind.{ItemKind}
use Rattle.mir_func.specs.declared.item.ItemKind.TheVariants.{Code, Mark, Phi}
use Rattle.mir_func.specs.Function.{Function}
use Rattle.mir_func.specs.Sound.{EndsWell, MayFollow, IsJumpAtMost}
use Rattle.mir_func.specs.Exits.{exit_of, row_exit, IsAlways}
use Rattle.mir_func.specs.Graph.{Fetch, Here, EndOfBlock, Outside, Program, below, block_start, from_block, Edge, FetchEdge, KindEdge, RowEdge}
use Rattle.mir_func.specs.Graph.{rest_in, rest_of}
use Rattle.mir_func.specs.Successors.{pos_in, ComesDown}
use Rattle.sem_mir.specs.Live.{Defines, KindDefines}
use Rattle.sem_mir.proofs.Parts.{effects_hold}
use Rattle.sem_mir.proofs.Reading.{found_in}
use Rattle.sem_simulation.specs.MatchStates.{Laid, IsPastItems}
use Rattle.sem_simulation.proofs.Laid.{laid_out}
use Rattle.dce_rule.specs.Dead.{Places, Ends, sets_unneeded, is_dead_row, is_dead_code, is_dead, needed_before, needed_at, paths_of}
use Rattle.dce_rule.specs.Wrong.{begins_dead, IsWrongAt, made, on, IsClosed}

-- ---- dead code

pub dead_row : (i : Instruction) (needed : Places) → is_dead_code i needed ≡ true → is_dead_row (row_of i) needed ≡ true
dead_row i needed e = (and_parts (is_dead_row (row_of i) needed) (not (is_volatile_load i)) e).0

-- it is pure, and what it sets isn't needed
pub dead_parts : (i : Instruction) (needed : Places) → is_dead_code i needed ≡ true →
    (is_pure (row_of i) ≡ true) × (sets_unneeded (set_by (row_of i)) (row_of i) needed ≡ true)
dead_parts i needed e = and_parts (is_pure (row_of i)) (sets_unneeded (set_by (row_of i)) (row_of i) needed) (dead_row i needed e)

pub pure_no_call : (r : Row) → is_pure r ≡ true → is_call r ≡ false
pure_no_call (Calls call) e = cc
pure_no_call _ e = refl

pub pure_below : (r : Row) (p q : Pos) → is_pure r ≡ true → RowEdge (λ n. n) r p q → q ≡ below p
pure_below (Branches op a b t) p q e h = cc
pure_below (Jumps t) p q e h = cc
pure_below (Returns v) p q e h = cc
pure_below Unfit p q e h = absurd h
pure_below _ p q e h = h

not_true : (b : Bool) → not b ≡ true → b ≡ false
not_true true e = cc
not_true false e = refl

-- what it defines isn't needed behind it, but for x0
pub dead_sets : (i : Instruction) (needed : Places) (x : Place) → is_dead_code i needed ≡ true → defines_of (row_of i) x ≡ true →
    (x ≡ Register 0 → ⊥) → needed x ≡ false
dead_sets i needed x dead defines ne =
    let k = dead_parts i needed dead in
    elim (effects_hold.sets i x (pure_no_call (row_of i) k.0) defines) [
      | inl e ↦ absurd (ne e)
      | inr e ↦ not_true (needed x) (ap (λ (z : Option Place). sets_unneeded z (row_of i) needed) (sym e) ∙ k.1)
    ]

-- ---- needs past an item's end of the block

and_true : (b : Bool) → (b && true) ≡ b
and_true true = refl
and_true false = refl

-- a jump needs nothing
jump_needs : (k : ItemKind) → IsAlways (exit_of k) → (needed : Places) (x : Place) → needed_before k needed x ≡ needed x
jump_needs (Code i n) always needed (Register q) = by_row (row_of i) always where
  by_row : (r : Row) → IsAlways (row_exit r) →
      cond (is_dead_row r needed && not (is_volatile_load i)) (needed (Register q))
      ((is_register q (first_use r) || is_register q (second_use r) || (has_implicit_uses r && list_any (is_implicit_use q) i.operands))
      || (needed (Register q) && not (defines_of r (Register q)))) ≡ needed (Register q)
  by_row (Jumps t) h = and_true (needed (Register q))
  by_row _ h = absurd h
jump_needs (Code i n) always needed (Slot m) = by_row (row_of i) always where
  by_row : (r : Row) → IsAlways (row_exit r) →
      cond (is_dead_row r needed && not (is_volatile_load i)) (needed (Slot m)) ((names_slot (slot_read r) m || (has_implicit_uses r && list_any (is_outgoing m) i.operands))
      || (needed (Slot m) && not (defines_of r (Slot m)))) ≡ needed (Slot m)
  by_row (Jumps t) h = and_true (needed (Slot m))
  by_row _ h = absurd h
jump_needs (Code i n) always needed (Const z) = by_row (row_of i) always where
  by_row : (r : Row) → IsAlways (row_exit r) →
      cond (is_dead_row r needed && not (is_volatile_load i)) (needed (Const z)) (false || (needed (Const z) && not (defines_of r (Const z)))) ≡ needed (Const z)
  by_row (Jumps t) h = and_true (needed (Const z))
  by_row _ h = absurd h
jump_needs (Mark v m) always needed x = absurd always
jump_needs (Phi p n) always needed x = absurd always

-- control goes below, or to a block, from where the rest of the items needs nothing
pub goes_below : (i : Item) (is : List Item) (p q : Pos) → MayFollow (exit_of i.kind) is → KindEdge (λ n. n) i.kind p q →
    (q ≡ below p) ⊎ ((n : ℕ) × (q ≡ block_start n) × ((needed : Places) (x : Place) → needed_at is needed x ≡ needed x))
goes_below i is p q follow edge = by_kind i.kind follow edge where
  Ways : Type 0
  Ways = (q ≡ below p) ⊎ ((n : ℕ) × (q ≡ block_start n) × ((needed : Places) (x : Place) → needed_at is needed x ≡ needed x))

  at_most : (js : List Item) → IsJumpAtMost js → (needed : Places) (x : Place) → needed_at js needed x ≡ needed x
  at_most [] h needed x = refl
  at_most (j ∷ []) h needed x = jump_needs j.kind h needed x
  at_most (j ∷ k ∷ js) h needed x = absurd h

  by_row : (r : Row) → MayFollow (row_exit r) is → RowEdge (λ n. n) r p q → Ways
  by_row (Branches op a b t) follow (inl e) = inr (t, e, at_most is follow)
  by_row (Branches op a b t) follow (inr e) = inl e
  by_row (Jumps t) follow edge = inr (t, edge, λ needed x. ap (λ (js : List Item). needed_at js needed x) follow)
  by_row (Returns v) follow edge = absurd edge
  by_row Unfit follow edge = absurd edge
  by_row _ follow edge = inl edge

  by_kind : (k : ItemKind) → MayFollow (exit_of k) is → KindEdge (λ n. n) k p q → Ways
  by_kind (Code c n) follow edge = by_row (row_of c) follow edge
  by_kind (Mark v m) follow edge = inl edge
  by_kind (Phi l n) follow edge = inl edge

-- ---- items that come down

ends_drop : (xs : List Item) (n : ℕ) → EndsWell xs → EndsWell (drop n xs)
ends_drop [] zero h = h
ends_drop [] (suc n) h = h
ends_drop (x ∷ xs) zero h = h
ends_drop (x ∷ xs) (suc n) h = ends_drop xs n h.1

-- above an item stand an item and another one
pub two_above : (xs : List Item) (k j : ℕ) (i : Item) (is : List Item) → drop k xs ≡ i ∷ is → j < k →
    (y z : Item) × (zs : List Item) × (drop j xs ≡ y ∷ z ∷ zs)
two_above xs zero j i is e lt = absurd (omega (arith, lt))
two_above [] (suc k) j i is e lt = cc
two_above (x ∷ xs) (suc zero) zero i is e lt = (x, i, is, at xs e) where
  at : (ys : List Item) → drop 0 ys ≡ i ∷ is → x ∷ ys ≡ x ∷ i ∷ is
  at [] e = cc
  at (y ∷ ys) e = ap (λ (zs : List Item). x ∷ zs) e
two_above (x ∷ xs) (suc (suc k)) zero i is e lt =
    let w = two_above xs (suc k) 0 i is e (omega arith) in
    (x, w.0, w.1 ∷ w.2, at xs w.0 (w.1 ∷ w.2) w.3) where
      at : (ys : List Item) (y : Item) (zs : List Item) → drop 0 ys ≡ y ∷ zs → x ∷ ys ≡ x ∷ y ∷ zs
      at [] y zs e = cc
      at (u ∷ us) y zs e = ap (λ (vs : List Item). x ∷ vs) e
two_above (x ∷ xs) (suc k) (suc j) i is e lt = two_above xs k j i is e (omega (arith, lt))

-- control may come down past what another item stands below
pub passes_on : (y z : Item) (zs : List Item) (p : Pos) → MayFollow (exit_of y.kind) (z ∷ zs) → (z ∷ zs ≡ [] → ⊥) →
    KindEdge (λ n. n) y.kind p (below p)
passes_on y z zs p follow ne = by_kind y.kind follow where
  by_row : (r : Row) → MayFollow (row_exit r) (z ∷ zs) → RowEdge (λ n. n) r p (below p)
  by_row (Branches op a b t) follow = inr refl
  by_row (Jumps t) follow = absurd (ne follow)
  by_row (Returns v) follow = absurd (ne follow)
  by_row Unfit follow = absurd (ne follow)
  by_row _ follow = refl

  by_kind : (k : ItemKind) → MayFollow (exit_of k) (z ∷ zs) → KindEdge (λ n. n) k p (below p)
  by_kind (Code c n) follow = by_row (row_of c) follow
  by_kind (Mark v m) follow = refl
  by_kind (Phi l n) follow = refl

module _ (f : Function) (wells : All (λ (b : Block). EndsWell b.items) f.blocks) where
  abbrev fp : Program
  fp = paths_of f

  abbrev rf : Pos → List Item
  rf = rest_of f.blocks

  laid : Laid fp rf
  laid = laid_out false f.blocks (λ q. None)

  pub ends_at : (p : Pos) → EndsWell (rf p)
  ends_at p = by_blocks (from_block f.blocks p.block) refl where
    by_blocks : (bs : List Block) → from_block f.blocks p.block ≡ bs → EndsWell (rest_in bs p.item)
    by_blocks [] e = tt
    by_blocks (b ∷ bs) e = ends_drop b.items p.item (All-contains (λ (c : Block). EndsWell c.items) f.blocks b wells (found_in f.blocks p.block b bs e).0)

  pub comes_down : (p : Pos) (i : Item) (is : List Item) → rf p ≡ i ∷ is → ComesDown fp p.block p.item
  comes_down p i is at j lt = by_blocks (from_block f.blocks p.block) refl at where
    by_blocks : (bs : List Block) → from_block f.blocks p.block ≡ bs → rest_in bs p.item ≡ i ∷ is → Edge fp (pos_in p.block j) (below (pos_in p.block j))
    by_blocks [] e at = cc
    by_blocks (b ∷ bs) e at =
        let w = two_above b.items p.item j i is at lt in
        let here : rf (pos_in p.block j) ≡ w.0 ∷ w.1 ∷ w.2 = ap (λ (z : List Block). rest_in z j) e ∙ w.3 in
        let well : EndsWell (w.0 ∷ w.1 ∷ w.2) = subst EndsWell here (ends_at (pos_in p.block j)) in
        let ne : w.1 ∷ w.2 ≡ [] → ⊥ = λ z. cc in
        subst (λ (z : Fetch). FetchEdge (λ n. n) z (pos_in p.block j) (below (pos_in p.block j)))
        (sym (laid.cons (pos_in p.block j) w.0 (w.1 ∷ w.2) here).0)
        (passes_on w.0 w.1 w.2 (pos_in p.block j) well.0 ne)

  -- one further down
  comes_below : (p : Pos) → ComesDown fp p.block p.item → Edge fp p (below p) → ComesDown fp p.block (p.item + 1)
  comes_below p down edge j lt = elim (cases_eq j p.item) [
    | inl e ↦ subst (λ (k : ℕ). Edge fp (pos_in p.block k) (below (pos_in p.block k))) (sym e) edge
    | inr ne ↦ down j (omega (arith, lt, ne))
  ]

  -- ---- where a place is wrong it isn't needed, but for x0

  module _ (ends : Ends) (closed : IsClosed ends f) (x : Place) (real : x ≡ Register 0 → ⊥) where
    -- control comes down to the position, and the place isn't needed there
    pub record IsUnneeded (p : Pos) : Type 0 where
      pub down : ComesDown fp p.block p.item
      pub unneeded : needed_at (rf p) (ends p.block) x ≡ false

    at_start : (p : Pos) (n : ℕ) → ComesDown fp p.block p.item → Edge fp p (block_start n) → ends p.block x ≡ false → IsUnneeded (block_start n)
    at_start p n down edge out = record {
      down = λ j lt. absurd (omega (arith, lt));
      unneeded = by_test (needed_at (rf (block_start n)) (ends n) x) refl;
    } where
      by_test : (z : Bool) → needed_at (rf (block_start n)) (ends n) x ≡ z → z ≡ false
      by_test true e = sym (closed p.block n x real (p.item, down, edge) e) ∙ out
      by_test false e = refl

    one_below : (p : Pos) (i : Item) (is : List Item) → rf p ≡ i ∷ is → ComesDown fp p.block p.item → Edge fp p (below p) →
        needed_at is (ends p.block) x ≡ false → IsUnneeded (below p)
    one_below p i is at down edge out = record {
      down = comes_below p down edge;
      unneeded = ap (λ (z : List Item). needed_at z (ends p.block) x) (laid.cons p i is at).1 ∙ out;
    }

    -- control goes on from an item behind which the place isn't needed
    goes_on : (p q : Pos) (i : Item) (is : List Item) → rf p ≡ i ∷ is → ComesDown fp p.block p.item → Edge fp p q →
        needed_at is (ends p.block) x ≡ false → IsUnneeded q
    goes_on p q i is at down edge out =
        let here = (laid.cons p i is at).0 in
        let kind : KindEdge (λ n. n) i.kind p q = subst (λ (z : Fetch). FetchEdge (λ n. n) z p q) here edge in
        let well : EndsWell (i ∷ is) = subst EndsWell at (ends_at p) in
        elim (goes_below i is p q well.0 kind) [
          | inl e ↦ subst IsUnneeded (sym e) (one_below p i is at down (subst (Edge fp p) e edge) out)
          | inr w ↦ subst IsUnneeded (sym w.1) (at_start p w.0 down (subst (Edge fp p) w.1 edge) (sym (w.2 (ends p.block) x) ∙ out))
        ]

    -- control goes on past the items
    goes_past : (p q : Pos) → rf p ≡ [] → ComesDown fp p.block p.item → Edge fp p q → ends p.block x ≡ false → IsUnneeded q
    goes_past p q at down edge out = by_fetch (fp.fetch p) refl (laid.nil p at).0 where
      by_fetch : (z : Fetch) → fp.fetch p ≡ z → IsPastItems z → IsUnneeded q
      by_fetch (Here i) e past = absurd past
      by_fetch (EndOfBlock k n) e past =
          let w : q ≡ block_start n = subst (λ (z : Fetch). FetchEdge (λ m. m) z p q) e edge in
          subst IsUnneeded (sym w) (at_start p n down (subst (Edge fp p) w edge) out)
      by_fetch Outside e past = absurd (subst (λ (z : Fetch). FetchEdge (λ m. m) z p q) e edge)

    none_of_or : (a b : Bool) → (a || b) ≡ false → (a ≡ false) × (b ≡ false)
    none_of_or true b e = cc
    none_of_or false b e = (refl, e)

    none_of_and : (a b : Bool) → (a && not b) ≡ false → b ≡ false → a ≡ false
    none_of_and true true e k = cc
    none_of_and true false e k = cc
    none_of_and false b e k = refl

    is_not : (b : Bool) → (b ≡ true → ⊥) → b ≡ false
    is_not true h = absurd (h refl)
    is_not false h = refl

    -- what isn't needed before an item isn't needed behind it, unless it stays and defines it
    behind : (i : Item) (is : List Item) (needed : Places) → needed_at (i ∷ is) needed x ≡ false →
        (is_dead i.kind (needed_at is needed) ≡ false → KindDefines i.kind x → ⊥) → needed_at is needed x ≡ false
    behind i is needed out ne = by_kind i.kind out ne where
      live : Places
      live = needed_at is needed

      by_kind : (k : ItemKind) → needed_before k live x ≡ false → (is_dead k live ≡ false → KindDefines k x → ⊥) → live x ≡ false
      by_kind (Code c n) out ne = by_dead (is_dead_code c live) refl out where
        by_dead : (z : Bool) → is_dead_code c live ≡ z →
            cond z (live x) (uses_of c x || (live x && not (defines_of (row_of c) x))) ≡ false → live x ≡ false
        by_dead true d out = out
        by_dead false d out =
            none_of_and (live x) (defines_of (row_of c) x) (none_of_or (uses_of c x) (live x && not (defines_of (row_of c) x)) out).1
            (is_not (defines_of (row_of c) x) (ne d))
      by_kind (Mark v m) out ne = out
      by_kind (Phi l n) out ne = out

    made_unneeded : (p q : Pos) (is : List Item) → rf p ≡ is → begins_dead is (ends p.block) ≡ true → Defines (fp.fetch p) x → Edge fp p q → IsUnneeded q
    made_unneeded p q [] at dead defines edge = cc
    made_unneeded p q (i ∷ is) at dead defines edge =
        let here = (laid.cons p i is at).0 in
        goes_on p q i is at (comes_down p i is at) edge (by_kind i.kind dead (subst (λ (z : Fetch). Defines z x) here defines)) where
          by_kind : (k : ItemKind) → is_dead k (needed_at is (ends p.block)) ≡ true → KindDefines k x → needed_at is (ends p.block) x ≡ false
          by_kind (Code c n) dead defines = dead_sets c (needed_at is (ends p.block)) x dead defines real
          by_kind (Mark v m) dead defines = absurd defines
          by_kind (Phi l n) dead defines = absurd defines

    on_unneeded : (p q : Pos) (is : List Item) → rf p ≡ is → IsUnneeded p → (begins_dead is (ends p.block) ≡ false → Defines (fp.fetch p) x → ⊥) →
        Edge fp p q → IsUnneeded q
    on_unneeded p q [] at u ne edge = goes_past p q at u.down edge (ap (λ (z : List Item). needed_at z (ends p.block) x) (sym at) ∙ u.unneeded)
    on_unneeded p q (i ∷ is) at u ne edge =
        let here = (laid.cons p i is at).0 in
        goes_on p q i is at u.down edge
        (behind i is (ends p.block) (ap (λ (z : List Item). needed_at z (ends p.block) x) (sym at) ∙ u.unneeded)
        (λ out d. ne out (subst (λ (z : Fetch). Defines z x) (sym here) d)))

    pub wrong_unneeded : {p : Pos} → IsWrongAt ends f x p → IsUnneeded p
    wrong_unneeded {p = q} (made p dead defines edge) = made_unneeded p q (rf p) refl dead defines edge
    wrong_unneeded {p = q} (on p w ne edge) = on_unneeded p q (rf p) refl (wrong_unneeded w) ne edge

    -- so code that stays doesn't use it
    pub kept_uses_none : (p : Pos) (i : Instruction) (n : Option ℕ) (y : Item) (is : List Item) → rf p ≡ y ∷ is → y.kind ≡ Code i n →
        is_dead_code i (needed_at is (ends p.block)) ≡ false → uses_of i x ≡ true → IsWrongAt ends f x p → ⊥
    kept_uses_none p i n y is at code stays uses w =
        let out : needed_at (y ∷ is) (ends p.block) x ≡ false = ap (λ (z : List Item). needed_at z (ends p.block) x) (sym at) ∙ (wrong_unneeded w).unneeded in
        let live : Places = needed_at is (ends p.block) in
        let e : cond (is_dead_code i live) (live x) (uses_of i x || (live x && not (defines_of (row_of i) x))) ≡ false =
        ap (λ (k : ItemKind). needed_before k live x) (sym code) ∙ out in
        let u : (uses_of i x || (live x && not (defines_of (row_of i) x))) ≡ false =
        ap (λ (z : Bool). cond z (live x) (uses_of i x || (live x && not (defines_of (row_of i) x)))) (sym stays) ∙ e in
        let h = (none_of_or (uses_of i x) (live x && not (defines_of (row_of i) x)) u).0 in
        let bad : true ≡ false = sym uses ∙ h in
        cc
