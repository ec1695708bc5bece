-- What is needed where a block starts is live there, so live places are closed.
use Rattle.std.proofs.Common.{◌≡◌, ◌⊎◌, inl, inr, ◌↔◌, ℕ, zero, suc, ◌+◌, List, [], ◌∷◌, drop, All, None, Bool, true, false, cond}
use Rattle.std.proofs.Common.{not, ◌&&◌, ◌||◌, refl, sym, ◌∙◌, subst, arith}
use Rattle.std.proofs.lemmas.List.{drop-drop}
use Rattle.std.proofs.lemmas.List.Elements.{All-cons, All-nil, All-head, All-drop}
use Rattle.rv64_instr.specs.declared.place.Place.{Place}
use Rattle.rv64_instr.specs.declared.place.Place.TheVariants.{Register}
use Rattle.rv64_instr.specs.Row.{row_of}
use Rattle.rv64_instr.specs.LocationEffects.{uses_of, defines_of}
use Rattle.mir_func.specs.declared.position.Pos.{Pos}
use Rattle.mir_func.specs.declared.block.Block.{Block}
use Rattle.mir_func.specs.declared.item.Item.{Item}
use Rattle.mir_func.specs.declared.item.ItemKind.{ItemKind}
use Rattle.mir_func.specs.declared.item.ItemKind.TheVariants.{Code, Mark, Phi}
use Rattle.mir_func.specs.Function.{Function}
use Rattle.mir_func.specs.Sound.{EndsWell}
use Rattle.mir_func.specs.Graph.{Fetch, Here, Program, below, block_start, from_block, fetch_in, end_of, front, Edge, FetchEdge, rest_in, rest_of}
use Rattle.mir_func.specs.Successors.{pos_in, ComesDown}
use Rattle.sem_mir.specs.Live.{Uses, KindUses, Defines, KindDefines, Live, used, later}
use Rattle.sem_simulation.specs.MatchStates.{Laid}
use Rattle.sem_simulation.proofs.Laid.{laid_out}
use Rattle.dce_rule.specs.Dead.{Places, Ends, is_dead_code, needed_before, needed_at, paths_of, LiveAtEnd}
use Rattle.dce_rule.specs.Wrong.{IsClosed}
use Rattle.dce_rule.proofs.Unneeded.{dead_sets, ends_at, passes_on}

module _ (f : Function) (wells : All (λ (b : Block). EndsWell b.items) f.blocks) (ends : Ends)
    (live : (b : ℕ) (x : Place) → (ends b x ≡ true) ↔ LiveAtEnd f b x) where
  abbrev fp : Program
  fp = paths_of f

  abbrev rf : Pos → List Item
  rf = rest_of f.blocks

  laid : Laid fp rf
  laid = laid_out false f.blocks (λ q. None)

  module _ (x : Place) (real : x ≡ Register 0 → ⊥) where
    -- no item defines it
    abbrev pub Defined : Item → Type 0
    Defined i = KindDefines i.kind x → ⊥

    both_of : (a b : Bool) → (a && not b) ≡ true → (a ≡ true) × (b ≡ true → ⊥)
    both_of true true e = cc
    both_of true false e = (refl, λ h. cc)
    both_of false b e = cc

    or_cases : (a b : Bool) → (a || b) ≡ true → (a ≡ true) ⊎ (b ≡ true)
    or_cases true b e = inl refl
    or_cases false b e = inr e

    is_false : (b : Bool) → b ≡ false → b ≡ true → ⊥
    is_false b e h = let bad : true ≡ false = sym h ∙ e in cc

    -- what is needed before an item is used by it, or needed behind it and not defined by it
    before : (k : ItemKind) (needed : Places) → needed_before k needed x ≡ true →
        ((p : Pos) (i : Item) → i.kind ≡ k → fp.fetch p ≡ Here i → Live fp x p) ⊎ ((needed x ≡ true) × (KindDefines k x → ⊥))
    before (Code c n) needed e = by_dead (is_dead_code c needed) refl e where
      by_dead : (z : Bool) → is_dead_code c needed ≡ z →
          cond z (needed x) (uses_of c x || (needed x && not (defines_of (row_of c) x))) ≡ true →
          ((p : Pos) (i : Item) → i.kind ≡ Code c n → fp.fetch p ≡ Here i → Live fp x p) ⊎ ((needed x ≡ true) × (KindDefines (Code c n) x → ⊥))
      by_dead true d e = inr (e, λ h. is_false (needed x) (dead_sets c needed x d h real) e)
      by_dead false d e = elim (or_cases (uses_of c x) (needed x && not (defines_of (row_of c) x)) e) [
        | inl u ↦ inl (λ p i kind at. used (subst (λ (z : Fetch). Uses z x) (sym at) (by_kind i.kind kind u)))
        | inr h ↦ inr (both_of (needed x) (defines_of (row_of c) x) h)
      ] where
        by_kind : (k : ItemKind) → k ≡ Code c n → uses_of c x ≡ true → KindUses k x
        by_kind k e u = subst (λ (z : ItemKind). KindUses z x) (sym e) u
    before (Mark v m) needed e = inr (e, λ h. h)
    before (Phi l n) needed e = inr (e, λ h. h)

    -- what is needed before items is live there, or needed behind them and defined by none
    pub needed_live : (xs : List Item) (p : Pos) → rf p ≡ xs → needed_at xs (ends p.block) x ≡ true →
        Live fp x p ⊎ ((ends p.block x ≡ true) × All Defined xs)
    needed_live [] p at e = inr (e, All-nil Defined)
    needed_live (i ∷ []) p at e = elim (before i.kind (ends p.block) e) [
      | inl u ↦ inl (u p i refl (laid.cons p i [] at).0)
      | inr h ↦ inr (h.0, All-cons Defined i [] h.1 (All-nil Defined))
    ]
    needed_live (i ∷ j ∷ js) p at e = elim (before i.kind (needed_at (j ∷ js) (ends p.block)) e) [
      | inl u ↦ inl (u p i refl (laid.cons p i (j ∷ js) at).0)
      | inr h ↦ elim (needed_live (j ∷ js) (below p) (laid.cons p i (j ∷ js) at).1 h.0) [
        | inl l ↦ inl (later (λ d. h.1 (subst (λ (z : Fetch). Defines z x) (laid.cons p i (j ∷ js) at).0 d))
            (subst (λ (z : Fetch). FetchEdge (λ n. n) z p (below p)) (sym (laid.cons p i (j ∷ js) at).0)
            (passes_on i j js p (subst EndsWell at (ends_at f wells p)).0 (λ z. cc))) l)
        | inr r ↦ inr (r.0, All-cons Defined i (j ∷ js) h.1 r.1)
      ]
    ]

    -- no item of a block from a position on defines it
    none_below : (n k j : ℕ) → All Defined (rf (pos_in n k)) → Defines (fp.fetch (pos_in n (k + j))) x → ⊥
    none_below n k j none d = by_blocks (from_block f.blocks n) refl none d where
      by_blocks : (bs : List Block) → from_block f.blocks n ≡ bs → All Defined (rest_in bs k) → Defines (fetch_in bs (k + j)) x → ⊥
      by_blocks [] h none d = d
      by_blocks (b ∷ bs) h none d = by_rest (drop (k + j) b.items)
          (subst (All Defined) (drop-drop j k b.items) (All-drop Defined j (drop k b.items) none)) d where
            end_none : (s : ℕ) (cs : List Block) → Defines (end_of s cs) x → ⊥
            end_none s [] d = d
            end_none s (c ∷ cs) d = d

            by_rest : (xs : List Item) → All Defined xs → Defines (front xs b.source_end bs) x → ⊥
            by_rest [] all d = end_none b.source_end bs d
            by_rest (y ∷ ys) all d = All-head Defined y ys all d

    -- so where a block is passed by, what is live at its end is live above
    pub down_to : (n k : ℕ) → All Defined (rf (pos_in n k)) → (m : ℕ) → (d : ℕ) → ComesDown fp n (k + d) → Edge fp (pos_in n (k + d)) (block_start m) →
        Live fp x (block_start m) → (j e : ℕ) → j + e ≡ d → Live fp x (pos_in n (k + j))
    down_to n k none m d down edge l j zero is =
        let same : j ≡ d = omega (arith, is) in
        subst (λ (i : ℕ). Live fp x (pos_in n (k + i))) (sym same) (later (none_below n k d none) edge l)
    down_to n k none m d down edge l j (suc e) is =
        let next : k + (j + 1) ≡ (k + j) + 1 = omega arith in
        later (none_below n k j none) (down (k + j) (omega (arith, is)))
        (subst (λ (i : ℕ). Live fp x (pos_in n i)) next (down_to n k none m d down edge l (j + 1) e (omega (arith, is))))

  -- live places are closed
  pub live_closed : IsClosed ends f
  live_closed b n x real goes e = (live b x).1 (
    n,
    goes,
    elim (needed_live x real (rf (block_start n)) (block_start n) refl e) [
      | inl l ↦ l
      | inr h ↦ (let w = (live n x).0 h.0 in let k = w.1.0 in
          let zero : k ≡ 0 + k = omega arith in
          let none : 0 + 0 ≡ 0 = omega arith in
          let down : ComesDown fp n (0 + k) = subst (ComesDown fp n) zero w.1.1 in
          let edge : Edge fp (pos_in n (0 + k)) (block_start w.0) = subst (λ (i : ℕ). Edge fp (pos_in n i) (block_start w.0)) zero w.1.2 in
          subst (λ (i : ℕ). Live fp x (pos_in n i)) none (down_to x real n 0 h.1 w.0 k down edge w.2 0 k (sym zero)))
    ],
  )
