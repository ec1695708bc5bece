-- The walk down a block's items.
use Rattle.std.proofs.Common.{◌≡◌, ◌⊎◌, ℕ, zero, suc, ◌+◌, ◌<◌, Bool, true, false, ◌||◌, List, [], ◌∷◌, length, get_or, Option, Some}
use Rattle.std.proofs.Common.{sym, ap, ◌∙◌, inl, inr, arith, subst}
use Rattle.std.specs.Prelude.{slice_get}
use Rattle.std.proofs.lemmas.Bool.{cases_eq}
use Rattle.rv64_instr.specs.declared.place.Place.{Place}
use Rattle.mir_func.specs.declared.item.Item.{Item}
use Rattle.mir_func.specs.Exits.{exit_of}
use Rattle.mir_func.proofs.Ways.{IsOut}
use Rattle.pass_liveness.specs.Sets.{has}
use Rattle.dce_stale.specs.Sets.{Handed}
use Rattle.dce_stale.proofs.Handing.{handed_none, handed_as, handed_grows, handed_stays, handed_both}
use Rattle.scan_stale.specs.Flow.{Places, stale_past, stale_next, stale_over, stale_at, IsHanded, IsHandedDown}

-- past one item more
pub step_at : (given : ℕ → Option ℕ) (items : List Item) (k : ℕ) (i : Item) (start here next : Places) → slice_get items k ≡ Some i →
    here ≡ stale_at given items k start →
    next ≡ stale_next given i.kind here → next ≡ stale_at given items (k + 1) start
step_at given items k i start here next at so_far e =
    let one : k + 1 ≡ suc k = omega arith in
    e ∙ ap (stale_next given i.kind) so_far ∙
    ap (λ (o : Option Item). stale_over given o (stale_at given items k start)) (sym at) ∙ ap (λ (n : ℕ). stale_at given items n start) (sym one)

module _ (given : ℕ → Option ℕ) (items : List Item) (start : Places) where
  pub handed_first : {slots ids : List ℕ} (old : List (List ℕ)) → Handed slots ids old old (IsHanded given items start 0) false
  handed_first old = handed_none old (IsHanded given items start 0) (λ n x c h. (let l = h.within in omega (arith, l)))

  module _ (k : ℕ) (i : Item) (at : slice_get items k ≡ Some i) (here past : Places) (so_far : here ≡ stale_at given items k start)
      (is : past ≡ stale_past given i.kind here) where
    is_past : past ≡ stale_past given i.kind (stale_at given items k start)
    is_past = is ∙ ap (stale_past given i.kind) so_far

    there : (n : ℕ) (x : Place) → IsHanded given items start k n x ⊎ (IsOut (exit_of i.kind) n × (past x ≡ true)) → IsHanded given items start (k + 1) n x
    there n x (inl h) = record {
      index = h.index;
      within =
          (let l = h.within in omega (arith, l));
      item = h.item;
      stands = h.stands;
      out = h.out;
      stale = h.stale;
    }
    there n x (inr (o, w)) = record { index = k; within = omega arith; item = i; stands = at; out = o; stale = sym (ap (λ (p : Places). p x) is_past) ∙ w }

    back : (n : ℕ) (x : Place) → IsHanded given items start (k + 1) n x → IsHanded given items start k n x ⊎ (IsOut (exit_of i.kind) n × (past x ≡ true))
    back n x h = by_index (cases_eq h.index k) where
      by_index : (h.index ≡ k) ⊎ (h.index ≡ k → ⊥) → IsHanded given items start k n x ⊎ (IsOut (exit_of i.kind) n × (past x ≡ true))
      by_index (inl e) =
          let same : Some h.item ≡ Some i = sym h.stands ∙ (ap (slice_get items) e ∙ at) in
          let one : h.item ≡ i = cc in
          inr (
            subst (λ (j : Item). IsOut (exit_of j.kind) n) one h.out,
            ap (λ (p : Places). p x) is_past ∙
                ((λ z. stale_past given (sym one z).kind (stale_at given items (sym e z) start) x) ∙ h.stale),
          )
      by_index (inr ne) = inl (record {
        index = h.index;
        within = (let l = h.within in omega (arith, l, ne));
        item = h.item;
        stands = h.stands;
        out = h.out;
        stale = h.stale;
      })

    pub handed_item_grows : {slots ids : List ℕ} {old mid new : List (List ℕ)} {grown more : Bool} →
        Handed slots ids old mid (IsHanded given items start k) grown →
        more ≡ true → Handed slots ids mid new (λ n x. IsOut (exit_of i.kind) n × (past x ≡ true)) more →
        Handed slots ids old new (IsHanded given items start (k + 1)) true
    handed_item_grows h g more = handed_as (handed_grows h g more) there back

    pub handed_item_stays : {slots ids : List ℕ} {old mid new : List (List ℕ)} {grown more : Bool} →
        Handed slots ids old mid (IsHanded given items start k) grown →
        more ≡ false → Handed slots ids mid new (λ n x. IsOut (exit_of i.kind) n × (past x ≡ true)) more →
        Handed slots ids old new (IsHanded given items start (k + 1)) grown
    handed_item_stays h g more = handed_as (handed_stays h g more) there back

-- a whole block: its items, and its end
pub handed_block : {slots ids : List ℕ} {old mid new : List (List ℕ)} {a b : Bool} (given : ℕ → Option ℕ) (items items' : List Item) (S S' : Places)
    (T : List ℕ) (next next' : Option ℕ) → items ≡ items' → S ≡ S' → next ≡ next' →
    Handed slots ids old mid (IsHanded given items S (length items)) a → has slots T ≡ stale_at given items (length items) S →
    Handed slots ids mid new (λ n x. (next ≡ Some n) × (has slots T x ≡ true)) b →
    Handed slots ids old new (λ n x. IsHanded given items' S' (length items') n x ⊎ IsHandedDown given items' S' next' n x) (a || b)
handed_block {slots} {ids} {old} {mid} {new} {a} {b} given items items' S S' T next next' ei es en h set k =
    subst (λ (is : List Item). H is S' next') ei
    (subst (λ (s : Places). H items s next') es (subst (λ (m : Option ℕ). H items S m) en (handed_both h
    (subst (λ (F : Places). Handed slots ids mid new (λ n x. (next ≡ Some n) × (F x ≡ true)) b) set k)))) where
      H : List Item → Places → Option ℕ → Type 0
      H is s m = Handed slots ids old new (λ n x. IsHanded given is s (length is) n x ⊎ IsHandedDown given is s m n x) (a || b)
