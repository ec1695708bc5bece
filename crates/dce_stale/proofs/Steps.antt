-- The walk down a block's items.
use Rattle.std.proofs.Common.{◌≡◌, ◌⊎◌, ℕ, zero, suc, ◌+◌, ◌<◌, Bool, true, false, ◌||◌, List, [], ◌∷◌, length, get_or, Option, Some}
use Rattle.std.proofs.Common.{sym, ap, ◌∙◌, inl, inr, arith, subst}
use Rattle.std.specs.Prelude.{slice_get}
use Rattle.std.proofs.lemmas.Bool.{cases_eq}
use Rattle.rv64_instr.specs.declared.place.Place.{Place}
use Rattle.mir_func.specs.declared.item.Item.{Item}
use Rattle.mir_func.specs.Exits.{exit_of}
use Rattle.mir_func.proofs.Ways.{IsOut}
use Rattle.pass_liveness.specs.Sets.{has}
use Rattle.dce_analysis.specs.dce_rule.Dead.{Places}
use Rattle.dce_stale.specs.Flow.{wrong_past, wrong_next, wrong_over, wrong_at, IsHanded, IsHandedDown}
use Rattle.dce_stale.specs.Sets.{Handed}
use Rattle.dce_stale.proofs.Handing.{handed_none, handed_as, handed_grows, handed_stays, handed_both}

pub get_item : (items : List Item) (k : ℕ) (i : Item) → k < length items → i ≡ get_or items k i → slice_get items k ≡ Some i
get_item [] k i l e = absurd (omega arith)
get_item (c ∷ cs) zero i l e = ap (λ (x : Item). Some x) (sym e)
get_item (c ∷ cs) (suc k) i l e = get_item cs k i (omega arith) e

-- past one item more
pub step_at : (items : List Item) (dead : List Bool) (k : ℕ) (i : Item) (start here next : Places) → slice_get items k ≡ Some i →
    here ≡ wrong_at items dead k start →
    next ≡ wrong_next i.kind (get_or dead k false) here → next ≡ wrong_at items dead (k + 1) start
step_at items dead k i start here next at so_far e =
    let one : k + 1 ≡ suc k = omega arith in
    e ∙ ap (wrong_next i.kind (get_or dead k false)) so_far ∙
    ap (λ (o : Option Item). wrong_over o (get_or dead k false) (wrong_at items dead k start)) (sym at) ∙ ap (λ (n : ℕ). wrong_at items dead n start) (sym one)

module _ (items : List Item) (dead : List Bool) (start : Places) where
  pub handed_first : {slots ids : List ℕ} (old : List (List ℕ)) → Handed slots ids old old (IsHanded items dead start 0) false
  handed_first old = handed_none old (IsHanded items dead start 0) (λ n x c h. (let l = h.within in omega (arith, l)))

  module _ (k : ℕ) (i : Item) (at : slice_get items k ≡ Some i) (here past : Places) (so_far : here ≡ wrong_at items dead k start)
      (is : past ≡ wrong_past i.kind (get_or dead k false) here) where
    is_past : past ≡ wrong_past i.kind (get_or dead k false) (wrong_at items dead k start)
    is_past = is ∙ ap (wrong_past i.kind (get_or dead k false)) so_far

    there : (n : ℕ) (x : Place) → IsHanded items dead start k n x ⊎ (IsOut (exit_of i.kind) n × (past x ≡ true)) → IsHanded items dead start (k + 1) n x
    there n x (inl h) = record {
      index = h.index;
      within =
          (let l = h.within in omega (arith, l));
      item = h.item;
      stands = h.stands;
      out = h.out;
      wrong = h.wrong;
    }
    there n x (inr (o, w)) = record { index = k; within = omega arith; item = i; stands = at; out = o; wrong = sym (ap (λ (p : Places). p x) is_past) ∙ w }

    back : (n : ℕ) (x : Place) → IsHanded items dead start (k + 1) n x → IsHanded items dead start k n x ⊎ (IsOut (exit_of i.kind) n × (past x ≡ true))
    back n x h = by_index (cases_eq h.index k) where
      by_index : (h.index ≡ k) ⊎ (h.index ≡ k → ⊥) → IsHanded items dead start k n x ⊎ (IsOut (exit_of i.kind) n × (past x ≡ true))
      by_index (inl e) =
          let same : Some h.item ≡ Some i = sym h.stands ∙ (ap (slice_get items) e ∙ at) in
          let one : h.item ≡ i = cc in
          inr (
            subst (λ (j : Item). IsOut (exit_of j.kind) n) one h.out,
            ap (λ (p : Places). p x) is_past ∙
                ((λ z. wrong_past (sym one z).kind (get_or dead (sym e z) false) (wrong_at items dead (sym e z) start) x) ∙ h.wrong),
          )
      by_index (inr ne) = inl (record {
        index = h.index;
        within = (let l = h.within in omega (arith, l, ne));
        item = h.item;
        stands = h.stands;
        out = h.out;
        wrong = h.wrong;
      })

    pub handed_item_grows : {slots ids : List ℕ} {old mid new : List (List ℕ)} {grown more : Bool} →
        Handed slots ids old mid (IsHanded items dead start k) grown →
        more ≡ true → Handed slots ids mid new (λ n x. IsOut (exit_of i.kind) n × (past x ≡ true)) more →
        Handed slots ids old new (IsHanded items dead start (k + 1)) true
    handed_item_grows h g more = handed_as (handed_grows h g more) there back

    pub handed_item_stays : {slots ids : List ℕ} {old mid new : List (List ℕ)} {grown more : Bool} →
        Handed slots ids old mid (IsHanded items dead start k) grown →
        more ≡ false → Handed slots ids mid new (λ n x. IsOut (exit_of i.kind) n × (past x ≡ true)) more →
        Handed slots ids old new (IsHanded items dead start (k + 1)) grown
    handed_item_stays h g more = handed_as (handed_stays h g more) there back

-- a whole block: its items, and its end
pub handed_block : {slots ids : List ℕ} {old mid new : List (List ℕ)} {a b : Bool} (items items' : List Item) (dead dead' : List Bool) (S S' T : List ℕ)
    (next next' : Option ℕ) → items ≡ items' → dead ≡ dead' → S ≡ S' → next ≡ next' →
    Handed slots ids old mid (IsHanded items dead (has slots S) (length items)) a → has slots T ≡ wrong_at items dead (length items) (has slots S) →
    Handed slots ids mid new (λ n x. (next ≡ Some n) × (has slots T x ≡ true)) b →
    Handed slots ids old new (λ n x. IsHanded items' dead' (has slots S') (length items') n x ⊎ IsHandedDown items' dead' (has slots S') next' n x) (a || b)
handed_block {slots} {ids} {old} {mid} {new} {a} {b} items items' dead dead' S S' T next next' ei ed es en h set k =
    subst (λ (is : List Item). H is dead' S' next') ei (subst (λ (ds : List Bool). H items ds S' next') ed
    (subst (λ (s : List ℕ). H items dead s next') es (subst (λ (m : Option ℕ). H items dead S m) en (handed_both h
    (subst (λ (F : Places). Handed slots ids mid new (λ n x. (next ≡ Some n) × (F x ≡ true)) b) set k))))) where
      H : List Item → List Bool → List ℕ → Option ℕ → Type 0
      H is ds s m = Handed slots ids old new (λ n x. IsHanded is ds (has slots s) (length is) n x ⊎ IsHandedDown is ds (has slots s) m n x) (a || b)
