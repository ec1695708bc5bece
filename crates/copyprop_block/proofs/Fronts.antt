-- Lists of which the front is what has become of the items before an index.
use Rattle.std.proofs.Common.{◌≡◌, ◌⊎◌, inl, inr, ℕ, zero, suc, ◌+◌, ◌-◌, ◌<◌, ◌≤◌, List, [], ◌∷◌, ◌++◌, length, length-set, get_or, take, drop, set}
use Rattle.std.proofs.Common.{refl, sym, ap, ◌∙◌, subst, arith, append-nil}
use Rattle.std.specs.List.{swap}
use Rattle.std.proofs.lemmas.Bool.{cases_eq}
use Rattle.std.proofs.lemmas.List.{drop-set-lt, drop-drop, drop_at, take_more, take_all, take_at, take_more_set, take-set-le}
use Rattle.std.proofs.lemmas.List.{length-append, length-drop, length-take-le}
use Rattle.std.proofs.lemmas.List.Edits.{swap_is, length-swap}
use Rattle.mir_func.specs.declared.debug_substitution.DebugSubstitution.{DebugSubstitution}
use Rattle.mir_func.specs.declared.item.Item.{Item}
use Rattle.mir_func.specs.declared.position.Origin.{Origin}
use Rattle.pass_salvage.specs.declared.above.Above.{Above}
use Rattle.pass_salvage.specs.declared.lookup.Lookup.{Lookup}
use Rattle.pass_salvage.specs.declared.lookup.Lookup.TheVariants.{Index}
use Rattle.pass_salvage.specs.declared.salvage_action.SalvageAction.{SalvageAction}
use Rattle.pass_salvage.specs.declared.salvage_action.SalvageAction.TheVariants.{GetsPhi}
use Rattle.pass_salvage.specs.SalvageAction.{salvage_action}
use Rattle.pass_salvage.specs.Salvage.{above_after, put_for, entries_for, fresh_after, phi_for}
use Rattle.pass_salvage.specs.Above.{IsIndexOf}
use Rattle.pass_salvage.specs.Lookup.{IsLookupOf}
use Rattle.pass_salvage.proofs.Placed.{above_length}
use Rattle.copyprop_block.specs.declared.roots.Root.{Root}
use Rattle.copyprop_block.specs.declared.copies.CopyAction.{CopyAction}
use Rattle.copyprop_block.specs.declared.copies.CopyAction.TheVariants.{Stays, Goes, GoesWith}
use Rattle.copyprop_block.specs.Copied.{SoFar, fate_of, roots_with, salvaged, by_fate, and_renamed, next_item, over_items, at_block}
use Rattle.copyprop_block.proofs.Lists.{behind_next}
use Rattle.copyprop_block.specs.Next.{Stands}

module _ {X : Type 0} where
  pub get_any : (xs : List X) (i : ℕ) (d e : X) → i < length xs → get_or xs i d ≡ get_or xs i e
  get_any [] i d e lt = absurd (omega (arith, lt))
  get_any (x ∷ xs) zero d e lt = refl
  get_any (x ∷ xs) (suc i) d e lt = get_any xs i d e (omega (arith, lt))

  pub get_set : (xs : List X) (i : ℕ) (x d : X) → i < length xs → get_or (set xs i x) i d ≡ x
  get_set [] i x d lt = absurd (omega (arith, lt))
  get_set (y ∷ ys) zero x d lt = refl
  get_set (y ∷ ys) (suc i) x d lt = get_set ys i x d (omega (arith, lt))

  -- the element at an index moves to the front's end
  pub up : (xs : List X) (kept at : ℕ) (x : X) → kept ≤ at → at < length xs → get_or xs at x ≡ x →
      take (kept + 1) (swap xs kept at) ≡ take kept xs ++ x ∷ []
  up xs kept at x le lt is = by_case (cases_eq kept at) where
    b : X
    b = get_or xs kept x

    swapped : swap xs kept at ≡ set (set xs kept x) at (get_or xs kept x)
    swapped = sym (swap_is xs kept at x (omega (arith, le, lt)) lt) ∙ ap (λ (y : X). set (set xs kept y) at (get_or xs kept x)) is

    by_case : (kept ≡ at) ⊎ (kept ≡ at → ⊥) → take (kept + 1) (swap xs kept at) ≡ take kept xs ++ x ∷ []
    by_case (inl e) =
        let len : length (set xs kept x) ≡ length xs = length-set xs kept x in
        let same : set (set xs kept x) at (get_or xs kept x) ≡ set (set xs kept x) kept x =
        (λ i. set (set xs kept x) (sym e i) (get_or xs (e i) x)) ∙ ap (set (set xs kept x) kept) is in
        ap (take (kept + 1)) (swapped ∙ same) ∙ take_more_set (set xs kept x) kept x (omega (arith, le, lt, len)) ∙
        ap (λ (ys : List X). ys ++ x ∷ []) (take-set-le kept xs kept x (omega arith))
    by_case (inr ne) =
        let less : kept + 1 ≤ at = omega (arith, le, ne) in
        ap (take (kept + 1)) swapped ∙ take-set-le (kept + 1) (set xs kept x) at (get_or xs kept x) less ∙ take_more_set xs kept x (omega (arith, le, lt))

  pub behind_swap : (xs : List X) (kept at : ℕ) (x : X) → kept ≤ at → at < length xs → get_or xs at x ≡ x → drop (at + 1) (swap xs kept at) ≡ drop (at + 1) xs
  behind_swap xs kept at x le lt is =
      ap (drop (at + 1)) (sym (swap_is xs kept at x (omega (arith, le, lt)) lt)) ∙
      drop-set-lt (at + 1) (set xs kept (get_or xs at x)) at (get_or xs kept x) (omega arith) ∙ drop-set-lt (at + 1) xs kept (get_or xs at x)
      (omega (arith, le))

  -- once it is written
  pub written_up : (xs : List X) (kept at : ℕ) (x : X) → kept ≤ at → at < length xs → take (kept + 1) (swap (set xs at x) kept at) ≡ take kept xs ++ x ∷ []
  written_up xs kept at x le lt =
      let len : length (set xs at x) ≡ length xs = length-set xs at x in
      up (set xs at x) kept at x le (omega (arith, lt, len)) (get_set xs at x x lt) ∙ ap (λ (ys : List X). ys ++ x ∷ []) (take-set-le kept xs at x le)

  pub written_behind : (xs : List X) (kept at : ℕ) (x : X) → kept ≤ at → at < length xs → drop (at + 1) (swap (set xs at x) kept at) ≡ drop (at + 1) xs
  written_behind xs kept at x le lt =
      let len : length (set xs at x) ≡ length xs = length-set xs at x in
      behind_swap (set xs at x) kept at x le (omega (arith, lt, len)) (get_set xs at x x lt) ∙ drop-set-lt (at + 1) xs at x (omega arith)

-- the front with an item that moved to its end
pub lookup_up : (xs zs : List Item) (kept at : ℕ) (made : Item) (lookup : Lookup) (subs : List DebugSubstitution) → kept ≤ at → at < length xs →
    zs ≡ swap (set xs at made) kept at → (kept ≡ length (take kept xs) → IsLookupOf lookup subs (take kept xs ++ made ∷ [])) →
    IsLookupOf lookup subs (take (kept + 1) zs)
lookup_up xs zs kept at made lookup subs le lt e h =
    subst (IsLookupOf lookup subs) (sym (ap (take (kept + 1)) e ∙ written_up xs kept at made le lt))
    (h (sym (length-take-le kept xs (omega (arith, le, lt)))))

-- the front before an item that was written
pub lookup_same : (xs : List Item) (kept at : ℕ) (y : Item) (lookup : Lookup) (subs : List DebugSubstitution) → kept ≤ at →
    IsLookupOf lookup subs (take kept xs) → IsLookupOf lookup subs (take kept (set xs at y))
lookup_same xs kept at y lookup subs le h = subst (IsLookupOf lookup subs) (sym (take-set-le kept xs at y le)) h

module _ (xs : List Item) (kept at k s : ℕ) (subs : List DebugSubstitution) (fresh : ℕ) (roots : List Root) (le : kept ≤ at) (lt : at < length xs) where
  abbrev before : SoFar
  before = record { done = take kept xs; roots = roots; subs = subs; fresh = fresh }

  -- the number is salvaged without a DBG_PHI
  module _ (w : SalvageAction) (zs : List Item) (is : zs ≡ above_after w (take kept xs) ++ drop kept xs) where
    size : length (above_after w (take kept xs)) ≡ kept
    size = above_length w (take kept xs) ∙ length-take-le kept xs (omega (arith, le, lt))

    same_length : length zs ≡ length xs
    same_length =
        let e = ap length is in
        let both = length-append (above_after w (take kept xs)) (drop kept xs) in
        let rest = length-drop kept xs in
        omega (arith, e, both, size, rest, le, lt)

    same_behind : drop (at + 1) zs ≡ drop (at + 1) xs
    same_behind =
        let e : kept + (at + 1 - kept) ≡ at + 1 = omega (arith, le) in
        let rest : drop kept zs ≡ drop kept xs = ap (drop kept) is ∙ drop_at (above_after w (take kept xs)) (drop kept xs) kept size in
        ap (λ (n : ℕ). drop n zs) (sym e) ∙ sym (drop-drop (at + 1 - kept) kept zs) ∙ ap (drop (at + 1 - kept)) rest ∙ drop-drop (at + 1 - kept) kept xs ∙
        ap (λ (n : ℕ). drop n xs) e

    pub above_stands : (origin : Origin) (subs' : List DebugSubstitution) (fresh' : ℕ) → put_for w k s origin ≡ [] → subs' ≡ subs ++ entries_for w k →
        fresh' ≡ fresh_after w fresh → Stands (salvaged before k s origin w) kept (at + 1) zs xs roots subs' fresh'
    above_stands origin subs' fresh' none entries counted = record {
      done = ap (take kept) is ∙ take_at (above_after w (take kept xs)) (drop kept xs) kept size ∙ sym (append-nil (above_after w (take kept xs))) ∙
          sym (ap (λ (ps : List Item). above_after w (take kept xs) ++ ps) none);
      behind = same_behind;
      size = same_length;
      within = omega (arith, le);
      known = refl;
      entries = entries;
      counted = counted;
    }

  -- with a DBG_PHI
  phi_base : (made : Item) (origin : Origin) (zs : List Item) (subs' : List DebugSubstitution) (fresh' : ℕ) → made ≡ phi_for k s origin →
      zs ≡ swap (set xs at made) kept at → subs' ≡ subs ++ [] → fresh' ≡ fresh →
      Stands (salvaged before k s origin GetsPhi) (kept + 1) (at + 1) zs xs roots subs' fresh'
  phi_base made origin zs subs' fresh' is e entries counted = record {
    done = ap (take (kept + 1)) e ∙ written_up xs kept at made le lt ∙ ap (λ (y : Item). take kept xs ++ y ∷ []) is;
    behind = ap (drop (at + 1)) e ∙ written_behind xs kept at made le lt;
    size = ap length e ∙ length-swap (set xs at made) kept at ∙ length-set xs at made;
    within = omega (arith, le);
    known = refl;
    entries = entries;
    counted = counted;
  }

  pub phi_stands : (made : Item) (origin : Origin) (zs : List Item) (w : SalvageAction) (subs' : List DebugSubstitution) (fresh' : ℕ) → w ≡ GetsPhi →
      made ≡ phi_for k s origin → zs ≡ swap (set xs at made) kept at → subs' ≡ subs ++ entries_for w k → fresh' ≡ fresh_after w fresh →
      Stands (salvaged before k s origin w) (kept + 1) (at + 1) zs xs roots subs' fresh'
  phi_stands made origin zs w subs' fresh' e is f entries counted =
      subst (λ (z : SalvageAction). Stands (salvaged before k s origin z) (kept + 1) (at + 1) zs xs roots subs' fresh') (sym e)
      (phi_base made origin zs subs' fresh' is f (entries ∙ ap (λ (z : SalvageAction). subs ++ entries_for z k) e)
      (counted ∙ ap (λ (z : SalvageAction). fresh_after z fresh) e))

module _ (xs : List Item) (kept at : ℕ) (subs : List DebugSubstitution) (fresh : ℕ) (roots : List Root) (le : kept ≤ at) (lt : at < length xs) where
  abbrev so_far : SoFar
  so_far = record { done = take kept xs; roots = roots; subs = subs; fresh = fresh }

  -- an item that stays, once it is renamed
  pub stays_stands : (y : Item) (zs : List Item) (roots' : List Root) → fate_of roots y.kind ≡ Stays → zs ≡ swap (set xs at y) kept at →
      roots' ≡ roots_with y.kind roots → Stands (and_renamed so_far y) (kept + 1) (at + 1) zs xs roots' subs fresh
  stays_stands y zs roots' fate e known =
      subst (λ (z : CopyAction). Stands (by_fate so_far y z) (kept + 1) (at + 1) zs xs roots' subs fresh) (sym fate) (record {
        done = ap (take (kept + 1)) e ∙ written_up xs kept at y le lt;
        behind = ap (drop (at + 1)) e ∙ written_behind xs kept at y le lt;
        size = ap length e ∙ length-swap (set xs at y) kept at ∙ length-set xs at y;
        within = omega (arith, le);
        known = known;
        entries = refl;
        counted = refl;
      })

  -- a copy without a number that goes
  pub goes_stands : (y : Item) → fate_of roots y.kind ≡ Goes → Stands (and_renamed so_far y) kept (at + 1) (set xs at y) xs roots subs fresh
  goes_stands y fate = subst (λ (z : CopyAction). Stands (by_fate so_far y z) kept (at + 1) (set xs at y) xs roots subs fresh) (sym fate) (record {
    done = take-set-le kept xs at y le;
    behind = drop-set-lt (at + 1) xs at y (omega arith);
    size = length-set xs at y;
    within = omega (arith, le);
    known = refl;
    entries = refl;
    counted = refl;
  })

  -- a copy with a number that goes
  pub taken_stands : (y : Item) (k s more : ℕ) (zs : List Item) (subs' : List DebugSubstitution) (fresh' : ℕ) → fate_of roots y.kind ≡ GoesWith k s →
      Stands (salvaged (record { done = take kept (set xs at y); roots = roots; subs = subs; fresh = fresh }) k s y.origin
      (salvage_action [] subs fresh k s (take kept (set xs at y)))) more (at + 1) zs (set xs at y) roots subs' fresh' →
      Stands (and_renamed so_far y) more (at + 1) zs xs roots subs' fresh'
  taken_stands y k s more zs subs' fresh' fate h =
      let front : take kept (set xs at y) ≡ take kept xs = take-set-le kept xs at y le in
      subst (λ (z : CopyAction). Stands (by_fate so_far y z) more (at + 1) zs xs roots subs' fresh') (sym fate)
      (subst (λ (ys : List Item). Stands (salvaged (record { done = ys; roots = roots; subs = subs; fresh = fresh }) k s y.origin
      (salvage_action [] subs fresh k s ys))
      more
      (at + 1) zs xs roots subs' fresh') front (record {
        done = h.done;
        behind = h.behind ∙ drop-set-lt (at + 1) xs at y (omega arith);
        size = h.size ∙ length-set xs at y;
        within = h.within;
        known = h.known;
        entries = h.entries;
        counted = h.counted;
      }))

-- one item after others
pub over_more : (a : SoFar) (ys : List Item) (x : Item) → over_items a (ys ++ x ∷ []) ≡ next_item (over_items a ys) x
over_more a [] x = refl
over_more a (y ∷ ys) x = over_more (next_item a y) ys x

-- what one step leaves of what stood
pub step_stands : (a : SoFar) (xs items zs : List Item) (kept at more : ℕ) (x : Item) (roots roots' : List Root) (subs subs' : List DebugSubstitution)
    (fresh fresh' : ℕ) →
    at < length xs → x ≡ get_or xs at x → Stands (over_items a (take at xs)) kept at items xs roots subs fresh →
    Stands (next_item (record { done = take kept items; roots = roots; subs = subs; fresh = fresh }) x) more (at + 1) zs items roots' subs' fresh' →
    Stands (over_items a (take (at + 1) xs)) more (at + 1) zs xs roots' subs' fresh'
step_stands a xs items zs kept at more x roots roots' subs subs' fresh fresh' lt is h g =
    let one : take (at + 1) xs ≡ take at xs ++ x ∷ [] = take_more xs at x lt ∙ ap (λ (y : Item). take at xs ++ y ∷ []) (sym is) in
    let same : ◌≡◌ {A = SoFar} (record { done = take kept items; roots = roots; subs = subs; fresh = fresh }) (over_items a (take at xs)) =
    λ i. record { done = h.done i; roots = h.known i; subs = h.entries i; fresh = h.counted i } in
    subst (λ (b : SoFar). Stands b more (at + 1) zs xs roots' subs' fresh')
    (ap (λ (b : SoFar). next_item b x) same ∙ sym (over_more a (take at xs) x) ∙ ap (over_items a) (sym one)) (record {
      done = g.done;
      behind = g.behind ∙ behind_next xs items at h.behind;
      size = g.size ∙ h.size;
      within = g.within;
      known = g.known;
      entries = g.entries;
      counted = g.counted;
    })

take_none : (xs : List Item) → take 0 xs ≡ []
take_none [] = refl
take_none (x ∷ xs) = refl

-- at first, and at last
pub first_stands : (xs : List Item) (subs : List DebugSubstitution) (fresh : ℕ) → Stands (over_items (at_block subs fresh) (take 0 xs)) 0 0 xs xs [] subs fresh
first_stands xs subs fresh = subst (λ (ys : List Item). Stands (over_items (at_block subs fresh) ys) 0 0 xs xs [] subs fresh) (sym (take_none xs)) (record {
  done = take_none xs;
  behind = refl;
  size = refl;
  within = omega arith;
  known = refl;
  entries = refl;
  counted = refl;
})

pub first_indexed : (index : Above) (subs : List DebugSubstitution) (xs : List Item) → ((es : List DebugSubstitution) → IsIndexOf index es []) →
    IsLookupOf (Index index) subs (take 0 xs)
first_indexed index subs xs h = subst (IsIndexOf index subs) (sym (take_none xs)) (h subs)

pub last_stands : (a : SoFar) (xs items : List Item) (kept at : ℕ) (roots : List Root) (subs : List DebugSubstitution) (fresh : ℕ) → length xs ≤ at →
    Stands (over_items a (take at xs)) kept at items xs roots subs fresh →
    (take kept items ≡ (over_items a xs).done) × (subs ≡ (over_items a xs).subs) × (fresh ≡ (over_items a xs).fresh)
last_stands a xs items kept at roots subs fresh le h =
    let all : over_items a (take at xs) ≡ over_items a xs = ap (over_items a) (take_all at xs le) in
    (h.done ∙ ap (λ (b : SoFar). b.done) all, h.entries ∙ ap (λ (b : SoFar). b.subs) all, h.counted ∙ ap (λ (b : SoFar). b.fresh) all)

pub some_at : {X : Type 0} (xs : List X) (i : ℕ) → i < length xs → (x : X) × (x ≡ get_or xs i x)
some_at [] i lt = absurd (omega (arith, lt))
some_at (x ∷ xs) zero lt = (x, refl)
some_at (x ∷ xs) (suc i) lt = some_at xs i (omega (arith, lt))
