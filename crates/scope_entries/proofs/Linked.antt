-- The order of scopes, as far as they were walked from the last one on.
use Rattle.std.proofs.Common.{◌≡◌, ℕ, zero, suc, ◌+◌, ◌<◌, ◌≤◌, Bool, true, false, cond, List, [], length, get_or, set, drop, replicate, refl}
use Rattle.std.proofs.Common.{sym, ap, ◌∙◌, arith, subst}
use Rattle.std.proofs.Common.{inl, inr, nat_eq, Option, Some, None}
use Rattle.std.specs.Prelude.{IfSome}
use Rattle.std.specs.Option.{option_eq}
use Rattle.std.proofs.lemmas.Bool.{cases_lt, ne_eqb, eq-eqb}
use Rattle.std.proofs.lemmas.List.{drop_all, get_or_default, get_or-set_other, get_or-replicate, length-replicate, length-set}
use Rattle.std.proofs.lemmas.Option.{slice_get-get_or}
use Rattle.std.proofs.lemmas.Grind.{get_or-set_at}
use Rattle.scope_ranges.specs.declared.scope.Scope.{Scope}
use Rattle.scope_ranges.specs.steps.Entered.{no_scope}
use Rattle.scope_entries.specs.declared.links.ScopeLinks.{ScopeLinks}
use Rattle.scope_entries.specs.Prefix.{IsForest}
use Rattle.scope_entries.specs.steps.Links.{first_from, first_behind, parent_at, AreLinks}
use Rattle.scope_entries.proofs.Places.{first_more}

-- the order of the scopes from an index on
pub record AreLinked (scopes : List Scope) (i : ℕ) (head : Option ℕ) (inners nexts : List (Option ℕ)) : Type 0 where
  pub within : i ≤ length scopes
  pub first : head ≡ first_from i (drop i scopes) None
  pub inner : (p : ℕ) → p < length scopes → get_or inners p None ≡ first_from i (drop i scopes) (Some p)
  pub next : (k : ℕ) → i ≤ k → k < length scopes → get_or nexts k None ≡ first_behind scopes k (parent_at scopes k)
  pub inner_count : length inners ≡ length scopes
  pub next_count : length nexts ≡ length scopes

-- of none
pub linked_none : (scopes : List Scope) (i : ℕ) (first : Option ℕ) (inner next : List (Option ℕ)) → i ≡ length scopes → first ≡ None
    → inner ≡ replicate (length scopes) None → next ≡ replicate (length scopes) None → AreLinked scopes i first inner next
linked_none scopes i first inner next all none e f =
    let nothing : drop i scopes ≡ [] = drop_all i scopes (omega (arith, all)) in
    record {
      within = omega (arith, all);
      first = none ∙ ap (λ (ss : List Scope). first_from i ss None) (sym nothing);
      inner = λ p lt.
          ap (λ (xs : List (Option ℕ)). get_or xs p None) e ∙ get_or-replicate (length scopes) p None None lt
          ∙ ap (λ (ss : List Scope). first_from i ss (Some p)) (sym nothing);
      next = λ k from lt. absurd (omega (arith, all, from, lt));
      inner_count = ap length e ∙ length-replicate (length scopes) None;
      next_count = ap length f ∙ length-replicate (length scopes) None;
    }

-- what is first behind the scope before an index
behind : (scopes : List Scope) (i j : ℕ) → i ≡ j + 1 → (around : Option ℕ) → first_from i (drop i scopes) around ≡ first_behind scopes j around
behind scopes i j e around = ap (λ n. first_from n (drop n scopes) around) e

-- the next ones with one more
next_more : (scopes : List Scope) (i j : ℕ) (next : List (Option ℕ)) (x : Option ℕ) → i ≡ j + 1 → j < length scopes → length next ≡ length scopes
    → x ≡ first_behind scopes j (parent_at scopes j)
    → ((k : ℕ) → i ≤ k → k < length scopes → get_or next k None ≡ first_behind scopes k (parent_at scopes k))
    → (k : ℕ) → j ≤ k → k < length scopes → get_or (set next j x) k None ≡ first_behind scopes k (parent_at scopes k)
next_more scopes i j next x e lt long is before k from within =
    elim (cases_lt j k) [
      | inl above ↦ get_or-set_other next j k x None (λ same. let s : k ≡ j = same in omega (arith, s, above)) ∙ before k (omega (arith, e, above)) within
      | inr at ↦
          let here : k ≡ j = omega (arith, from, at) in
          get_or-set_at next j k x None here (omega (arith, lt, long)) ∙ is ∙ ap (λ n. first_behind scopes n (parent_at scopes n)) (sym here)
    ]

-- one more scope in the function itself
pub linked_outer : (scopes : List Scope) (i j : ℕ) (first : Option ℕ) (inner next : List (Option ℕ)) → AreLinked scopes i first inner next → i ≡ j + 1
    → parent_at scopes j ≡ None → AreLinked scopes j (Some j) inner (set next j first)
linked_outer scopes i j first inner next are e own =
    let lt : j < length scopes = omega (arith, are.within, e) in
    record {
      within = omega (arith, lt);
      first =
          sym (first_more scopes j None lt ∙ ap (λ (o : Option ℕ). cond (option_eq nat_eq o None) (Some j) (first_behind scopes j None)) own);
      inner = λ p below.
          are.inner p below
          ∙ behind scopes i j e (Some p)
          ∙ sym (first_more scopes j (Some p) lt
          ∙ ap (λ (o : Option ℕ). cond (option_eq nat_eq o (Some p)) (Some j) (first_behind scopes j (Some p))) own);
      next =
          next_more scopes i j next first e lt are.next_count
          (are.first ∙ behind scopes i j e None ∙ ap (first_behind scopes j) (sym own)) are.next;
      inner_count = are.inner_count;
      next_count = length-set next j first ∙ are.next_count;
    }

inner_by : (inner : List (Option ℕ)) (p q j : ℕ) (b : Bool) → nat_eq p q ≡ b → p < length inner
    → (rest : Option ℕ) → get_or inner q None ≡ rest → get_or (set inner p (Some j)) q None ≡ cond b (Some j) rest
inner_by inner p q j b is lt rest e =
    elim (cases_lt p q) [
      | inl above ↦
          let differ : nat_eq p q ≡ false = ne_eqb p q (λ same. let s : p ≡ q = same in omega (arith, s, above)) in
          get_or-set_other inner p q (Some j) None (λ same. let s : q ≡ p = same in omega (arith, s, above)) ∙ e
          ∙ ap (λ (t : Bool). cond t (Some j) rest) (sym differ ∙ is)
      | inr at ↦ elim (cases_lt q p) [
        | inl under ↦
            let differ : nat_eq p q ≡ false = ne_eqb p q (λ same. let s : p ≡ q = same in omega (arith, s, under)) in
            get_or-set_other inner p q (Some j) None (λ same. let s : q ≡ p = same in omega (arith, s, under)) ∙ e
            ∙ ap (λ (t : Bool). cond t (Some j) rest) (sym differ ∙ is)
        | inr from ↦
            let here : q ≡ p = omega (arith, at, from) in
            let same : nat_eq p q ≡ true = eq-eqb p q (sym here) in
            get_or-set_at inner p q (Some j) None here lt ∙ ap (λ (t : Bool). cond t (Some j) rest) (sym same ∙ is)
      ]
    ]

-- one more scope in another one
pub linked_inner : (scopes : List Scope) (i j p : ℕ) (first : Option ℕ) (inner next : List (Option ℕ)) → AreLinked scopes i first inner next → i ≡ j + 1
    → parent_at scopes j ≡ Some p → p < length scopes → (x : Option ℕ) → x ≡ get_or inner p None
    → AreLinked scopes j first (set inner p (Some j)) (set next j x)
linked_inner scopes i j p first inner next are e own low x is =
    let lt : j < length scopes = omega (arith, are.within, e) in
    record {
      within = omega (arith, lt);
      first =
          are.first
          ∙ behind scopes i j e None
          ∙ sym (first_more scopes j None lt ∙ ap (λ (o : Option ℕ). cond (option_eq nat_eq o None) (Some j) (first_behind scopes j None)) own);
      inner = λ q below.
          inner_by inner p q j (nat_eq p q) refl (omega (arith, low, are.inner_count)) (first_behind scopes j (Some q))
          (are.inner q below ∙ behind scopes i j e (Some q))
          ∙ sym (first_more scopes j (Some q) lt
          ∙ ap (λ (o : Option ℕ). cond (option_eq nat_eq o (Some q)) (Some j) (first_behind scopes j (Some q))) own);
      next =
          next_more scopes i j next x e lt are.next_count
          (is ∙ are.inner p low ∙ behind scopes i j e (Some p) ∙ ap (first_behind scopes j) (sym own)) are.next;
      inner_count = length-set inner p (Some j) ∙ are.inner_count;
      next_count = length-set next j x ∙ are.next_count;
    }

-- ---- a scope stands behind the one around it

pub parent_below : (scopes : List Scope) → IsForest scopes → (k : ℕ) → k < length scopes → IfSome (parent_at scopes k) (λ p. p < k)
parent_below scopes forest k lt = forest k (get_or scopes k no_scope) (slice_get-get_or scopes k no_scope lt)

pub parent_within : (scopes : List Scope) → IsForest scopes → (j p : ℕ) → j < length scopes → parent_at scopes j ≡ Some p → p < length scopes
parent_within scopes forest j p lt e =
    let below : p < j = subst (λ (o : Option ℕ). IfSome o (λ q. q < j)) e (parent_below scopes forest j lt) in omega (arith, below, lt)

pub parent_from : (scopes : List Scope) (j : ℕ) (d : Scope) (o : Option ℕ) → j < length scopes → (get_or scopes j d).parent ≡ o → parent_at scopes j ≡ o
parent_from scopes j d o lt e = ap (λ (s : Scope). s.parent) (get_or_default scopes j no_scope d lt) ∙ e

other_outer : (o : Option ℕ) (p m : ℕ) → IfSome o (λ q. q < m) → m ≤ p → option_eq nat_eq o (Some p) ≡ false
other_outer None p m below up = refl
other_outer (Some q) p m below up = ne_eqb q p (λ e. omega (arith, below, up, e))

-- so the first scope in one is behind it
skipped : (scopes : List Scope) → IsForest scopes → (p : ℕ) → p < length scopes → (n : ℕ) → n ≤ p + 1
    → first_from 0 scopes (Some p) ≡ first_from n (drop n scopes) (Some p)
skipped scopes forest p lt zero le = refl
skipped scopes forest p lt (suc m) le =
    let low : m < length scopes = omega (arith, lt, le) in
    let one : m + 1 ≡ suc m = omega arith in
    skipped scopes forest p lt m (omega (arith, le))
    ∙ first_more scopes m (Some p) low
    ∙ ap (λ (b : Bool). cond b (Some m) (first_behind scopes m (Some p)))
    (other_outer (parent_at scopes m) p m (parent_below scopes forest m low) (omega (arith, le)))
    ∙ ap (λ n. first_from n (drop n scopes) (Some p)) one

pub all_linked : (scopes : List Scope) (i : ℕ) (l : ScopeLinks) → IsForest scopes → AreLinked scopes i l.first l.inner.items l.next.items → i ≡ 0
    → AreLinks scopes l
all_linked scopes i l forest are e = record {
  first = are.first ∙ ap (λ n. first_from n (drop n scopes) None) e;
  inner = λ k lt.
      are.inner k lt ∙ ap (λ n. first_from n (drop n scopes) (Some k)) e ∙ skipped scopes forest k lt (k + 1) (omega arith);
  next = λ k lt. are.next k (omega (arith, e)) lt;
  inners = are.inner_count;
  nexts = are.next_count;
}
