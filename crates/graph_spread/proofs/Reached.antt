-- Nodes are reached.
use Rattle.std.proofs.Common.{◌≡◌, ℕ, ◌+◌, ◌<◌, ◌≤◌, List, [], ◌∷◌, ◌++◌, length, Bool, true, false, refl, sym, ap, ◌∙◌, subst, inl, inr, arith}
use Rattle.std.proofs.Common.{length-append}
use Rattle.std.specs.Prelude.{◌⊎◌, slice_index_or, slice_set, Contains}
use Rattle.std.proofs.lemmas.Bool.{cases_eq, cases_lt}
use Rattle.std.proofs.lemmas.List.{get_or-set_same, get_or-set_other, get_or_past, length-set}
use Rattle.std.proofs.lemmas.List.Elements.{Contains-push, Contains-push_cases, Contains-append_left}
use Rattle.std.proofs.lemmas.List.Sums.{sum_by-set}
use Rattle.graph_spread.specs.Spread.{IsIn, IsOut, out_of, count_out, Reaching}

pub differ : (b : Bool) → b ≡ true → b ≡ false → ⊥
differ b on off = let bad : true ≡ false = sym on ∙ off in cc

-- only a node that there is is in a set
pub in_within : (nodes : List Bool) (n : ℕ) → IsIn nodes n → n < length nodes
in_within nodes n on = by_test (cases_lt n (length nodes)) where
  by_test : (n < length nodes) ⊎ (length nodes ≤ n) → n < length nodes
  by_test (inl lt) = lt
  by_test (inr le) = absurd (differ (slice_index_or nodes n false) on (get_or_past nodes n false le))

-- nothing is to be reached that wasn't
pub reaching_none : (To : ℕ → Type 0) (old : List Bool) (waited : List ℕ) → ((n : ℕ) → To n → IsIn old n) → Reaching To old old waited waited
reaching_none To old waited was = record {
  long = refl;
  kept = λ n on. on;
  more = λ n on. inl on;
  all = was;
  held = λ n at. at;
  wait = λ n at. inl at;
  added = λ n on off. absurd (differ (slice_index_or old n false) on off);
  falls = omega arith;
}

-- one node is
module _ (c : ℕ) (old : List Bool) (waited : List ℕ) (lt : c < length old) (off : IsOut old c) where
  abbrev new : List Bool
  new = slice_set old c true

  here : (n : ℕ) → c ≡ n → IsIn new n
  here n e = ap (λ (k : ℕ). slice_index_or new k false) (sym e) ∙ get_or-set_same old c true false lt

  there : (n : ℕ) → (n ≡ c → ⊥) → slice_index_or new n false ≡ slice_index_or old n false
  there n ne = get_or-set_other old c n true false ne

  fewer : count_out new + 1 ≡ count_out old
  fewer =
      let put : count_out new + out_of (slice_index_or old c false) ≡ count_out old + 0 = sum_by-set out_of old c true false lt in
      let one : out_of (slice_index_or old c false) ≡ 1 = ap out_of off in
      omega (arith, put, one)

  by_push : (n : ℕ) → Contains waited n ⊎ (c ≡ n) → Contains waited n ⊎ IsIn new n
  by_push n (inl at) = inl at
  by_push n (inr e) = inr (here n e)

  pub reaching_new : Reaching (λ n. c ≡ n) old (slice_set old c true) waited (waited ++ c ∷ [])
  reaching_new = record {
    long = length-set old c true;
    kept = λ n on. elim (cases_eq n c) [ inl e ↦ here n (sym e) | inr ne ↦ there n ne ∙ on ];
    more = λ n on. elim (cases_eq n c) [ inl e ↦ inr (sym e) | inr ne ↦ inl (sym (there n ne) ∙ on) ];
    all = here;
    held = λ n at. Contains-append_left waited (c ∷ []) n at;
    wait = λ n at. by_push n (Contains-push_cases waited c n at);
    added = λ n on was. elim (cases_eq n c) [
      | inl e ↦ subst (Contains (waited ++ c ∷ [])) (sym e) (Contains-push waited c)
      | inr ne ↦ absurd (differ (slice_index_or old n false) (sym (there n ne) ∙ on) was)
    ];
    falls = let less = fewer in let long = length-append waited (c ∷ []) in omega (arith, less, long);
  }

-- some nodes, and then others
pub reaching_more : (P Q To : ℕ → Type 0) (a b d : List Bool) (w v u : List ℕ) → ((n : ℕ) → To n → P n ⊎ Q n) → ((n : ℕ) → P n → To n) →
    ((n : ℕ) → Q n → To n) → Reaching P a b w v → Reaching Q b d v u → Reaching To a d w u
reaching_more P Q To a b d w v u split left right first second = record {
  long = second.long ∙ first.long;
  kept = λ n on. second.kept n (first.kept n on);
  more = λ n on. by_more n (second.more n on);
  all = λ n at. by_all n (split n at);
  held = λ n at. second.held n (first.held n at);
  wait = λ n at. by_wait n (second.wait n at);
  added = λ n on off. by_added n (slice_index_or b n false) refl on off;
  falls = let p = first.falls in let q = second.falls in omega (arith, p, q);
} where
  by_more : (n : ℕ) → IsIn b n ⊎ Q n → IsIn a n ⊎ To n
  by_more n (inl on) = elim (first.more n on) [ inl was ↦ inl was | inr at ↦ inr (left n at) ]
  by_more n (inr at) = inr (right n at)

  by_all : (n : ℕ) → P n ⊎ Q n → IsIn d n
  by_all n (inl at) = second.kept n (first.all n at)
  by_all n (inr at) = second.all n at

  by_wait : (n : ℕ) → Contains v n ⊎ IsIn d n → Contains w n ⊎ IsIn d n
  by_wait n (inl at) = elim (first.wait n at) [ inl was ↦ inl was | inr now ↦ inr (second.kept n now) ]
  by_wait n (inr now) = inr now

  by_added : (n : ℕ) (z : Bool) → slice_index_or b n false ≡ z → IsIn d n → IsOut a n → Contains u n
  by_added n true e on off = second.held n (first.added n e off)
  by_added n false e on off = second.added n on e

-- the same nodes, told otherwise
pub reaching_same : (P To : ℕ → Type 0) (a b : List Bool) (w v : List ℕ) → ((n : ℕ) → To n → P n) → ((n : ℕ) → P n → To n) → Reaching P a b w v →
    Reaching To a b w v
reaching_same P To a b w v into back r = record {
  long = r.long;
  kept = r.kept;
  more = λ n on. elim (r.more n on) [ inl was ↦ inl was | inr at ↦ inr (back n at) ];
  all = λ n at. r.all n (into n at);
  held = r.held;
  wait = r.wait;
  added = r.added;
  falls = r.falls;
}
