-- The calls of a function by where they stand, as they are gone through: each next one is in the function's own code or in that of one before it.
use Rattle.std.proofs.Common.{◌≡◌, ℕ, zero, suc, ◌+◌, ◌<◌, ◌≤◌, ◌⊎◌, Bool, true, false, cond, List, [], ◌∷◌, ◌++◌, length, take, set, get_or, Option, Some, None}
use Rattle.std.proofs.Common.{refl, sym, ◌∙◌, ap, arith, nat_eq, append-nil, subst, inl, inr}
use Rattle.std.specs.Prelude.{IfSome}
use Rattle.std.specs.Option.{option_eq}
use Rattle.std.proofs.lemmas.Bool.{true≢false, cases_lt, eqb-true, eq-eqb}
use Rattle.std.proofs.lemmas.List.{get_or_append_left, get_or_push, length_push, get_or-set_same, get_or-set_other, length-set}
use Rattle.dwarf_info.specs.declared.inlined.InlinedCall.{InlinedCall}
use Rattle.dwarf_info.specs.Inlined.{IsCall, AreCalls}
use Rattle.dwarf_info.specs.steps.Within.{numbers_within}
use Rattle.dwarf_info.proofs.WithinLemmas.{not_yet}

-- ---- calls by their index

pub calls_taken : (types abstracts k n : ℕ) (cs : List InlinedCall) → AreCalls types abstracts k cs → AreCalls types abstracts k (take n cs)
calls_taken types abstracts k zero [] are = tt
calls_taken types abstracts k (suc n) [] are = tt
calls_taken types abstracts k zero (c ∷ cs) are = tt
calls_taken types abstracts k (suc n) (c ∷ cs) are = (are.0, calls_taken types abstracts (suc k) n cs are.1)

pub call_is : (types abstracts k n : ℕ) (cs : List InlinedCall) (d : InlinedCall) → AreCalls types abstracts k cs → n < length cs
    → IsCall types abstracts (k + n) (get_or cs n d)
call_is types abstracts k n [] d are below = absurd (omega (arith, below))
call_is types abstracts k zero (c ∷ cs) d are below =
    let same : k ≡ k + 0 = omega arith in
    subst (λ (n : ℕ). IsCall types abstracts n c) same are.0
call_is types abstracts k (suc n) (c ∷ cs) d are below =
    let same : suc k + n ≡ k + suc n = omega arith in
    subst (λ (m : ℕ). IsCall types abstracts m (get_or cs n d)) same (call_is types abstracts (suc k) n cs d are.1 (omega (arith, below)))

-- ---- one more call

numbers_more : (k n : ℕ) (cs : List InlinedCall) (c : InlinedCall) (around : Option ℕ) → n ≡ k + length cs
    → numbers_within k (cs ++ c ∷ []) around ≡ numbers_within k cs around ++ cond (option_eq nat_eq c.parent around) (n ∷ []) []
numbers_more k n [] c around e =
    let same : k ≡ n = omega (arith, e) in
    ap (λ (m : ℕ). cond (option_eq nat_eq c.parent around) (m ∷ []) []) same
numbers_more k n (x ∷ cs) c around e = by (option_eq nat_eq x.parent around) (numbers_more (suc k) n cs c around (omega (arith, e)))
  where
    by : (b : Bool) → numbers_within (suc k) (cs ++ c ∷ []) around ≡ numbers_within (suc k) cs around ++ cond (option_eq nat_eq c.parent around) (n ∷ []) []
        → cond b (k ∷ numbers_within (suc k) (cs ++ c ∷ []) around) (numbers_within (suc k) (cs ++ c ∷ []) around)
        ≡ cond b (k ∷ numbers_within (suc k) cs around) (numbers_within (suc k) cs around) ++ cond (option_eq nat_eq c.parent around) (n ∷ []) []
    by true others = ap (λ (ns : List ℕ). k ∷ ns) others
    by false others = others

-- no call is in the code of one that isn't before it
none_yet : (types abstracts k p : ℕ) (cs : List InlinedCall) → AreCalls types abstracts k cs → k + length cs ≤ suc p → numbers_within k cs (Some p) ≡ []
none_yet types abstracts k p [] are few = refl
none_yet types abstracts k p (c ∷ cs) are few =
    let others = numbers_within (suc k) cs (Some p) in
    ap (λ (b : Bool). cond b (k ∷ others) others) (not_yet types abstracts p k c c.parent refl are.0.parent (omega (arith, few)))
    ∙ none_yet types abstracts (suc k) p cs are.1 (omega (arith, few))

-- the numbers of calls by where they stand
pub record ArePlaced (cs : List InlinedCall) (mine : List ℕ) (places : List (List ℕ)) : Type 0 where
  pub own : mine ≡ numbers_within 0 cs None
  pub count : length places ≡ length cs
  pub inside : (k : ℕ) → k < length cs → get_or places k [] ≡ numbers_within 0 cs (Some k)

module _ (types abstracts : ℕ) (cs : List InlinedCall) (c : InlinedCall) (n : ℕ) (are : AreCalls types abstracts 0 cs) (last : n ≡ length cs) where
  -- the number of the next call, if it is there
  abbrev new : Option ℕ → List ℕ
  new around = cond (option_eq nat_eq c.parent around) (n ∷ []) []

  more : (around : Option ℕ) → numbers_within 0 (cs ++ c ∷ []) around ≡ numbers_within 0 cs around ++ new around
  more around = numbers_more 0 n cs c around (omega (arith, last))

  -- nothing is in the code of the next call yet
  module _ (before : IfSome c.parent (λ p. p < n)) where
    none_in_it : numbers_within 0 (cs ++ c ∷ []) (Some n) ≡ []
    none_in_it =
        more (Some n) ∙ ap (λ (ns : List ℕ). ns ++ new (Some n)) (none_yet types abstracts 0 n cs are (omega (arith, last)))
        ∙ ap (λ (b : Bool). cond b (n ∷ []) []) (not_yet types abstracts n n c c.parent refl before (omega arith))

    placed : (mine : List ℕ) (places : List (List ℕ)) → length places ≡ n → mine ≡ numbers_within 0 cs None ++ new None
        → ((k : ℕ) → k < n → get_or places k [] ≡ numbers_within 0 cs (Some k) ++ new (Some k)) → ArePlaced (cs ++ c ∷ []) mine (places ++ [] ∷ [])
    placed mine places long own each = record {
      own = own ∙ sym (more None);
      count = omega (arith, length_push places [], length_push cs c, long, last);
      inside = λ k below. at k below (cases_lt k n);
    }
      where
        at : (k : ℕ) → k < length (cs ++ c ∷ []) → (k < n) ⊎ (n ≤ k) → get_or (places ++ [] ∷ []) k [] ≡ numbers_within 0 (cs ++ c ∷ []) (Some k)
        at k below (inl early) =
            get_or_append_left places ([] ∷ []) [] k (omega (arith, long, early)) ∙ each k early ∙ sym (more (Some k))
        at k below (inr late) =
            let same : n ≡ k = omega (arith, late, below, length_push cs c, last) in
            get_or_push places [] [] k (omega (arith, long, same)) ∙ sym (ap (λ (m : ℕ). numbers_within 0 (cs ++ c ∷ []) (Some m)) (sym same) ∙ none_in_it)

  -- a call in the function's own code
  pub placed_own : (mine next : List ℕ) (places : List (List ℕ)) → ArePlaced cs mine places → c.parent ≡ None → next ≡ mine ++ n ∷ []
      → ArePlaced (cs ++ c ∷ []) next (places ++ [] ∷ [])
  placed_own mine next places so none pushed =
      placed (subst (λ (o : Option ℕ). IfSome o (λ p. p < n)) (sym none) tt) next places (so.count ∙ sym last)
      (pushed ∙ (λ i. so.own i ++ cond (option_eq nat_eq (sym none i) None) (n ∷ []) []))
      (λ k below. so.inside k (omega (arith, below, last)) ∙ sym (append-nil (numbers_within 0 cs (Some k)))
      ∙ (λ i. numbers_within 0 cs (Some k) ++ cond (option_eq nat_eq (sym none i) (Some k)) (n ∷ []) []))

  -- a call in the code of one before it
  pub placed_inside : (mine : List ℕ) (places : List (List ℕ)) (p : ℕ) (now : List ℕ) → ArePlaced cs mine places → c.parent ≡ Some p → p < n
      → now ≡ get_or places p [] ++ n ∷ [] → ArePlaced (cs ++ c ∷ []) mine (set places p now ++ [] ∷ [])
  placed_inside mine places p now so some below pushed =
      placed (subst (λ (o : Option ℕ). IfSome o (λ q. q < n)) (sym some) below) mine (set places p now) (omega (arith, length-set places p now, so.count, last))
      (so.own ∙ sym (append-nil (numbers_within 0 cs None)) ∙ (λ i. numbers_within 0 cs None ++ cond (option_eq nat_eq (sym some i) None) (n ∷ []) [])) each
    where
      in_it : (k : ℕ) (b : Bool) → nat_eq p k ≡ b → cond b (n ∷ []) [] ≡ new (Some k)
      in_it k b e = (λ i. cond (sym e i) (n ∷ []) []) ∙ (λ i. cond (option_eq nat_eq (sym some i) (Some k)) (n ∷ []) [])

      by : (k : ℕ) → k < n → (b : Bool) → nat_eq p k ≡ b → get_or (set places p now) k [] ≡ numbers_within 0 cs (Some k) ++ new (Some k)
      by k early true e =
          let same : p ≡ k = eqb-true p k e in
          ap (λ (m : ℕ). get_or (set places m now) k []) same ∙ get_or-set_same places k now [] (omega (arith, so.count, early, last))
          ∙ pushed ∙ (λ i. get_or places (same i) [] ++ n ∷ [])
          ∙ ap (λ (ns : List ℕ). ns ++ n ∷ []) (so.inside k (omega (arith, early, last)))
          ∙ ap (λ (ns : List ℕ). numbers_within 0 cs (Some k) ++ ns) (in_it k true e)
      by k early false e =
          get_or-set_other places p k now [] (λ same. true≢false (sym (eq-eqb p k (sym same)) ∙ e)) ∙ so.inside k (omega (arith, early, last))
          ∙ sym (append-nil (numbers_within 0 cs (Some k)))
          ∙ ap (λ (ns : List ℕ). numbers_within 0 cs (Some k) ++ ns) (in_it k false e)

      each : (k : ℕ) → k < n → get_or (set places p now) k [] ≡ numbers_within 0 cs (Some k) ++ new (Some k)
      each k early = by k early (nat_eq p k) refl

pub nothing_placed : ArePlaced [] [] []
nothing_placed = record { own = refl; count = refl; inside = λ k below. absurd (omega (arith, below)) }

pub placed_same : (cs cs_ : List InlinedCall) (mine mine_ : List ℕ) (places places_ : List (List ℕ)) → cs ≡ cs_ → mine ≡ mine_ → places ≡ places_
    → ArePlaced cs mine places → ArePlaced cs_ mine_ places_
placed_same cs cs_ mine mine_ places places_ e1 e2 e3 so =
    subst (λ (x : List InlinedCall). ArePlaced x mine_ places_) e1
    (subst (λ (x : List ℕ). ArePlaced cs x places_) e2 (subst (λ (x : List (List ℕ)). ArePlaced cs mine x) e3 so))
