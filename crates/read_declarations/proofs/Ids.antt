-- The numbers of stack entries and of fixed objects, found by a set.
use Rattle.std.proofs.Common.{Ordering, Less, Equal, Greater, ◌≡◌, ℕ, ◌<◌, Bool, true, false, ◌||◌, cond, eqb, List, [], ◌∷◌}
use Rattle.std.proofs.Common.{◌++◌, Result, Ok, Err, refl, sym, ap, ◌∙◌, arith}
use Rattle.std.specs.Prelude.{OnOk}
use Rattle.std.specs.List.{list_any}
use Rattle.std.specs.Ordering.{nat_cmp, is_eq, MatchOrdering}
use Rattle.std.specs.BTreeSet.{BTreeSet, contains, Updates}
use Rattle.std.proofs.lemmas.Bool.{ne_eqb, eq-eqb}
use Rattle.std.proofs.lemmas.Cmp.{ranked}
use Rattle.std.proofs.lemmas.List.Folds.{list_any-append}
use Rattle.read_declarations.specs.declared.stack.StackEntry.{StackEntry}
use Rattle.read_declarations.specs.Stack.{has_id, AreIds}
use Rattle.read_declarations.specs.Constants.{AreNumbers}

pub by_order : (k q : ℕ) (o : Ordering) → MatchOrdering o (k < q) (k ≡ q) (q < k) → is_eq o ≡ eqb q k
by_order k q Less lt = sym (ne_eqb q k (λ e. omega (arith, lt, e)))
by_order k q Equal e = sym (eq-eqb q k (sym e))
by_order k q Greater gt = sym (ne_eqb q k (λ e. omega (arith, gt, e)))

pub same_key : (k q : ℕ) → is_eq (nat_cmp k q) ≡ eqb q k
same_key k q = by_order k q (nat_cmp k q) (ranked k q (nat_cmp k q) refl)

pub either : (a b : Bool) → cond b true a ≡ (a || (b || false))
either true true = refl
either true false = refl
either false true = refl
either false false = refl

-- a set with one number more
pub ids_more : (ids new : BTreeSet ℕ) (es more : List StackEntry) (e : StackEntry) (k : ℕ) → AreIds ids es → Updates nat_cmp ids new k true → k ≡ e.id
    → more ≡ es ++ e ∷ [] → AreIds new more
ids_more ids new es more e k are updates is longer = λ q.
    updates.0 q
    ∙ ap (λ (b : Bool). cond b true (contains nat_cmp ids q)) (same_key k q ∙ ap (λ (n : ℕ). eqb q n) is)
    ∙ ap (λ (a : Bool). cond (eqb q e.id) true a) (are q)
    ∙ either (has_id es q) (eqb q e.id)
    ∙ sym (ap (λ (l : List StackEntry). has_id l q) longer ∙ list_any-append (λ (x : StackEntry). eqb q x.id) es (e ∷ []))

pub on_ok : {A E : Type 0} (r : Result A E) (P Q : Type 0) → (P → Q) → OnOk r P → OnOk r Q
on_ok (Ok x) P Q f h = f h
on_ok (Err e) P Q f h = h

-- a set of numbers with one more
pub numbers_more : (set new : BTreeSet ℕ) (ns more : List ℕ) (k : ℕ) → AreNumbers set ns → Updates nat_cmp set new k true → more ≡ ns ++ k ∷ [] →
    AreNumbers new more
numbers_more set new ns more k are updates longer = λ q.
    updates.0 q
    ∙ ap (λ (b : Bool). cond b true (contains nat_cmp set q)) (same_key k q)
    ∙ ap (λ (a : Bool). cond (eqb q k) true a) (are q)
    ∙ either (list_any (eqb q) ns) (eqb q k)
    ∙ sym (ap (λ (l : List ℕ). list_any (eqb q) l) longer ∙ list_any-append (eqb q) ns (k ∷ []))
