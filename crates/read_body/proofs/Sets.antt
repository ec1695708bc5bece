-- Numbers that were met, found by a set.
use Rattle.std.proofs.Common.{◌≡◌, ℕ, Bool, true, cond, eqb, List, [], ◌∷◌, ◌++◌, sym, ap, ◌∙◌}
use Rattle.std.specs.List.{list_any}
use Rattle.std.specs.Ordering.{nat_cmp}
use Rattle.std.specs.BTreeSet.{BTreeSet, contains, Updates}
use Rattle.std.proofs.lemmas.List.Folds.{list_any-append}
use Rattle.read_declarations.proofs.Ids.{either, same_key}
use Rattle.read_body.specs.FirstUseOrder.{is_met, HasAll}

-- a set with one number more
pub has_more : (set new : BTreeSet ℕ) (ns more : List ℕ) (k : ℕ) → HasAll set ns → Updates nat_cmp set new k true → more ≡ ns ++ k ∷ [] → HasAll new more
has_more set new ns more k has updates longer = λ q.
    updates.0 q
    ∙ ap (λ (b : Bool). cond b true (contains nat_cmp set q)) (same_key k q)
    ∙ ap (λ (a : Bool). cond (eqb q k) true a) (has q)
    ∙ either (is_met q ns) (eqb q k)
    ∙ sym (ap (λ (l : List ℕ). is_met q l) longer ∙ list_any-append (λ (m : ℕ). eqb q m) ns (k ∷ []))
