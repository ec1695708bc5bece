-- Kills that are gathered by ends are those of the rule.
use Rattle.std.proofs.Common.{◌≡◌, ℕ, List, [], ◌∷◌, ◌++◌, map, filter, Option, Some, None, Bool, true, false, cond, not, ◌&&◌, nat_eq}
use Rattle.std.proofs.Common.{refl, sym, ap, ◌∙◌, eqb-true}
use Rattle.std.specs.List.{flat_map, filter_map, cons_option}
use Rattle.std.specs.Option.{is_some}
use Rattle.mir_func.specs.declared.block.Block.{Block}
use Rattle.mir_func.specs.declared.item.Item.{Item}
use Rattle.mir_func.specs.declared.item.ItemKind.{ItemKind}
use Rattle.mir_func.specs.declared.item.ItemKind.TheVariants.{Code, Mark, Phi}
use Rattle.mir_func.specs.declared.location.Loc.{Loc}
use Rattle.fold_targets.specs.Leads.{lead}
use Rattle.fold_rule_proof.specs.fold_rule.Tails.{is_number}
use Rattle.fold_rule_proof.specs.Kills.{kill_by, once, is_bypassed, kills, with_kills}
use Rattle.fold_undef.specs.declared.kill.Kill.{Kill}
use Rattle.fold_undef.specs.Bypassed.{end_past}
use Rattle.fold_undef.specs.Kill.{kill_of, kill_item, kills_in}
use Rattle.fold_undef.specs.steps.Gathered.{kills_to, with_kills_of}

-- ---- a block's kills

kills_are : (e : ℕ) (xs : List Item) → map (kill_item e) (kills_in xs) ≡ filter_map (λ i. kill_by e i.kind i.loc) xs
kills_are e [] = refl
kills_are e (x ∷ xs) = by_kind x.kind x.loc (kills_are e xs) where
  by_kind : (k : ItemKind) (l : Loc) → map (kill_item e) (kills_in xs) ≡ filter_map (λ i. kill_by e i.kind i.loc) xs →
      map (kill_item e) (cons_option (kill_of k l) (kills_in xs)) ≡ cons_option (kill_by e k l) (filter_map (λ i. kill_by e i.kind i.loc) xs)
  by_kind (Code i n) l h = h
  by_kind (Mark v m) l h = ap (λ (zs : List Item). kill_item e (Rattle.fold_undef.specs.declared.kill.Kill.TheVariants.Part v l) ∷ zs) h
  by_kind (Phi p n) l h = ap (λ (zs : List Item). kill_item e (Rattle.fold_undef.specs.declared.kill.Kill.TheVariants.Number n) ∷ zs) h

map_append : (e : ℕ) (xs ys : List Kill) → map (kill_item e) (xs ++ ys) ≡ map (kill_item e) xs ++ map (kill_item e) ys
map_append e [] ys = refl
map_append e (x ∷ xs) ys = ap (λ (zs : List Item). kill_item e x ∷ zs) (map_append e xs ys)

-- ---- which blocks are bypassed on the way to one

module _ (end : ℕ → ℕ) (was : ℕ → Bool) (blocks : List Block) where
  abbrev past : ℕ → Option ℕ
  past = end_past end was (lead blocks)

  far : (n e : ℕ) → (z y : Bool) → nat_eq (end n) e ≡ z → nat_eq n (end n) ≡ y →
      is_number (cond (not y) (Some (end n)) None) e ≡ (z && not (nat_eq n e))
  far n e true true a b = ap (λ (y : Bool). not y) (sym b ∙ ap (λ (m : ℕ). nat_eq n m) (eqb-true (end n) e a))
  far n e true false a b = a ∙ ap (λ (y : Bool). not y) (sym b ∙ ap (λ (m : ℕ). nat_eq n m) (eqb-true (end n) e a))
  far n e false true a b = refl
  far n e false false a b = a

  past_is : (e : ℕ) (b : Block) → is_number (past b.id) e ≡ is_bypassed end was blocks e b
  past_is e b = by_tests (was b.id) (is_some (lead blocks b.id)) where
    by_tests : (w l : Bool) → is_number (cond (w && l && not (nat_eq b.id (end b.id))) (Some (end b.id)) None) e ≡
        (w && l && nat_eq (end b.id) e && not (nat_eq b.id e))
    by_tests true true = far b.id e (nat_eq (end b.id) e) (nat_eq b.id (end b.id)) refl refl
    by_tests true false = refl
    by_tests false l = refl

  abbrev by : ℕ → Item → Option Item
  by e i = kill_by e i.kind i.loc

  ways_are : (e : ℕ) (bs : List Block) →
      map (kill_item e) (kills_to past e bs) ≡ flat_map (λ b. filter_map (λ i. kill_by e i.kind i.loc) b.items) (filter (is_bypassed end was blocks e) bs)
  ways_are e [] = refl
  ways_are e (b ∷ bs) =
      ap (λ (z : Bool). map (kill_item e) (cond z (kills_in b.items) [] ++ kills_to past e bs)) (past_is e b) ∙
      by_test (is_bypassed end was blocks e b) (ways_are e bs) where
        later : List Block
        later = filter (is_bypassed end was blocks e) bs

        by_test : (z : Bool) → map (kill_item e) (kills_to past e bs) ≡ flat_map (λ c. filter_map (λ i. kill_by e i.kind i.loc) c.items) later →
            map (kill_item e) (cond z (kills_in b.items) [] ++ kills_to past e bs) ≡
            flat_map (λ c. filter_map (λ i. kill_by e i.kind i.loc) c.items) (cond z (b ∷ later) later)
        by_test true h =
            let one = kills_are e b.items in
            map_append e (kills_in b.items) (kills_to past e bs) ∙ (λ i. one i ++ h i)
        by_test false h = h

-- the kills that are gathered, put into blocks
pub put_is : (end : ℕ → ℕ) (was : ℕ → Bool) (to : ℕ → Option ℕ) (old : List Block) (all : ℕ → List Kill) → ((n : ℕ) → to n ≡ lead old n) →
    ((e : ℕ) → all e ≡ kills_to (end_past end was to) e old) → (bs : List Block) → map (with_kills_of all) bs ≡ map (with_kills end was old) bs
put_is end was to old all leads h [] = refl
put_is end was to old all leads h (b ∷ bs) =
    let same : to ≡ lead old = λ i n. leads n i in
    let one : once (map (kill_item b.id) (all b.id)) ≡ kills end was old b.id =
    ap (λ (ks : List Kill). once (map (kill_item b.id) ks)) (h b.id ∙ ap (λ (f : ℕ → Option ℕ). kills_to (end_past end was f) b.id old) same) ∙
    ap once (ways_are end was old b.id old) in
    let rest = put_is end was to old all leads h bs in
    λ i. record b { items = one i ++ b.items } ∷ rest i
