-- What the kills at the end of a way take away: all that the debug items of its bypassed blocks give.
use Rattle.std.proofs.Common.{◌≡◌, ℕ, zero, suc, List, [], ◌∷◌, ◌++◌, filter, filter_map, flat_map, Contains, Option, Some, None, Bool, true}
use Rattle.std.proofs.Common.{false, cond, not}
use Rattle.std.proofs.Common.{◌||◌, nat_eq, refl, sym, ap, ◌∙◌, subst, arith}
use Rattle.std.specs.List.{list_any, cons_option}
use Rattle.std.proofs.lemmas.Bool.{eqb-true}
use Rattle.mir_func.specs.declared.block.Block.{Block}
use Rattle.mir_func.specs.declared.item.Item.{Item}
use Rattle.mir_func.specs.declared.item.ItemKind.{ItemKind}
use Rattle.mir_func.specs.declared.item.ItemKind.TheVariants.{Code, Mark, Phi}
use Rattle.mir_func.specs.declared.variable.VarId.{VarId}
use Rattle.mir_func.specs.Variables.{is_same, overlaps}
use Rattle.sem_mir.specs.Align.{is_code}
use Rattle.sem_mir.proofs.Assignments.{same_is}
use Rattle.fold_rule_proof.specs.Kills.{kill_by, kills_same, once, is_bypassed, lost_ways, kills}
use Rattle.fold_proof.proofs.Told.{kills_part, kills_number, IsCovered}

or_left : (x y : Bool) → x ≡ true → (x || y) ≡ true
or_left x y e = λ i. e i || y

or_right : (x y : Bool) → y ≡ true → (x || y) ≡ true
or_right true y e = refl
or_right false y e = e

-- kills of one part or number take away the same
same_part : (v : VarId) (k l : ItemKind) → kills_same k l ≡ true → kills_part v k ≡ kills_part v l
same_part v (Mark a m) (Mark b n) e = ap (λ (w : VarId). is_same v w || overlaps v w) (same_is a b e)
same_part v (Phi p k) (Phi q l) e = refl
same_part v (Mark a m) (Phi q l) e = cc
same_part v (Phi p k) (Mark b n) e = cc
same_part v (Code i k) l e = cc
same_part v (Mark a m) (Code i k) e = cc
same_part v (Phi p k) (Code i l) e = cc

same_number : (n : ℕ) (k l : ItemKind) → kills_same k l ≡ true → kills_number n k ≡ kills_number n l
same_number n (Mark a m) (Mark b o) e = refl
same_number n (Phi p k) (Phi q l) e = ap (nat_eq n) (eqb-true k l e)
same_number n (Mark a m) (Phi q l) e = cc
same_number n (Phi p k) (Mark b o) e = cc
same_number n (Code i k) l e = cc
same_number n (Mark a m) (Code i k) e = cc
same_number n (Phi p k) (Code i l) e = cc

module _ (test : ItemKind → Bool) (alike : (k l : ItemKind) → kills_same k l ≡ true → test k ≡ test l) where
  abbrev Any : List Item → Type 0
  Any is = list_any (λ i. test i.kind) is ≡ true

  any_filter : (keep : Item → Bool) (is : List Item) → ((i : Item) → keep i ≡ false → test i.kind ≡ false) → Any is → Any (filter keep is)
  any_filter keep [] out h = h
  any_filter keep (i ∷ is) out h = by_test (keep i) (test i.kind) refl refl h (any_filter keep is out) where
    by_test : (z y : Bool) → keep i ≡ z → test i.kind ≡ y → (y || list_any (λ i. test i.kind) is) ≡ true → (Any is → Any (filter keep is)) →
        Any (cond z (i ∷ filter keep is) (filter keep is))
    by_test true true k t e later = or_left (test i.kind) (list_any (λ i. test i.kind) (filter keep is)) t
    by_test true false k t e later = or_right (test i.kind) (list_any (λ i. test i.kind) (filter keep is)) (later e)
    by_test false true k t e later = let bad : true ≡ false = sym t ∙ out i k in cc
    by_test false false k t e later = later e

  not_false : (x : Bool) → not x ≡ false → x ≡ true
  not_false true e = refl
  not_false false e = cc

  any_once : (is : List Item) → Any is → Any (once is)
  any_once [] h = h
  any_once (i ∷ is) h = by_test (test i.kind) refl h (any_once is) where
    keep : Item → Bool
    keep j = not (kills_same i.kind j.kind)

    by_test : (y : Bool) → test i.kind ≡ y → (y || list_any (λ i. test i.kind) is) ≡ true → (Any is → Any (once is)) → Any (i ∷ filter keep (once is))
    by_test true t e later = or_left (test i.kind) (list_any (λ i. test i.kind) (filter keep (once is))) t
    by_test false t e later = or_right (test i.kind) (list_any (λ i. test i.kind) (filter keep (once is)))
        (any_filter keep (once is) (λ j k. sym (alike i.kind j.kind (not_false (kills_same i.kind j.kind) k)) ∙ t) (later e))

  any_left : (is js : List Item) → Any is → Any (is ++ js)
  any_left [] js h = cc
  any_left (i ∷ is) js h = by_test (test i.kind) refl h (any_left is js) where
    by_test : (y : Bool) → test i.kind ≡ y → (y || list_any (λ i. test i.kind) is) ≡ true → (Any is → Any (is ++ js)) → Any (i ∷ (is ++ js))
    by_test true t e later = or_left (test i.kind) (list_any (λ i. test i.kind) (is ++ js)) t
    by_test false t e later = or_right (test i.kind) (list_any (λ i. test i.kind) (is ++ js)) (later e)

  any_right : (is js : List Item) → Any js → Any (is ++ js)
  any_right [] js h = h
  any_right (i ∷ is) js h = or_right (test i.kind) (list_any (λ i. test i.kind) (is ++ js)) (any_right is js h)

  module _ (e : ℕ) where
    abbrev by : Item → Option Item
    by i = kill_by e i.kind i.loc

    any_items : (xs : List Item) (x y : Item) → Contains xs x → by x ≡ Some y → test y.kind ≡ true → Any (filter_map by xs)
    any_items [] x y (k, lt, at) h t = absurd (omega (arith, lt))
    any_items (z ∷ zs) x y (zero, lt, at) h t =
        let same : by z ≡ Some y = ap by at ∙ h in
        subst (λ (o : Option Item). Any (cons_option o (filter_map by zs))) (sym same)
        (or_left (test y.kind) (list_any (λ i. test i.kind) (filter_map by zs)) t)
    any_items (z ∷ zs) x y (suc k, lt, at) h t = by_option (by z) (any_items zs x y (k, omega (arith, lt), at) h t) where
      by_option : (o : Option Item) → Any (filter_map by zs) → Any (cons_option o (filter_map by zs))
      by_option None a = a
      by_option (Some w) a = or_right (test w.kind) (list_any (λ i. test i.kind) (filter_map by zs)) a

    any_blocks : (passes : Block → Bool) (bs : List Block) (b : Block) → Contains bs b → passes b ≡ true → Any (filter_map by b.items) →
        Any (flat_map (λ b. filter_map by b.items) (filter passes bs))
    any_blocks passes [] b (k, lt, at) p a = absurd (omega (arith, lt))
    any_blocks passes (c ∷ cs) b (zero, lt, at) p a =
        let same : passes c ≡ true = ap passes at ∙ p in
        subst (λ (z : Bool). Any (flat_map (λ b. filter_map by b.items) (cond z (c ∷ filter passes cs) (filter passes cs)))) (sym same)
        (any_left (filter_map by c.items) (flat_map (λ b. filter_map by b.items) (filter passes cs))
        (subst (λ (z : Block). Any (filter_map by z.items)) (sym at) a))
    any_blocks passes (c ∷ cs) b (suc k, lt, at) p a = by_test (passes c) (any_blocks passes cs b (k, omega (arith, lt), at) p a) where
      by_test : (z : Bool) → Any (flat_map (λ b. filter_map by b.items) (filter passes cs)) →
          Any (flat_map (λ b. filter_map by b.items) (cond z (c ∷ filter passes cs) (filter passes cs)))
      by_test true h = any_right (filter_map by c.items) (flat_map (λ b. filter_map by b.items) (filter passes cs)) h
      by_test false h = h

-- what a debug item of a bypassed block gives is taken away at the end of its way
pub covered : (end : ℕ → ℕ) (was : ℕ → Bool) (blocks : List Block) (e : ℕ) (b : Block) (x : Item) → Contains blocks b →
    is_bypassed end was blocks e b ≡ true → Contains b.items x → is_code x.kind ≡ false → IsCovered (kills end was blocks e) x.kind
covered end was blocks e b x member bypassed stood debug = by_kind x.kind refl debug where
  found : (test : ItemKind → Bool) → ((k l : ItemKind) → kills_same k l ≡ true → test k ≡ test l) → (y : Item) → kill_by e x.kind x.loc ≡ Some y →
      test y.kind ≡ true → list_any (λ i. test i.kind) (kills end was blocks e) ≡ true
  found test alike y k t =
      any_once test alike (lost_ways end was blocks e) (any_blocks test alike e (is_bypassed end was blocks e) blocks b member bypassed
      (any_items test alike e b.items x y stood k t))

  by_kind : (k : ItemKind) → x.kind ≡ k → is_code k ≡ false → IsCovered (kills end was blocks e) k
  by_kind (Mark w m) q d = λ v t. found (kills_part v) (same_part v) _ (ap (λ (k : ItemKind). kill_by e k x.loc) q) t
  by_kind (Phi p n) q d = found (kills_number n) (same_number n) _ (ap (λ (k : ItemKind). kill_by e k x.loc) q) (Rattle.std.proofs.Common.eq-eqb n n refl)
  by_kind (Code i n) q d = cc
