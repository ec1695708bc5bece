-- All kills together are no more than the items of the blocks that are gone.
use Rattle.std.proofs.Common.{◌≡◌, ℕ, suc, ◌+◌, ◌≤◌, List, [], ◌∷◌}
use Rattle.std.proofs.Common.{filter, length, slice_get, Option, Some, None, Bool, true, false, cond, not, ◌&&◌}
use Rattle.std.proofs.Common.{nat_eq, refl, sym, ap, ◌∙◌, eqb-true, eq-eqb, arith}
use Rattle.std.specs.List.{flat_map, filter_map, cons_option, sum_by}
use Rattle.std.specs.Option.{is_some}
use Rattle.std.proofs.lemmas.List.{length-append}
use Rattle.mir_func.specs.declared.block.Block.{Block}
use Rattle.mir_func.specs.declared.debug_substitution.DebugSubstitution.{DebugSubstitution}
use Rattle.mir_func.specs.declared.item.Item.{Item}
use Rattle.mir_func.specs.Function.{Function}
use Rattle.mir_func.specs.Sound.{AreApart, IsSound}
use Rattle.fold_targets.specs.Leads.{lead}
use Rattle.fold_targets.proofs.Blocks.{apart_tail}
use Rattle.fold_rule_proof.specs.Kills.{kill_by, kills_same, once, is_bypassed, lost_ways, kills, IsFoldedWithKills}
use Rattle.fold_proof.specs.Debug.{IsPassed}
use Rattle.fold_proof.proofs.Passing.{passed_gone}
use Rattle.fold_proof.proofs.Weights.{sum_first}

filter_short : (p : Item → Bool) (xs : List Item) → length (filter p xs) ≤ length xs
filter_short p [] = omega arith
filter_short p (x ∷ xs) = by_test (p x) (filter_short p xs) where
  by_test : (z : Bool) → length (filter p xs) ≤ length xs → length (cond z (x ∷ filter p xs) (filter p xs)) ≤ suc (length xs)
  by_test true h = omega (arith, h)
  by_test false h = omega (arith, h)

once_short : (xs : List Item) → length (once xs) ≤ length xs
once_short [] = omega arith
once_short (x ∷ xs) =
    let a = filter_short (λ j. not (kills_same x.kind j.kind)) (once xs) in
    let b = once_short xs in
    omega (arith, a, b)

some_short : (e : ℕ) (xs : List Item) → length (filter_map (λ i. kill_by e i.kind i.loc) xs) ≤ length xs
some_short e [] = omega arith
some_short e (x ∷ xs) = by_option (kill_by e x.kind x.loc) (some_short e xs) where
  by_option : (o : Option Item) → length (filter_map (λ i. kill_by e i.kind i.loc) xs) ≤ length xs →
      length (cons_option o (filter_map (λ i. kill_by e i.kind i.loc) xs)) ≤ suc (length xs)
  by_option None h = omega (arith, h)
  by_option (Some y) h = omega (arith, h)

pub four : (a b d e : Bool) → (a && b && d && e) ≡ true → (a ≡ true) × (d ≡ true) × (e ≡ true)
four true true true true h = (refl, refl, refl)
four true true true false h = cc
four true true false e h = cc
four true false d e h = cc
four false b d e h = cc

-- of numbers that differ, one at most is e
module _ (e m : ℕ) where
  abbrev pub at : ℕ → ℕ
  at n = cond (nat_eq e n) m 0

  none_at : (ns : List ℕ) → ((i : ℕ) → slice_get ns i ≡ Some e → ⊥) → sum_by at ns ≡ 0
  none_at [] out = refl
  none_at (n ∷ ns) out =
      let a = sum_first at n ns in
      let b = none_at ns (λ i k. out (suc i) k) in
      let c : at n ≡ 0 = by_test (nat_eq e n) refl in
      omega (arith, a, b, c) where
        by_test : (z : Bool) → nat_eq e n ≡ z → cond z m 0 ≡ 0
        by_test true t = absurd (out 0 (ap (λ (y : ℕ). Some y) (sym (eqb-true e n t))))
        by_test false t = refl

  pub one_at : (ns : List ℕ) → AreApart ns → sum_by at ns ≤ m
  one_at [] apart = omega arith
  one_at (n ∷ ns) apart = let a = sum_first at n ns in by_test (nat_eq e n) refl a (one_at ns (apart_tail n ns apart)) where
    by_test : (z : Bool) → nat_eq e n ≡ z → sum_by at (n ∷ ns) ≡ cond z m 0 + sum_by at ns → sum_by at ns ≤ m → sum_by at (n ∷ ns) ≤ m
    by_test true t a rest =
        let same = eqb-true e n t in
        let b = none_at ns (λ i k. (let bad : 0 ≡ suc i = apart 0 (suc i) e (ap (λ (y : ℕ). Some y) (sym same)) k in omega (arith, bad))) in
        omega (arith, a, b)
    by_test false t a rest = omega (arith, a, rest)

sum_le : (v w : ℕ → ℕ) (ns : List ℕ) → ((n : ℕ) → v n ≤ w n) → sum_by v ns ≤ sum_by w ns
sum_le v w [] h = omega arith
sum_le v w (n ∷ ns) h =
    let a = sum_first v n ns in let b = sum_first w n ns in let c = sum_le v w ns h in let d = h n in omega (arith, a, b, c, d)

sum_both : (v w : ℕ → ℕ) (ns : List ℕ) → sum_by (λ n. v n + w n) ns ≡ sum_by v ns + sum_by w ns
sum_both v w [] = refl
sum_both v w (n ∷ ns) =
    let a = sum_first v n ns in let b = sum_first w n ns in let c = sum_first (λ k. v k + w k) n ns in let d = sum_both v w ns in omega (arith, a, b, c, d)

sum_zero : (ns : List ℕ) → sum_by (λ n. 0) ns ≡ 0
sum_zero [] = refl
sum_zero (n ∷ ns) = let a = sum_first (λ (k : ℕ). 0) n ns in let b = sum_zero ns in omega (arith, a, b)

module _ (f g : Function) (subs : List DebugSubstitution) (sound : IsSound f) (h : IsFoldedWithKills f g) where
  abbrev old : List Block
  old = f.blocks

  abbrev end : ℕ → ℕ
  end = h.folded.end

  abbrev stays : ℕ → Bool
  stays = h.folded.stays

  abbrev was : ℕ → Bool
  was = h.was

  -- the items of a block that is gone
  abbrev pub gone_items : Block → ℕ
  gone_items b = cond (stays b.id) 0 (length b.items)

  abbrev among : ℕ → List Block → List Item
  among e bs = flat_map (λ b. filter_map (λ i. kill_by e i.kind i.loc) b.items) (filter (is_bypassed end was old e) bs)

  bypassed_gone : (e : ℕ) (b : Block) → is_bypassed end was old e b ≡ true → (end b.id ≡ e) × (stays b.id ≡ false)
  bypassed_gone e b t =
      let w = four (was b.id) (is_some (lead old b.id)) (nat_eq (end b.id) e) (not (nat_eq b.id e)) t in
      let at_e : end b.id ≡ e = eqb-true (end b.id) e w.1 in
      let passed : IsPassed old b.id = record {
        reached = (h.reached b.id).0 w.0;
        end = end b.id;
        ends = h.folded.ends b.id;
        elsewhere = λ own. (let k = eq-eqb b.id e (own ∙ at_e) in let bad : false ≡ true = sym (ap not k) ∙ w.2 in cc);
      } in
      (at_e, passed_gone f g subs sound h b.id passed)

  more_lost : (e : ℕ) (b : Block) (bs : List Block) → length (among e (b ∷ bs)) ≤ at (end b.id) (gone_items b) e + length (among e bs)
  more_lost e b bs = by_test (is_bypassed end was old e b) refl where
    later : List Block
    later = filter (is_bypassed end was old e) bs

    by_test : (z : Bool) → is_bypassed end was old e b ≡ z →
        length (flat_map (λ b. filter_map (λ i. kill_by e i.kind i.loc) b.items) (cond z (b ∷ later) later)) ≤ at (end b.id) (gone_items b) e + length
        (among e bs)
    by_test true t =
        let w = bypassed_gone e b t in
        let here : at (end b.id) (gone_items b) e ≡ length b.items =
        (λ i. cond (eq-eqb (end b.id) e w.0 i) (cond (w.1 i) 0 (length b.items)) 0) in
        let a = length-append (filter_map (λ i. kill_by e i.kind i.loc) b.items) (among e bs) in
        let s = some_short e b.items in
        omega (arith, here, a, s)
    by_test false t = omega arith

  all_lost : (ns : List ℕ) → AreApart ns → (bs : List Block) → sum_by (λ e. length (among e bs)) ns ≤ sum_by gone_items bs
  all_lost ns apart [] = let a = sum_zero ns in omega (arith, a)
  all_lost ns apart (b ∷ bs) =
      let a = sum_le (λ e. length (among e (b ∷ bs))) (λ e. at (end b.id) (gone_items b) e + length (among e bs)) ns (λ e. more_lost e b bs) in
      let d = sum_both (at (end b.id) (gone_items b)) (λ e. length (among e bs)) ns in
      let one = one_at (end b.id) (gone_items b) ns apart in
      let rest = all_lost ns apart bs in
      let k = sum_first gone_items b bs in
      omega (arith, a, d, one, rest, k)

  pub all_kills : (ns : List ℕ) → AreApart ns → sum_by (λ e. length (kills end was old e)) ns ≤ sum_by gone_items old
  all_kills ns apart =
      let a = sum_le (λ e. length (kills end was old e)) (λ e. length (among e old)) ns (λ e. once_short (lost_ways end was old e)) in
      let b = all_lost ns apart old in
      omega (arith, a, b)
