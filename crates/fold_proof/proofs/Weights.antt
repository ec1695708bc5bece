-- What the items of a block weigh once its end is written anew: at most one jump more.
use Rattle.std.proofs.Common.{◌≡◌, ℕ, ◌+◌, ◌≤◌, List, [], ◌∷◌, Option, Some, None, Bool, true, false, cond, nat_eq}
use Rattle.std.proofs.Common.{refl, subst, arith}
use Rattle.std.specs.List.{sum_by}
use Rattle.std.proofs.lemmas.List.Sums.{sum_by-cons}
use Rattle.mir_func.specs.declared.exit.Exit.{Exit}
use Rattle.mir_func.specs.declared.exit.Exit.TheVariants.{Onward, Perhaps, Always, Final}
use Rattle.mir_func.specs.declared.item.Item.{Item}
use Rattle.mir_func.specs.declared.location.Loc.TheVariants.{Absent}
use Rattle.mir_func.specs.declared.position.Pos.{Pos}
use Rattle.mir_func.specs.declared.position.Origin.TheVariants.{Before}
use Rattle.mir_func.specs.Exits.{exit_of, Leaves}
use Rattle.mir_func.specs.Sound.{IsJumpAtMost, MayFollow, EndsWell, Closes}
use Rattle.fold_rule.specs.Turned.{sent, turned, made_jump}
use Rattle.fold_rule.specs.Tails.{first_of, else_way, is_number, jump_at_end}
use Rattle.fold_rule.specs.Tails.{jump_for_branch, plain_tail, branch_tail_to, tail_by, rewritten}
use Rattle.fold_rule_proof.proofs.Rows.{Leads, sent_branch, turned_branch, sent_jump, leads_by, leads_always}
use Rattle.fold_rule_proof.proofs.Tails.{goes_else, jump_exit}

pub sum_first : {X : Type 0} (w : X → ℕ) (x : X) (xs : List X) → sum_by w (x ∷ xs) ≡ w x + sum_by w xs
sum_first w x xs = sum_by-cons w x xs

-- each branch and each jump weighs k
module _ (w : Item → ℕ) (k : ℕ) (ends_weigh : (x : Item) → Leads (exit_of x.kind) → w x ≡ k) (end : ℕ → ℕ) (next fall : Option ℕ) (source_end : Pos) where
  abbrev anew : List Item → List Item
  anew xs = rewritten end next fall source_end xs

  weighs_one : (x : Item) → Leads (exit_of x.kind) → sum_by w (x ∷ []) ≡ k
  weighs_one x leads = let a = sum_first w x [] in let b = ends_weigh x leads in omega (arith, a, b)

  needed : (j : Item) → Leads (exit_of j.kind) → (z : Bool) → sum_by w (cond z [] (j ∷ [])) ≤ k
  needed j leads true = omega arith
  needed j leads false = let a = weighs_one j leads in omega (arith, a)

  branch_weighs : (x : Item) (xs : List Item) (t u v : ℕ) → exit_of x.kind ≡ Perhaps t → IsJumpAtMost xs → (q r z s : Bool) →
      sum_by w (cond q (cond s [] (jump_for_branch source_end x (first_of xs) v ∷ [])) (cond r (sent u x ∷ [])
      (cond z (turned v x ∷ []) (sent u x ∷ jump_at_end source_end (first_of xs) v ∷ [])))) ≤ w x + sum_by w xs + k
  branch_weighs x xs t u v e may true r z s =
      let a = needed (jump_for_branch source_end x (first_of xs) v) (leads_always _ v (jump_exit source_end xs v may)) s in
      omega (arith, a)
  branch_weighs x xs t u v e may false true z s =
      let a = weighs_one (sent u x) (leads_by _ u (sent_branch x.kind t u e)) in omega (arith, a)
  branch_weighs x xs t u v e may false false true s =
      let a = weighs_one (turned v x) (leads_by _ v (turned_branch x.kind t v e)) in omega (arith, a)
  branch_weighs x xs t u v e may false false false s =
      let j : Item = jump_at_end source_end (first_of xs) v in
      let a = sum_first w (sent u x) (j ∷ []) in
      let b = weighs_one j (leads_always _ v (jump_exit source_end xs v may)) in
      let c = ends_weigh (sent u x) (leads_by _ u (sent_branch x.kind t u e)) in
      let d = ends_weigh x (leads_by _ t e) in
      omega (arith, a, b, c, d)

  pub anew_weighs : (xs : List Item) → EndsWell xs → (fall ≡ None → Closes xs) → sum_by w (anew xs) ≤ sum_by w xs + k
  anew_weighs [] ends onto = by_fall fall where
    by_fall : (o : Option ℕ) → sum_by w (plain_tail end next fall source_end None o) ≤ sum_by w [] + k
    by_fall None = omega arith
    by_fall (Some n) = let a = needed (made_jump (end n) (Before source_end) Absent) tt (is_number next (end n)) in omega (arith, a)
  anew_weighs (x ∷ xs) ends onto =
      let all = sum_first w x xs in
      let step = by_exit (exit_of x.kind) refl ends.0 (λ o. anew_weighs xs ends.1 o) in
      omega (arith, all, step) where
        below : exit_of x.kind ≡ Onward → fall ≡ None → Closes xs
        below e none = by_rest xs (onto none) where
          by_rest : (ys : List Item) → Closes (x ∷ ys) → Closes ys
          by_rest [] h = absurd (subst Leaves e h)
          by_rest (y ∷ ys) h = h

        by_to : (t : ℕ) (o : Option ℕ) (m : ℕ) → o ≡ Some m → exit_of x.kind ≡ Perhaps t → IsJumpAtMost xs →
            sum_by w (branch_tail_to end next fall source_end x (first_of xs) t o) ≤ w x + sum_by w xs + k
        by_to t None m e at may = cc
        by_to t (Some m) m' e at may = branch_weighs x xs t (end t) (end m) at may (nat_eq (end t) (end m)) (is_number next (end m)) (is_number next (end t))
            (is_number next (end m))

        by_exit : (q : Exit) → exit_of x.kind ≡ q → MayFollow q xs → ((fall ≡ None → Closes xs) → sum_by w (anew xs) ≤ sum_by w xs + k) →
            sum_by w (tail_by end next fall source_end q x (first_of xs) (anew xs)) ≤ w x + sum_by w xs + k
        by_exit Onward e may rest = let a = sum_first w x (anew xs) in let b = rest (below e) in omega (arith, a, b)
        by_exit (Perhaps t) e may rest =
            let g = goes_else x t xs fall e may onto in
            by_to t (else_way (first_of xs) fall) g.0 g.1 e may
        by_exit (Always t) e may rest =
            let a = needed (sent (end t) x) (leads_always _ (end t) (sent_jump x.kind t (end t) e)) (is_number next (end t)) in omega (arith, a)
        by_exit Final e may rest = let a = sum_first w x [] in omega (arith, a)
