-- What stands where in items whose end is written anew.
use Rattle.std.proofs.Common.{◌≡◌, ◌⊎◌, ℕ, zero, suc, List, [], ◌∷◌, slice_get, Option, Some, None, Bool, true, false}
use Rattle.std.proofs.Common.{cond, nat_eq}
use Rattle.std.proofs.Common.{refl, sym, ap, ◌∙◌, subst, inl, inr}
use Rattle.mir_func.specs.declared.exit.Exit.{Exit}
use Rattle.mir_func.specs.declared.exit.Exit.TheVariants.{Onward, Perhaps, Always, Final}
use Rattle.mir_func.specs.declared.item.Item.{Item}
use Rattle.mir_func.specs.declared.position.Pos.{Pos}
use Rattle.mir_func.specs.Exits.{exit_of, IsAlways, Leaves}
use Rattle.mir_func.specs.Sound.{IsJumpAtMost, MayFollow, EndsWell, Closes}
use Rattle.fold_rule.specs.Turned.{sent, turned}
use Rattle.fold_rule.specs.Tails.{first_of, is_number, if_needed, jump_at_end, jump_for_branch, plain_tail}
use Rattle.fold_rule.specs.Tails.{branch_tail_to, tail_by, rewritten}
use Rattle.fold_rule_proof.proofs.Rows.{sent_branch, turned_branch, sent_jump}
use Rattle.fold_rule_proof.proofs.Tails.{goes_else, jump_exit}

-- nothing stands in no items
pub nothing_at : (xs : List Item) (k : ℕ) (y : Item) → xs ≡ [] → slice_get xs k ≡ Some y → ⊥
nothing_at [] k y e at = cc
nothing_at (x ∷ xs) k y e at = cc

-- an item that leads to a block
abbrev pub LeadsTo : Item → ℕ → Type 0
LeadsTo y n = (exit_of y.kind ≡ Perhaps n) ⊎ (exit_of y.kind ≡ Always n)

module _ (end : ℕ → ℕ) (next fall : Option ℕ) (source_end : Pos) where
  abbrev anew : List Item → List Item
  anew xs = rewritten end next fall source_end xs

  -- nothing in these is passed
  abbrev NoneOnward : List Item → Type 0
  NoneOnward ys = (k : ℕ) (y : Item) → slice_get ys k ≡ Some y → exit_of y.kind ≡ Onward → ⊥

  none_nil : NoneOnward []
  none_nil k y at e = cc

  none_cons : (x : Item) (ys : List Item) → (exit_of x.kind ≡ Onward → ⊥) → NoneOnward ys → NoneOnward (x ∷ ys)
  none_cons x ys opens rest zero y at e = let same : x ≡ y = cc in opens (ap (λ (i : Item). exit_of i.kind) same ∙ e)
  none_cons x ys opens rest (suc k) y at e = rest k y at e

  not_always : (e : Exit) (n : ℕ) → e ≡ Always n → e ≡ Onward → ⊥
  not_always e n h k = let bad : Always n ≡ Onward = sym h ∙ k in cc

  not_perhaps : (e : Exit) (n : ℕ) → e ≡ Perhaps n → e ≡ Onward → ⊥
  not_perhaps e n h k = let bad : Perhaps n ≡ Onward = sym h ∙ k in cc

  none_needed : (n : ℕ) (j : Item) → exit_of j.kind ≡ Always n → NoneOnward (if_needed next n j)
  none_needed n j h = by_test (is_number next n) where
    by_test : (z : Bool) → NoneOnward (cond z [] (j ∷ []))
    by_test true = none_nil
    by_test false = none_cons j [] (not_always (exit_of j.kind) n h) none_nil

  none_branch : (x : Item) (xs : List Item) (t u v : ℕ) → exit_of x.kind ≡ Perhaps t → IsJumpAtMost xs → (q r z : Bool) →
      NoneOnward (cond q (if_needed next v (jump_for_branch source_end x (first_of xs) v)) (cond r (sent u x ∷ [])
      (cond z (turned v x ∷ []) (sent u x ∷ jump_at_end source_end (first_of xs) v ∷ []))))
  none_branch x xs t u v e may true r z = none_needed v (jump_for_branch source_end x (first_of xs) v) (jump_exit source_end xs v may)
  none_branch x xs t u v e may false true z = none_cons (sent u x) [] (not_perhaps (exit_of (sent u x).kind) u (sent_branch x.kind t u e)) none_nil
  none_branch x xs t u v e may false false true =
      none_cons (turned v x) [] (not_perhaps (exit_of (turned v x).kind) v (turned_branch x.kind t v e)) none_nil
  none_branch x xs t u v e may false false false =
      none_cons (sent u x) (jump_at_end source_end (first_of xs) v ∷ []) (not_perhaps (exit_of (sent u x).kind) u (sent_branch x.kind t u e))
      (none_cons (jump_at_end source_end (first_of xs) v) [] (not_always (exit_of (jump_at_end source_end (first_of xs) v).kind) v
      (jump_exit source_end xs v may))
      none_nil)

  -- an item that control goes on past stood there before
  pub onward_was : (xs : List Item) (k : ℕ) (y : Item) → EndsWell xs → (fall ≡ None → Closes xs) → slice_get (anew xs) k ≡ Some y → exit_of y.kind ≡ Onward →
      slice_get xs k ≡ Some y
  onward_was [] k y ends onto at e = absurd (by_fall fall k y at e) where
    by_fall : (o : Option ℕ) → NoneOnward (plain_tail end next fall source_end None o)
    by_fall None = none_nil
    by_fall (Some n) = none_needed (end n) (jump_at_end source_end None (end n)) refl
  onward_was (x ∷ xs) k y ends onto at e = by_exit (exit_of x.kind) refl ends.0 k at (λ into j q. onward_was xs j y ends.1 into q e) where
    below : exit_of x.kind ≡ Onward → fall ≡ None → Closes xs
    below e none = by_rest xs (onto none) where
      by_rest : (ys : List Item) → Closes (x ∷ ys) → Closes ys
      by_rest [] h = absurd (subst Leaves e h)
      by_rest (y ∷ ys) h = h

    by_exit : (q : Exit) → exit_of x.kind ≡ q → MayFollow q xs → (k : ℕ) → slice_get (tail_by end next fall source_end q x (first_of xs) (anew xs)) k ≡ Some y →
        ((fall ≡ None → Closes xs) → (j : ℕ) → slice_get (anew xs) j ≡ Some y → slice_get xs j ≡ Some y) → slice_get (x ∷ xs) k ≡ Some y
    by_exit Onward h may zero at later = at
    by_exit Onward h may (suc k) at later = later (below h) k at
    by_exit (Perhaps t) h may k at later =
        let w = goes_else x t xs fall h may onto in
        absurd (subst (λ (o : Option ℕ). NoneOnward (branch_tail_to end next fall source_end x (first_of xs) t o)) (sym w.1)
        (none_branch x xs t (end t) (end w.0) h may (nat_eq (end t) (end w.0)) (is_number next (end w.0)) (is_number next (end t))) k y at e)
    by_exit (Always n) h may k at later = absurd (none_needed (end n) (sent (end n) x) (sent_jump x.kind n (end n) h) k y at e)
    by_exit Final h may k at later = absurd (none_cons x [] (λ o. let bad : Final ≡ Onward = sym h ∙ o in cc) none_nil k y at e)

  -- an item stays where it stood, with those above it, unless a branch or a jump stands there or above
  pub stands_still : (xs : List Item) (k : ℕ) (y : Item) → EndsWell xs → slice_get xs k ≡ Some y → (exit_of y.kind ≡ Onward) ⊎ (exit_of y.kind ≡ Final) →
      slice_get (anew xs) k ≡ Some y
  stands_still [] k y ends at e = cc
  stands_still (x ∷ xs) k y ends at e = by_exit (exit_of x.kind) refl ends.0 k at (λ j q. stands_still xs j y ends.1 q e) where
    no_branch : (n : ℕ) → exit_of y.kind ≡ Perhaps n → ⊥
    no_branch n h = elim e as (λ z. ⊥) [
      | inl o ↦ (let bad : Perhaps n ≡ Onward = sym h ∙ o in cc)
      | inr o ↦ (let bad : Perhaps n ≡ Final = sym h ∙ o in cc)
    ]

    no_jump : (n : ℕ) → exit_of y.kind ≡ Always n → ⊥
    no_jump n h = elim e as (λ z. ⊥) [
      | inl o ↦ (let bad : Always n ≡ Onward = sym h ∙ o in cc)
      | inr o ↦ (let bad : Always n ≡ Final = sym h ∙ o in cc)
    ]

    only_jump : (ys : List Item) (j : ℕ) → IsJumpAtMost ys → slice_get ys j ≡ Some y → ⊥
    only_jump [] j may q = cc
    only_jump (z ∷ []) zero may q =
        let same : z ≡ y = cc in
        let w = Rattle.fold_rule_proof.proofs.Tails.always_some (exit_of y.kind) (subst (λ (i : Item). IsAlways (exit_of i.kind)) same may) in
        no_jump w.0 w.1
    only_jump (z ∷ []) (suc j) may q = cc
    only_jump (z ∷ u ∷ ys) j may q = absurd may

    by_exit : (q : Exit) → exit_of x.kind ≡ q → MayFollow q xs → (k : ℕ) → slice_get (x ∷ xs) k ≡ Some y →
        ((j : ℕ) → slice_get xs j ≡ Some y → slice_get (anew xs) j ≡ Some y) →
        slice_get (tail_by end next fall source_end q x (first_of xs) (anew xs)) k ≡ Some y
    by_exit Onward h may zero at later = at
    by_exit Onward h may (suc k) at later = later k at
    by_exit (Perhaps t) h may zero at later = let same : x ≡ y = cc in absurd (no_branch t (ap (λ (i : Item). exit_of i.kind) (sym same) ∙ h))
    by_exit (Perhaps t) h may (suc k) at later = absurd (only_jump xs k may at)
    by_exit (Always n) h may zero at later = let same : x ≡ y = cc in absurd (no_jump n (ap (λ (i : Item). exit_of i.kind) (sym same) ∙ h))
    by_exit (Always n) h may (suc k) at later =
        absurd (nothing_at xs k y may at)
    by_exit Final h may zero at later = at
    by_exit Final h may (suc k) at later =
        absurd (nothing_at xs k y may at)
