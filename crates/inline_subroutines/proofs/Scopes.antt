-- What is known of scopes while a way up is walked, and when its scopes get their subprogram.
use Rattle.std.proofs.Common.{◌≡◌, ℕ, ◌⊎◌, List, [], ◌∷◌, ◌++◌, Option, Some, None, refl, sym, ◌∙◌, ap, subst, arith, inl, inr}
use Rattle.std.proofs.Common.{Contains, BTreeMap, nat_cmp, Bor}
use Rattle.std.specs.Prelude.{IsSome, is_some}
use Rattle.std.specs.Option.{option_copied}
use Rattle.std.specs.BTreeMap.{get, Updates}
use Rattle.std.proofs.lemmas.Bool.{cases_eq}
use Rattle.std.proofs.lemmas.List.Elements.{Contains-append_left, Contains-push, Contains-push_cases}
use Rattle.read_metadata.specs.Maps.{Maps}
use Rattle.read_metadata.specs.Metadata.{block_at}
use Rattle.inline_instances.proofs.Ways.{none_is_some, some_is_some}
use Rattle.inline_instances.proofs.Marks.{mark_other, mark_own}
use Rattle.inline_subroutines.specs.Subprogram.{scope_around, IsSubprogramOf}
use Rattle.inline_subroutines.specs.steps.Known.{AreSubprograms, IsScopeWay, AreKept}
use Rattle.inline_subroutines.proofs.Blocks.{Lead, lead_more, subprogram_behind, from_on, circle, contains_or}

-- the scopes of a way are known to have no subprogram until it is found
pub record IsWalking (meta : Maps) (scope : Option ℕ) (way : List ℕ) (at : Option ℕ) (known : BTreeMap ℕ (Option ℕ)) : Type 0 where
  pub lead : Lead meta scope way at
  pub waiting : (n : ℕ) → Contains way n → get nat_cmp known n ≡ Some None
  pub others : AreSubprograms meta way known

pub walk_begins : (meta : Maps) (scope : Option ℕ) (way : List ℕ) (known : BTreeMap ℕ (Option ℕ)) → way ≡ [] → AreSubprograms meta [] known
    → IsWalking meta scope way scope known
walk_begins meta scope way known none are = subst (λ (ns : List ℕ). IsWalking meta scope ns scope known) (sym none) begun
  where
    begun : IsWalking meta scope [] scope known
    begun = record { lead = refl; waiting = λ n on. absurd (omega (arith, on.1)); others = are }

module _ (meta : Maps) (scope : Option ℕ) (way : List ℕ) (n : ℕ) (known new : BTreeMap ℕ (Option ℕ)) (w : IsWalking meta scope way (Some n) known)
    (unknown : get nat_cmp known n ≡ None) (updates : Updates nat_cmp known new n (Some None)) where
  others_still : AreSubprograms meta (way ++ n ∷ []) new
  others_still m found off e =
      let other : m ≡ n → ⊥ = λ same. off (subst (Contains (way ++ n ∷ [])) (sym same) (Contains-push way n)) in
      w.others m found (λ on. off (Contains-append_left way (n ∷ []) m on)) (sym (mark_other known new n m None updates other) ∙ e)

  waiting_still : (m : ℕ) → Contains (way ++ n ∷ []) m → get nat_cmp new m ≡ Some None
  waiting_still m on = elim (Contains-push_cases way n m on) [
    | inl before ↦
        let was : get nat_cmp known m ≡ Some None = w.waiting m before in
        mark_other known new n m None updates (λ same. none_is_some None (sym unknown ∙ ap (λ (k : ℕ). get nat_cmp known k) (sym same) ∙ was)) ∙ was
    | inr last ↦ mark_own known new n m None updates (sym last)
  ]

  -- a block is passed
  pub walk_more : IsSome (block_at meta n) → IsWalking meta scope (way ++ n ∷ []) (scope_around meta n) new
  walk_more block = record { lead = lead_more meta scope way n w.lead block; waiting = waiting_still; others = others_still }

  -- the way ends at a node that isn't passed
  pub walk_stops : (found : Option ℕ) → IsSubprogramOf meta (Some n) found → IsScopeWay meta scope (way ++ n ∷ []) new found
  walk_stops found is = record {
    subprogram = subprogram_behind meta scope (Some n) way found w.lead is;
    same = same;
    known_still = others_still;
  }
    where
      same : (m : ℕ) → Contains (way ++ n ∷ []) m → IsSubprogramOf meta (Some m) found
      same m on = elim (Contains-push_cases way n m on) [
        | inl before ↦
            let up = from_on meta scope (Some n) way m w.lead before in
            subprogram_behind meta (Some m) (Some n) up.blocks found up.lead is
        | inr last ↦ subst (λ (k : ℕ). IsSubprogramOf meta (Some k) found) last is
      ]

-- the way ends before a scope whose subprogram is known
pub walk_ends : (meta : Maps) (scope at : Option ℕ) (way : List ℕ) (known : BTreeMap ℕ (Option ℕ)) (found : Option ℕ) → IsWalking meta scope way at known
    → IsSubprogramOf meta at found → IsScopeWay meta scope way known found
walk_ends meta scope at way known found w is = record {
  subprogram = subprogram_behind meta scope at way found w.lead is;
  same = λ m on.
      let up = from_on meta scope at way m w.lead on in
      subprogram_behind meta (Some m) at up.blocks found up.lead is;
  known_still = w.others;
}

-- what is known of a scope is its subprogram, also if it is on the way
pub known_is : (meta : Maps) (scope : Option ℕ) (way : List ℕ) (n : ℕ) (known : BTreeMap ℕ (Option ℕ)) (found : Option ℕ)
    → IsWalking meta scope way (Some n) known → get nat_cmp known n ≡ Some found → IsSubprogramOf meta (Some n) found
known_is meta scope way n known found w e = elim (contains_or way n) [
  | inl on ↦
      let up = from_on meta scope (Some n) way n w.lead on in
      subst (IsSubprogramOf meta (Some n)) (some_is_some None found (sym (w.waiting n on) ∙ e)) (circle meta n up.blocks up.lead up.some)
  | inr off ↦ w.others n found off e
]

-- ---- the scopes of a way get their subprogram

pub kept_none : (found : Option ℕ) (known : BTreeMap ℕ (Option ℕ)) → AreKept [] found known known
kept_none found known = (λ n on. absurd (omega (arith, on.1)), λ n off. refl)

pub kept_more : (front : List ℕ) (n : ℕ) (found : Option ℕ) (old mid new : BTreeMap ℕ (Option ℕ)) → AreKept front found old mid
    → Updates nat_cmp mid new n (Some found) → AreKept (front ++ n ∷ []) found old new
kept_more front n found old mid new are updates = (own, others)
  where
    by : (m : ℕ) → Contains front m ⊎ (n ≡ m) → (m ≡ n) ⊎ (m ≡ n → ⊥) → get nat_cmp new m ≡ Some found
    by m on (inl same) = mark_own mid new n m found updates same
    by m (inl before) (inr other) = mark_other mid new n m found updates other ∙ are.0 m before
    by m (inr last) (inr other) = absurd (other (sym last))

    own : (m : ℕ) → Contains (front ++ n ∷ []) m → get nat_cmp new m ≡ Some found
    own m on = by m (Contains-push_cases front n m on) (cases_eq m n)

    others : (m : ℕ) → (Contains (front ++ n ∷ []) m → ⊥) → get nat_cmp new m ≡ get nat_cmp old m
    others m off =
        mark_other mid new n m found updates (λ same. off (subst (Contains (front ++ n ∷ [])) (sym same) (Contains-push front n)))
        ∙ are.1 m (λ on. off (Contains-append_left front (n ∷ []) m on))

pub all_kept : (meta : Maps) (scope : Option ℕ) (way : List ℕ) (known new : BTreeMap ℕ (Option ℕ)) (found : Option ℕ) → IsScopeWay meta scope way known found
    → AreKept way found known new → AreSubprograms meta [] new
all_kept meta scope way known new found w are n told off e = elim (contains_or way n) [
  | inl on ↦ subst (IsSubprogramOf meta (Some n)) (some_is_some found told (sym (are.0 n on) ∙ e)) (w.same n on)
  | inr out ↦ w.known_still n told out (sym (are.1 n out) ∙ e)
]

-- nothing is known of no scope
pub none_known : (meta : Maps) (known : BTreeMap ℕ (Option ℕ)) → known.entries ≡ [] → AreSubprograms meta [] known
none_known meta known empty n found off e = absurd (none_is_some found (sym none ∙ e))
  where
    none : get nat_cmp known n ≡ None
    none = rw empty refl

-- what isn't anything is nothing
pub none_of : {A : Type 0} (o : Option A) → ((a : A) → o ≡ Some a → ⊥) → o ≡ None
none_of None other = refl
none_of (Some a) other = absurd (other a refl)

-- a reference is there exactly if what it refers to is
pub copied_some : {A : Type 0} (o : Option (Bor A)) → is_some (option_copied o) ≡ is_some o
copied_some None = refl
copied_some (Some b) = refl
