-- The marks of nodes while a way is walked, and when the calls on it get their instances.
use Rattle.std.proofs.Common.{◌≡◌, ℕ, ◌<◌, ◌⊎◌, eqb, List, [], ◌∷◌, ◌++◌, length, true, false, Option, Some, None, refl, sym, ◌∙◌, ap, subst, arith, inl, inr}
use Rattle.std.proofs.Common.{slice_get, true≢false, eq-eqb, ne_eqb, BTreeMap, Ordering, Less, Equal, Greater, nat_cmp, is_eq}
use Rattle.std.specs.Ordering.{MatchOrdering}
use Rattle.std.specs.BTreeMap.{get, is_at, Updates}
use Rattle.std.proofs.lemmas.Bool.{cases_eq}
use Rattle.std.proofs.lemmas.Cmp.{ranked}
use Rattle.read_metadata.specs.Maps.{Maps}
use Rattle.inline_instances.specs.Calls.{IsWay, AreCallsFrom}
use Rattle.inline_instances.specs.steps.Marks.{IsIn, IsMarked, AreMarks}
use Rattle.inline_instances.proofs.Ways.{none_is_some, some_is_some, way_more, way_rest, loops, no_end_on}
use Rattle.inline_instances.proofs.Members.{in_head, in_left, in_right, in_cases, in_one, at_in, get_left, get_last, get_cases}

by_order : (k q : ℕ) (o : Ordering) → MatchOrdering o (k < q) (k ≡ q) (q < k) → is_eq o ≡ eqb k q
by_order k q Less lt = sym (ne_eqb k q (λ e. let same : k ≡ q = e in omega (arith, lt)))
by_order k q Equal e = sym (eq-eqb k q e)
by_order k q Greater gt = sym (ne_eqb k q (λ e. let same : k ≡ q = e in omega (arith, gt)))

pub other_key : (k q : ℕ) → (q ≡ k → ⊥) → is_at (nat_cmp k) q ≡ false
other_key k q other = by_order k q (nat_cmp k q) (ranked k q (nat_cmp k q) refl) ∙ ne_eqb k q (λ e. other (sym e))

abbrev pub mark : BTreeMap ℕ (Option ℕ) → ℕ → Option (Option ℕ)
mark marks n = get nat_cmp marks n

-- marks with one more
pub mark_other : (marks new : BTreeMap ℕ (Option ℕ)) (n m : ℕ) (o : Option ℕ) → Updates nat_cmp marks new n (Some o) → (m ≡ n → ⊥) → mark new m ≡ mark marks m
mark_other marks new n m o updates other = updates.2 m (other_key n m other)

pub mark_own : (marks new : BTreeMap ℕ (Option ℕ)) (n m : ℕ) (o : Option ℕ) → Updates nat_cmp marks new n (Some o) → m ≡ n → mark new m ≡ Some o
mark_own marks new n m o updates same = ap (λ (k : ℕ). mark new k) same ∙ updates.1

-- no instances, no marks
pub no_marks : (meta : Maps) (marks : BTreeMap ℕ (Option ℕ)) → marks.entries ≡ [] → AreMarks meta [] [] marks
no_marks meta marks empty = record {
  each = λ n. inl (subst (IsMarked meta [] n) (sym (none n)) tt);
  all = λ k n e. absurd (none_is_some n e);
  waiting = λ n h. absurd (true≢false (sym h));
}
  where
    none : (n : ℕ) → mark marks n ≡ None
    none n = rw empty refl

-- a call is met that has no mark
pub marks_more : (meta : Maps) (calls way : List ℕ) (marks new : BTreeMap ℕ (Option ℕ)) (n : ℕ) → AreMarks meta calls way marks → mark marks n ≡ None
    → Updates nat_cmp marks new n (Some None) → AreMarks meta calls (way ++ n ∷ []) new
marks_more meta calls way marks new n are unmarked updates = record { each = each; all = all; waiting = waiting }
  where
    each : (m : ℕ) → IsMarked meta calls m (mark new m) ⊎ IsIn m (way ++ n ∷ [])
    each m = elim (cases_eq m n) [
      | inl same ↦ inr (in_right m way (n ∷ []) (in_head m n [] same))
      | inr other ↦
          elim (are.each m) [
            | inl is ↦ inl (subst (IsMarked meta calls m) (sym (mark_other marks new n m None updates other)) is)
            | inr on ↦ inr (in_left m way (n ∷ []) on)
          ]
    ]

    all : (k m : ℕ) → slice_get calls k ≡ Some m → mark new m ≡ Some (Some k)
    all k m at =
        let marked : mark marks m ≡ Some (Some k) = are.all k m at in
        mark_other marks new n m None updates (λ same. none_is_some (Some k) (sym unmarked ∙ ap (mark marks) (sym same) ∙ marked)) ∙ marked

    waiting : (m : ℕ) → IsIn m (way ++ n ∷ []) → mark new m ≡ Some None
    waiting m on = elim (in_cases m way (n ∷ []) on) [
      | inl before ↦
          let marked : mark marks m ≡ Some None = are.waiting m before in
          mark_other marks new n m None updates (λ same. none_is_some None (sym unmarked ∙ ap (mark marks) (sym same) ∙ marked)) ∙ marked
      | inr last ↦ mark_own marks new n m None updates (in_one m n last)
    ]

-- a call that is marked as one that leads to a circle does so, or is on the way that leads to it
pub leads_to_circle : (meta : Maps) (calls : List ℕ) (from : Option ℕ) (way : List ℕ) (n : ℕ) (marks : BTreeMap ℕ (Option ℕ)) → AreMarks meta calls way marks
    → IsWay meta from way (Some n) → mark marks n ≡ Some None → (ns : List ℕ) → AreCallsFrom meta from ns → ⊥
leads_to_circle meta calls from way n marks are is marked ns from_there =
    let behind = way_rest meta from (Some n) way ns is from_there in
    elim (are.each n) [
      | inl known ↦ (subst (IsMarked meta calls n) marked known) behind.rest behind.are
      | inr on ↦ loops meta from way n ns is on from_there
    ]

-- all calls on such a way are marked rightly
pub marks_of_circle : (meta : Maps) (calls : List ℕ) (from to : Option ℕ) (way : List ℕ) (marks : BTreeMap ℕ (Option ℕ)) → AreMarks meta calls way marks
    → IsWay meta from way to → ((ns : List ℕ) → AreCallsFrom meta from ns → ⊥) → AreMarks meta calls [] marks
marks_of_circle meta calls from to way marks are is none = record {
  each = λ n. elim (are.each n) [
    | inl known ↦ inl known
    | inr on ↦ inl (subst (IsMarked meta calls n) (sym (are.waiting n on)) (no_end_on meta from to way n none is on))
  ];
  all = are.all;
  waiting = λ n h. absurd (true≢false (sym h));
}

-- a call that is marked as that of an instance is
pub marked_call : (meta : Maps) (calls way : List ℕ) (n k : ℕ) (marks : BTreeMap ℕ (Option ℕ)) → AreMarks meta calls way marks → mark marks n ≡ Some (Some k)
    → slice_get calls k ≡ Some n
marked_call meta calls way n k marks are marked = elim (are.each n) [
  | inl known ↦ subst (IsMarked meta calls n) marked known
  | inr on ↦ absurd (none_is_some k (some_is_some None (Some k) (sym (are.waiting n on) ∙ marked)))
]

-- the last call on a way gets an instance
module _ (meta : Maps) (calls way : List ℕ) (marks new : BTreeMap ℕ (Option ℕ)) (c : ℕ) (are : AreMarks meta calls (way ++ c ∷ []) marks)
    (updates : Updates nat_cmp marks new c (Some (Some (length calls)))) (apart : IsIn c way → ⊥) where
  marked : mark marks c ≡ Some None
  marked = are.waiting c (in_right c way (c ∷ []) (in_head c c [] refl))

  kept : (n : ℕ) (o : Option (Option ℕ)) → IsMarked meta calls n o → IsMarked meta (calls ++ c ∷ []) n o
  kept n None is = tt
  kept n (Some None) is = is
  kept n (Some (Some k)) is = get_left calls (c ∷ []) k n is

  each : (n : ℕ) → IsMarked meta (calls ++ c ∷ []) n (mark new n) ⊎ IsIn n way
  each n = elim (cases_eq n c) [
    | inl same ↦
        inl
        (subst (IsMarked meta (calls ++ c ∷ []) n) (sym (mark_own marks new c n (Some (length calls)) updates same))
        (get_last calls c ∙ ap Some (sym same)))
    | inr other ↦
        elim (are.each n) [
          | inl is ↦
              inl
              (subst (IsMarked meta (calls ++ c ∷ []) n) (sym (mark_other marks new c n (Some (length calls)) updates other)) (kept n (mark marks n) is))
          | inr on ↦ elim (in_cases n way (c ∷ []) on) [ inl before ↦ inr before | inr last ↦ absurd (other (in_one n c last)) ]
        ]
  ]

  all : (k n : ℕ) → slice_get (calls ++ c ∷ []) k ≡ Some n → mark new n ≡ Some (Some k)
  all k n at = elim (get_cases calls c k n at) [
    | inl before ↦
        let known : mark marks n ≡ Some (Some k) = are.all k n before in
        mark_other marks new c n (Some (length calls)) updates
        (λ same. none_is_some k (some_is_some None (Some k) (sym marked ∙ ap (mark marks) (sym same) ∙ known)))
        ∙ known
    | inr last ↦ mark_own marks new c n (Some (length calls)) updates last.1 ∙ ap (λ (j : ℕ). Some (Some j)) (sym last.0)
  ]

  waiting : (n : ℕ) → IsIn n way → mark new n ≡ Some None
  waiting n on =
      mark_other marks new c n (Some (length calls)) updates (λ same. apart (subst (λ (m : ℕ). IsIn m way) same on))
      ∙ are.waiting n (in_left n way (c ∷ []) on)

  pub marks_with : AreMarks meta (calls ++ c ∷ []) way new
  marks_with = record { each = each; all = all; waiting = waiting }

  -- it had none
  pub unknown : IsIn c calls → ⊥
  unknown known =
      let found = at_in calls c known in
      none_is_some found.0 (some_is_some None (Some found.0) (sym marked ∙ are.all found.0 c found.1))
