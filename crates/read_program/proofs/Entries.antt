-- Which stack entries are objects: their numbers, and the objects that are laid.
use Rattle.std.proofs.Common.{◌≡◌, ◌⊎◌, ℕ, Bool, true, false, cond, not, ◌||◌, eqb, List, [], ◌∷◌, ◌++◌, Some, None, refl, sym, ap, ◌∙◌, inl, inr}
use Rattle.std.specs.Prelude.{is_some}
use Rattle.std.specs.List.{list_all}
use Rattle.std.proofs.lemmas.Bool.{cases_Bool, and_parts, or_cases, or_left, or_right, eqb-true, eq-eqb, cond-true, cond-false, ne_eqb, eqb-false}
use Rattle.std.proofs.lemmas.List.Folds.{list_any-append}
use Rattle.mir_func.specs.declared.object.Object.{Object}
use Rattle.mir_func.specs.Objects.{object_of}
use Rattle.read_body.specs.read_declarations.declared.stack.StackEntry.{StackEntry}
use Rattle.read_body.specs.declared.stack_entry_kind.ObjectLayout.{ObjectLayout}
use Rattle.read_body.specs.FirstUseOrder.{is_met, met}
use Rattle.read_body.specs.Closing.{all_met}
use Rattle.read_body.specs.StackEntryKind.{is_stack_object, laid_at, with_object, objects_behind}
use Rattle.read_body.specs.StackEntryKind.{local_block, objects_of, with_id, ids_behind as object_ids_behind}
use Rattle.read_body.specs.StackEntryKind.{ids_of_objects}
use Rattle.read_program.specs.Closing.{ids_behind, entry_ids}
use Rattle.read_program.proofs.Lists.{met_keeps, met_has}

-- what is met of one number more
pub met_cases : (k n : ℕ) (ns : List ℕ) → is_met k (met n ns) ≡ true → (is_met k ns ≡ true) ⊎ (k ≡ n)
met_cases k n ns is = elim (cases_Bool (is_met n ns)) [
  | inl there ↦ inl (sym (ap (λ (l : List ℕ). is_met k l) (cond-true (is_met n ns) ns (ns ++ n ∷ []) there)) ∙ is)
  | inr none ↦ (let longer : (is_met k ns || is_met k (n ∷ [])) ≡ true =
      sym (list_any-append (λ (m : ℕ). eqb k m) ns (n ∷ [])) ∙ (sym (ap (λ (l : List ℕ). is_met k l) (cond-false (is_met n ns) ns (ns ++ n ∷ []) none)) ∙ is) in
      elim (or_cases (is_met k ns) (is_met k (n ∷ [])) longer) [
        | inl old ↦ inl old
        | inr last ↦ inr (last_is last)
      ])
] where
  last_is : is_met k (n ∷ []) ≡ true → k ≡ n
  last_is last = elim (or_cases (eqb k n) false last) [ inl same ↦ eqb-true k n same | inr none ↦ absurd cc ]

-- all that are named are declared
pub declared_if_met : (declared named : List ℕ) → all_met declared named ≡ true → (n : ℕ) → is_met n named ≡ true → is_met n declared ≡ true
declared_if_met declared [] all n is = absurd cc
declared_if_met declared (m ∷ ms) all n is =
    let parts = and_parts (is_met m declared) (list_all (λ (k : ℕ). is_met k declared) ms) all in
    elim (or_cases (eqb n m) (is_met n ms) is) [
      | inl same ↦ (let e = eqb-true n m same in ap (λ (k : ℕ). is_met k declared) e ∙ parts.0)
      | inr later ↦ declared_if_met declared ms parts.1 n later
    ]

module _ (named : List ℕ) where
  -- a declared entry that code names as an object is one
  with_id_has : (e : StackEntry) (ids : List ℕ) → is_met e.id named ≡ true → is_met e.id (with_id named ids e) ≡ true
  with_id_has e ids is =
      ap (λ (l : List ℕ). is_met e.id l) (cond-true (is_stack_object named e) (met e.id ids) ids
      (or_right (is_some e.local_offset) (not (eqb e.size 8) || is_met e.id named) (or_right (not (eqb e.size 8)) (is_met e.id named) is)))
      ∙ met_has e.id ids

  with_id_keeps : (e : StackEntry) (ids : List ℕ) (n : ℕ) → is_met n ids ≡ true → is_met n (with_id named ids e) ≡ true
  with_id_keeps e ids n is = by (is_stack_object named e) where
    by : (b : Bool) → is_met n (cond b (met e.id ids) ids) ≡ true
    by true = met_keeps n e.id ids is
    by false = is

  objects_met : (es : List StackEntry) (seen ids : List ℕ) → ((n : ℕ) → is_met n seen ≡ true → is_met n named ≡ true → is_met n ids ≡ true) →
      (n : ℕ) → is_met n (ids_behind seen es) ≡ true → is_met n named ≡ true → is_met n (object_ids_behind named ids es) ≡ true
  unfolding ids_behind object_ids_behind
  objects_met [] seen ids so_far n is code = so_far n is code
  objects_met (e ∷ es) seen ids so_far n is code = objects_met es (met e.id seen) (with_id named ids e) next n is code where
    next : (m : ℕ) → is_met m (met e.id seen) ≡ true → is_met m named ≡ true → is_met m (with_id named ids e) ≡ true
    next m has code = elim (met_cases m e.id seen has) [
      | inl old ↦ with_id_keeps e ids m (so_far m old code)
      | inr same ↦ (let there : is_met e.id named ≡ true = ap (λ (k : ℕ). is_met k named) (sym same) ∙ code in
          ap (λ (k : ℕ). is_met k (with_id named ids e)) same ∙ with_id_has e ids there)
    ]

  pub object_if_named : (es : List StackEntry) (n : ℕ) → is_met n (entry_ids es) ≡ true → is_met n named ≡ true → is_met n (ids_of_objects named es) ≡ true
  object_if_named es n is code = objects_met es [] [] (λ m e f. absurd cc) n is code

-- ---- the objects that are laid

object_push : (os : List Object) (o : Object) (n : ℕ) → is_some (object_of (os ++ o ∷ []) n) ≡ (is_some (object_of os n) || eqb o.id n)
object_push [] o n = by (eqb o.id n) where
  by : (b : Bool) → is_some (cond b (Some o) None) ≡ b
  by true = refl
  by false = refl
object_push (p ∷ os) o n = by (eqb p.id n) (object_push os o n) where
  by : (b : Bool) → is_some (object_of (os ++ o ∷ []) n) ≡ (is_some (object_of os n) || eqb o.id n) →
      is_some (cond b (Some p) (object_of (os ++ o ∷ []) n)) ≡ (is_some (cond b (Some p) (object_of os n)) || eqb o.id n)
  by true rest = refl
  by false rest = rest

pub eqb_turned : (a b : ℕ) → eqb a b ≡ eqb b a
eqb_turned a b = elim (cases_Bool (eqb a b)) [
  | inl same ↦ same ∙ sym (eq-eqb b a (sym (eqb-true a b same)))
  | inr other ↦ other ∙ sym (ne_eqb b a (λ e. eqb-false a b other (sym e)))
]

pub met_is : (n m : ℕ) (ns : List ℕ) → is_met n (met m ns) ≡ (is_met n ns || eqb m n)
met_is n m ns = elim (cases_Bool (is_met m ns)) [
  | inl there ↦ ap (λ (l : List ℕ). is_met n l) (cond-true (is_met m ns) ns (ns ++ m ∷ []) there) ∙ sym (absorbed (eqb m n) refl there)
  | inr none ↦ ap (λ (l : List ℕ). is_met n l) (cond-false (is_met m ns) ns (ns ++ m ∷ []) none) ∙ list_any-append (λ (k : ℕ). eqb n k) ns (m ∷ [])
      ∙ ap (λ (b : Bool). is_met n ns || b) (alone (eqb n m) ∙ eqb_turned n m)
] where
  alone : (b : Bool) → (b || false) ≡ b
  alone true = refl
  alone false = refl

  absorbed : (b : Bool) → eqb m n ≡ b → is_met m ns ≡ true → (is_met n ns || b) ≡ is_met n ns
  absorbed true same there = let e = eqb-true m n same in
      let here : is_met n ns ≡ true = ap (λ (k : ℕ). is_met k ns) (sym e) ∙ there in or_left (is_met n ns) true here ∙ sym here
  absorbed false other there = alone (is_met n ns)

module _ (named : List ℕ) (n : ℕ) where
  laid_step : (b : Bool) (e : StackEntry) (laid : ObjectLayout) (ids : List ℕ) (o : Object) (end : ℕ) → o.id ≡ e.id →
      is_met n ids ≡ is_some (object_of laid.objects n) →
      is_met n (cond b (met e.id ids) ids) ≡ is_some (object_of (cond b (record { objects = laid.objects ++ o ∷ []; end = end }) laid).objects n)
  laid_step true e laid ids o end same so_far =
      met_is n e.id ids ∙ ap (λ (b : Bool). b || eqb e.id n) so_far
      ∙ sym (object_push laid.objects o n ∙ ap (λ (k : ℕ). is_some (object_of laid.objects n) || eqb k n) same)
  laid_step false e laid ids o end same so_far = so_far

  laid_behind : (block : ℕ) (es : List StackEntry) (laid : ObjectLayout) (ids : List ℕ) → is_met n ids ≡ is_some (object_of laid.objects n) →
      is_met n (object_ids_behind named ids es) ≡ is_some (object_of (objects_behind named block laid es).objects n)
  unfolding object_ids_behind objects_behind
  laid_behind block [] laid ids so_far = so_far
  laid_behind block (e ∷ es) laid ids so_far = laid_behind block es (with_object named block laid e) (with_id named ids e)
      (laid_step (is_stack_object named e) e laid ids (laid_at block laid.end e) _ refl so_far)

  -- the numbers of the objects are those of the objects that are laid
  pub ids_are_objects : (es : List StackEntry) → is_met n (ids_of_objects named es) ≡ is_some (object_of (objects_of named es).objects n)
  ids_are_objects es = laid_behind (local_block es) es (record { objects = []; end = local_block es }) [] refl
