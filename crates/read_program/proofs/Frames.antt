-- The slots and the objects of a function: each declared entry is one of them, and objects are where they must be.
use Rattle.std.proofs.Common.{◌≡◌, ◌⊎◌, ℕ, zero, suc, ◌+◌, ◌≤◌, Bool, true, false, cond, not, ◌||◌, eqb, List, [], ◌∷◌, ◌++◌, map, length, All, Option, Some}
use Rattle.std.proofs.Common.{None}
use Rattle.std.proofs.Common.{refl, sym, ap, subst, ◌∙◌, append_assoc, append-nil, inl, inr, arith}
use Rattle.std.specs.Prelude.{Contains, is_some, max}
use Rattle.std.specs.List.{slice_get}
use Rattle.std.proofs.lemmas.Bool.{or_left, or_right, or_cases, eq-eqb, eqb-true, false≢true, false_from_ne_true}
use Rattle.std.proofs.lemmas.List.{map-append, length-append}
use Rattle.std.proofs.lemmas.List.Elements.{All-nil, All-push, All-head, All-tail}
use Rattle.std.proofs.lemmas.List.Folds.{list_any-append}
use Rattle.base_ids.specs.Limits.{MAX_NUMBER}
use Rattle.mir_func.specs.declared.object.Object.{Object}
use Rattle.mir_func.specs.Objects.{ALIGNMENTS, up_to, reach_after, reach_from, block_size, counted, local_count, local_offsets, place_of, next_end}
use Rattle.mir_func.specs.Objects.{AreLaidFrom, AreLaid, IsPlaced, end_past, area_of, HasNoFixed}
use Rattle.mir_func.specs.Sound.{AreApart, IsSoundObject}
use Rattle.mir_func.proofs.Fixed.{none_fixed}
use Rattle.mir_func.proofs.Once.{apart_head, apart_tail}
use Rattle.read_body.specs.read_declarations.declared.stack.StackEntry.{StackEntry}
use Rattle.read_body.specs.read_declarations.Stack.{is_alignment, entry_offsets}
use Rattle.read_body.specs.declared.stack_entry_kind.ObjectLayout.{ObjectLayout}
use Rattle.read_body.specs.FirstUseOrder.{is_met, met}
use Rattle.read_body.specs.StackEntryKind.{is_stack_object, with_slot, slots_behind, slots_of, laid_at}
use Rattle.read_body.specs.StackEntryKind.{with_object, objects_behind, local_block, objects_of, with_id}
use Rattle.read_body.specs.StackEntryKind.{ids_behind as object_ids_behind}
use Rattle.read_body.specs.StackEntryKind.{ids_of_objects}
use Rattle.read_program.specs.Closing.{ids_behind, entry_ids}
use Rattle.read_program.proofs.Lists.{apart_push, met_keeps, met_has, met_at, met_contains}
use Rattle.read_program.proofs.Entries.{met_cases}
use Rattle.read_program.proofs.Stack.{IsReadEntry}

-- the numbers of entries
abbrev numbers : List StackEntry → List ℕ
numbers es = map (λ (e : StackEntry). e.id) es

-- ---- some of the entries

-- the numbers of some entries, behind others
abbrev chosen : (StackEntry → Bool) → List ℕ → List StackEntry → List ℕ
chosen test ns [] = ns
chosen test ns (e ∷ es) = chosen test (cond (test e) (ns ++ e.id ∷ []) ns) es

-- entries that aren't among numbers
abbrev AreFree : List ℕ → List StackEntry → Type 0
AreFree ns es = (i n : ℕ) → slice_get (numbers es) i ≡ Some n → is_met n ns ≡ false

pub met_push : (n m : ℕ) (ns : List ℕ) → is_met n (ns ++ m ∷ []) ≡ true → (is_met n ns ≡ true) ⊎ (n ≡ m)
met_push n m ns is = elim (or_cases (is_met n ns) (is_met n (m ∷ [])) (sym (list_any-append (λ (k : ℕ). eqb n k) ns (m ∷ [])) ∙ is)) [
  | inl old ↦ inl old
  | inr last ↦ elim (or_cases (eqb n m) false last) [ inl same ↦ inr (eqb-true n m same) | inr none ↦ absurd cc ]
]

chosen_apart : (test : StackEntry → Bool) (ns : List ℕ) (es : List StackEntry) → AreApart ns → AreFree ns es → AreApart (numbers es) →
    AreApart (chosen test ns es)
chosen_apart test ns [] apart free entries = apart
chosen_apart test ns (e ∷ es) apart free entries =
    chosen_apart test (cond (test e) (ns ++ e.id ∷ []) ns) es (now (test e)) (λ i n at. false_from_ne_true _ (λ is. still (test e) i n at is))
    (apart_tail e.id (numbers es) entries) where
      now : (b : Bool) → AreApart (cond b (ns ++ e.id ∷ []) ns)
      now true = apart_push ns e.id (λ i at. false≢true (sym (free zero e.id refl) ∙ met_at ns i e.id at)) apart
      now false = apart

      still : (b : Bool) (i n : ℕ) → slice_get (numbers es) i ≡ Some n → is_met n (cond b (ns ++ e.id ∷ []) ns) ≡ true → ⊥
      still false i n at is = false≢true (sym (free (suc i) n at) ∙ is)
      still true i n at is = elim (met_push n e.id ns is) [
        | inl old ↦ false≢true (sym (free (suc i) n at) ∙ old)
        | inr same ↦ apart_head e.id (numbers es) i entries (at ∙ ap (λ (x : ℕ). Some x) same)
      ]

chosen_count : (test other : StackEntry → Bool) → ((e : StackEntry) → other e ≡ not (test e)) → (ns ms : List ℕ) (es : List StackEntry) →
    length (chosen test ns es) + length (chosen other ms es) ≡ length ns + length ms + length es
chosen_count test other opposite ns ms [] = omega arith
chosen_count test other opposite ns ms (e ∷ es) =
    let rest = chosen_count test other opposite (cond (test e) (ns ++ e.id ∷ []) ns) (cond (other e) (ms ++ e.id ∷ []) ms) es in
    rest ∙ step (test e) (other e) (opposite e) where
      step : (b c : Bool) → c ≡ not b →
          length (cond b (ns ++ e.id ∷ []) ns) + length (cond c (ms ++ e.id ∷ []) ms) + length es ≡ length ns + length ms + suc (length es)
      step true true is = absurd cc
      step true false is = omega (arith, length-append ns (e.id ∷ []))
      step false true is = omega (arith, length-append ms (e.id ∷ []))
      step false false is = absurd cc

module _ (named : List ℕ) where
  abbrev is_slot : StackEntry → Bool
  is_slot e = not (is_stack_object named e)

  slots_chosen : (ns : List ℕ) (es : List StackEntry) → slots_behind named ns es ≡ chosen is_slot ns es
  unfolding slots_behind
  slots_chosen ns [] = refl
  slots_chosen ns (e ∷ es) = slots_chosen (with_slot named ns e) es ∙ ap (λ (l : List ℕ). chosen is_slot l es) (step (is_stack_object named e)) where
    step : (b : Bool) → cond b ns (ns ++ e.id ∷ []) ≡ cond (not b) (ns ++ e.id ∷ []) ns
    step true = refl
    step false = refl

  abbrev object_numbers : List Object → List ℕ
  object_numbers os = map (λ (o : Object). o.id) os

  objects_chosen : (block : ℕ) (laid : ObjectLayout) (es : List StackEntry) →
      object_numbers (objects_behind named block laid es).objects ≡ chosen (is_stack_object named) (object_numbers laid.objects) es
  unfolding objects_behind
  objects_chosen block laid [] = refl
  objects_chosen block laid (e ∷ es) = objects_chosen block (with_object named block laid e) es
      ∙ ap (λ (l : List ℕ). chosen (is_stack_object named) l es) (step (is_stack_object named e)) where
        step : (b : Bool) → object_numbers (cond b (record {
          objects = laid.objects ++ laid_at block laid.end e ∷ [];
          end = next_end laid.end (place_of block laid.end e.align e.local_offset + e.size) e.local_offset;
        }) laid).objects
            ≡ cond b (object_numbers laid.objects ++ e.id ∷ []) (object_numbers laid.objects)
        step true = map-append (λ (o : Object). o.id) laid.objects (laid_at block laid.end e ∷ [])
        step false = refl

  module _ (es : List StackEntry) (apart : AreApart (numbers es)) where
    pub slots_apart : AreApart (slots_of named es)
    slots_apart = subst AreApart (sym (slots_chosen [] es)) (chosen_apart is_slot [] es (λ i j n e f. absurd cc) (λ i n at. refl) apart)

    pub objects_apart : AreApart (object_numbers (objects_of named es).objects)
    objects_apart = subst AreApart (sym (objects_chosen (local_block es) (record { objects = []; end = local_block es }) es))
        (chosen_apart (is_stack_object named) [] es (λ i j n e f. absurd cc) (λ i n at. refl) apart)

  pub frame_count : (es : List StackEntry) → length (slots_of named es) + length (objects_of named es).objects ≡ length es
  frame_count es =
      let count = chosen_count is_slot (is_stack_object named) (λ e. twice (is_stack_object named e)) [] [] es in
      let objects : length (object_numbers (objects_of named es).objects) ≡ length (objects_of named es).objects = counted (objects_of named es).objects in
      omega (
        arith,
        ap length (slots_chosen [] es),
        ap length (objects_chosen (local_block es) (record { objects = []; end = local_block es }) es),
        objects,
        count,
      ) where
        twice : (b : Bool) → b ≡ not (not b)
        twice true = refl
        twice false = refl

        counted : (os : List Object) → length (object_numbers os) ≡ length os
        counted [] = refl
        counted (o ∷ os) = ap suc (counted os)

  -- ---- a declared entry that is no object is a slot

  slots_met : (es : List StackEntry) (seen ids slots : List ℕ) → ((n : ℕ) → is_met n seen ≡ true → (is_met n ids ≡ true) ⊎ (is_met n slots ≡ true)) →
      (n : ℕ) → is_met n (ids_behind seen es) ≡ true → (is_met n (object_ids_behind named ids es) ≡ true) ⊎ (is_met n (slots_behind named slots es) ≡ true)
  unfolding ids_behind object_ids_behind slots_behind
  slots_met [] seen ids slots so_far n is = so_far n is
  slots_met (e ∷ es) seen ids slots so_far n is =
      slots_met es (met e.id seen) (with_id named ids e) (with_slot named slots e) (λ m has. step (is_stack_object named e) m has) n is where
        step : (b : Bool) (m : ℕ) → is_met m (met e.id seen) ≡ true →
            (is_met m (cond b (met e.id ids) ids) ≡ true) ⊎ (is_met m (cond b slots (slots ++ e.id ∷ [])) ≡ true)
        step b m has = elim (met_cases m e.id seen has) [
          | inl old ↦ elim (so_far m old) [ inl object ↦ inl (kept_id b object) | inr slot ↦ inr (kept_slot b slot) ]
          | inr same ↦ new b same
        ] where
          kept_id : (c : Bool) → is_met m ids ≡ true → is_met m (cond c (met e.id ids) ids) ≡ true
          kept_id true object = met_keeps m e.id ids object
          kept_id false object = object

          kept_slot : (c : Bool) → is_met m slots ≡ true → is_met m (cond c slots (slots ++ e.id ∷ [])) ≡ true
          kept_slot true slot = slot
          kept_slot false slot = list_any-append (λ (k : ℕ). eqb m k) slots (e.id ∷ []) ∙ or_left (is_met m slots) (is_met m (e.id ∷ [])) slot

          new : (c : Bool) → m ≡ e.id → (is_met m (cond c (met e.id ids) ids) ≡ true) ⊎ (is_met m (cond c slots (slots ++ e.id ∷ [])) ≡ true)
          new true same = inl (ap (λ (k : ℕ). is_met k (met e.id ids)) same ∙ met_has e.id ids)
          new false same = inr (list_any-append (λ (k : ℕ). eqb m k) slots (e.id ∷ [])
              ∙ or_right (is_met m slots) (is_met m (e.id ∷ [])) (or_left (eqb m e.id) false (eq-eqb m e.id same)))

  pub slot_if_no_object : (es : List StackEntry) (n : ℕ) → is_met n (entry_ids es) ≡ true → is_met n (ids_of_objects named es) ≡ false →
      Contains (slots_of named es) n
  slot_if_no_object es n is none = elim (slots_met es [] [] [] (λ m e. absurd cc) n is) [
    | inl object ↦ absurd (false≢true (sym none ∙ object))
    | inr slot ↦ met_contains (slots_of named es) n slot
  ]

-- ---- objects are where they must be

-- the end of the objects above the local block
abbrev last_end : ℕ → List Object → ℕ
last_end n [] = n
last_end n (o ∷ os) = last_end (end_past n o o.fixed_offset) os

record IsLaid (block : ℕ) (laid : ObjectLayout) : Type 0 where
  each : All IsSoundObject laid.objects
  laid_from : AreLaidFrom block block laid.objects
  end_is : laid.end ≡ last_end block laid.objects

laid_push : (block n : ℕ) (os : List Object) (o : Object) → AreLaidFrom block n os → IsPlaced block (last_end n os) o o.fixed_offset →
    AreLaidFrom block n (os ++ o ∷ [])
laid_push block n [] o is at = (at, tt)
laid_push block n (p ∷ os) o is at = (is.0, laid_push block (end_past n p p.fixed_offset) os o is.1 at)

end_push : (n : ℕ) (os : List Object) (o : Object) → last_end n (os ++ o ∷ []) ≡ end_past (last_end n os) o o.fixed_offset
end_push n [] o = refl
end_push n (p ∷ os) o = end_push (end_past n p p.fixed_offset) os o

alignment : (align : ℕ) → is_alignment align ≡ true → Contains ALIGNMENTS align
alignment align is = met_contains ALIGNMENTS align (by (eqb align 1) (eqb align 2) (eqb align 4) (eqb align 8) (eqb align 16) is) where
  by : (a b c d e : Bool) → (a || (b || (c || (d || e)))) ≡ true → (a || (b || (c || (d || (e || false))))) ≡ true
  by true b c d e is = refl
  by false true c d e is = refl
  by false false true d e is = refl
  by false false false true e is = refl
  by false false false false true is = refl
  by false false false false false is = is

module _ (named : List ℕ) where
  laid_more : (block : ℕ) (laid : ObjectLayout) (e : StackEntry) → IsReadEntry e → IsLaid block laid → IsLaid block (with_object named block laid e)
  laid_more block laid e entry is = by (is_stack_object named e) where
    o : Object
    o = laid_at block laid.end e

    by : (b : Bool) → IsLaid block (cond b (record {
      objects = laid.objects ++ laid_at block laid.end e ∷ [];
      end = next_end laid.end (place_of block laid.end e.align e.local_offset + e.size) e.local_offset;
    }) laid)
    by true = record {
      each = All-push IsSoundObject laid.objects (laid_at block laid.end e) is.each (record {
        size = entry.size;
        aligned = alignment e.align entry.aligned;
        local = entry.local;
        fixed = tt;
      });
      laid_from = laid_push block block laid.objects (laid_at block laid.end e) is.laid_from
          (ap (λ (n : ℕ). place_of block n e.align e.local_offset) is.end_is);
      end_is = ap (λ (n : ℕ). next_end n (place_of block laid.end e.align e.local_offset + e.size) e.local_offset) is.end_is
          ∙ sym (end_push block laid.objects (laid_at block laid.end e));
    }
    by false = is

  laid_behind : (block : ℕ) (laid : ObjectLayout) (es : List StackEntry) → All IsReadEntry es → IsLaid block laid →
      IsLaid block (objects_behind named block laid es)
  unfolding objects_behind
  laid_behind block laid [] all is = is
  laid_behind block laid (e ∷ es) all is =
      laid_behind block (with_object named block laid e) es (All-tail IsReadEntry e es all) (laid_more block laid e (All-head IsReadEntry e es all) is)

  all_laid : (es : List StackEntry) → All IsReadEntry es → IsLaid (local_block es) (objects_of named es)
  all_laid es all = laid_behind (local_block es) (record { objects = []; end = local_block es }) es all
      (record { each = All-nil IsSoundObject; laid_from = tt; end_is = refl })

  ids_more : (block : ℕ) (laid : ObjectLayout) (e : StackEntry) → IsReadEntry e → All (λ n. n ≤ MAX_NUMBER) (map (λ (o : Object). o.id) laid.objects) →
      All (λ n. n ≤ MAX_NUMBER) (map (λ (o : Object). o.id) (with_object named block laid e).objects)
  ids_more block laid e entry is = by (is_stack_object named e) where
    by : (b : Bool) → All (λ n. n ≤ MAX_NUMBER) (map (λ (o : Object). o.id) (cond b (record {
      objects = laid.objects ++ laid_at block laid.end e ∷ [];
      end = next_end laid.end (place_of block laid.end e.align e.local_offset + e.size) e.local_offset;
    }) laid).objects)
    by true = subst (λ (ns : List ℕ). All (λ n. n ≤ MAX_NUMBER) ns)
        (sym (map-append (λ (o : Object). o.id) laid.objects (laid_at block laid.end e ∷ [])))
        (All-push (λ n. n ≤ MAX_NUMBER) (map (λ (o : Object). o.id) laid.objects) e.id is entry.id)
    by false = is

  ids_behind_low : (block : ℕ) (laid : ObjectLayout) (es : List StackEntry) → All IsReadEntry es →
      All (λ n. n ≤ MAX_NUMBER) (map (λ (o : Object). o.id) laid.objects) →
      All (λ n. n ≤ MAX_NUMBER) (map (λ (o : Object). o.id) (objects_behind named block laid es).objects)
  unfolding objects_behind
  ids_behind_low block laid [] all is = is
  ids_behind_low block laid (e ∷ es) all is =
      ids_behind_low block (with_object named block laid e) es (All-tail IsReadEntry e es all) (ids_more block laid e (All-head IsReadEntry e es all) is)

  -- the numbers of objects among stack entries
  pub objects_low : (es : List StackEntry) → All IsReadEntry es →
      All (λ n. n ≤ MAX_NUMBER) (map (λ (o : Object). o.id) (objects_of named es).objects)
  objects_low es all =
      ids_behind_low (local_block es) (record { objects = []; end = local_block es }) es all (All-nil (λ n. n ≤ MAX_NUMBER))

  pub objects_sound : (es : List StackEntry) → All IsReadEntry es → All IsSoundObject (objects_of named es).objects
  objects_sound es all = (all_laid es all).each

  -- ---- no object is fixed

  unfixed_more : (block : ℕ) (laid : ObjectLayout) (e : StackEntry) → HasNoFixed laid.objects → HasNoFixed (with_object named block laid e).objects
  unfixed_more block laid e is = by (is_stack_object named e) where
    by : (b : Bool) → HasNoFixed (cond b (record {
      objects = laid.objects ++ laid_at block laid.end e ∷ [];
      end = next_end laid.end (place_of block laid.end e.align e.local_offset + e.size) e.local_offset;
    }) laid).objects
    by true = All-push (λ (o : Object). o.fixed_offset ≡ None) laid.objects (laid_at block laid.end e) is refl
    by false = is

  unfixed_behind : (block : ℕ) (laid : ObjectLayout) (es : List StackEntry) → HasNoFixed laid.objects →
      HasNoFixed (objects_behind named block laid es).objects
  unfolding objects_behind
  unfixed_behind block laid [] is = is
  unfixed_behind block laid (e ∷ es) is = unfixed_behind block (with_object named block laid e) es (unfixed_more block laid e is)

  pub objects_unfixed : (es : List StackEntry) → HasNoFixed (objects_of named es).objects
  objects_unfixed es =
      unfixed_behind (local_block es) (record { objects = []; end = local_block es }) es (All-nil (λ (o : Object). o.fixed_offset ≡ None))

  -- ---- local offsets of objects are those of the entries

  -- local offsets that are those of entries, but that None may lack: an entry with a local offset is an object
  record AreLocal (ls : List (Option ℕ)) (es : List StackEntry) : Type 0 where
    reach : (n : ℕ) → reach_from n ls ≡ reach_from n (entry_offsets es)
    count : local_count ls ≡ local_count (entry_offsets es)

  -- the same of entries with one more in front
  record AreLocalMore (l : Option ℕ) (ls : List (Option ℕ)) (es : List StackEntry) : Type 0 where
    reach : (n : ℕ) → reach_from n ls ≡ reach_from (reach_after n l) (entry_offsets es)
    count : local_count ls ≡ counted l + local_count (entry_offsets es)

  -- the local offsets of the objects of entries, without those before them
  abbrev chosen_offsets : List StackEntry → List (Option ℕ)
  chosen_offsets [] = []
  chosen_offsets (e ∷ es) = cond (is_stack_object named e) (e.local_offset ∷ chosen_offsets es) (chosen_offsets es)

  offsets_chosen : (block : ℕ) (laid : ObjectLayout) (es : List StackEntry) →
      local_offsets (objects_behind named block laid es).objects ≡ local_offsets laid.objects ++ chosen_offsets es
  unfolding objects_behind
  offsets_chosen block laid [] = sym (append-nil (local_offsets laid.objects))
  offsets_chosen block laid (e ∷ es) = offsets_chosen block (with_object named block laid e) es ∙ step (is_stack_object named e) where
    step : (b : Bool) → local_offsets (cond b (record {
      objects = laid.objects ++ laid_at block laid.end e ∷ [];
      end = next_end laid.end (place_of block laid.end e.align e.local_offset + e.size) e.local_offset;
    }) laid).objects ++ chosen_offsets es ≡ local_offsets laid.objects ++ cond b (e.local_offset ∷ chosen_offsets es) (chosen_offsets es)
    step true = ap (λ (l : List (Option ℕ)). l ++ chosen_offsets es) (map-append (λ (o : Object). o.local_offset) laid.objects (laid_at block laid.end e ∷ []))
        ∙ append_assoc (local_offsets laid.objects) (e.local_offset ∷ []) (chosen_offsets es)
    step false = refl

  chosen_local : (es : List StackEntry) → AreLocal (chosen_offsets es) es
  chosen_local [] = record { reach = λ n. refl; count = refl }
  chosen_local (e ∷ es) =
      let more = by (chosen_local es) e.local_offset (not (eqb e.size 8) || is_met e.id named) in record { reach = more.reach; count = more.count }
    where
      by : AreLocal (chosen_offsets es) es → (l : Option ℕ) (b : Bool) →
          AreLocalMore l (cond (is_some l || b) (l ∷ chosen_offsets es) (chosen_offsets es)) es
      by rest (Some m) b = record { reach = λ n. rest.reach (max n m); count = ap (λ (n : ℕ). 1 + n) rest.count }
      by rest None true = record { reach = rest.reach; count = ap (λ (n : ℕ). 0 + n) rest.count }
      by rest None false = record { reach = rest.reach; count = omega (arith, rest.count) }

  local_is : (es : List StackEntry) → AreLocal (local_offsets (objects_of named es).objects) es
  local_is es = subst (λ (l : List (Option ℕ)). AreLocal l es) (sym (offsets_chosen (local_block es) (record { objects = []; end = local_block es }) es))
      (chosen_local es)

  pub objects_laid : (es : List StackEntry) → All IsReadEntry es → (local_count (entry_offsets es) ≡ 1 → ⊥) → AreLaid (objects_of named es).objects
  objects_laid es all several =
      let is = local_is es in
      let block : block_size (local_offsets (objects_of named es).objects) ≡ local_block es = ap (up_to 16) (is.reach 0) in
      record {
        each = subst (λ (n : ℕ). AreLaidFrom n n (objects_of named es).objects) (sym block) (all_laid es all).laid_from;
        several = λ one. several (sym is.count ∙ one);
        fixed = none_fixed (area_of (objects_of named es).objects) (objects_of named es).objects (objects_unfixed es);
      }
