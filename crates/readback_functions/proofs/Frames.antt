-- The slots and objects of entries, read as entries again.
use Rattle.std.proofs.Common.{◌≡◌, ℕ, ◌+◌, ◌≤◌, Bool, true, false, cond, not, ◌||◌, eqb, ℤ, List, [], ◌∷◌, ◌++◌, map, All, Option, Some, None}
use Rattle.std.proofs.Common.{refl, sym, ap, subst, ◌∙◌, arith, append_assoc, append-nil, inl, inr}
use Rattle.std.specs.Prelude.{is_some, Contains}
use Rattle.std.proofs.lemmas.Bool.{cases_Bool, or_right, or_left, eq-eqb, eqb-true}
use Rattle.std.proofs.lemmas.List.{length-append, length-map}
use Rattle.std.proofs.lemmas.Option.{slice_get-get_or}
use Rattle.std.proofs.lemmas.List.Elements.{All-nil, All-head, All-tail, All-push, All-append, All-map, All-weaker}
use Rattle.base_ids.specs.Limits.{MAX_NUMBER}
use Rattle.mir_func.specs.declared.object.Object.{Object}
use Rattle.mir_func.specs.Objects.{up_to, reach_after, reach_from, counted, local_count, local_offsets, place_of, next_end, AreLaidFrom, AreLaid, object_of}
use Rattle.mir_func.specs.Objects.{IsPlaced, end_past, HasNoFixed}
use Rattle.read_declarations.specs.declared.stack.StackEntry.{StackEntry}
use Rattle.read_declarations.specs.Stack.{entry_offsets}
use Rattle.read_body.specs.declared.stack_entry_kind.ObjectLayout.{ObjectLayout}
use Rattle.read_body.specs.StackEntryKind.{is_stack_object, with_slot, slots_behind, slots_of, laid_at, with_object, objects_behind, local_block, objects_of}
use Rattle.read_body.specs.StackEntryKind.{ids_of_objects}
use Rattle.read_body.specs.FirstUseOrder.{is_met, met}
use Rattle.read_program.specs.Closing.{ids_behind, entry_ids}
use Rattle.read_program.proofs.Entries.{ids_are_objects}
use Rattle.read_program.proofs.Frames.{frame_count, objects_laid, objects_unfixed, slot_if_no_object}
use Rattle.read_program.proofs.Lists.{met_keeps, met_has, met_at}
use Rattle.read_program.proofs.Stack.{IsReadEntry}
use Rattle.readback_functions.specs.Declared.{IsEntry, slot_entry, object_entry, entries_read}
use Rattle.readback_functions.specs.Frame.{FramesReadBack}
use Rattle.readback_functions.proofs.Apart.{Once, once_if_apart, apart_if_once, numbers, object_numbers, once_behind}

-- ---- entries that are chosen

module _ (named : List ℕ) where
  -- a slot isn't named
  abbrev IsSlot : ℕ → Type 0
  IsSlot m = (is_met m named ≡ false) × (m ≤ MAX_NUMBER)

  -- an object is one by its size or its name
  abbrev IsObject : Object → Type 0
  IsObject o = (is_stack_object named (object_entry o) ≡ true) × IsEntry (object_entry o)

  unmet : (l : Option ℕ) (b c : Bool) → (is_some l || (not b || c)) ≡ false → c ≡ false
  unmet None true c e = e
  unmet None false c e = absurd cc
  unmet (Some n) b c e = absurd cc

  slots_are : (ss : List ℕ) (es : List StackEntry) → All IsEntry es → All IsSlot ss → All IsSlot (slots_behind named ss es)
  unfolding slots_behind
  slots_are ss [] all slots = slots
  slots_are ss (e ∷ es) all slots =
      slots_are (with_slot named ss e) es (All-tail IsEntry e es all) (by (is_stack_object named e) refl) where
        by : (b : Bool) → is_stack_object named e ≡ b → All IsSlot (cond b ss (ss ++ e.id ∷ []))
        by true is = slots
        by false is = All-push IsSlot ss e.id slots (unmet e.local_offset (eqb e.size 8) (is_met e.id named) is, (All-head IsEntry e es all).id)

  objects_are : (block : ℕ) (laid : ObjectLayout) (es : List StackEntry) → All IsEntry es → All IsObject laid.objects →
      All IsObject (objects_behind named block laid es).objects
  unfolding objects_behind
  objects_are block laid [] all objects = objects
  objects_are block laid (e ∷ es) all objects = objects_are block (with_object named block laid e) es (All-tail IsEntry e es all)
      (by (is_stack_object named e) refl) where
        entry : IsEntry e
        entry = All-head IsEntry e es all

        by : (b : Bool) → is_stack_object named e ≡ b →
            All IsObject (cond b (record {
              objects = laid.objects ++ laid_at block laid.end e ∷ [];
              end = next_end laid.end (place_of block laid.end e.align e.local_offset + e.size) e.local_offset;
            }) laid).objects
        by true is = All-push IsObject laid.objects (laid_at block laid.end e) objects
            (is, record { id = entry.id; size = entry.size; aligned = entry.aligned; local = entry.local })
        by false is = objects

-- ---- entries again

module _ (again : List ℕ) where
  no_slots : (ss : List ℕ) (os : List Object) → All (IsObject again) os → slots_behind again ss (map object_entry os) ≡ ss
  unfolding slots_behind
  no_slots ss [] all = refl
  no_slots ss (o ∷ os) all =
      ap (λ (b : Bool). slots_behind again (cond b ss (ss ++ o.id ∷ [])) (map object_entry os)) (All-head (IsObject again) o os all).0
      ∙ no_slots ss os (All-tail (IsObject again) o os all)

  slots_again : (ss ms : List ℕ) (os : List Object) → All (IsSlot again) ms → All (IsObject again) os →
      slots_behind again ss (entries_read ms os) ≡ ss ++ ms
  unfolding slots_behind
  slots_again ss [] os slots objects = no_slots ss os objects ∙ sym (append-nil ss)
  slots_again ss (m ∷ ms) os slots objects =
      ap (λ (b : Bool). slots_behind again (cond b ss (ss ++ m ∷ [])) (entries_read ms os)) (All-head (IsSlot again) m ms slots).0
      ∙ (slots_again (ss ++ m ∷ []) ms os (All-tail (IsSlot again) m ms slots) objects ∙ append_assoc ss (m ∷ []) ms)

  abbrev laid_more : ObjectLayout → Object → ObjectLayout
  laid_more laid o = record { objects = laid.objects ++ o ∷ []; end = next_end laid.end (o.offset + o.size) o.local_offset }

  module _ (block : ℕ) where
    objects_laid_again : (laid : ObjectLayout) (os : List Object) → All (IsObject again) os → HasNoFixed os → AreLaidFrom block laid.end os →
        (objects_behind again block laid (map object_entry os)).objects ≡ laid.objects ++ os
    unfolding objects_behind
    objects_laid_again laid [] all unfixed from = sym (append-nil laid.objects)
    objects_laid_again laid (o ∷ os) all unfixed from =
        ap (λ (b : Bool). (objects_behind again block (cond b (record {
          objects = laid.objects ++ laid_at block laid.end (object_entry o) ∷ [];
          end = next_end laid.end (place_of block laid.end o.align o.local_offset + o.size) o.local_offset;
        }) laid) (map object_entry os)).objects) (All-head (IsObject again) o os all).0
        ∙ ((λ i. (objects_behind again block (record {
          objects = laid.objects ++ record {
            id = o.id;
            size = o.size;
            align = o.align;
            local_offset = o.local_offset;
            fixed_offset = unplaced i;
            offset =
                place i;
          } ∷
              [];
          end = next_end laid.end (place i + o.size) o.local_offset;
        }) (map object_entry os)).objects)
        ∙ (objects_laid_again (laid_more laid o) os (All-tail (IsObject again) o os all) (All-tail (λ (x : Object). x.fixed_offset ≡ None) o os unfixed)
        (subst (λ (f : Option ℤ). AreLaidFrom block (end_past laid.end o f) os) (sym unplaced) from.1) ∙ append_assoc laid.objects (o ∷ []) os))
      where
        unplaced : None ≡ o.fixed_offset
        unplaced = sym (All-head (λ (x : Object). x.fixed_offset ≡ None) o os unfixed)

        place : place_of block laid.end o.align o.local_offset ≡ o.offset
        place = sym (subst (λ (f : Option ℤ). IsPlaced block laid.end o f) (sym unplaced) from.0)

    objects_again : (laid : ObjectLayout) (ms : List ℕ) (os : List Object) → All (IsSlot again) ms → All (IsObject again) os → HasNoFixed os →
        AreLaidFrom block laid.end os →
        (objects_behind again block laid (entries_read ms os)).objects ≡ laid.objects ++ os
    unfolding objects_behind
    objects_again laid [] os slots objects unfixed from = objects_laid_again laid os objects unfixed from
    objects_again laid (m ∷ ms) os slots objects unfixed from =
        ap (λ (b : Bool). (objects_behind again block (cond b (record {
          objects = laid.objects ++ laid_at block laid.end (slot_entry m) ∷ [];
          end = next_end laid.end (place_of block laid.end 1 None + 8) None;
        }) laid) (entries_read ms os)).objects) (All-head (IsSlot again) m ms slots).0
        ∙ objects_again laid ms os (All-tail (IsSlot again) m ms slots) objects unfixed from

-- ---- local offsets

reach_again : (n : ℕ) (ms : List ℕ) (os : List Object) → reach_from n (entry_offsets (entries_read ms os)) ≡ reach_from n (local_offsets os)
reach_again n [] [] = refl
reach_again n [] (o ∷ os) = reach_again (reach_after n o.local_offset) [] os
reach_again n (m ∷ ms) os = reach_again n ms os

count_again : (ms : List ℕ) (os : List Object) → local_count (entry_offsets (entries_read ms os)) ≡ local_count (local_offsets os)
count_again [] [] = refl
count_again [] (o ∷ os) = ap (λ (n : ℕ). counted o.local_offset + n) (count_again [] os)
count_again (m ∷ ms) os =
    let more : 0 + local_count (entry_offsets (entries_read ms os)) ≡ local_count (local_offsets os) = omega (arith, count_again ms os) in more

-- ---- numbers

ids_stay : (seen : List ℕ) (es : List StackEntry) (n : ℕ) → is_met n seen ≡ true → is_met n (ids_behind seen es) ≡ true
unfolding ids_behind
ids_stay seen [] n is = is
ids_stay seen (e ∷ es) n is = ids_stay (met e.id seen) es n (met_keeps n e.id seen is)

ids_have : (seen : List ℕ) (es : List StackEntry) (n : ℕ) → is_met n (numbers es) ≡ true → is_met n (ids_behind seen es) ≡ true
unfolding ids_behind
ids_have seen [] n is = absurd cc
ids_have seen (e ∷ es) n is = by (ids_have (met e.id seen) es n) (eqb n e.id) refl is where
  by : (is_met n (numbers es) ≡ true → is_met n (ids_behind (met e.id seen) es) ≡ true) → (b : Bool) → eqb n e.id ≡ b → (b || is_met n (numbers es)) ≡ true →
      is_met n (ids_behind (met e.id seen) es) ≡ true
  by later true same all = ids_stay (met e.id seen) es n (ap (λ (k : ℕ). is_met k (met e.id seen)) (eqb-true n e.id same) ∙ met_has e.id seen)
  by later false other all = later all

numbers_again : (ms : List ℕ) (os : List Object) → numbers (entries_read ms os) ≡ ms ++ object_numbers os
numbers_again [] [] = refl
numbers_again [] (o ∷ os) = ap (λ (l : List ℕ). o.id ∷ l) (numbers_again [] os)
numbers_again (m ∷ ms) os = ap (λ (l : List ℕ). m ∷ l) (numbers_again ms os)

met_object : (os : List Object) (n : ℕ) → is_some (object_of os n) ≡ true → is_met n (object_numbers os) ≡ true
met_object [] n is = absurd cc
met_object (o ∷ os) n is = by (met_object os n) (eqb o.id n) refl is where
  by : (is_some (object_of os n) ≡ true → is_met n (object_numbers os) ≡ true) → (b : Bool) → eqb o.id n ≡ b →
      is_some (cond b (Some o) (object_of os n)) ≡ true → (eqb n o.id || is_met n (object_numbers os)) ≡ true
  by later true same all = or_left (eqb n o.id) (is_met n (object_numbers os)) (eq-eqb n o.id (sym (eqb-true o.id n same)))
  by later false other all = or_right (eqb n o.id) (is_met n (object_numbers os)) (later all)

met_append : (n : ℕ) (xs ys : List ℕ) → is_met n (xs ++ ys) ≡ (is_met n xs || is_met n ys)
met_append n [] ys = refl
met_append n (x ∷ xs) ys = by (eqb n x) (met_append n xs ys) where
  by : (b : Bool) → is_met n (xs ++ ys) ≡ (is_met n xs || is_met n ys) → (b || is_met n (xs ++ ys)) ≡ ((b || is_met n xs) || is_met n ys)
  by true e = refl
  by false e = e

contains_met : (ns : List ℕ) (n : ℕ) → Contains ns n → is_met n ns ≡ true
contains_met ns n there = met_at ns there.0 n (slice_get-get_or ns there.0 n there.1 ∙ ap (λ (k : ℕ). Some k) there.2)

-- ---- all of it

small_entries : (ms : List ℕ) (os : List Object) → All (λ m. m ≤ MAX_NUMBER) ms → All (λ o. IsEntry (object_entry o)) os → All IsEntry (entries_read ms os)
small_entries ms os slots objects =
    All-append IsEntry (map slot_entry ms) (map object_entry os)
    (All-map IsEntry slot_entry ms (All-weaker (λ m. m ≤ MAX_NUMBER) (λ m. IsEntry (slot_entry m)) (λ m small. record {
      id = small;
      size = omega arith;
      aligned = refl;
      local = tt;
    }) ms slots))
    (All-map IsEntry object_entry os objects)

pub frames_read_back : FramesReadBack
frames_read_back named again es declared same = record {
  declared = record {
    each = small_entries ms os (All-weaker (IsSlot named) (λ m. m ≤ MAX_NUMBER) (λ m is. is.1) ms slots)
        (All-weaker (IsObject named) (λ o. IsEntry (object_entry o)) (λ o is. is.1) os objects);
    several = λ e. laid.several (sym (count_again ms os) ∙ e);
    apart = apart_if_once (numbers (entries_read ms os)) (subst Once (sym (numbers_again ms os)) once);
    few = omega (
      arith,
      frame_count named es,
      declared.few,
      length-append (map slot_entry ms) (map object_entry os),
      length-map ms slot_entry,
      length-map os
          object_entry,
    );
  };
  slots = slots_again again [] ms os slots_too objects_too;
  objects = objects_again again (local_block (entries_read ms os)) (record { objects = []; end = local_block (entries_read ms os) }) ms os slots_too
      objects_too (objects_unfixed named es) (subst (λ (n : ℕ). AreLaidFrom n n os) (sym (ap (up_to 16) (reach_again 0 ms os))) laid.each);
  ids = λ n is. ids_have [] (entries_read ms os) n (ap (is_met n) (numbers_again ms os) ∙ met_append n ms (object_numbers os) ∙ either n is);
} where
  ms : List ℕ
  ms = slots_of named es

  os : List Object
  os = (objects_of named es).objects

  slots : All (IsSlot named) ms
  slots = slots_are named [] es declared.each (All-nil (IsSlot named))

  objects : All (IsObject named) os
  objects = objects_are named (local_block es) (record { objects = []; end = local_block es }) es declared.each (All-nil (IsObject named))

  slots_too : All (IsSlot again) ms
  slots_too = All-weaker (IsSlot named) (IsSlot again) (λ m is. (same m ∙ is.0, is.1)) ms slots

  objects_too : All (IsObject again) os
  objects_too = All-weaker (IsObject named) (IsObject again)
      (λ o is. (ap (λ (b : Bool). is_some o.local_offset || (not (eqb o.size 8) || b)) (same o.id) ∙ is.0, is.1)) os objects

  read : All IsReadEntry es
  read = All-weaker IsEntry IsReadEntry (λ e is. record { id = is.id; size = is.size; aligned = is.aligned; local = is.local }) es declared.each

  laid : AreLaid os
  laid = objects_laid named es read declared.several

  once : Once (ms ++ object_numbers os)
  once = once_behind named (local_block es) [] (record { objects = []; end = local_block es }) es tt (λ n is. refl) (once_if_apart (numbers es) declared.apart)

  either : (n : ℕ) → is_met n (entry_ids es) ≡ true → (is_met n ms || is_met n (object_numbers os)) ≡ true
  either n is = elim (cases_Bool (is_met n (ids_of_objects named es))) [
    | inl object ↦ or_right (is_met n ms) (is_met n (object_numbers os)) (met_object os n (sym (ids_are_objects named n es) ∙ object))
    | inr none ↦ or_left (is_met n ms) (is_met n (object_numbers os)) (contains_met ms n (slot_if_no_object named es n is none))
  ]
