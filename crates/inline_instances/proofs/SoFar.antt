-- The instances of the instructions so far, with one instruction more.
-- Plan: the calls of the instruction get their instances, whose ranges are empty since no instruction before has the call. Those around the instance of the
-- last instruction are the instances of its calls, and so for the next one.
use Rattle.std.proofs.Common.{◌≡◌, ℕ, ◌+◌, ◌<◌, ◌≤◌, Bool, true, false, cond, ◌||◌, List, [], ◌∷◌, ◌++◌, length, map, Option, Some, None, refl, sym}
use Rattle.std.proofs.Common.{◌∙◌, ap, subst}
use Rattle.std.proofs.Common.{slice_get, get_or, nat_eq, eq-eqb, ne_eqb, true≢false, IfSome, arith, inl, inr, ◌⊎◌, append_assoc, ext_get_or, reverse}
use Rattle.std.proofs.Common.{zero, suc, eqb-true}
use Rattle.std.proofs.lemmas.Bool.{cases_eq, cases_lt}
use Rattle.std.proofs.lemmas.List.{get_or_past, get_or-map, length-map}
use Rattle.std.proofs.lemmas.Option.{slice_get-get_or}
use Rattle.std.specs.List.{list_any, AllZip}
use Rattle.read_metadata.specs.Maps.{Maps}
use Rattle.mir_func.specs.declared.block.Block.{Block}
use Rattle.mir_func.specs.declared.location.Loc.{Loc}
use Rattle.mir_func.specs.Positions.{position_of}
use Rattle.dwarf_line_table.specs.emit_code.declared.code.EncodedInstruction.{EncodedInstruction}
use Rattle.dwarf_line_table.specs.SourcePosition.{loc_of, scope_line}
use Rattle.dwarf_line_table.specs.declared.source_and_code.SourceAndCode.{SourceAndCode}
use Rattle.dwarf_line_table.specs.Files.{first_uses}
use Rattle.dwarf_rnglists.specs.declared.range.AddressRange.{AddressRange}
use Rattle.inline_instances.specs.declared.instance.Instance.{Instance}
use Rattle.inline_instances.specs.declared.instance.InlinedCode.{InlinedCode}
use Rattle.inline_instances.specs.declared.table.InstanceTable.{InstanceTable}
use Rattle.inline_instances.specs.declared.ranges.OpenRanges.{OpenRanges}
use Rattle.read_item.specs.Debug.{inlined_at}
use Rattle.inline_instances.specs.Calls.{AreCalls, AreCallsFrom, outer_call}
use Rattle.inline_instances.specs.Words.{InlinedWord, IsInlined, has_call, calls_of, ranges_of}
use Rattle.inline_instances.specs.Instances.{IsIndexOf, IsInstance, AreInstances, inlined_scope, scope_in}
use Rattle.inline_instances.specs.steps.Marks.{IsIn, AreMarks}
use Rattle.inline_instances.specs.steps.Table.{calls_in, IsPlaced, IsTable, IsInnermost}
use Rattle.inline_instances.specs.steps.Open.{AreAround, AreEarlier, IsGrown, IsShifted, HasRanges, closed_at, start_at, BeginAt}
use Rattle.inline_instances.specs.steps.SoFar.{IsSoFar}
use Rattle.inline_instances.proofs.Ways.{none_is_some, some_is_some}
use Rattle.inline_instances.proofs.Members.{in_at, at_in, get_left, get_within, below_length, or_cases}
use Rattle.inline_instances.proofs.Tables.{calls_append, calls_length, call_at_index, instance_at, index_kept, index_below}
use Rattle.inline_instances.proofs.Uses.{uses_any, reverse_any, calls_any, calls_more}
use Rattle.inline_instances.proofs.RangeLemmas.{has_more, ranges_at_end, ranges_of_others}
use Rattle.inline_instances.proofs.Shifts.{has, start, ranges, not_true}

-- ---- those around an instance, by their calls

pub record Around (instances : List Instance) (at : Option ℕ) (ns : List ℕ) : Type 0 where
  pub ks : List ℕ
  pub are : AreAround instances at ks
  pub of_calls : AllZip (λ k n. slice_get (calls_in instances) k ≡ Some n) ks ns

module _ (meta : Maps) (t : InstanceTable) (is : IsTable meta [] t) where
  abbrev instances : List Instance
  instances = t.instances.items

  pub around_of : (at from : Option ℕ) (ns : List ℕ) → AreCallsFrom meta from ns → IsIndexOf (calls_in instances) at from → Around instances at ns
  around_of None from [] are index = record { ks = []; are = tt; of_calls = tt }
  around_of (Some k) from [] are index = absurd (subst (IsIndexOf (calls_in instances) (Some k)) are index)
  around_of None from (n ∷ ns) are index = absurd (subst (IsIndexOf (calls_in instances) None) are.0 index)
  around_of (Some k) from (n ∷ ns) are index =
      let at : slice_get (calls_in instances) k ≡ Some n = subst (IsIndexOf (calls_in instances) (Some k)) are.0 index in
      let found = instance_at instances k n at in
      let placed = is.placed k found.0 found.1 in
      let rest =
      around_of found.0.parent (outer_call meta n) ns are.1
      (subst (λ (m : ℕ). IsIndexOf (calls_in instances) found.0.parent (outer_call meta m)) found.2 placed.parent) in
      record { ks = k ∷ rest.ks; are = (found.0, refl, found.1, rest.are); of_calls = (at, rest.of_calls) }

  pub one_index : (k j n : ℕ) → slice_get (calls_in instances) k ≡ Some n → slice_get (calls_in instances) j ≡ Some n → k ≡ j
  one_index k j n at also =
      some_is_some k j (some_is_some (Some k) (Some j) (sym (is.marks.all k n at) ∙ is.marks.all j n also))

  pub are_earlier : AreEarlier instances
  are_earlier k p i at e = subst (λ (o : Option ℕ). IfSome o (λ q. q < k)) e (is.placed k i at).earlier

  pub index_within : (at from : Option ℕ) → IsIndexOf (calls_in instances) at from → IfSome at (λ k. k < length instances)
  index_within at from index =
      subst (λ (n : ℕ). IfSome at (λ k. k < n)) (calls_length instances) (index_below (calls_in instances) at from index)

  -- an instance is around exactly if its call is among the calls
  pub same_open : (ks ns : List ℕ) → AllZip (λ k n. slice_get (calls_in instances) k ≡ Some n) ks ns → (k n : ℕ) → slice_get (calls_in instances) k ≡ Some n
      → has n ns ≡ has k ks
  same_open [] [] are k n at = refl
  same_open [] (m ∷ ns) are k n at = absurd are
  same_open (j ∷ ks) [] are k n at = absurd are
  same_open (j ∷ ks) (m ∷ ns) are k n at = λ i. heads i || same_open ks ns are.1 k n at i
    where
      heads : nat_eq n m ≡ nat_eq k j
      heads = elim (cases_eq k j) [
        | inl same ↦
            let one : n ≡ m = some_is_some n m (sym at ∙ ap (slice_get (calls_in instances)) same ∙ are.0) in
            eq-eqb n m one ∙ sym (eq-eqb k j same)
        | inr other ↦
            ne_eqb n m (λ one. other (one_index k j m (at ∙ ap Some one) are.0)) ∙ sym (ne_eqb k j other)
      ]

-- a call that is among those of an instance's way has an instance
around_in : (these : List Instance) (ks ns : List ℕ) → AllZip (λ k n. slice_get (calls_in these) k ≡ Some n) ks ns → (n : ℕ) → IsIn n ns
    → IsIn n (calls_in these)
around_in these [] [] are n on = absurd (true≢false (sym on))
around_in these [] (m ∷ ns) are n on = absurd are
around_in these (k ∷ ks) [] are n on = absurd are
around_in these (k ∷ ks) (m ∷ ns) are n on = elim (or_cases (nat_eq n m) (list_any (nat_eq n) ns) on) [
  | inl same ↦ subst (λ (x : ℕ). IsIn x (calls_in these)) (sym (eqb-true n m same)) (in_at (calls_in these) k m are.0)
  | inr rest ↦ around_in these ks ns are.1 n rest
]

-- ---- words

zip_more : {A B : Type 0} (R : A → B → Type 0) (xs : List A) (ys : List B) (x : A) (y : B) → AllZip R xs ys → R x y → AllZip R (xs ++ x ∷ []) (ys ++ y ∷ [])
zip_more R [] [] x y are is = (is, tt)
zip_more R [] (b ∷ ys) x y are is = absurd are
zip_more R (a ∷ xs) [] x y are is = absurd are
zip_more R (a ∷ xs) (b ∷ ys) x y are is = (are.0, zip_more R xs ys x y are.1 is)

scope_known : (meta : Maps) (n : ℕ) (words : List InlinedWord) (w : InlinedWord) → list_any (has_call n) words ≡ true
    → inlined_scope meta n (words ++ w ∷ []) ≡ inlined_scope meta n words
scope_known meta n [] w known = absurd (true≢false (sym known))
scope_known meta n (v ∷ words) w known = by (has_call n v) known (scope_known meta n words w)
  where
    by : (z : Bool) → (z || list_any (has_call n) words) ≡ true
        → (list_any (has_call n) words ≡ true → inlined_scope meta n (words ++ w ∷ []) ≡ inlined_scope meta n words)
        → cond z (scope_in meta n v.scope v.calls) (inlined_scope meta n (words ++ w ∷ []))
        ≡ cond z (scope_in meta n v.scope v.calls) (inlined_scope meta n words)
    by true h later = refl
    by false h later = later h

scope_new : (meta : Maps) (n : ℕ) (words : List InlinedWord) (w : InlinedWord) → list_any (has_call n) words ≡ false → has_call n w ≡ true
    → inlined_scope meta n (words ++ w ∷ []) ≡ scope_in meta n w.scope w.calls
scope_new meta n [] w none own = ap (λ (z : Bool). cond z (scope_in meta n w.scope w.calls) None) own
scope_new meta n (v ∷ words) w none own = by (has_call n v) none (λ h. scope_new meta n words w h own)
  where
    by : (z : Bool) → (z || list_any (has_call n) words) ≡ false
        → (list_any (has_call n) words ≡ false → inlined_scope meta n (words ++ w ∷ []) ≡ scope_in meta n w.scope w.calls)
        → cond z (scope_in meta n v.scope v.calls) (inlined_scope meta n (words ++ w ∷ [])) ≡ scope_in meta n w.scope w.calls
    by true h later = absurd (true≢false h)
    by false h later = later h

-- ---- one more instruction

module _ (meta : Maps) (blocks : List Block) (front : List EncodedInstruction) (end : ℕ) (t next : InstanceTable) (o grown shifted : OpenRanges)
    (inside reached : Option ℕ) (e : EncodedInstruction) (loc : Loc) (s : IsSoFar meta blocks front end t o inside)
    (found : IsInnermost meta loc t.instances.items next reached) (here : loc ≡ loc_of blocks (position_of e.origin)) (at : end ≡ e.address)
    (long : 0 < e.size) where
  abbrev word : InlinedWord
  word = record { lo = e.address; hi = e.address + e.size; scope = (scope_line meta loc).scope; calls = found.calls }

  abbrev old_calls : List ℕ
  old_calls = calls_in t.instances.items

  abbrev new_calls : List ℕ
  new_calls = calls_in next.instances.items

  more : new_calls ≡ old_calls ++ calls_in found.added
  more = ap calls_in found.kept ∙ calls_append t.instances.items found.added

  is_inlined : IsInlined meta blocks e word
  is_inlined = record {
    lo = refl;
    hi = refl;
    scope = ap (λ (l : Loc). (scope_line meta l).scope) here;
    calls = subst (λ (l : Loc). AreCalls meta (inlined_at meta l) found.calls) here found.are;
  }

  calls_now : new_calls ≡ calls_of (s.words ++ word ∷ [])
  calls_now = found.known ∙ ap (λ (ns : List ℕ). first_uses nat_eq ns (reverse found.calls)) s.calls ∙ calls_more s.words word

  -- the instance of the last instruction is in the new table where it was
  pub index_now : IsIndexOf new_calls inside s.from
  index_now = subst (λ (ns : List ℕ). IsIndexOf ns inside s.from) (sym more) (index_kept old_calls (calls_in found.added) inside s.from s.index)

  around_last : Around next.instances.items inside s.last
  around_last = around_of meta next found.table inside s.from s.last s.way index_now

  around_next : Around next.instances.items reached found.calls
  around_next = around_of meta next found.table reached found.from found.calls found.way found.index

  -- an index of the old table, or a new one
  old_or_new : (k : ℕ) → (k < length old_calls) ⊎ (length old_calls ≤ k)
  old_or_new k = cases_lt k (length old_calls)

  was_at : (k n : ℕ) → slice_get new_calls k ≡ Some n → k < length old_calls → slice_get old_calls k ≡ Some n
  was_at k n is below = get_within old_calls (calls_in found.added) k n (ap (λ (ns : List ℕ). slice_get ns k) (sym more) ∙ is) below

  -- a new one's call isn't known
  is_new : (k n : ℕ) → slice_get new_calls k ≡ Some n → length old_calls ≤ k → IsIn n old_calls → ⊥
  is_new k n is past known =
      let before = at_in old_calls n known in
      let still : slice_get new_calls before.0 ≡ Some n =
      ap (λ (ns : List ℕ). slice_get ns before.0) more ∙ get_left old_calls (calls_in found.added) before.0 n before.1 in
      let same : k ≡ before.0 = one_index meta next found.table k before.0 n is still in
      let below : before.0 < length old_calls = below_length old_calls before.0 n before.1 in
      omega (arith, past, same, below)

  no_word : (k n : ℕ) → slice_get new_calls k ≡ Some n → length old_calls ≤ k → list_any (has_call n) s.words ≡ false
  no_word k n is past =
      sym (calls_any n s.words) ∙ ap (λ (ns : List ℕ). list_any (nat_eq n) ns) (sym s.calls) ∙ not_true (list_any (nat_eq n) old_calls) (is_new k n is past)

  own_word : (k n : ℕ) → slice_get new_calls k ≡ Some n → length old_calls ≤ k → has_call n word ≡ true
  own_word k n is past =
      let one : (list_any (nat_eq n) old_calls || list_any (nat_eq n) (reverse found.calls)) ≡ true =
      sym (uses_any n old_calls (reverse found.calls)) ∙ ap (list_any (nat_eq n)) (sym found.known) ∙ in_at new_calls k n is in
      sym (reverse_any n found.calls)
      ∙ sym (ap (λ (z : Bool). z || list_any (nat_eq n) (reverse found.calls)) (not_true (list_any (nat_eq n) old_calls) (is_new k n is past)))
      ∙ one

  scopes_now : (k : ℕ) (i : Instance) → slice_get next.instances.items k ≡ Some i → i.scope ≡ inlined_scope meta i.call (s.words ++ word ∷ [])
  scopes_now k i is =
      let call : slice_get new_calls k ≡ Some i.call = call_at_index next.instances.items k i is in
      elim (old_or_new k) [
        | inl below ↦
            let was : slice_get t.instances.items k ≡ Some i =
            get_within t.instances.items found.added k i (ap (λ (is : List Instance). slice_get is k) (sym found.kept) ∙ is)
            (omega (arith, below, calls_length t.instances.items)) in
            s.scopes k i was
            ∙ sym
            (scope_known meta i.call s.words word
            (sym (calls_any i.call s.words) ∙ ap (λ (ns : List ℕ). list_any (nat_eq i.call) ns) (sym s.calls)
            ∙ in_at old_calls k i.call (was_at k i.call call below)))
        | inr past ↦
            found.scopes k i (omega (arith, past, calls_length t.instances.items)) is
            ∙ sym (scope_new meta i.call s.words word (no_word k i.call call past) (own_word k i.call call past))
      ]

  module _ (grew : IsGrown (length next.instances.items) o grown)
      (shift : (ks js : List ℕ) → AreAround next.instances.items inside ks → AreAround next.instances.items reached js
      → IsShifted ks js e.address grown shifted)
    where
      moved : IsShifted around_last.ks around_next.ks e.address grown shifted
      moved = shift around_last.ks around_next.ks around_last.are around_next.are

      -- what an instance had before the instruction: a new one has no ranges
      had : (k n : ℕ) → slice_get new_calls k ≡ Some n → HasRanges s.words end (has n s.last) (start grown k) (ranges grown k) n
      had k n is = elim (old_or_new k) [
        | inl below ↦
            subst (λ (rs : List AddressRange). HasRanges s.words end (has n s.last) (start grown k) rs n) (sym (grew.closed k))
            (subst (λ (a : ℕ). HasRanges s.words end (has n s.last) a (ranges o k) n) (sym (grew.began k)) (s.has k n (was_at k n is below)))
        | inr past ↦
            let before = around_of meta t s.table inside s.from s.last s.way s.index in
            let closed : has n s.last ≡ false =
            not_true (has n s.last) (λ on. is_new k n is past (around_in t.instances.items before.ks s.last before.of_calls n on)) in
            let none : ranges grown k ≡ [] =
            grew.closed k ∙ get_or_past o.ranges.items k [] (omega (arith, past, s.ranges, calls_length t.instances.items)) in
            subst (λ (rs : List AddressRange). HasRanges s.words end (has n s.last) (start grown k) rs n) (sym none)
            (subst (λ (z : Bool). HasRanges s.words end z (start grown k) [] n) (sym closed)
            (λ rest begin. ranges_of_others n s.words rest (no_word k n is past)))
      ]

      has_now : (k n : ℕ) → slice_get new_calls k ≡ Some n →
          HasRanges (s.words ++ word ∷ []) (e.address + e.size) (has n found.calls) (start shifted k) (ranges shifted k) n
      has_now k n is =
          let before : has n s.last ≡ has k around_last.ks = same_open meta next found.table around_last.ks s.last around_last.of_calls k n is in
          let behind : has n found.calls ≡ has k around_next.ks =
          same_open meta next found.table around_next.ks found.calls around_next.of_calls k n is in
          let began : start_at (has n s.last) (has n found.calls) (start grown k) e.address ≡ start shifted k =
          (λ i. start_at (before i) (behind i) (start grown k) e.address) ∙ sym (moved.began k) in
          let closed : closed_at (has n s.last) (has n found.calls) (start grown k) e.address (ranges grown k) ≡ ranges shifted k =
          (λ i. closed_at (before i) (behind i) (start grown k) e.address (ranges grown k)) ∙ sym (moved.closed k) in
          let words = s.words ++ word ∷ [] in
          subst (λ (rs : List AddressRange). HasRanges words (e.address + e.size) (has n found.calls) (start shifted k) rs n) closed
          (subst
          (λ (a : ℕ).
          HasRanges words (e.address + e.size) (has n found.calls) a
          (closed_at (has n s.last) (has n found.calls) (start grown k) e.address (ranges grown k)) n)
          began
          (has_more s.words end (start grown k) n (ranges grown k) word at (omega (arith, long)) (has n s.last) (had k n is)))

      pub so_far_more : IsSoFar meta blocks (front ++ e ∷ []) (e.address + e.size) next shifted reached
      so_far_more = record {
        words = s.words ++ word ∷ [];
        instructions = zip_more (IsInlined meta blocks) front s.words e word s.instructions is_inlined;
        table = found.table;
        calls = calls_now;
        scopes = scopes_now;
        from = found.from;
        last = found.calls;
        way = found.way;
        index = found.index;
        ranges = moved.ranges ∙ grew.ranges;
        starts = moved.starts ∙ grew.starts;
        has = has_now;
      }

-- ---- no instruction

pub so_far_none : (meta : Maps) (blocks : List Block) (end : ℕ) (t : InstanceTable) (o : OpenRanges) → t.instances.items ≡ [] → AreMarks meta [] [] t.marks
    → o.starts.items ≡ [] → o.ranges.items ≡ [] → IsSoFar meta blocks [] end t o None
so_far_none meta blocks end t o none marks starts closed = record {
  words = [];
  instructions = tt;
  table = record {
    marks = subst (λ (is : List Instance). AreMarks meta (calls_in is) [] t.marks) (sym none) marks;
    placed = λ k i is. absurd (none_is_some i (ap (λ (is : List Instance). slice_get is k) (sym none) ∙ is));
  };
  calls = ap calls_in none;
  scopes = λ k i is. absurd (none_is_some i (ap (λ (is : List Instance). slice_get is k) (sym none) ∙ is));
  from = None;
  last = [];
  way = refl;
  index = tt;
  ranges = ap (λ (rs : List (List AddressRange)). length rs) closed ∙ ap (λ (is : List Instance). length is) (sym none);
  starts = ap (λ (ns : List ℕ). length ns) starts ∙ ap (λ (is : List Instance). length is) (sym none);
  has = λ k n is. absurd (none_is_some n (ap (λ (is : List Instance). slice_get (calls_in is) k) (sym none) ∙ is));
}

-- ---- all instructions

module _ (meta : Maps) (f : SourceAndCode) (end : ℕ) (t : InstanceTable) (o last : OpenRanges) (inside : Option ℕ)
    (s : IsSoFar meta f.source.now.blocks f.code.now.entries end t o inside)
    (shift : (ks js : List ℕ) → AreAround t.instances.items inside ks → AreAround t.instances.items None js → IsShifted ks js end o last) where
  around_end : Around t.instances.items inside s.last
  around_end = around_of meta t s.table inside s.from s.last s.way s.index

  moved_end : IsShifted around_end.ks [] end o last
  moved_end = shift around_end.ks [] around_end.are tt

  closed_now : (k n : ℕ) → slice_get (calls_in t.instances.items) k ≡ Some n → ranges last k ≡ ranges_of n s.words
  closed_now k n is =
      moved_end.closed k
      ∙ ap (λ (z : Bool). closed_at z false (start o k) end (ranges o k)) (sym (same_open meta t s.table around_end.ks s.last around_end.of_calls k n is))
      ∙ ranges_at_end s.words end (start o k) n (ranges o k) (has n s.last) (s.has k n is)

  sizes : length last.ranges.items ≡ length (map (λ n. ranges_of n s.words) (calls_of s.words))
  sizes =
      moved_end.ranges ∙ s.ranges ∙ sym (calls_length t.instances.items)
      ∙ ap (λ (ns : List ℕ). length ns) s.calls ∙ sym (length-map (calls_of s.words) (λ (n : ℕ). ranges_of n s.words))

  ranges_each : (k : ℕ) → k < length last.ranges.items → ranges last k ≡ get_or (map (λ n. ranges_of n s.words) (calls_of s.words)) k []
  ranges_each k below =
      let within : k < length (calls_of s.words) = omega (arith, below, sizes, length-map (calls_of s.words) (λ (n : ℕ). ranges_of n s.words)) in
      closed_now k (get_or (calls_of s.words) k 0)
      (ap (λ (ns : List ℕ). slice_get ns k) s.calls ∙ slice_get-get_or (calls_of s.words) k 0 within)
      ∙ sym (get_or-map (λ (n : ℕ). ranges_of n s.words) (calls_of s.words) k 0 [] within)

  pub are_instances : AreInstances meta f (record { instances = t.instances.items; ranges = last.ranges.items })
  are_instances = record {
    words = s.words;
    instructions = s.instructions;
    calls = s.calls;
    each = λ k i is. record {
      parent = subst (λ (ns : List ℕ). IsIndexOf ns i.parent (outer_call meta i.call)) s.calls (s.table.placed k i is).parent;
      earlier = (s.table.placed k i is).earlier;
      scope = s.scopes k i is;
    };
    ranges = ext_get_or [] last.ranges.items (map (λ n. ranges_of n s.words) (calls_of s.words)) sizes ranges_each;
  }
