-- The entries of variables, by the instances that these are of, as they are gone through.
use Rattle.std.proofs.Common.{◌≡◌, ℕ, zero, suc, ◌+◌, ◌<◌, ◌≤◌, Bool, true, false, cond, List, [], ◌∷◌, ◌++◌, map, length, set, get_or, Option, Some, None}
use Rattle.std.proofs.Common.{refl, sym, ◌∙◌, ap, arith, nat_eq, append-nil, append_assoc, slice_get}
use Rattle.std.specs.Option.{option_eq}
use Rattle.std.proofs.lemmas.Bool.{ne_eqb, eq-eqb}
use Rattle.std.proofs.lemmas.List.{length_push}
use Rattle.dwarf_info.specs.declared.inlined.InlinedCall.{InlinedCall}
use Rattle.dwarf_info.specs.declared.unit.VariableEntry.{VariableEntry}
use Rattle.read_metadata.specs.Maps.{Maps}
use Rattle.mir_func.specs.declared.variable.VarId.{VarId}
use Rattle.inline_subroutines.specs.declared.subroutine.InlinedSubroutine.{InlinedSubroutine}
use Rattle.dwarf_unit.specs.Unit.{variable_entry, variables_from}
use Rattle.inline_subroutines.specs.Subroutines.{AreDistinct}
use Rattle.dwarf_unit.specs.Inlined.{kept_variables, is_in, is_own, inlined_call}
use Rattle.dwarf_unit.specs.steps.Calls.{empty_call, place_of, kept, with_more, filled, AreDivided}
use Rattle.dwarf_unit.proofs.Places.{own_same, call_same}

-- ---- those that are kept

kept_more : (keep : VarId → Bool) (vs : List VarId) (es : List VariableEntry) (v : VarId) (e : VariableEntry) → length es ≡ length vs
    → kept keep (vs ++ v ∷ []) (es ++ e ∷ []) ≡ kept keep vs es ++ cond (keep v) (e ∷ []) []
kept_more keep [] [] v e long = refl
kept_more keep [] (x ∷ es) v e long = absurd (omega (arith, long))
kept_more keep (w ∷ vs) [] v e long = absurd (omega (arith, long))
kept_more keep (w ∷ vs) (x ∷ es) v e long = by (keep w) (kept_more keep vs es v e (omega (arith, long)))
  where
    by : (b : Bool) → kept keep (vs ++ v ∷ []) (es ++ e ∷ []) ≡ kept keep vs es ++ cond (keep v) (e ∷ []) []
        → cond b (x ∷ kept keep (vs ++ v ∷ []) (es ++ e ∷ [])) (kept keep (vs ++ v ∷ []) (es ++ e ∷ []))
        ≡ cond b (x ∷ kept keep vs es) (kept keep vs es) ++ cond (keep v) (e ∷ []) []
    by true rest = ap (λ (ys : List VariableEntry). x ∷ ys) rest
    by false rest = rest

kept_same : (keep keep_ : VarId → Bool) → ((v : VarId) → keep v ≡ keep_ v) → (vs : List VarId) (es : List VariableEntry) → kept keep vs es ≡ kept keep_ vs es
kept_same keep keep_ same [] es = refl
kept_same keep keep_ same (v ∷ vs) [] = refl
kept_same keep keep_ same (v ∷ vs) (e ∷ es) =
    let rest = kept_same keep keep_ same vs es in
    (λ i. cond (same v i) (e ∷ rest i) (rest i))

kept_all : (meta : Maps) (types : List ℕ) (keep : VarId → Bool) (k : ℕ) (vs : List VarId)
    → kept keep vs (variables_from meta types k vs) ≡ kept_variables meta types keep k vs
kept_all meta types keep k [] = refl
kept_all meta types keep k (v ∷ vs) =
    let rest = kept_all meta types keep (suc k) vs in
    (λ i. cond (keep v) (variable_entry meta types k v ∷ rest i) (rest i))

-- ---- one more variable

module _ (instances : List InlinedSubroutine) (vs : List VarId) (es : List VariableEntry) (v : VarId) (e : VariableEntry) (long : length es ≡ length vs) where
  -- the variable is of an instance, or the function's own
  abbrev is_at : Option ℕ → VarId → Bool
  is_at at w = option_eq nat_eq (place_of instances w) at

  other : (at : Option ℕ) → is_at at v ≡ false → kept (is_at at) (vs ++ v ∷ []) (es ++ e ∷ []) ≡ kept (is_at at) vs es
  other at is =
      kept_more (is_at at) vs es v e long ∙ ap (λ (b : Bool). kept (is_at at) vs es ++ cond b (e ∷ []) []) is ∙ append-nil (kept (is_at at) vs es)

  own_one : (at : Option ℕ) → is_at at v ≡ true → kept (is_at at) (vs ++ v ∷ []) (es ++ e ∷ []) ≡ kept (is_at at) vs es ++ e ∷ []
  own_one at is = kept_more (is_at at) vs es v e long ∙ ap (λ (b : Bool). kept (is_at at) vs es ++ cond b (e ∷ []) []) is

  -- it is of none of the calls from number k on
  filled_miss : (k : ℕ) (cs : List InlinedCall) → ((m : ℕ) → k ≤ m → is_at (Some m) v ≡ false)
      → filled instances (vs ++ v ∷ []) (es ++ e ∷ []) k cs ≡ filled instances vs es k cs
  filled_miss k [] miss = refl
  filled_miss k (c ∷ cs) miss =
      let one = other (Some k) (miss k (omega arith)) in
      let rest = filled_miss (suc k) cs (λ m le. miss m (omega (arith, le))) in
      (λ i. with_more c (one i) ∷ rest i)

  -- it is of one of them
  filled_hit : (k j : ℕ) (cs : List InlinedCall) (x : InlinedCall) → place_of instances v ≡ Some (k + j) → j < length cs
      → x ≡ with_more (get_or (filled instances vs es k cs) j x) (e ∷ [])
      → set (filled instances vs es k cs) j x ≡ filled instances (vs ++ v ∷ []) (es ++ e ∷ []) k cs
  filled_hit k j [] x at below is = absurd (omega (arith, below))
  filled_hit k zero (c ∷ cs) x at below is =
      let before = kept (is_at (Some k)) vs es in
      let here : is_at (Some k) v ≡ true =
      ap (λ (o : Option ℕ). option_eq nat_eq o (Some k)) at ∙ eq-eqb (k + 0) k (omega arith) in
      let miss : (m : ℕ) → suc k ≤ m → is_at (Some m) v ≡ false =
      λ m le. ap (λ (o : Option ℕ). option_eq nat_eq o (Some m)) at ∙ ne_eqb (k + 0) m (λ s. let same : k + 0 ≡ m = s in omega (arith, same, le)) in
      let first : x ≡ with_more c (kept (is_at (Some k)) (vs ++ v ∷ []) (es ++ e ∷ [])) =
      is
      ∙ (λ i. record {
        parent = c.parent;
        origin = c.origin;
        file = c.file;
        line = c.line;
        column = c.column;
        variables = append_assoc c.variables before (e ∷ []) i;
      })
      ∙ ap (with_more c) (sym (own_one (Some k) here)) in
      let rest = sym (filled_miss (suc k) cs miss) in
      (λ i. first i ∷ rest i)
  filled_hit k (suc j) (c ∷ cs) x at below is =
      let miss : is_at (Some k) v ≡ false =
      ap (λ (o : Option ℕ). option_eq nat_eq o (Some k)) at
      ∙ ne_eqb (k + suc j) k (λ s. let same : k + suc j ≡ k = s in omega (arith, same)) in
      let one = sym (other (Some k) miss) in
      let next : k + suc j ≡ suc k + j = omega arith in
      let rest = filled_hit (suc k) j cs x (at ∙ ap Some next) (omega (arith, below)) is in
      (λ i. with_more c (one i) ∷ rest i)

  longer : length (es ++ e ∷ []) ≡ length (vs ++ v ∷ [])
  longer = omega (arith, long, length_push es e, length_push vs v)

pub filled_length : (instances : List InlinedSubroutine) (vs : List VarId) (es : List VariableEntry) (k : ℕ) (cs : List InlinedCall)
    → length (filled instances vs es k cs) ≡ length cs
filled_length instances vs es k [] = refl
filled_length instances vs es k (c ∷ cs) = ap suc (filled_length instances vs es (suc k) cs)

pub divided_starts : (instances : List InlinedSubroutine) (empty : List InlinedCall) → AreDivided instances empty [] [] [] empty
divided_starts instances empty = record { long = refl; own_are = refl; calls_are = sym (unfilled 0 empty) }
  where
    unfilled : (k : ℕ) (cs : List InlinedCall) → filled instances [] [] k cs ≡ cs
    unfilled k [] = refl
    unfilled k (c ∷ cs) =
        let rest = unfilled (suc k) cs in
        (λ i. record { parent = c.parent; origin = c.origin; file = c.file; line = c.line; column = c.column; variables = append-nil c.variables i } ∷ rest i)

pub divided_own : (instances : List InlinedSubroutine) (empty : List InlinedCall) (vs : List VarId) (es own own_ : List VariableEntry) (calls : List InlinedCall)
    (v : VarId) (e : VariableEntry) → AreDivided instances empty vs es own calls → place_of instances v ≡ None → own_ ≡ own ++ e ∷ []
    → AreDivided instances empty (vs ++ v ∷ []) (es ++ e ∷ []) own_ calls
divided_own instances empty vs es own own_ calls v e so at pushed = record {
  long = longer instances vs es v e so.long;
  own_are =
      pushed ∙ ap (λ (xs : List VariableEntry). xs ++ e ∷ []) so.own_are
      ∙ sym (own_one instances vs es v e so.long None (ap (λ (o : Option ℕ). option_eq nat_eq o None) at));
  calls_are =
      so.calls_are ∙ sym (filled_miss instances vs es v e so.long 0 empty (λ m le. ap (λ (o : Option ℕ). option_eq nat_eq o (Some m)) at));
}

pub divided_inside : (instances : List InlinedSubroutine) (empty : List InlinedCall) (vs : List VarId) (es own : List VariableEntry)
    (calls calls_ : List InlinedCall) (v : VarId) (e : VariableEntry) (j : ℕ) (x : InlinedCall) → AreDivided instances empty vs es own calls
    → place_of instances v ≡ Some j → j < length empty → x ≡ with_more (get_or calls j x) (e ∷ []) → calls_ ≡ set calls j x
    → AreDivided instances empty (vs ++ v ∷ []) (es ++ e ∷ []) own calls_
divided_inside instances empty vs es own calls calls_ v e j x so at below is changed = record {
  long = longer instances vs es v e so.long;
  own_are =
      so.own_are ∙ sym (other instances vs es v e so.long None (ap (λ (o : Option ℕ). option_eq nat_eq o None) at));
  calls_are =
      let first : j ≡ 0 + j = omega arith in
      changed ∙ ap (λ (cs : List InlinedCall). set cs j x) so.calls_are
      ∙ filled_hit instances vs es v e so.long 0 j empty x (at ∙ ap Some first) below
      (is ∙ ap (λ (cs : List InlinedCall). with_more (get_or cs j x) (e ∷ [])) so.calls_are);
}

-- ---- all variables

-- the calls have the variables of their instances
calls_filled : (meta : Maps) (number : Option ℕ → ℕ) (types : List ℕ) (subprograms : List (Option ℕ)) (first : ℕ) (vs : List VarId)
    (instances : List InlinedSubroutine) (k : ℕ) (is : List InlinedSubroutine)
    → ((j : ℕ) (i : InlinedSubroutine) → slice_get is j ≡ Some i → (v : VarId) → option_eq nat_eq (place_of instances v) (Some (k + j)) ≡ is_in i.call v)
    → filled instances vs (variables_from meta types first vs) k (map (empty_call meta number subprograms) is)
    ≡ map (inlined_call meta number types subprograms first vs) is
calls_filled meta number types subprograms first vs instances k [] same = refl
calls_filled meta number types subprograms first vs instances k (i ∷ is) same =
    let here : k ≡ k + 0 = omega arith in
    let own : kept (λ v. option_eq nat_eq (place_of instances v) (Some k)) vs (variables_from meta types first vs)
    ≡ kept_variables meta types (is_in i.call) first vs =
    kept_same (λ v. option_eq nat_eq (place_of instances v) (Some k)) (is_in i.call)
    (λ v. ap (λ (m : ℕ). option_eq nat_eq (place_of instances v) (Some m)) here ∙ same 0 i refl v) vs (variables_from meta types first vs)
    ∙ kept_all meta types (is_in i.call) first vs in
    let rest =
    calls_filled meta number types subprograms first vs instances (suc k) is
    (λ j s at v. let next : suc k + j ≡ k + suc j = omega arith in
    ap (λ (m : ℕ). option_eq nat_eq (place_of instances v) (Some m)) next ∙ same (suc j) s at v) in
    (λ n. with_more (empty_call meta number subprograms i) (own n) ∷ rest n)

pub all_divided : (meta : Maps) (number : Option ℕ → ℕ) (types : List ℕ) (subprograms : List (Option ℕ)) (first : ℕ) (instances : List InlinedSubroutine)
    (empty : List InlinedCall) (vs : List VarId) (es own : List VariableEntry) (calls : List InlinedCall) → AreDistinct (map (λ s. s.call) instances)
    → AreDivided instances empty vs es own calls → es ≡ variables_from meta types first vs → empty ≡ map (empty_call meta number subprograms) instances
    → (own ≡ kept_variables meta types (is_own instances) first vs) × (calls ≡ map (inlined_call meta number types subprograms first vs) instances)
all_divided meta number types subprograms first instances empty vs es own calls once so es_are empty_are = (
  so.own_are ∙ ap (kept (λ v. option_eq nat_eq (place_of instances v) None) vs) es_are
      ∙ kept_same (λ v. option_eq nat_eq (place_of instances v) None) (is_own instances) (own_same instances) vs (variables_from meta types first vs)
      ∙ kept_all meta types (is_own instances) first vs,
  so.calls_are ∙ (λ n. filled instances vs (es_are n) 0 (empty_are n))
      ∙ calls_filled meta number types subprograms first vs instances 0 instances
      (λ j i at v. let same : 0 + j ≡ j = omega arith in
      ap (λ (m : ℕ). option_eq nat_eq (place_of instances v) (Some m)) same ∙ call_same instances j i once at v),
)
