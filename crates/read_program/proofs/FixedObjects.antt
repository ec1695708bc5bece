-- The fixed objects of a function: they are sound, apart from each other and from the objects among the stack entries, and where they must be.
use Rattle.std.proofs.Common.{◌≡◌, ◌⊎◌, ℕ, suc, ◌+◌, ◌-◌, ◌≤◌, max, ℤ, pos, negsuc, Bool, true, false, ◌||◌, eqb, List, [], ◌∷◌, ◌++◌, map, length, All}
use Rattle.std.proofs.Common.{Option, Some}
use Rattle.std.proofs.Common.{None, refl, sym, ap, subst, ◌∙◌, append_assoc, append-nil, inl, inr, arith}
use Rattle.std.specs.List.{slice_get}
use Rattle.std.proofs.lemmas.Bool.{or_left, or_right, eq-eqb}
use Rattle.std.proofs.lemmas.List.{map-append}
use Rattle.std.proofs.lemmas.List.Elements.{All-nil, All-cons, All-head, All-tail, All-map, All-weaker, All-append}
use Rattle.base_ids.specs.Limits.{MAX_NUMBER, FIXED}
use Rattle.mir_func.specs.declared.object.Object.{Object}
use Rattle.mir_func.specs.Objects.{ALIGNMENTS, up_to, reach_after, reach_from, block_size, counted, local_count, local_offsets, depth_of, depth_from}
use Rattle.mir_func.specs.Objects.{HasNoFixed}
use Rattle.mir_func.specs.Objects.{end_past, own_end, end_from, AreLaidFrom, area_of, IsFixedAt, AreLaid}
use Rattle.mir_func.specs.Sound.{AreApart, IsSoundObject}
use Rattle.mir_func.proofs.Ends.{no_fixed_area}
use Rattle.mir_func.proofs.Fixed.{none_fixed}
use Rattle.mir_func.proofs.Once.{apart_head, apart_tail}
use Rattle.read_body.specs.read_declarations.declared.fixed.FixedEntry.{FixedEntry}
use Rattle.read_body.specs.read_declarations.Fixed.{fixed_ids}
use Rattle.read_body.specs.FirstUseOrder.{is_met, met}
use Rattle.read_body.specs.FixedObjects.{IsFixedEntry, from_end, fixed_object, fixed_depth, area_with, with_fixed}
pub use Rattle.read_body.proofs.FixedObjects.{with_is}
use Rattle.read_program.specs.Closing.{fixed_behind}
use Rattle.read_program.proofs.Entries.{met_cases}
use Rattle.read_program.proofs.Frames.{met_push}
use Rattle.read_program.proofs.Lists.{apart_push, met_at, met_contains, found}

-- ---- the area

depths_fixed : (n area : ℕ) (es : List FixedEntry) → depth_from n (map (fixed_object area) es) ≡ fixed_depth n es
unfolding fixed_depth
depths_fixed n area [] = refl
depths_fixed n area (e ∷ es) = depths_fixed (max n (depth_of (Some e.offset))) area es

depths_behind : (n : ℕ) (os ps : List Object) → HasNoFixed os → depth_from n (os ++ ps) ≡ depth_from n ps
depths_behind n [] ps none = refl
depths_behind n (o ∷ os) ps none =
    let here : o.fixed_offset ≡ None = All-head (λ (x : Object). x.fixed_offset ≡ None) o os none in
    let depth : depth_of o.fixed_offset ≡ 0 = ap depth_of here in
    let same : max n (depth_of o.fixed_offset) ≡ n = omega (arith, depth) in
    ap (λ (m : ℕ). depth_from m (os ++ ps)) same ∙ depths_behind n os ps (All-tail (λ (x : Object). x.fixed_offset ≡ None) o os none)

ends_fixed : (n area : ℕ) (es : List FixedEntry) → end_from n (map (fixed_object area) es) ≡ n
ends_fixed n area [] = refl
ends_fixed n area (e ∷ es) = ends_fixed n area es

ends_behind : (n : ℕ) (os ps : List Object) → end_from n (os ++ ps) ≡ end_from (end_from n os) ps
ends_behind n [] ps = refl
ends_behind n (o ∷ os) ps = ends_behind (own_end n o o.fixed_offset) os ps

-- the area of objects of which none is fixed and fixed ones behind them
pub area_is : (os : List Object) (area : ℕ) (es : List FixedEntry) → HasNoFixed os → area_of (os ++ map (fixed_object area) es) ≡ area_with os es
area_is os area es none =
    let ends : end_from 0 (os ++ map (fixed_object area) es) ≡ end_from 0 os =
    ends_behind 0 os (map (fixed_object area) es) ∙ ends_fixed (end_from 0 os) area es in
    let depths : depth_from 0 (os ++ map (fixed_object area) es) ≡ fixed_depth 0 es =
    depths_behind 0 os (map (fixed_object area) es) none ∙ depths_fixed 0 area es in
    ap (λ (n : ℕ). up_to 16 n + up_to 16 (depth_from 0 (os ++ map (fixed_object area) es))) ends
    ∙ ap (λ (n : ℕ). up_to 16 (end_from 0 os) + up_to 16 n) depths
    ∙ ap (λ (n : ℕ). n + up_to 16 (fixed_depth 0 es)) (sym (no_fixed_area os none))

-- ---- places

reach_fixed : (n area : ℕ) (es : List FixedEntry) → reach_from n (local_offsets (map (fixed_object area) es)) ≡ n
reach_fixed n area [] = refl
reach_fixed n area (e ∷ es) = reach_fixed n area es

reach_behind : (n : ℕ) (os ps : List Object) → reach_from n (local_offsets (os ++ ps)) ≡ reach_from (reach_from n (local_offsets os)) (local_offsets ps)
reach_behind n [] ps = refl
reach_behind n (o ∷ os) ps = reach_behind (reach_after n o.local_offset) os ps

count_fixed : (area : ℕ) (es : List FixedEntry) → local_count (local_offsets (map (fixed_object area) es)) ≡ 0
count_fixed area [] = refl
count_fixed area (e ∷ es) =
    let more : 0 + local_count (local_offsets (map (fixed_object area) es)) ≡ 0 = omega (arith, count_fixed area es) in more

count_behind : (os ps : List Object) →
    local_count (local_offsets (os ++ ps)) ≡ local_count (local_offsets os) + local_count (local_offsets ps)
count_behind [] ps = omega arith
count_behind (o ∷ os) ps = omega (arith, count_behind os ps)

laid_fixed : (block n area : ℕ) (es : List FixedEntry) → AreLaidFrom block n (map (fixed_object area) es)
laid_fixed block n area [] = tt
laid_fixed block n area (e ∷ es) = (tt, laid_fixed block n area es)

laid_behind : (block n : ℕ) (os ps : List Object) → AreLaidFrom block n os → ((m : ℕ) → AreLaidFrom block m ps) → AreLaidFrom block n (os ++ ps)
laid_behind block n [] ps is rest = rest n
laid_behind block n (o ∷ os) ps is rest = (is.0, laid_behind block (end_past n o o.fixed_offset) os ps is.1 rest)

at_end : (area : ℕ) (d : ℤ) → depth_of (Some d) ≤ area → IsFixedAt area (from_end area d) (Some d)
at_end area (pos n) low = refl
at_end area (negsuc n) low = omega (arith, low)

depth_above : (n : ℕ) (es : List FixedEntry) → n ≤ fixed_depth n es
unfolding fixed_depth
depth_above n [] = omega arith
depth_above n (e ∷ es) = omega (arith, depth_above (max n (depth_of (Some e.offset))) es)

each_depth : (n : ℕ) (es : List FixedEntry) → All (λ (e : FixedEntry). depth_of (Some e.offset) ≤ fixed_depth n es) es
unfolding fixed_depth
each_depth n [] = All-nil (λ (e : FixedEntry). depth_of (Some e.offset) ≤ n)
each_depth n (e ∷ es) =
    let next : ℕ = max n (depth_of (Some e.offset)) in
    All-cons (λ (x : FixedEntry). depth_of (Some x.offset) ≤ fixed_depth next es) e es (omega (arith, depth_above next es)) (each_depth next es)

at_ends : (area : ℕ) (es : List FixedEntry) → All (λ (e : FixedEntry). depth_of (Some e.offset) ≤ area) es →
    All (λ (o : Object). IsFixedAt area o.offset o.fixed_offset) (map (fixed_object area) es)
at_ends area es low =
    All-map (λ (o : Object). IsFixedAt area o.offset o.fixed_offset) (fixed_object area) es
    (All-weaker (λ (e : FixedEntry). depth_of (Some e.offset) ≤ area) (λ (e : FixedEntry). IsFixedAt area (from_end area e.offset) (Some e.offset))
    (λ e l. at_end area e.offset l) es low)

module _ (os : List Object) (es : List FixedEntry) where
  abbrev area : ℕ
  area = area_with os es

  abbrev fixed : List Object
  fixed = map (fixed_object area) es

  laid_behind_own : HasNoFixed os → AreLaid os → AreLaid (os ++ fixed)
  laid_behind_own none laid =
      let own = block_size (local_offsets os) in
      let block : block_size (local_offsets (os ++ fixed)) ≡ own =
      ap (up_to 16) (reach_behind 0 os fixed ∙ reach_fixed (reach_from 0 (local_offsets os)) area es) in
      let low = All-weaker (λ (e : FixedEntry). depth_of (Some e.offset) ≤ fixed_depth 0 es) (λ (e : FixedEntry). depth_of (Some e.offset) ≤ area)
      (λ e l. omega (arith, l)) es (each_depth 0 es) in
      record {
        each = subst (λ (n : ℕ). AreLaidFrom n n (os ++ fixed)) (sym block) (laid_behind own own os fixed laid.each (λ m. laid_fixed own m area es));
        several = λ one. laid.several (omega (arith, count_behind os fixed, count_fixed area es, one));
        fixed = subst (λ (n : ℕ). All (λ (o : Object). IsFixedAt n o.offset o.fixed_offset) (os ++ fixed)) (sym (area_is os area es none))
            (All-append (λ (o : Object). IsFixedAt area o.offset o.fixed_offset) os fixed (none_fixed area os none) (at_ends area es low));
      }

  pub laid_with : HasNoFixed os → AreLaid os → AreLaid (with_fixed os es)
  laid_with none laid = subst AreLaid (sym (with_is os es)) (laid_behind_own none laid)

  -- ---- soundness

  pub sound_with : All IsSoundObject os → All IsFixedEntry es → All IsSoundObject (with_fixed os es)
  sound_with sound each =
      subst (All IsSoundObject) (sym (with_is os es)) (All-append IsSoundObject os fixed sound (All-map IsSoundObject (fixed_object area) es
      (All-weaker IsFixedEntry (λ (e : FixedEntry). IsSoundObject (fixed_object area e))
      (λ e is. record { size = is.size; aligned = met_contains ALIGNMENTS 1 refl; local = tt; fixed = (is.offset, refl) }) es each)))

-- ---- numbers

fixed_numbers : (area : ℕ) (es : List FixedEntry) → map (λ (o : Object). o.id) (map (fixed_object area) es) ≡ fixed_ids es
fixed_numbers area [] = refl
fixed_numbers area (e ∷ es) = ap (λ (ns : List ℕ). e.id ∷ ns) (fixed_numbers area es)

apart_append : (ns ms : List ℕ) → AreApart ns → AreApart ms → ((n : ℕ) → is_met n ns ≡ true → is_met n ms ≡ true → ⊥) → AreApart (ns ++ ms)
apart_append ns [] first second other = subst AreApart (sym (append-nil ns)) first
apart_append ns (m ∷ ms) first second other =
    let here : is_met m (m ∷ ms) ≡ true = or_left (eqb m m) (is_met m ms) (eq-eqb m m refl) in
    subst AreApart (append_assoc ns (m ∷ []) ms) (apart_append (ns ++ m ∷ []) ms (apart_push ns m (λ i at. other m (met_at ns i m at) here) first)
    (apart_tail m ms second) (λ n left right. elim (met_push n m ns left) [
      | inl old ↦ other n old (or_right (eqb n m) (is_met n ms) right)
      | inr same ↦ (let at = found ms n right in apart_head m ms at.0 second (at.1 ∙ ap (λ (k : ℕ). Some k) same))
    ]))

-- a number that is met in a list of small or of great ones is one
pub met_all : (P : ℕ → Type 0) (ns : List ℕ) (n : ℕ) → All P ns → is_met n ns ≡ true → P n
met_all P ns n all is = let at = met_contains ns n is in subst P (at.2) (all at.0 n at.1)

pub numbers_with : (os : List Object) (es : List FixedEntry) → AreApart (map (λ (o : Object). o.id) os) → AreApart (fixed_ids es) →
    All (λ n. n ≤ MAX_NUMBER) (map (λ (o : Object). o.id) os) → All (λ n. FIXED ≤ n) (fixed_ids es) → AreApart (map (λ (o : Object). o.id) (with_fixed os es))
numbers_with os es first second small great =
    let same : map (λ (o : Object). o.id) (with_fixed os es) ≡ map (λ (o : Object). o.id) os ++ fixed_ids es =
    ap (map (λ (o : Object). o.id)) (with_is os es) ∙ map-append (λ (o : Object). o.id) os (map (fixed_object (area_with os es)) es)
    ∙ ap (λ (ns : List ℕ). map (λ (o : Object). o.id) os ++ ns) (fixed_numbers (area_with os es) es) in
    subst AreApart (sym same) (apart_append (map (λ (o : Object). o.id) os) (fixed_ids es) first second
    (λ n left right. (let low = met_all (λ k. k ≤ MAX_NUMBER) (map (λ (o : Object). o.id) os) n small left in
    let high = met_all (λ k. FIXED ≤ k) (fixed_ids es) n great right in omega (arith, low, high))))

-- ---- what is declared

-- the number of a stack entry or of a fixed object
pub known_cases : (n : ℕ) (ids : List ℕ) (es : List FixedEntry) → is_met n (fixed_behind ids es) ≡ true →
    (is_met n ids ≡ true) ⊎ (is_met n (fixed_ids es) ≡ true)
known_cases n ids [] is = inl is
known_cases n ids (e ∷ es) is = elim (known_cases n (met e.id ids) es is) [
  | inl old ↦ elim (met_cases n e.id ids old) [
    | inl there ↦ inl there
    | inr same ↦ inr (or_left (eqb n e.id) (is_met n (fixed_ids es)) (eq-eqb n e.id same))
  ]
  | inr more ↦ inr (or_right (eqb n e.id) (is_met n (fixed_ids es)) more)
]

-- a small number is that of a stack entry
pub known_entry : (n : ℕ) (ids : List ℕ) (es : List FixedEntry) → All (λ k. FIXED ≤ k) (fixed_ids es) → n ≤ MAX_NUMBER → is_met n (fixed_behind ids es) ≡ true →
    is_met n ids ≡ true
known_entry n ids es great small is = elim (known_cases n ids es is) [
  | inl entry ↦ entry
  | inr fixed ↦ (let high = met_all (λ k. FIXED ≤ k) (fixed_ids es) n great fixed in absurd (omega (arith, small, high)))
]

-- a great one is that of a fixed object
pub known_fixed : (n : ℕ) (ids : List ℕ) (es : List FixedEntry) → All (λ k. k ≤ MAX_NUMBER) ids → FIXED ≤ n → is_met n (fixed_behind ids es) ≡ true →
    is_met n (fixed_ids es) ≡ true
known_fixed n ids es small great is = elim (known_cases n ids es is) [
  | inl entry ↦ (let low = met_all (λ k. k ≤ MAX_NUMBER) ids n small entry in absurd (omega (arith, great, low)))
  | inr fixed ↦ fixed
]
