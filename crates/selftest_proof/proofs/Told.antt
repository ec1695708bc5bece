-- The parts of variables that lists tell at an address.
use Rattle.std.proofs.Common.{◌≡◌, ℕ, zero, suc, ◌+◌, ◌≤◌, List, [], ◌∷◌, ◌++◌, length, map, Option, Some, None, Bool, true, false}
use Rattle.std.proofs.Common.{refl, sym, ap, ◌∙◌, length-append, arith}
use Rattle.std.specs.Prelude.{slice_get}
use Rattle.std.specs.List.{All, AllPairs}
use Rattle.std.proofs.lemmas.List.Elements.{All-nil, All-cons, All-head, All-tail, All-append, All-weaker, All-map}
use Rattle.std.proofs.lemmas.List.Sums.{sum_by-cons}
use Rattle.std.proofs.lemmas.List.{length-map}
use Rattle.rv64_instr.specs.declared.place.Place.{Place}
use Rattle.mir_func.specs.declared.variable.VarId.{VarId}
use Rattle.mir_func.specs.Parts.{Bytes}
use Rattle.mir_func.specs.Variables.{is_same_variable}
use Rattle.sem_mir.proofs.Assignments.{same_variable_refl}
use Rattle.dwarf_loclists.specs.declared.range.Part.{Part}
use Rattle.dwarf_loclists.specs.declared.range.Location.{Location}
use Rattle.dwarf_loclists.specs.declared.range.Location.TheVariants.{Whole, Parts}
use Rattle.dwarf_loclists.specs.declared.range.Range.{Range}
use Rattle.dwarf_loclists.specs.Ranges.{IsLocated, ArePieces, ArePlaces, location_in}
use Rattle.location_of_variable.specs.Groups.{part_of}
use Rattle.location_of_variable.specs.VariableLocation.{bytes_of}
use Rattle.selftest_count.proofs.sim_machine.Listed.{located}
use Rattle.selftest_count.specs.Counts.{values_of, read_at}
use Rattle.selftest_proof.specs.Known.{IsGiven}
use Rattle.selftest_proof.proofs.Fits.{Apart, apart_append, Passes}

-- a piece of a variable
abbrev pub piece_of : VarId → Part → VarId
piece_of v x = part_of v (Some (bytes_of x))

-- the parts that a location tells
abbrev pub told : VarId → Option Location → List VarId
told v None = []
told v (Some (Whole p)) = part_of v None ∷ []
told v (Some (Parts pieces)) = map (piece_of v) pieces

abbrev pub told_all : List VarId → List (List Range) → (address : ℕ) → List VarId
told_all [] lists a = []
told_all (v ∷ vs) [] a = []
told_all (v ∷ vs) (ranges ∷ lists) a = told v (location_in ranges a) ++ told_all vs lists a

-- ---- how many

told_count : (v : VarId) (o : Option Location) → length (told v o) ≡ values_of o
told_count v None = refl
told_count v (Some (Whole p)) = refl
told_count v (Some (Parts pieces)) = length-map pieces (piece_of v)

pub all_count : (vs : List VarId) (lists : List (List Range)) (a : ℕ) → length lists ≡ length vs → length (told_all vs lists a) ≡ read_at lists a
all_count [] [] a e = refl
all_count [] (ranges ∷ lists) a e = absurd cc
all_count (v ∷ vs) [] a e = absurd cc
all_count (v ∷ vs) (ranges ∷ lists) a e =
    let rest = all_count vs lists a (omega (arith, e)) in
    let first = told_count v (location_in ranges a) in
    omega (
      arith,
      length-append (told v (location_in ranges a)) (told_all vs lists a),
      rest,
      first,
      sum_by-cons (λ (r : List Range). values_of (location_in r a)) ranges lists,
    )

-- ---- they stand apart

pieces_above : (from : ℕ) (pieces : List Part) → ArePieces from pieces → All (λ x. from ≤ x.offset) pieces
pieces_above from [] h = All-nil (λ (x : Part). from ≤ x.offset)
pieces_above from (p ∷ pieces) h =
    All-cons (λ (x : Part). from ≤ x.offset) p pieces h.0.0
    (All-weaker (λ (x : Part). p.offset + p.length ≤ x.offset) (λ (x : Part). from ≤ x.offset) (λ x le. omega (arith, le, h.0.0)) pieces
    (pieces_above (p.offset + p.length) pieces h.1))

abbrev first_byte : Option Bytes → ℕ
first_byte None = 0
first_byte (Some b) = b.offset

piece_differs : (v : VarId) (x y : Part) → 1 ≤ x.length → x.offset + x.length ≤ y.offset → piece_of v x ≡ piece_of v y → ⊥
piece_differs v x y some above e =
    let same : x.offset ≡ y.offset = ap (λ (w : VarId). first_byte w.fragment) e in
    omega (arith, some, above, same)

pieces_apart : (v : VarId) (from : ℕ) (pieces : List Part) → ArePieces from pieces → Apart (map (piece_of v) pieces)
pieces_apart v from [] h = tt
pieces_apart v from (p ∷ pieces) h = (
  All-map (λ (w : VarId). piece_of v p ≡ w → ⊥) (piece_of v) pieces
      (All-weaker (λ (x : Part). p.offset + p.length ≤ x.offset) (λ (x : Part). piece_of v p ≡ piece_of v x → ⊥)
      (λ x above. piece_differs v p x h.0.1 above) pieces (pieces_above (p.offset + p.length) pieces h.1)),
  pieces_apart v (p.offset + p.length) pieces h.1,
)

told_apart : (v : VarId) (o : Option Location) → ((l : Location) → o ≡ Some l → IsLocated l) → Apart (told v o)
told_apart v None h = tt
told_apart v (Some (Whole p)) h = (All-nil (λ (w : VarId). part_of v None ≡ w → ⊥), tt)
told_apart v (Some (Parts [])) h = tt
told_apart v (Some (Parts (p ∷ pieces))) h = pieces_apart v 0 (p ∷ pieces) (h (Parts (p ∷ pieces)) refl)

-- what is told of a variable is a part of it
told_same : (u v : VarId) (o : Option Location) → All (λ w. is_same_variable u w ≡ is_same_variable u v) (told v o)
told_same u v None = All-nil (λ (w : VarId). is_same_variable u w ≡ is_same_variable u v)
told_same u v (Some (Whole p)) =
    let P : VarId → Type 0 = λ w. is_same_variable u w ≡ is_same_variable u v in
    All-cons P (part_of v None) [] refl (All-nil P)
told_same u v (Some (Parts pieces)) =
    All-map (λ (w : VarId). is_same_variable u w ≡ is_same_variable u v) (piece_of v) pieces (λ k d l. refl)

others_differ : (u : VarId) (vs : List VarId) (lists : List (List Range)) (a : ℕ) → All (λ w. is_same_variable u w ≡ false) vs →
    All (λ w. is_same_variable u w ≡ false) (told_all vs lists a)
others_differ u [] lists a h = All-nil (λ (w : VarId). is_same_variable u w ≡ false)
others_differ u (v ∷ vs) [] a h = All-nil (λ (w : VarId). is_same_variable u w ≡ false)
others_differ u (v ∷ vs) (ranges ∷ lists) a h =
    let P : VarId → Type 0 = λ w. is_same_variable u w ≡ false in
    All-append P (told v (location_in ranges a)) (told_all vs lists a)
    (All-weaker (λ (w : VarId). is_same_variable u w ≡ is_same_variable u v) P (λ w e. e ∙ All-head P v vs h) (told v (location_in ranges a))
    (told_same u v (location_in ranges a)))
    (others_differ u vs lists a (All-tail P v vs h))

no_truth : false ≡ true → ⊥
no_truth e = cc

pub all_apart : (vs : List VarId) (lists : List (List Range)) (a : ℕ) → AllPairs (λ v w. is_same_variable v w ≡ false) vs → All ArePlaces lists →
    Apart (told_all vs lists a)
all_apart [] lists a pairs places = tt
all_apart (v ∷ vs) [] a pairs places = tt
all_apart (v ∷ vs) (ranges ∷ lists) a pairs places =
    let differ : All (λ w. is_same_variable v w ≡ false) vs = λ k d l. pairs 0 (suc k) d (omega arith) (omega (arith, l)) in
    let others = others_differ v vs lists a differ in
    let own : VarId → Type 0 = λ x. is_same_variable v x ≡ is_same_variable v v in
    apart_append (told v (location_in ranges a)) (told_all vs lists a)
    (told_apart v (location_in ranges a) (λ l e. located ranges a l (All-head ArePlaces ranges lists places) e))
    (all_apart vs lists a (λ i j d lt l. pairs (suc i) (suc j) d (omega (arith, lt)) (omega (arith, l))) (All-tail ArePlaces ranges lists places))
    (All-weaker own (λ (x : VarId). All (λ y. x ≡ y → ⊥) (told_all vs lists a))
    (λ x e. All-weaker (λ (y : VarId). is_same_variable v y ≡ false) (λ (y : VarId). x ≡ y → ⊥)
    (λ y f q. no_truth (sym f ∙ ap (is_same_variable v) (sym q) ∙ e ∙ same_variable_refl v)) (told_all vs lists a) others)
    (told v (location_in ranges a)) (told_same v v (location_in ranges a)))

-- ---- they are known

module _ (gives : VarId → (address : ℕ) → Place → Type 0) (parts : List VarId) (a : ℕ) (known : VarId → Bool)
    (tells : (v : VarId) (p : Place) → gives v a p → Passes known parts v) where
  told_known : (v : VarId) (o : Option Location) → ((l : Location) → o ≡ Some l → IsGiven gives v a l) → All (Passes known parts) (told v o)
  told_known v None h = All-nil (Passes known parts)
  told_known v (Some (Whole p)) h =
      All-cons (Passes known parts) (part_of v None) [] (tells (part_of v None) p (h (Whole p) refl)) (All-nil (Passes known parts))
  told_known v (Some (Parts pieces)) h =
      All-map (Passes known parts) (piece_of v) pieces
      (All-weaker (λ (x : Part). gives (piece_of v x) a x.place) (λ (x : Part). Passes known parts (piece_of v x))
      (λ x g. tells (piece_of v x) x.place g) pieces (h (Parts pieces) refl))

  pub all_known : (vs : List VarId) (lists : List (List Range)) →
      ((k : ℕ) (v : VarId) (ranges : List Range) (l : Location) → slice_get vs k ≡ Some v → slice_get lists k ≡ Some ranges → location_in ranges a ≡ Some l →
      IsGiven gives v a l) → All (Passes known parts) (told_all vs lists a)
  all_known [] lists each = All-nil (Passes known parts)
  all_known (v ∷ vs) [] each = All-nil (Passes known parts)
  all_known (v ∷ vs) (ranges ∷ lists) each =
      All-append (Passes known parts) (told v (location_in ranges a)) (told_all vs lists a)
      (told_known v (location_in ranges a) (λ l e. each zero v ranges l refl refl e))
      (all_known vs lists (λ k w r l at here e. each (suc k) w r l at here e))
