-- The pieces of a variable's parts are those that are wanted.
--
-- `each` and `ascend` go by the parts' places alone. For `others` a part that has a place but is left out begins before the last piece
-- ends, so both overlap, and the last piece is of the same bytes: two different parts that overlap have no token on one path.
use Rattle.std.proofs.Common.{◌≡◌, ℕ, zero, suc, ◌+◌, ◌<◌, ◌≤◌, List, [], ◌∷◌, ◌++◌, map}
use Rattle.std.proofs.Common.{length, arith, refl, sym, ◌∙◌, ap, subst, inl, inr, ◌⊎◌, eqb-true, eq-eqb}
use Rattle.std.specs.Prelude.{Option, Some, None, option_to_list, Bool, true, false, cond}
use Rattle.std.specs.Prelude.{◌&&◌, nat_eq, nat_le, nat_lt, slice_get, slice_index_or, All, Contains}
use Rattle.std.specs.List.Sorted.{IsNonDecreasingBy}
use Rattle.std.proofs.lemmas.Bool.{and_parts, and_from}
use Rattle.std.proofs.lemmas.Bool.Decides.{nat_tests}
use Rattle.std.proofs.lemmas.Option.{slice_get_read}
use Rattle.std.proofs.lemmas.List.Elements.{All-nil, All-cons, All-head, All-tail}
use Rattle.rv64_instr.specs.declared.place.Place.{Place}
use Rattle.mir_func.specs.declared.position.Pos.{Pos}
use Rattle.mir_func.specs.declared.variable.VarId.{VarId}
use Rattle.mir_func.specs.Graph.{Program}
use Rattle.mir_func.specs.Parts.{Bytes, IsPart}
use Rattle.mir_func.specs.Variables.{is_same_node, is_same_variable, are_same_bytes, is_same, do_meet, overlaps}
use Rattle.sem_mir.specs.PreferredLocation.{SitsIn, IsPreferredLocation, NoneIsPreferred}
use Rattle.sem_mir.proofs.Assignments.{one_assigned}
use Rattle.dwarf_loclists.specs.declared.range.Part.{Part}
use Rattle.dwarf_loclists.specs.declared.range.Location.TheVariants.{Whole}
use Rattle.dwarf_loclists.specs.Ranges.{IsListed, ArePieces}
use Rattle.location_of_variable.specs.declared.group.Group.{Group}
use Rattle.location_of_variable.specs.declared.group.Piece.{Piece}
use Rattle.location_of_variable.specs.Groups.{part_of, IsPieceOf, IsWholeOf, IsGroupOf}
use Rattle.location_of_variable.specs.VariableLocation.{IsWantedPlace, bytes_of, AreWantedPieces, IsWantedLocation, MayBeListed, AreWantedPlaces}
use Rattle.location_of_variable.specs.steps.Telling.{place_at, piece_told, end_past, pieces_from, whole_place, in_pieces}

-- ---- bytes

pub is_same_itself : (a : Option ℕ) → is_same_node a a ≡ true
is_same_itself None = refl
is_same_itself (Some m) = eq-eqb m m refl

pub same_or : (b c : Bytes) → (b ≡ c) ⊎ (are_same_bytes (Some b) (Some c) ≡ false)
same_or b c = by_test (are_same_bytes (Some b) (Some c)) refl where
  by_test : (z : Bool) → are_same_bytes (Some b) (Some c) ≡ z → (b ≡ c) ⊎ (are_same_bytes (Some b) (Some c) ≡ false)
  by_test true e =
      let both = and_parts (nat_eq b.offset c.offset) (nat_eq b.length c.length) e in
      let o = eqb-true b.offset c.offset both.0 in
      let l = eqb-true b.length c.length both.1 in
      inl (λ i. record { offset = o i; length = l i })
  by_test false e = inr e

pub and_false : (b : Bool) → (b && false) ≡ false
and_false true = refl
and_false false = refl

-- ---- pieces that rise

abbrev pub Rises : ℕ → List Piece → Type 0
Rises low [] = Unit {0}
Rises low (x ∷ xs) = (low ≤ x.bytes.offset) × Rises x.bytes.offset xs

pub rises : (xs : List Piece) (low : ℕ) → IsNonDecreasingBy (λ (x : Piece). x.bytes.offset) xs →
    ((d : Piece) → 0 < length xs → low ≤ (slice_index_or xs 0 d).bytes.offset) → Rises low xs
rises [] low ascend least = tt
rises (x ∷ xs) low ascend least = (
  least x (omega arith),
  rises xs x.bytes.offset (λ i j d le lt. ascend (suc i) (suc j) d (omega (arith, le)) (omega (arith, lt))) (λ d some. ascend 0 1 d (omega arith)
      (omega (arith, some))),
)

-- ---- the pieces that parts get by their places
--
-- `Wants` says which place is wanted for some bytes, and `WantsNone` that none is.

module _ (Wants : Bytes → Place → Type 0) (WantsNone : Bytes → Type 0)
    (apart : (b c : Bytes) (q r : Place) → do_meet (Some b) (Some c) ≡ true → are_same_bytes (Some b) (Some c) ≡ false → Wants b q → Wants c r → ⊥) where
  abbrev pub WantsOrNone : Bytes → Option Place → Type 0
  WantsOrNone b None = WantsNone b
  WantsOrNone b (Some q) = Wants b q

  module _ (place : ℕ → Option Place) where
    -- what is known of a part: the place that is wanted for it, which may be listed
    pub record Given (x : Piece) : Type 0 where
      pub wanted : WantsOrNone x.bytes (place x.index)
      pub listed : (q : Place) → place x.index ≡ Some q → IsListed q
      pub part : IsPart x.bytes

    abbrev piece_of : Bytes → Place → Part
    piece_of b q = record { offset = b.offset; length = b.length; place = q }

    -- the pieces from a part on, where this is its place
    abbrev from_place : Option Place → (from : ℕ) → Piece → List Piece → List Part
    from_place o from x xs = option_to_list (piece_told o from x.bytes) ++ pieces_from place (end_past (piece_told o from x.bytes) from) xs

    abbrev from_test : Bool → Place → (from : ℕ) → Piece → List Piece → List Part
    from_test z q from x xs =
        option_to_list (cond z (Some (piece_of x.bytes q)) None) ++ pieces_from place (end_past (cond z (Some (piece_of x.bytes q)) None) from) xs

    abbrev pub IsAtWanted : Part → Type 0
    IsAtWanted y = Wants (bytes_of y) y.place

    each_place : (o : Option Place) (x : Piece) (xs : List Piece) (from : ℕ) → WantsOrNone x.bytes o →
        ((from : ℕ) → All IsAtWanted (pieces_from place from xs)) → All IsAtWanted (from_place o from x xs)
    each_place None x xs from wanted rest = rest from
    each_place (Some q) x xs from wanted rest = elim (nat_le from x.bytes.offset) as (λ (z : Bool). All IsAtWanted (from_test z q from x xs)) [
      | true ↦ All-cons IsAtWanted (piece_of x.bytes q) (pieces_from place (x.bytes.offset + x.bytes.length) xs) wanted
          (rest (x.bytes.offset + x.bytes.length))
      | false ↦ rest from
    ]

    pub told_each : (xs : List Piece) (from : ℕ) → All Given xs → All IsAtWanted (pieces_from place from xs)
    told_each [] from given = All-nil IsAtWanted
    told_each (x ∷ xs) from given =
        each_place (place x.index) x xs from (All-head Given x xs given).wanted (λ from. told_each xs from (All-tail Given x xs given))

    ascend_place : (o : Option Place) (x : Piece) (xs : List Piece) (from : ℕ) → ((q : Place) → o ≡ Some q → IsListed q) → IsPart x.bytes →
        ((from : ℕ) → ArePieces from (pieces_from place from xs)) → ArePieces from (from_place o from x xs)
    ascend_place None x xs from listed part rest = rest from
    ascend_place (Some q) x xs from listed part rest = by_test (nat_le from x.bytes.offset) refl where
      by_test : (z : Bool) → nat_le from x.bytes.offset ≡ z → ArePieces from (from_test z q from x xs)
      by_test true e =
          let le : from ≤ x.bytes.offset = grind (arith, nat_tests, e) in
          let end = part.2 in
          ((le, part.0, part.1, omega (arith, end), listed q refl), rest (x.bytes.offset + x.bytes.length))
      by_test false e = rest from

    pub told_ascend : (xs : List Piece) (from : ℕ) → All Given xs → ArePieces from (pieces_from place from xs)
    told_ascend [] from given = tt
    told_ascend (x ∷ xs) from given =
        let head = All-head Given x xs given in
        ascend_place (place x.index) x xs from head.listed head.part (λ from. told_ascend xs from (All-tail Given x xs given))

    -- ---- the parts that have no piece

    -- the last piece ends where the next may begin
    abbrev pub IsLast : Option Part → (from low : ℕ) → Type 0
    IsLast None from low = from ≡ 0
    IsLast (Some y) from low = (from ≡ y.offset + y.length) × IsAtWanted y × (y.offset ≤ low)

    -- some bytes have a piece among these, or are those of the last one before, or no place is wanted for them
    pub data Told (ys : List Part) (last : Option Part) (b : Bytes) : Type 0 where
      among : Contains (map bytes_of ys) b → Told ys last b
      nowhere : WantsNone b → Told ys last b
      before : (y : Part) → last ≡ Some y → bytes_of y ≡ b → Told ys last b

    last_later : (last : Option Part) (from low high : ℕ) → low ≤ high → IsLast last from low → IsLast last from high
    last_later None from low high le is = is
    last_later (Some y) from low high le is = (is.0, is.1, let h = is.2 in omega (arith, h, le))

    first_is : (y : Part) (ys : List Part) → Contains (map bytes_of (y ∷ ys)) (bytes_of y)
    first_is y ys = (0, omega arith, refl)

    later_is : (y : Part) (ys : List Part) (b : Bytes) → Contains (map bytes_of ys) b → Contains (map bytes_of (y ∷ ys)) b
    later_is y ys b (k, lt, e) = (suc k, omega (arith, lt), e)

    told_more : (y : Part) (ys : List Part) (last : Option Part) (b : Bytes) → Told ys (Some y) b → Told (y ∷ ys) last b
    told_more y ys last b (among c) = among (later_is y ys b c)
    told_more y ys last b (nowhere none) = nowhere none
    told_more y ys last b (before z e is) =
        let same : y ≡ z = cc in
        among (subst (Contains (map bytes_of (y ∷ ys))) (ap bytes_of same ∙ is) (first_is y ys))

    -- a part that begins before the last piece ends is of its bytes
    left_out : (last : Option Part) (x : Piece) (q : Place) (from low : ℕ) (ys : List Part) → IsLast last from low → low ≤ x.bytes.offset →
        x.bytes.offset < from → IsPart x.bytes → Wants x.bytes q → Told ys last x.bytes
    left_out None x q from low ys is le lt part wanted = absurd (omega (arith, is, lt))
    left_out (Some y) x q from low ys is le lt part wanted = elim (same_or (bytes_of y) x.bytes) [
      | inl same ↦ before y refl same
      | inr differ ↦ absurd (
          let some = part.0 in
          let end = is.0 in
          let begins = is.2 in
          let a : nat_lt y.offset (x.bytes.offset + x.bytes.length) ≡ true = grind (arith, nat_tests, begins, le, some) in
          let c : nat_lt x.bytes.offset (y.offset + y.length) ≡ true = grind (arith, nat_tests, lt, end) in
          let meet : do_meet (Some (bytes_of y)) (Some x.bytes) ≡ true = and_from (nat_lt y.offset (x.bytes.offset + x.bytes.length))
          (nat_lt x.bytes.offset (y.offset + y.length)) a c in
          apart (bytes_of y) x.bytes y.place q meet differ is.1 wanted)
    ]

    -- the first part itself
    here_place : (o : Option Place) (x : Piece) (xs : List Piece) (from low : ℕ) (last : Option Part) → IsLast last from low → low ≤ x.bytes.offset →
        IsPart x.bytes → WantsOrNone x.bytes o → Told (from_place o from x xs) last x.bytes
    here_place None x xs from low last is le part wanted = nowhere wanted
    here_place (Some q) x xs from low last is le part wanted = by_test (nat_le from x.bytes.offset) refl where
      by_test : (z : Bool) → nat_le from x.bytes.offset ≡ z → Told (from_test z q from x xs) last x.bytes
      by_test true e = among (first_is (piece_of x.bytes q) (pieces_from place (x.bytes.offset + x.bytes.length) xs))
      by_test false e =
          let lt : x.bytes.offset < from = grind (arith, nat_tests, e) in
          left_out last x q from low (pieces_from place from xs) is le lt part wanted

    -- a later one
    below_place : (o : Option Place) (x : Piece) (xs : List Piece) (from low : ℕ) (last : Option Part) (b : Bytes) → IsLast last from low →
        low ≤ x.bytes.offset → WantsOrNone x.bytes o →
        ((from : ℕ) (last : Option Part) → IsLast last from x.bytes.offset → Told (pieces_from place from xs) last b) → Told (from_place o from x xs) last b
    below_place None x xs from low last b is le wanted rest = rest from last (last_later last from low x.bytes.offset le is)
    below_place (Some q) x xs from low last b is le wanted rest = elim (nat_le from x.bytes.offset) as (λ (z : Bool). Told (from_test z q from x xs) last b) [
      | true ↦ told_more (piece_of x.bytes q) (pieces_from place (x.bytes.offset + x.bytes.length) xs) last b
          (rest (x.bytes.offset + x.bytes.length) (Some (piece_of x.bytes q)) (refl, wanted, omega arith))
      | false ↦ rest from last (last_later last from low x.bytes.offset le is)
    ]

    pub told_covers : (xs : List Piece) (from low : ℕ) (last : Option Part) → IsLast last from low → Rises low xs → All Given xs → (i : ℕ) (x : Piece) →
        slice_get xs i ≡ Some x → Told (pieces_from place from xs) last x.bytes
    told_covers [] from low last is up given i x e = absurd (let no : None ≡ Some x = e in cc)
    told_covers (y ∷ xs) from low last is up given zero x e =
        let same : y ≡ x = cc in
        let head = All-head Given y xs given in
        subst (λ (z : Piece). Told (pieces_from place from (y ∷ xs)) last z.bytes) same
        (here_place (place y.index) y xs from low last is up.0 head.part head.wanted)
    told_covers (y ∷ xs) from low last is up given (suc i) x e =
        below_place (place y.index) y xs from low last x.bytes is up.0 (All-head Given y xs given).wanted
        (λ from last is. told_covers xs from y.bytes.offset last is up.1 (All-tail Given y xs given) i x e)

-- ---- at a position

module _ (g : Program) (start p : Pos) (v : VarId) where
  abbrev Wanted : Bytes → Place → Type 0
  Wanted b q = IsPreferredLocation g start (part_of v (Some b)) p q

  abbrev NoneWanted : Bytes → Type 0
  NoneWanted b = NoneIsPreferred g start (part_of v (Some b)) p

  -- two parts that overlap, and sit somewhere, are one
  pub apart_sits : (b c : Bytes) (q r : Place) → do_meet (Some b) (Some c) ≡ true → are_same_bytes (Some b) (Some c) ≡ false →
      SitsIn g start (part_of v (Some b)) q p → SitsIn g start (part_of v (Some c)) r p → ⊥
  apart_sits b c q r meet differ x y =
      let path = x.reached in
      let one = x.same path.0 path.1 path.2 in
      let other = y.same path.0 path.1 path.2 in
      let v1 = part_of v (Some b) in
      let v2 = part_of v (Some c) in
      let variable : is_same_variable v1 v2 ≡ true = and_from (nat_eq v.node v.node) (is_same_node v.inlined_at v.inlined_at) (eq-eqb v.node v.node refl)
      (is_same_itself v.inlined_at) in
      let meets : overlaps v1 v2 ≡ true = and_from (is_same_variable v1 v2) (do_meet (Some b) (Some c)) variable meet in
      let differs : is_same v1 v2 ≡ false = ap (λ (z : Bool). is_same_variable v1 v2 && z) differ ∙ and_false (is_same_variable v1 v2) in
      one_assigned v1 v2 (path.1).marks one.0 other.0 meets differs one.1 other.1

  apart : (b c : Bytes) (q r : Place) → do_meet (Some b) (Some c) ≡ true → are_same_bytes (Some b) (Some c) ≡ false → Wanted b q → Wanted c r → ⊥
  apart b c q r meet differ x y = apart_sits b c q r meet differ x.sits y.sits

  wanted_or_none : (b : Bytes) (o : Option Place) → IsWantedPlace g start (part_of v (Some b)) p o → WantsOrNone Wanted NoneWanted apart b o
  wanted_or_none b None is = is
  wanted_or_none b (Some q) is = is

-- ---- the location

module _ (g : Program) (start p : Pos) (parts : List VarId) (places : List (Option Place)) (are : AreWantedPlaces g start p parts places) (v : VarId)
    (group : Group) (is : IsGroupOf parts v group) where
  whole_by : (o : Option ℕ) → IsWholeOf parts v o → IsWantedPlace g start (part_of v None) p (whole_place (place_at places) o)
  whole_by None none = are.others (part_of v None) (λ (k, lt, e). none k (slice_get_read parts (length parts) k (part_of v None) refl lt (sym e)))
  whole_by (Some j) at = are.each j (part_of v None) at

  -- the place of the whole
  pub whole_wanted : (q : Place) → whole_place (place_at places) group.whole ≡ Some q → IsWantedLocation g start v p (Some (Whole q))
  whole_wanted q e = subst (IsWantedPlace g start (part_of v None) p) e (whole_by group.whole is.whole)

  pub whole_listed : (q : Place) → whole_place (place_at places) group.whole ≡ Some q → IsListed q
  whole_listed q e = listed_by group.whole e where
    listed_by : (o : Option ℕ) → whole_place (place_at places) o ≡ Some q → IsListed q
    listed_by None e = absurd (let no : None ≡ Some q = e in cc)
    listed_by (Some j) e = are.listed j q e

  abbrev IsGiven : Piece → Type 0
  IsGiven = Given (Wanted g start p v) (NoneWanted g start p v) (apart g start p v) (place_at places)

  given : (x : Piece) → IsPieceOf parts v x × IsPart x.bytes → IsGiven x
  given x (at, part) = record {
    wanted = wanted_or_none g start p v x.bytes (place_at places x.index) (are.each x.index (part_of v (Some x.bytes)) at);
    listed = are.listed x.index;
    part = part;
  }

  all_given : (xs : List Piece) → All (IsPieceOf parts v) xs → All (λ (x : Piece). IsPart x.bytes) xs → All IsGiven xs
  all_given xs each bounds = λ k d lt. given (slice_index_or xs k d) (each k d lt, bounds k d lt)

  module _ (bounds : All (λ (x : Piece). IsPart x.bytes) group.pieces.items) where
    abbrev told : List Part
    told = pieces_from (place_at places) 0 group.pieces.items

    all : All IsGiven group.pieces.items
    all = all_given group.pieces.items is.each bounds

    others : (b : Bytes) → (Contains (map bytes_of told) b → ⊥) → NoneIsPreferred g start (part_of v (Some b)) p
    others b not q named sits =
        are.others (part_of v (Some b))
        (λ (j, lt, e). at_index j (slice_get_read parts (length parts) j (part_of v (Some b)) refl lt (sym e))) q named sits
      where
        by_told : Told (Wanted g start p v) (NoneWanted g start p v) (apart g start p v) (place_at places) told None b → ⊥
        by_told (among c) = not c
        by_told (nowhere none) = none q named sits
        by_told (before y e same) = absurd (let no : None ≡ Some y = e in cc)

        at_index : (j : ℕ) → slice_get parts j ≡ Some (part_of v (Some b)) → ⊥
        at_index j at =
            let x : Piece = record { bytes = b; index = j } in
            let c = is.all j b at in
            by_told (told_covers (Wanted g start p v) (NoneWanted g start p v) (apart g start p v) (place_at places) group.pieces.items 0 0 None refl
            (rises group.pieces.items 0 is.ascend (λ d some. omega arith)) all c.0 x
            (slice_get_read group.pieces.items (length group.pieces.items) c.0 x refl c.1 (sym c.2)))

    pieces_by : (ys : List Part) → NoneIsPreferred g start (part_of v None) p → AreWantedPieces g start v p ys → IsWantedLocation g start v p (in_pieces ys)
    pieces_by [] whole are = by_bytes where
      by_bytes : (b : Option Bytes) → NoneIsPreferred g start (part_of v b) p
      by_bytes None = whole
      by_bytes (Some b) = are.others b (λ (k, lt, e). omega (arith, lt))
    pieces_by (y ∷ ys) whole are = (whole, are)

    -- the pieces, where the whole has no place
    pub pieces_wanted : whole_place (place_at places) group.whole ≡ None → IsWantedLocation g start v p (in_pieces told)
    pieces_wanted e =
        pieces_by told (subst (IsWantedPlace g start (part_of v None) p) e (whole_by group.whole is.whole))
        (record {
          each = told_each (Wanted g start p v) (NoneWanted g start p v) (apart g start p v) (place_at places) group.pieces.items 0 all;
          others = others;
          ascend = told_ascend (Wanted g start p v) (NoneWanted g start p v) (apart g start p v) (place_at places) group.pieces.items 0 all;
        })

    pub pieces_listed : whole_place (place_at places) group.whole ≡ None → MayBeListed (in_pieces told)
    pieces_listed e = listed_by told (pieces_wanted e) where
      listed_by : (ys : List Part) → IsWantedLocation g start v p (in_pieces ys) → MayBeListed (in_pieces ys)
      listed_by [] wanted = tt
      listed_by (y ∷ ys) wanted = wanted.1.ascend

-- ---- a location goes by the places of the group's parts

pub same_whole : (place other : ℕ → Option Place) (o : Option ℕ) → ((j : ℕ) → o ≡ Some j → place j ≡ other j) → whole_place place o ≡ whole_place other o
same_whole place other None same = refl
same_whole place other (Some j) same = same j refl

pub same_pieces : (place other : ℕ → Option Place) (xs : List Piece) (from : ℕ) → All (λ (x : Piece). place x.index ≡ other x.index) xs →
    pieces_from place from xs ≡ pieces_from other from xs
same_pieces place other [] from same = refl
same_pieces place other (x ∷ xs) from same =
    let is : Piece → Type 0 = λ y. place y.index ≡ other y.index in
    let end = end_past (piece_told (other x.index) from x.bytes) from in
    ap (λ (o : Option Place). option_to_list (piece_told o from x.bytes) ++ pieces_from place (end_past (piece_told o from x.bytes) from) xs)
    (All-head is x xs same)
    ∙ ap (λ (ys : List Part). option_to_list (piece_told (other x.index) from x.bytes) ++ ys) (same_pieces place other xs end (All-tail is x xs same))
