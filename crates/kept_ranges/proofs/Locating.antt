-- The location by the places that a callee keeps gives each part the one that is required for it in a suspended frame.
use Rattle.std.proofs.Common.{◌≡◌, ℕ, List, [], ◌∷◌, map, length, arith, refl, sym, ◌∙◌, ap, subst, inl, inr}
use Rattle.std.specs.Prelude.{ℤ, Option, Some, None, true, false, slice_get, slice_index_or, All, Contains}
use Rattle.std.proofs.lemmas.Option.{slice_get_read}
use Rattle.rv64_instr.specs.declared.place.Place.{Place}
use Rattle.rv64_instr.specs.declared.place.Place.TheVariants.{Register, Slot, Const}
use Rattle.rv64_instr.specs.Arithmetic.{word}
use Rattle.mir_func.specs.declared.position.Pos.{Pos}
use Rattle.mir_func.specs.declared.variable.VarId.{VarId}
use Rattle.mir_func.specs.Graph.{Program}
use Rattle.mir_func.specs.Parts.{Bytes, IsPart}
use Rattle.mir_func.specs.Variables.{do_meet, are_same_bytes}
use Rattle.sem_mir.specs.ValueId.{Fixed}
use Rattle.dwarf_loclists.specs.declared.range.Part.{Part}
use Rattle.dwarf_loclists.specs.declared.range.Location.{Location}
use Rattle.dwarf_loclists.specs.declared.range.Location.TheVariants.{Whole, Parts}
use Rattle.dwarf_loclists.specs.Ranges.{IsListed, ArePieces}
use Rattle.location_of_variable.specs.declared.group.Group.{Group}
use Rattle.location_of_variable.specs.declared.group.Piece.{Piece}
use Rattle.location_of_variable.specs.Groups.{part_of, IsPieceOf, IsWholeOf, IsGroupOf}
use Rattle.location_of_variable.specs.Gives.{GivesPart}
use Rattle.location_of_variable.specs.VariableLocation.{bytes_of, MayBeListed, IsLocationBy}
use Rattle.location_of_variable.specs.steps.Telling.{place_at, pieces_from, whole_place, in_pieces, told_or}
use Rattle.location_of_variable.proofs.Gathering.{at_index}
use Rattle.location_of_variable.proofs.Giving.{word_one, pick, piece_or, whole_alone}
use Rattle.location_of_variable.proofs.Locating.{WantsOrNone, Given, Told, among, nowhere, before, told_each, told_ascend, told_covers, rises, apart_sits}
use Rattle.kept_ranges.specs.Kept.{IsKeptLocation, NoneIsKept, GivesKept}
use Rattle.kept_ranges.specs.steps.Places.{IsKeptOrNone, AreKeptPlaces}

-- ---- one place is required

module _ (g : Program) (start : Pos) (passed : List ℕ) (p : Pos) (v : VarId) where
  constants_one : (a b : ℤ) → IsKeptLocation g start passed v p (Const a) → IsKeptLocation g start passed v p (Const b) → a ≡ b
  constants_one a b x y =
      let path = x.sits.reached in
      let one = x.sits.same path.0 path.1 path.2 in
      let other = y.sits.same path.0 path.1 path.2 in
      let tokens : Some (Fixed (word a)) ≡ Some (Fixed (word b)) = one.2 ∙ (sym one.1 ∙ (other.1 ∙ sym other.2)) in
      let words : word a ≡ word b = cc in
      word_one a b x.named y.named words

  pub kept_one : (q r : Place) → IsKeptLocation g start passed v p q → IsKeptLocation g start passed v p r → q ≡ r
  kept_one (Register a) (Register b) x y = ap Register
      (pick a b (λ less. y.first (Register a) x.named x.kept less x.sits) (λ less. x.first (Register b) y.named y.kept less y.sits))
  kept_one (Slot a) (Slot b) x y = ap Slot
      (pick a b (λ less. y.first (Slot a) x.named x.kept less x.sits) (λ less. x.first (Slot b) y.named y.kept less y.sits))
  kept_one (Const a) (Const b) x y = ap Const (constants_one a b x y)
  kept_one (Register a) (Slot b) x y = absurd (y.first (Register a) x.named x.kept tt x.sits)
  kept_one (Register a) (Const b) x y = absurd (x.first (Const b) y.named y.kept tt y.sits)
  kept_one (Slot a) (Register b) x y = absurd (x.first (Register b) y.named y.kept tt y.sits)
  kept_one (Slot a) (Const b) x y = absurd (x.first (Const b) y.named y.kept tt y.sits)
  kept_one (Const a) (Register b) x y = absurd (y.first (Const a) x.named x.kept tt x.sits)
  kept_one (Const a) (Slot b) x y = absurd (y.first (Const a) x.named x.kept tt x.sits)

  not_none : (q : Place) → IsKeptLocation g start passed v p q → NoneIsKept g start passed v p → ⊥
  not_none q x none = none q x.named x.kept x.sits

no_place : (place : Place) → None ≡ Some place → ⊥
no_place place e = cc

same_place : (q place : Place) → Some q ≡ Some place → q ≡ place
same_place q place e = cc

no_piece : (x : Part) → None ≡ Some x → ⊥
no_piece x e = cc

module _ (g : Program) (start p : Pos) (passed : List ℕ) (v : VarId) where
  abbrev Kept : Bytes → Place → Type 0
  Kept b q = IsKeptLocation g start passed (part_of v (Some b)) p q

  abbrev NoneKept : Bytes → Type 0
  NoneKept b = NoneIsKept g start passed (part_of v (Some b)) p

  apart : (b c : Bytes) (q r : Place) → do_meet (Some b) (Some c) ≡ true → are_same_bytes (Some b) (Some c) ≡ false → Kept b q → Kept c r → ⊥
  apart b c q r meet differ x y = apart_sits g start p v b c q r meet differ x.sits y.sits

  kept_or_none : (b : Bytes) (o : Option Place) → IsKeptOrNone g start passed (part_of v (Some b)) p o → WantsOrNone Kept NoneKept apart b o
  kept_or_none b None is = is
  kept_or_none b (Some q) is = is

  by_gives : (o : Option Location) (b : Option Bytes) → ((place : Place) → GivesPart o b place → IsKeptLocation g start passed (part_of v b) p place) →
      ((place : Place) → IsKeptLocation g start passed (part_of v b) p place → GivesPart o b place) →
      (((place : Place) → GivesPart o b place → ⊥) → NoneIsKept g start passed (part_of v b) p) → GivesKept g start passed v p o b
  by_gives o b to from none = record {
    gives = λ place. (to place, from place);
    gives_none = (none, λ nothing place given. not_none g start passed p (part_of v b) place (to place given) nothing);
  }

  -- no location
  gives_nothing : (b : Option Bytes) → NoneIsKept g start passed (part_of v b) p → GivesKept g start passed v p None b
  gives_nothing None none = by_gives None None (λ place e. absurd (no_place place e))
      (λ place x. absurd (not_none g start passed p (part_of v None) place x none)) (λ _. none)
  gives_nothing (Some b) none = by_gives None (Some b) (λ place (n, e). absurd (no_piece _ e))
      (λ place x. absurd (not_none g start passed p (part_of v (Some b)) place x none)) (λ _. none)

  -- the place of the whole
  gives_whole : (q : Place) → IsKeptLocation g start passed (part_of v None) p q → (b : Option Bytes) → GivesKept g start passed v p (Some (Whole q)) b
  gives_whole q is None = by_gives (Some (Whole q)) None
      (λ place e. subst (IsKeptLocation g start passed (part_of v None) p) (same_place q place e) is)
      (λ place x. ap (λ (z : Place). Some z) (kept_one g start passed p (part_of v None) q place is x)) (λ none. absurd (none q refl))
  gives_whole q is (Some b) = by_gives (Some (Whole q)) (Some b) (λ place (n, e). absurd (no_piece _ e))
      (λ place x. absurd (whole_alone g start v p b q place is.sits x.sits))
      (λ none place named kept sits. whole_alone g start v p b q place is.sits sits)

  -- pieces
  gives_pieces : (pieces : List Part) (b : Bytes) → All (λ (y : Part). Kept (bytes_of y) y.place) pieces →
      ((c : Bytes) → (Contains (map bytes_of pieces) c → ⊥) → NoneKept c) → GivesKept g start passed v p (Some (Parts pieces)) (Some b)
  gives_pieces pieces b each others = by_gives (Some (Parts pieces)) (Some b) to from none where
    to : (place : Place) → GivesPart (Some (Parts pieces)) (Some b) place → Kept b place
    to place (n, e) = at_index (λ (y : Part). Kept (bytes_of y) y.place) pieces n (record { offset = b.offset; length = b.length; place = place }) each e

    from : (place : Place) → Kept b place → GivesPart (Some (Parts pieces)) (Some b) place
    from place x = elim (piece_or pieces b) [
      | inl has ↦
          let y = has.piece in
          let mine : Kept b y.place = subst (λ (z : Bytes). Kept z y.place) has.is
          (at_index (λ (y : Part). Kept (bytes_of y) y.place) pieces has.n y each has.at) in
          let same = kept_one g start passed p (part_of v (Some b)) y.place place mine x in
          (has.n, has.at ∙ (λ i. Some (record { offset = (has.is i).offset; length = (has.is i).length; place = same i })))
      | inr not ↦ absurd (not_none g start passed p (part_of v (Some b)) place x (others b not))
    ]

    none : ((place : Place) → GivesPart (Some (Parts pieces)) (Some b) place → ⊥) → NoneKept b
    none refuted = elim (piece_or pieces b) [
      | inl has ↦ absurd (refuted has.piece.place (
        has.n,
        has.at ∙ (λ i. Some (record {
          offset = (has.is i).offset;
          length = (has.is i).length;
          place = has.piece.place;
        })),
      ))
      | inr not ↦ others b not
    ]

-- ---- the location

module _ (g : Program) (start p : Pos) (passed : List ℕ) (parts : List VarId) (places : List (Option Place))
    (are : AreKeptPlaces g start p passed parts places) (v : VarId) (group : Group) (is : IsGroupOf parts v group) where
  whole_by : (o : Option ℕ) → IsWholeOf parts v o → IsKeptOrNone g start passed (part_of v None) p (whole_place (place_at places) o)
  whole_by None none = are.others (part_of v None) (λ (k, lt, e). none k (slice_get_read parts (length parts) k (part_of v None) refl lt (sym e)))
  whole_by (Some j) at = are.each j (part_of v None) at

  whole_listed : (o : Option ℕ) (q : Place) → whole_place (place_at places) o ≡ Some q → IsListed q
  whole_listed None q e = absurd (no_place q e)
  whole_listed (Some j) q e = are.listed j q e

  abbrev IsGiven : Piece → Type 0
  IsGiven = Given (Kept g start p passed v) (NoneKept g start p passed v) (apart g start p passed v) (place_at places)

  given : (x : Piece) → IsPieceOf parts v x × IsPart x.bytes → IsGiven x
  given x (at, part) = record {
    wanted = kept_or_none g start p passed v x.bytes (place_at places x.index) (are.each x.index (part_of v (Some x.bytes)) at);
    listed = are.listed x.index;
    part = part;
  }

  module _ (bounds : All (λ (x : Piece). IsPart x.bytes) group.pieces.items) where
    abbrev told : List Part
    told = pieces_from (place_at places) 0 group.pieces.items

    all : All IsGiven group.pieces.items
    all = λ k d lt. given (slice_index_or group.pieces.items k d) (is.each k d lt, bounds k d lt)

    others : (b : Bytes) → (Contains (map bytes_of told) b → ⊥) → NoneIsKept g start passed (part_of v (Some b)) p
    others b not q named kept sits =
        are.others (part_of v (Some b))
        (λ (j, lt, e). at_place j (slice_get_read parts (length parts) j (part_of v (Some b)) refl lt (sym e))) q named kept sits
      where
        by_told : Told (Kept g start p passed v) (NoneKept g start p passed v) (apart g start p passed v) (place_at places) told None b → ⊥
        by_told (among c) = not c
        by_told (nowhere none) = none q named kept sits
        by_told (before y e same) = absurd (let no : None ≡ Some y = e in cc)

        at_place : (j : ℕ) → slice_get parts j ≡ Some (part_of v (Some b)) → ⊥
        at_place j at =
            let x : Piece = record { bytes = b; index = j } in
            let c = is.all j b at in
            by_told (told_covers (Kept g start p passed v) (NoneKept g start p passed v) (apart g start p passed v) (place_at places) group.pieces.items 0 0
            None refl
            (rises group.pieces.items 0 is.ascend (λ d some. omega arith)) all c.0 x
            (slice_get_read group.pieces.items (length group.pieces.items) c.0 x refl c.1 (sym c.2)))

    each : All (λ (y : Part). IsKeptLocation g start passed (part_of v (Some (bytes_of y))) p y.place) told
    each = told_each (Kept g start p passed v) (NoneKept g start p passed v) (apart g start p passed v) (place_at places) group.pieces.items 0 all

    ascend : ArePieces 0 told
    ascend = told_ascend (Kept g start p passed v) (NoneKept g start p passed v) (apart g start p passed v) (place_at places) group.pieces.items 0 all

    pieces_by : (ys : List Part) → NoneIsKept g start passed (part_of v None) p →
        All (λ (y : Part). IsKeptLocation g start passed (part_of v (Some (bytes_of y))) p y.place) ys →
        ((c : Bytes) → (Contains (map bytes_of ys) c → ⊥) → NoneIsKept g start passed (part_of v (Some c)) p) → (b : Option Bytes) →
        GivesKept g start passed v p (in_pieces ys) b
    pieces_by [] whole each others None = gives_nothing g start p passed v None whole
    pieces_by [] whole each others (Some b) = gives_nothing g start p passed v (Some b) (others b (λ (k, lt, e). omega (arith, lt)))
    pieces_by (y ∷ ys) whole each others None = by_gives g start p passed v (Some (Parts (y ∷ ys))) None (λ place e. absurd (no_place place e))
        (λ place x. absurd (not_none g start passed p (part_of v None) place x whole)) (λ _. whole)
    pieces_by (y ∷ ys) whole each others (Some b) = gives_pieces g start p passed v (y ∷ ys) b each others

    listed_by : (ys : List Part) → ArePieces 0 ys → MayBeListed (in_pieces ys)
    listed_by [] are = tt
    listed_by (y ∷ ys) are = are

  -- by the place of the whole
  by_whole : (w : Option Place) → whole_place (place_at places) group.whole ≡ w →
      (whole_place (place_at places) group.whole ≡ None → All (λ (x : Piece). IsPart x.bytes) group.pieces.items) →
      MayBeListed (told_or w (pieces_from (place_at places) 0 group.pieces.items))
      × ((b : Option Bytes) → GivesKept g start passed v p (told_or w (pieces_from (place_at places) 0 group.pieces.items)) b)
  by_whole (Some q) e bounds = (
    whole_listed group.whole q e,
    gives_whole g start p passed v q (subst (IsKeptOrNone g start passed (part_of v None) p) e (whole_by group.whole is.whole)),
  )
  by_whole None e bounds =
      let parts_are = bounds e in (
        listed_by parts_are (told parts_are) (ascend parts_are),
        pieces_by parts_are (told parts_are) (subst (IsKeptOrNone g start passed (part_of v None) p) e (whole_by group.whole is.whole)) (each parts_are)
            (others parts_are),
      )

  -- the location by these places can be listed, and gives each part its place
  pub location_gives : (o : Option Location) → IsLocationBy group places o → MayBeListed o × ((b : Option Bytes) → GivesKept g start passed v p o b)
  location_gives o by =
      subst (λ (z : Option Location). MayBeListed z × ((b : Option Bytes) → GivesKept g start passed v p z b)) (sym by.told)
      (by_whole (whole_place (place_at places) group.whole) refl by.bounds)
