-- What the wanted location of a variable gives its parts.
--
-- One place at most is wanted for a part, and where one is wanted for the whole variable none is for some bytes of it. Whether a part has
-- a piece is found by its bytes.
use Rattle.std.proofs.Common.{◌≡◌, ℕ, zero, suc, ◌<◌, List, [], ◌∷◌, map, arith, refl, sym, ◌∙◌, ap, subst, inl, inr, ◌⊎◌, eq-eqb}
use Rattle.std.specs.Prelude.{ℤ, pos, negsuc, Option, Some, None, true, false, nat_eq, slice_get, Contains}
use Rattle.std.proofs.lemmas.Bool.{and_from}
use Rattle.rv64_instr.specs.declared.place.Place.{Place}
use Rattle.rv64_instr.specs.declared.place.Place.TheVariants.{Register, Slot, Const}
use Rattle.rv64_instr.specs.Arithmetic.{word}
use Rattle.mir_func.specs.declared.position.Pos.{Pos}
use Rattle.mir_func.specs.declared.variable.VarId.{VarId}
use Rattle.mir_func.specs.Graph.{Program}
use Rattle.mir_func.specs.Parts.{Bytes}
use Rattle.mir_func.specs.Variables.{is_same_node, is_same_variable, are_same_bytes, do_meet, overlaps}
use Rattle.sem_mir.specs.ValueId.{Fixed}
use Rattle.sem_mir.specs.PreferredLocation.{IsPlace, SitsIn, IsPreferredLocation, NoneIsPreferred}
use Rattle.sem_mir.proofs.Assignments.{one_assigned}
use Rattle.dwarf_loclists.specs.declared.range.Part.{Part}
use Rattle.dwarf_loclists.specs.declared.range.Location.{Location}
use Rattle.dwarf_loclists.specs.declared.range.Location.TheVariants.{Whole, Parts}
use Rattle.location_of_variable.specs.Groups.{part_of}
use Rattle.location_of_variable.specs.VariableLocation.{bytes_of, AreWantedPieces, IsWantedLocation}
use Rattle.location_of_variable.specs.Gives.{GivesPart, GivesWanted, WantedLocationsGiveParts}
use Rattle.location_of_variable.proofs.Gathering.{at_index}
use Rattle.location_of_variable.proofs.Locating.{is_same_itself, same_or, and_false}

-- ---- one place is wanted

pub word_one : (a b : ℤ) → IsPlace (Const a) → IsPlace (Const b) → word a ≡ word b → a ≡ b
word_one (pos m) (pos n) h k e = let is : m ≡ n = omega (arith, h, k, e) in ap pos is
word_one (negsuc m) (negsuc n) h k e = let is : m ≡ n = omega (arith, h, k, e) in ap negsuc is
word_one (pos m) (negsuc n) h k e = absurd (omega (arith, h, k, e))
word_one (negsuc m) (pos n) h k e = absurd (omega (arith, h, k, e))

pub pick : (m n : ℕ) → (m < n → ⊥) → (n < m → ⊥) → m ≡ n
pick m n h k = omega (arith, h, k)

module _ (g : Program) (start p : Pos) (v : VarId) where
  constants_one : (a b : ℤ) → IsPreferredLocation g start v p (Const a) → IsPreferredLocation g start v p (Const b) → a ≡ b
  constants_one a b x y =
      let path = x.sits.reached in
      let one = x.sits.same path.0 path.1 path.2 in
      let other = y.sits.same path.0 path.1 path.2 in
      let tokens : Some (Fixed (word a)) ≡ Some (Fixed (word b)) = one.2 ∙ (sym one.1 ∙ (other.1 ∙ sym other.2)) in
      let words : word a ≡ word b = cc in
      word_one a b x.named y.named words

  wanted_one : (q r : Place) → IsPreferredLocation g start v p q → IsPreferredLocation g start v p r → q ≡ r
  wanted_one (Register a) (Register b) x y = ap Register (pick a b (λ less. y.first (Register a) x.named less x.sits) (λ less. x.first (Register b) y.named
      less y.sits))
  wanted_one (Slot a) (Slot b) x y = ap Slot (pick a b (λ less. y.first (Slot a) x.named less x.sits) (λ less. x.first (Slot b) y.named less y.sits))
  wanted_one (Const a) (Const b) x y = ap Const (constants_one a b x y)
  wanted_one (Register a) (Slot b) x y = absurd (y.first (Register a) x.named tt x.sits)
  wanted_one (Register a) (Const b) x y = absurd (x.first (Const b) y.named tt y.sits)
  wanted_one (Slot a) (Register b) x y = absurd (x.first (Register b) y.named tt y.sits)
  wanted_one (Slot a) (Const b) x y = absurd (x.first (Const b) y.named tt y.sits)
  wanted_one (Const a) (Register b) x y = absurd (y.first (Const a) x.named tt x.sits)
  wanted_one (Const a) (Slot b) x y = absurd (y.first (Const a) x.named tt x.sits)

  not_none : (q : Place) → IsPreferredLocation g start v p q → NoneIsPreferred g start v p → ⊥
  not_none q x none = none q x.named x.sits

-- ---- pieces by bytes

pub record HasPiece (pieces : List Part) (b : Bytes) : Type 0 where
  pub n : ℕ
  pub piece : Part
  pub at : slice_get pieces n ≡ Some piece
  pub is : bytes_of piece ≡ b

pub piece_or : (pieces : List Part) (b : Bytes) → HasPiece pieces b ⊎ (Contains (map bytes_of pieces) b → ⊥)
piece_or [] b = inr (λ (k, lt, e). omega (arith, lt))
piece_or (x ∷ xs) b = elim (same_or (bytes_of x) b) [
  | inl same ↦ inl (record { n = 0; piece = x; at = refl; is = same })
  | inr differ ↦ elim (piece_or xs b) [
    | inl has ↦ inl (record { n = suc has.n; piece = has.piece; at = has.at; is = has.is })
    | inr not ↦ inr (not_here differ not)
  ]
] where
  differs : (c : Bytes) → c ≡ b → are_same_bytes (Some c) (Some b) ≡ false → ⊥
  differs c e differ =
      let on : are_same_bytes (Some c) (Some b) ≡ true = subst (λ (z : Bytes). are_same_bytes (Some c) (Some z) ≡ true) e
      (and_from (nat_eq c.offset c.offset) (nat_eq c.length c.length) (eq-eqb c.offset c.offset refl) (eq-eqb c.length c.length refl)) in
      let both : true ≡ false = sym on ∙ differ in
      cc

  not_here : are_same_bytes (Some (bytes_of x)) (Some b) ≡ false → (Contains (map bytes_of xs) b → ⊥) → Contains (map bytes_of (x ∷ xs)) b → ⊥
  not_here differ not (zero, lt, e) = differs (bytes_of x) e differ
  not_here differ not (suc k, lt, e) = not (k, omega (arith, lt), e)

-- ---- the law

no_place : (place : Place) → None ≡ Some place → ⊥
no_place place e = cc

same_place : (q place : Place) → Some q ≡ Some place → q ≡ place
same_place q place e = cc

no_piece : (x : Part) → None ≡ Some x → ⊥
no_piece x e = cc

module _ (g : Program) (start : Pos) (v : VarId) (p : Pos) where
  -- where the whole sits somewhere, no bytes of it do
  pub whole_alone : (b : Bytes) (q r : Place) → SitsIn g start (part_of v None) q p → SitsIn g start (part_of v (Some b)) r p → ⊥
  whole_alone b q r x y =
      let path = x.reached in
      let one = x.same path.0 path.1 path.2 in
      let other = y.same path.0 path.1 path.2 in
      let v1 = part_of v None in
      let v2 = part_of v (Some b) in
      let variable : is_same_variable v1 v2 ≡ true = and_from (nat_eq v.node v.node) (is_same_node v.inlined_at v.inlined_at) (eq-eqb v.node v.node refl)
      (is_same_itself v.inlined_at) in
      let meets : overlaps v1 v2 ≡ true = and_from (is_same_variable v1 v2) (do_meet None (Some b)) variable refl in
      one_assigned v1 v2 (path.1).marks one.0 other.0 meets (and_false (is_same_variable v1 v2)) one.1 other.1

  by_gives : (o : Option Location) (b : Option Bytes) → ((place : Place) → GivesPart o b place → IsPreferredLocation g start (part_of v b) p place) →
      ((place : Place) → IsPreferredLocation g start (part_of v b) p place → GivesPart o b place) →
      (((place : Place) → GivesPart o b place → ⊥) → NoneIsPreferred g start (part_of v b) p) → GivesWanted g start v p o b
  by_gives o b to from none = record {
    gives = λ place. (to place, from place);
    gives_none = (none, λ nothing place given. not_none g start p (part_of v b) place (to place given) nothing);
  }

  in_pieces : (pieces : List Part) (b : Bytes) → AreWantedPieces g start v p pieces → GivesWanted g start v p (Some (Parts pieces)) (Some b)
  in_pieces pieces b are = by_gives (Some (Parts pieces)) (Some b) to from none where
    to : (place : Place) → GivesPart (Some (Parts pieces)) (Some b) place → IsPreferredLocation g start (part_of v (Some b)) p place
    to place (n, e) = at_index (λ (y : Part). IsPreferredLocation g start (part_of v (Some (bytes_of y))) p y.place) pieces n
        (record { offset = b.offset; length = b.length; place = place }) are.each e

    from : (place : Place) → IsPreferredLocation g start (part_of v (Some b)) p place → GivesPart (Some (Parts pieces)) (Some b) place
    from place x = elim (piece_or pieces b) [
      | inl has ↦
          let y = has.piece in
          let mine : IsPreferredLocation g start (part_of v (Some b)) p y.place =
          subst (λ (z : Bytes). IsPreferredLocation g start (part_of v (Some z)) p y.place) has.is
          (at_index (λ (y : Part). IsPreferredLocation g start (part_of v (Some (bytes_of y))) p y.place) pieces has.n y are.each has.at) in
          let same = wanted_one g start p (part_of v (Some b)) y.place place mine x in
          (has.n, has.at ∙ (λ i. Some (record { offset = (has.is i).offset; length = (has.is i).length; place = same i })))
      | inr not ↦ absurd (not_none g start p (part_of v (Some b)) place x (are.others b not))
    ]

    none : ((place : Place) → GivesPart (Some (Parts pieces)) (Some b) place → ⊥) → NoneIsPreferred g start (part_of v (Some b)) p
    none refuted = elim (piece_or pieces b) [
      | inl has ↦ absurd (refuted has.piece.place (
        has.n,
        has.at ∙ (λ i. Some (record {
          offset = (has.is i).offset;
          length = (has.is i).length;
          place = has.piece.place;
        })),
      ))
      | inr not ↦ are.others b not
    ]

  pub gives_wanted : (o : Option Location) → IsWantedLocation g start v p o → (b : Option Bytes) → GivesWanted g start v p o b
  gives_wanted None is None = by_gives None None (λ place e. absurd (no_place place e))
      (λ place x. absurd (not_none g start p (part_of v None) place x (is None))) (λ none. is None)
  gives_wanted None is (Some b) = by_gives None (Some b) (λ place (n, e). absurd (no_piece _ e))
      (λ place x. absurd (not_none g start p (part_of v (Some b)) place x (is (Some b)))) (λ none. is (Some b))
  gives_wanted (Some (Whole q)) is None = by_gives (Some (Whole q)) None
      (λ place e. subst (IsPreferredLocation g start (part_of v None) p) (same_place q place e) is)
      (λ place x. ap (λ (z : Place). Some z) (wanted_one g start p (part_of v None) q place is x)) (λ none. absurd (none q refl))
  gives_wanted (Some (Whole q)) is (Some b) = by_gives (Some (Whole q)) (Some b) (λ place (n, e). absurd (no_piece _ e))
      (λ place x. absurd (whole_alone b q place is.sits x.sits)) (λ none place named sits. whole_alone b q place is.sits sits)
  gives_wanted (Some (Parts [])) is b = absurd is
  gives_wanted (Some (Parts (x ∷ xs))) is None = by_gives (Some (Parts (x ∷ xs))) None (λ place e. absurd (no_place place e))
      (λ place y. absurd (not_none g start p (part_of v None) place y is.0)) (λ none. is.0)
  gives_wanted (Some (Parts (x ∷ xs))) is (Some b) = in_pieces (x ∷ xs) b is.1

pub wanted_locations_give_parts : WantedLocationsGiveParts
wanted_locations_give_parts g start v p o is b = gives_wanted g start v p o is b
