-- A wanted location tells each part of its variable exactly the place that is wanted for it. The whole and a part of it never both have a
-- token, so where the whole is wanted no part is.
use Rattle.std.proofs.Common.{◌≡◌, ◌⊎◌, ℕ, zero, suc, List, [], ◌∷◌, Option, Some, None, Bool, true, false, refl, sym, ap, ◌∙◌, subst, inl, inr, arith, ◌&&◌}
use Rattle.std.proofs.Common.{nat_eq, eqb-true}
use Rattle.std.proofs.Common.{eq-eqb}
use Rattle.std.specs.Prelude.{All, Contains, map, slice_get}
use Rattle.std.proofs.lemmas.Bool.{and_parts, and_from}
use Rattle.std.proofs.lemmas.List.Elements.{All-head, All-tail}
use Rattle.rv64_instr.specs.declared.place.Place.{Place}
use Rattle.mir_func.specs.declared.position.Pos.{Pos}
use Rattle.mir_func.specs.declared.variable.VarId.{VarId}
use Rattle.mir_func.specs.Graph.{Program}
use Rattle.mir_func.specs.Parts.{Bytes}
use Rattle.mir_func.specs.Variables.{is_same_variable, are_same_bytes, overlaps}
use Rattle.sem_mir.specs.PreferredLocation.{IsPreferredLocation, NoneIsPreferred, SitsIn}
use Rattle.sem_mir.proofs.Assignments.{one_assigned, same_variable_refl}
use Rattle.dwarf_loclists.specs.declared.range.Part.{Part}
use Rattle.dwarf_loclists.specs.declared.range.Location.{Location}
use Rattle.dwarf_loclists.specs.declared.range.Location.TheVariants.{Whole, Parts}
use Rattle.dwarf_loclists.specs.Ranges.{whole_place, nth_piece}
use Rattle.location_ranges.specs.location_of_variable.Groups.{part_of}
use Rattle.location_ranges.specs.location_of_variable.VariableLocation.{bytes_of, AreWantedPieces, IsWantedLocation}
use Rattle.compile_theorem.proofs.OneWanted.{one_wanted}

-- a location tells a part a place
abbrev pub Tells : Option Location → Option Bytes → Place → Type 0
Tells l None place = Some place ≡ whole_place l
Tells l (Some b) place = (n : ℕ) × (Some (record { offset = b.offset; length = b.length; place = place }) ≡ nth_piece l n)

-- what is told is wanted, what is wanted is told, and where nothing is told none is wanted
pub record TellsWanted (g : Program) (start : Pos) (v : VarId) (p : Pos) (l : Option Location) (b : Option Bytes) : Type 0 where
  pub told : (place : Place) → Tells l b place → IsPreferredLocation g start (part_of v b) p place
  pub wanted : (place : Place) → IsPreferredLocation g start (part_of v b) p place → Tells l b place
  pub none : ((place : Place) → Tells l b place → ⊥) → NoneIsPreferred g start (part_of v b) p

-- ---- bytes of pieces

same_bytes : (b c : Bytes) → are_same_bytes (Some b) (Some c) ≡ true → b ≡ c
same_bytes b c e =
    let k = and_parts (nat_eq b.offset c.offset) (nat_eq b.length c.length) e in
    let o = eqb-true b.offset c.offset k.0 in
    let l = eqb-true b.length c.length k.1 in
    λ i. record { offset = o i; length = l i }

same_bytes_refl : (b : Bytes) → are_same_bytes (Some b) (Some b) ≡ true
same_bytes_refl b = and_from (nat_eq b.offset b.offset) (nat_eq b.length b.length) (eq-eqb b.offset b.offset refl)
    (eq-eqb b.length b.length refl)

-- a piece of some bytes among pieces, with its number; or these bytes are none's
record PieceOf (pieces : List Part) (b : Bytes) : Type 0 where
  number : ℕ
  piece : Part
  stands : slice_get pieces number ≡ Some piece
  of : bytes_of piece ≡ b

found : (pieces : List Part) (b : Bytes) → PieceOf pieces b ⊎ (Contains (map bytes_of pieces) b → ⊥)
found [] b = inr (λ (k, low, is). absurd (omega (arith, low)))
found (x ∷ pieces) b = by_head (are_same_bytes (Some (bytes_of x)) (Some b)) refl (found pieces b) where
  by_head : (same : Bool) → are_same_bytes (Some (bytes_of x)) (Some b) ≡ same → PieceOf pieces b ⊎ (Contains (map bytes_of pieces) b → ⊥) →
      PieceOf (x ∷ pieces) b ⊎ (Contains (map bytes_of (x ∷ pieces)) b → ⊥)
  by_head true same more = inl (record { number = 0; piece = x; stands = refl; of = same_bytes (bytes_of x) b same })
  by_head false same (inl more) = inl (record { number = suc more.number; piece = more.piece; stands = more.stands; of = more.of })
  by_head false same (inr none) = inr other where
    other : Contains (map bytes_of (x ∷ pieces)) b → ⊥
    other (zero, low, is) =
        let both : false ≡ true = sym same ∙ ap (λ (c : Bytes). are_same_bytes (Some c) (Some b)) is ∙ same_bytes_refl b in
        cc
    other (suc k, low, is) = none (k, omega (arith, low), is)

-- what holds of all holds of the one of a number
pub all_at : {X : Type 0} (P : X → Type 0) (xs : List X) (k : ℕ) (x : X) → slice_get xs k ≡ Some x → All P xs → P x
all_at P [] k x at all = absurd cc
all_at P (y ∷ xs) zero x at all = let same : y ≡ x = cc in subst P same (All-head P y xs all)
all_at P (y ∷ xs) (suc k) x at all = all_at P xs k x at (All-tail P y xs all)

module _ (g : Program) (start : Pos) (v : VarId) (p : Pos) where
  abbrev Wanted : Option Bytes → Place → Type 0
  Wanted b place = IsPreferredLocation g start (part_of v b) p place

  -- the whole and some bytes never both sit in a place
  not_both : (b : Bytes) (x y : Place) → SitsIn g start (part_of v None) x p → SitsIn g start (part_of v (Some b)) y p → ⊥
  not_both b x y whole part =
      let r = whole.reached in
      let k = whole.same r.0 r.1 r.2 in
      let l = part.same r.0 r.1 r.2 in
      let over : overlaps (part_of v None) (part_of v (Some b)) ≡ true = and_from (is_same_variable v v) true (same_variable_refl v) refl in
      one_assigned (part_of v None) (part_of v (Some b)) r.1.marks k.0 l.0 over (not_same (is_same_variable v v)) k.1 l.1
    where
      not_same : (c : Bool) → (c && false) ≡ false
      not_same true = refl
      not_same false = refl

  none_by : (b : Option Bytes) (l : Option Location) → NoneIsPreferred g start (part_of v b) p → ((place : Place) → Tells l b place → ⊥) →
      TellsWanted g start v p l b
  none_by b l none source_end = record {
    told = λ place told. absurd (source_end place told);
    wanted = λ place is. absurd (none place is.named is.sits);
    none = λ _. none;
  }

  one_by : (b : Option Bytes) (l : Option Location) (place : Place) → Wanted b place → Tells l b place →
      ((other : Place) → Tells l b other → other ≡ place) → TellsWanted g start v p l b
  one_by b l place is told one = record {
    told = λ other tells. subst (Wanted b) (sym (one other tells)) is;
    wanted = λ other wanted. subst (Tells l b) (one_wanted g start (part_of v b) p place other is wanted) told;
    none = λ source_end. absurd (source_end place told);
  }

  -- in pieces a part is told its place, if some piece is of its bytes
  of_pieces : (pieces : List Part) (b : Bytes) → AreWantedPieces g start v p pieces → TellsWanted g start v p (Some (Parts pieces)) (Some b)
  of_pieces pieces b are = by_piece (found pieces b) where
    told_by : (place : Place) → Tells (Some (Parts pieces)) (Some b) place → Wanted (Some b) place
    told_by place (n, is) = all_at (λ x. Wanted (Some (bytes_of x)) x.place) pieces n (record { offset = b.offset; length = b.length; place = place })
        (sym is) are.each

    spelled : (x : Part) → bytes_of x ≡ b → x ≡ record { offset = b.offset; length = b.length; place = x.place }
    spelled x is =
        let o : x.offset ≡ b.offset = ap (λ (c : Bytes). c.offset) is in
        let l : x.length ≡ b.length = ap (λ (c : Bytes). c.length) is in
        λ i. record { offset = o i; length = l i; place = x.place }

    by_piece : PieceOf pieces b ⊎ (Contains (map bytes_of pieces) b → ⊥) → TellsWanted g start v p (Some (Parts pieces)) (Some b)
    by_piece (inl x) =
        let is : Wanted (Some b) x.piece.place =
        subst (λ (c : Bytes). Wanted (Some c) x.piece.place) x.of (all_at (λ y. Wanted (Some
        (bytes_of y)) y.place) pieces x.number x.piece x.stands are.each) in
        one_by (Some b) (Some (Parts pieces)) x.piece.place is (x.number, sym (x.stands ∙ ap Some (spelled x.piece x.of)))
        (λ other tells. one_wanted g start (part_of v (Some b)) p other x.piece.place (told_by other tells) is)
    by_piece (inr none) =
        let nowhere = are.others b none in
        none_by (Some b) (Some (Parts pieces)) nowhere (λ place tells. let is = told_by place tells in nowhere place is.named is.sits)

  pub location_tells : (l : Option Location) (b : Option Bytes) → IsWantedLocation g start v p l → TellsWanted g start v p l b
  location_tells None None is = none_by None None (is None) (λ place tells. cc)
  location_tells None (Some b) is = none_by (Some b) None (is (Some b)) (λ place tells. let e = tells.1 in cc)
  location_tells (Some (Whole x)) None is = one_by None (Some (Whole x)) x is refl (λ other tells. cc)
  location_tells (Some (Whole x)) (Some b) is =
      none_by (Some b) (Some (Whole x)) (λ place named sits. not_both b x place is.sits sits) (λ place tells. let e = tells.1 in cc)
  location_tells (Some (Parts [])) b is = absurd is
  location_tells (Some (Parts (x ∷ xs))) None is = none_by None (Some (Parts (x ∷ xs))) is.0 (λ place tells. cc)
  location_tells (Some (Parts (x ∷ xs))) (Some b) is = of_pieces (x ∷ xs) b is.1
