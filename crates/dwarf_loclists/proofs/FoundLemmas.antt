-- What was found in the lists is what the section says.
use Rattle.std.specs.Prelude.{All, Option, Some, None, slice_get}
use Rattle.std.specs.Option.{option_map}
use Rattle.std.proofs.Common.{◌≡◌, ℕ, zero, suc, ◌^◌, ◌<◌, List, [], ◌∷◌, length, arith, ap, sym, subst, ◌∙◌, refl}
use Rattle.rv64_instr.specs.declared.place.Place.{Place}
use Rattle.dwarf_loclists.specs.declared.range.Part.{Part}
use Rattle.dwarf_loclists.specs.declared.range.Location.{Location}
use Rattle.dwarf_loclists.specs.declared.range.Range.{Range}
use Rattle.dwarf_loclists.specs.Ranges.{ArePlaces, Are64Bit, IsLocated, HasWords, location_in, whole_place, nth_piece}
use Rattle.dwarf_loclists.specs.Spelling.{expression, Spells}
use Rattle.dwarf_loclists.specs.Grammar.{IsSection, LocationAt, PlaceAt, PieceAt}
use Rattle.dwarf_loclists.specs.steps.Reader.{AllRead, location_of}
use Rattle.dwarf_loclists.proofs.Places.{only}
use Rattle.dwarf_loclists.proofs.WholeLemmas.{all_right}

-- the list of a number, if there is one
listed : (lists : List (List Range)) (k : ℕ) → k < length lists → (ranges : List Range) × (slice_get lists k ≡ Some ranges) × ((P : List Range → Type 0) → All
    P lists → P ranges)
listed [] k inside = absurd (omega arith)
listed (r ∷ lists) zero inside = (r, refl, λ P all. all zero r (omega arith))
listed (r ∷ lists) (suc k) inside =
    let (ranges, is, every) = listed lists k (omega arith) in
    (ranges, is, λ P all. every P (λ j d h. all (suc j) d (omega arith)))

-- the location that was found, and its list
pub record Found (bytes : List ℕ) (k address : ℕ) (found : Option (List ℕ)) : Type 0 where
  pub location : Option Location
  pub located : LocationAt bytes k address location
  pub is : found ≡ option_map expression location
  pub right : (l : Location) → location ≡ Some l → IsLocated l × HasWords l

pub found_at : (bytes : List ℕ) (n k address : ℕ) (found : Option (List ℕ)) → AllRead bytes n k address found
    → ((lists : List (List Range)) → IsSection bytes lists → k < length lists) → Found bytes k address found
found_at bytes n k address found a inside =
    let section : IsSection bytes a.lists = all_right bytes a.lists a.reached in
    let one = listed a.lists k (inside a.lists section) in
    let same : location_of a.lists k address ≡ location_in one.0 address =
    ap (λ (o : Option (List Range)). elim o as (λ _. Option Location) [ None ↦ None | Some ranges ↦ location_in ranges address ]) one.1 in
    record {
      location = location_in one.0 address;
      located = record { lists = a.lists; ranges = one.0; section = section; list = one.1; found = refl };
      is = a.is ∙ ap (option_map expression) same;
      right = λ l e.
          let r = only one.0 address l e in
          let places : ArePlaces one.0 = one.2 ArePlaces section.places in
          let wide : Are64Bit one.0 = one.2 Are64Bit section.wide in
          let here : IsLocated r.0.location = subst (λ (s : Range). IsLocated s.location) r.1.2 (places r.1.0 r.0 r.1.1) in
          let words = subst (λ (s : Range). (s.lo < 2 ^ 64) × (s.hi < 2 ^ 64) × HasWords s.location) r.1.2 (wide r.1.0 r.0 r.1.1) in
          (subst IsLocated (sym r.4) here, subst HasWords (sym r.4) words.2);
    }

-- a location whose expression was found
spelled : (location : Option Location) (here : List ℕ) → Some here ≡ option_map expression location
    → (l : Location) × (location ≡ Some l) × (here ≡ expression l)
spelled None here e = absurd cc
spelled (Some l) here e = (l, refl, cc)

absent : (location : Option Location) → None ≡ option_map expression location → location ≡ None
absent None e = refl
absent (Some l) e = absurd cc

pub place_found : (bytes : List ℕ) (k address : ℕ) (here : List ℕ) (place : Option Place) → Found bytes k address (Some here)
    → ((l : Location) → Spells here l → place ≡ whole_place (Some l)) → PlaceAt bytes k address place
place_found bytes k address here place f is =
    let (l, at, e) = spelled f.location here f.is in
    let right = f.right l at in
    record { location = f.location; located = f.located; whole = is l (record { located = right.0; wide = right.1; spelled = e }) ∙ ap whole_place (sym at) }

pub place_absent : (bytes : List ℕ) (k address : ℕ) → Found bytes k address None → PlaceAt bytes k address None
place_absent bytes k address f = record { location = f.location; located = f.located; whole = ap whole_place (sym (absent f.location f.is)) }

pub piece_found : (bytes : List ℕ) (k address n : ℕ) (here : List ℕ) (piece : Option Part) → Found bytes k address (Some here)
    → ((l : Location) → Spells here l → piece ≡ nth_piece (Some l) n) → PieceAt bytes k address n piece
piece_found bytes k address n here piece f is =
    let (l, at, e) = spelled f.location here f.is in
    let right = f.right l at in
    record {
      location = f.location;
      located = f.located;
      nth = is l (record { located = right.0; wide = right.1; spelled = e }) ∙ ap (λ (o : Option Location). nth_piece o n) (sym at);
    }

pub piece_absent : (bytes : List ℕ) (k address n : ℕ) → Found bytes k address None → PieceAt bytes k address n None
piece_absent bytes k address n f =
    record { location = f.location; located = f.located; nth = ap (λ (o : Option Location). nth_piece o n) (sym (absent f.location f.is)) }
