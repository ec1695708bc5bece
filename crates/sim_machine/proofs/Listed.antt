-- What lists give is a place that can be listed.
use Rattle.std.proofs.Common.{◌≡◌, ℕ, zero, suc, ◌+◌, ◌≤◌, List, [], ◌∷◌, Option, Some, None, Bool, true, false, ◌&&◌, cond, nat_le, nat_lt, refl}
use Rattle.std.proofs.Common.{sym, ◌∙◌, subst}
use Rattle.std.specs.List.{All, slice_get}
use Rattle.std.proofs.lemmas.List.Elements.{All-head, All-tail}
use Rattle.rv64_instr.specs.declared.place.Place.{Place}
use Rattle.dwarf_loclists.specs.declared.range.Part.{Part}
use Rattle.dwarf_loclists.specs.declared.range.Location.{Location}
use Rattle.dwarf_loclists.specs.declared.range.Location.TheVariants.{Whole, Parts}
use Rattle.dwarf_loclists.specs.declared.range.Range.{Range}
use Rattle.dwarf_loclists.specs.Ranges.{IsListed, ArePieces, IsLocated, ArePlaces, location_in, whole_place, nth_piece}
use Rattle.dwarf_loclists.specs.Grammar.{LocationAt, PlaceAt, PieceAt}

pub located : (ranges : List Range) (address : ℕ) (l : Location) → ArePlaces ranges → location_in ranges address ≡ Some l → IsLocated l
located [] address l h e = absurd cc
located (r ∷ rest) address l h e =
    by_test (nat_le r.lo address && nat_lt address r.hi) e (λ q. located rest address l (All-tail (λ (x : Range). IsLocated x.location) r rest h) q) where
      by_test : (t : Bool) → cond t (Some r.location) (location_in rest address) ≡ Some l → (location_in rest address ≡ Some l → IsLocated l) → IsLocated l
      by_test true q later =
          let same : r.location ≡ l = cc in subst IsLocated same (All-head (λ (x : Range). IsLocated x.location) r rest h)
      by_test false q later = later q

of_list : (lists : List (List Range)) (k : ℕ) (ranges : List Range) → All ArePlaces lists → slice_get lists k ≡ Some ranges → ArePlaces ranges
of_list [] k ranges h e = absurd cc
of_list (x ∷ lists) zero ranges h e = let same : x ≡ ranges = cc in subst ArePlaces same (All-head ArePlaces x lists h)
of_list (x ∷ lists) (suc k) ranges h e = of_list lists k ranges (All-tail ArePlaces x lists h) e

location_listed : (bytes : List ℕ) (k address : ℕ) (o : Option Location) (l : Location) → LocationAt bytes k address o → o ≡ Some l → IsLocated l
location_listed bytes k address o l h e = located h.ranges address l (of_list h.lists k h.ranges h.section.places h.list) (sym h.found ∙ e)

pub place_listed : (bytes : List ℕ) (k address : ℕ) (p : Place) → PlaceAt bytes k address (Some p) → IsListed p
place_listed bytes k address p h = by_location h.location h.whole (λ l e. location_listed bytes k address h.location l h.located e) where
  by_location : (o : Option Location) → Some p ≡ whole_place o → ((l : Location) → o ≡ Some l → IsLocated l) → IsListed p
  by_location None e f = absurd cc
  by_location (Some (Whole q)) e f = let same : p ≡ q = cc in subst IsListed (sym same) (f (Whole q) refl)
  by_location (Some (Parts parts)) e f = absurd cc

piece_of : (from : ℕ) (parts : List Part) (n : ℕ) (p : Part) → ArePieces from parts → slice_get parts n ≡ Some p → IsListed p.place × (p.length ≤ 8)
piece_of from [] n p h e = absurd cc
piece_of from (x ∷ parts) zero p h e = let same : x ≡ p = cc in subst (λ (q : Part). IsListed q.place × (q.length ≤ 8)) same (h.0.4, h.0.2)
piece_of from (x ∷ parts) (suc n) p h e = piece_of (x.offset + x.length) parts n p h.1 e

pub piece_listed : (bytes : List ℕ) (k address n : ℕ) (p : Part) → PieceAt bytes k address n (Some p) → IsListed p.place × (p.length ≤ 8)
piece_listed bytes k address n p h = by_location h.location h.nth (λ l e. location_listed bytes k address h.location l h.located e) where
  by_location : (o : Option Location) → Some p ≡ nth_piece o n → ((l : Location) → o ≡ Some l → IsLocated l) → IsListed p.place × (p.length ≤ 8)
  by_location None e f = absurd cc
  by_location (Some (Whole q)) e f = absurd cc
  by_location (Some (Parts [])) e f = absurd (f (Parts []) refl)
  by_location (Some (Parts (x ∷ parts))) e f = piece_of 0 (x ∷ parts) n p (f (Parts (x ∷ parts)) refl) (sym e)
