-- A track whose variable has no part that moved is at its location still.
use Rattle.std.proofs.Common.{◌≡◌, ℕ, List, [], ◌∷◌, length, refl, sym, ◌∙◌, ap, subst, inl, inr, arith}
use Rattle.std.specs.Prelude.{Option, Some, None, Bool, true, false, ◌||◌, slice_get, slice_index_or, All}
use Rattle.std.specs.List.{list_any}
use Rattle.std.proofs.lemmas.Option.{slice_get_within, slice_get_cases}
use Rattle.std.proofs.lemmas.List.Elements.{All-nil, All-cons}
use Rattle.std.proofs.lemmas.List.Folds.{list_any_none}
use Rattle.rv64_instr.specs.declared.place.Place.{Place}
use Rattle.dwarf_loclists.specs.declared.range.Location.{Location}
use Rattle.location_of_variable.specs.declared.group.Group.{Group}
use Rattle.location_of_variable.specs.declared.group.Piece.{Piece}
use Rattle.location_of_variable.specs.VariableLocation.{HaveSamePlaces, IsLocationFor}
use Rattle.location_ranges.specs.declared.track.Track.{Track}
use Rattle.location_ranges.specs.Covered.{located, opened, Turns, stays, turns}
use Rattle.location_ranges.specs.steps.Places.{Changes}
use Rattle.location_ranges.specs.steps.Saying.{TurnsBy, TurnedBelow, AreTurned, StandStill, is_flagged, has_changed}

-- ---- the places of a group's parts

neither : (a b : Bool) → (a || b) ≡ false → (a ≡ false) × (b ≡ false)
neither false b e = (refl, e)
neither true b e = absurd (let no : true ≡ false = e in cc)

pub same_itself : (group : Group) (places : List (Option Place)) → HaveSamePlaces group places places
same_itself group places = record { whole = λ j e. refl; pieces = λ k d lt. refl }

same_on : (group : Group) (a b c : List (Option Place)) → HaveSamePlaces group a b → HaveSamePlaces group b c → HaveSamePlaces group a c
same_on group a b c first second = record {
  whole = λ j e. first.whole j e ∙ second.whole j e;
  pieces = λ k d lt. first.pieces k d lt ∙ second.pieces k d lt;
}

module _ (changed : List Bool) where
  abbrev IsFree : Piece → Type 0
  IsFree x = slice_index_or changed x.index false ≡ false

  none_flagged : (xs : List Piece) → list_any (λ (x : Piece). is_flagged changed (Some x.index)) xs ≡ false → All IsFree xs
  none_flagged [] e = All-nil IsFree
  none_flagged (x ∷ xs) e =
      let h = neither (slice_index_or changed x.index false) (list_any (λ (x : Piece). is_flagged changed (Some x.index)) xs) e in
      All-cons IsFree x xs h.0 (none_flagged xs h.1)

  whole_free : (o : Option ℕ) → is_flagged changed o ≡ false → (j : ℕ) → o ≡ Some j → slice_index_or changed j false ≡ false
  whole_free None e j is = absurd (let no : None ≡ Some j = is in cc)
  whole_free (Some k) e j is = let same : k ≡ j = cc in subst (λ (n : ℕ). slice_index_or changed n false ≡ false) same e

  no_whole : ((j : ℕ) → slice_index_or changed j false ≡ false) → (o : Option ℕ) → is_flagged changed o ≡ false
  no_whole quiet None = refl
  no_whole quiet (Some j) = quiet j

  -- without a flag no group has changed
  pub none_changed : ((j : ℕ) → slice_index_or changed j false ≡ false) → (group : Group) → has_changed changed group ≡ false
  none_changed quiet group =
      let any = list_any (λ (x : Piece). is_flagged changed (Some x.index)) group.pieces.items in
      ap (λ (b : Bool). b || any) (no_whole quiet group.whole)
      ∙ list_any_none (λ (x : Piece). is_flagged changed (Some x.index)) group.pieces.items (λ k d lt. quiet (slice_index_or group.pieces.items k d).index)

  module _ (old new : List (Option Place)) (any : Bool) (changes : Changes old new changed any) where
    same_places : (group : Group) → has_changed changed group ≡ false → HaveSamePlaces group old new
    same_places group e =
        let h = neither (is_flagged changed group.whole) (list_any (λ (x : Piece). is_flagged changed (Some x.index)) group.pieces.items) e in
        record {
          whole = λ j is. changes.same j (whole_free group.whole h.0 j is);
          pieces = λ k d lt. changes.same (slice_index_or group.pieces.items k d).index (none_flagged group.pieces.items h.1 k d lt);
        }

    -- tracks that had turned are still at their locations where no part has a flag
    pub stand_still : (groups : List Group) (tracks : List Track) → AreTurned groups old tracks → StandStill groups new changed tracks
    stand_still groups tracks are k group t at_group at_track free = λ others same.
        are k group t at_group at_track others (same_on group old new others (same_places group free) same)

-- ---- tracks

-- where a list has an item, one that is as long has one
pub one_at : {A B : Type 0} (xs : List A) (ys : List B) (k : ℕ) (y : B) → length xs ≡ length ys → slice_get ys k ≡ Some y → (x : A) × (slice_get xs k ≡ Some x)
one_at xs ys k y count e = elim (slice_get_cases xs k).1 [
  | inl h ↦ (h.0, h.2)
  | inr h ↦ absurd (let lt = slice_get_within ys k y e in let le = h.0 in omega (arith, lt, le, count))
]

located_opened : (a : ℕ) (o : Option Location) → located (opened a o) ≡ o
located_opened a None = refl
located_opened a (Some l) = refl

located_past : (t : Track) (a : ℕ) (o : Option Location) (u : Track) → Turns t a o u → located u.present ≡ o
located_past t a o u (stays same ranges present) = ap located present ∙ same
located_past t a o u (turns differs ranges present) = ap located present ∙ located_opened a o

pub turns_not : (group : Group) (places : List (Option Place)) (a : ℕ) (t : Track) → IsLocationFor group places (located t.present) →
    TurnsBy group places a t t
turns_not group places a t by = record { to = located t.present; by = by; turns = stays refl refl refl }

module _ (groups : List Group) (places : List (Option Place)) (a : ℕ) where
  -- all tracks stay
  pub none_turned : (tracks : List Track) → AreTurned groups places tracks → TurnedBelow groups places a tracks (length groups) tracks
  none_turned tracks are = record {
    for_all = refl;
    done = λ k group t u lt at was now.
        let both : Some t ≡ Some u = sym was ∙ now in
        let same : t ≡ u = cc in
        subst (TurnsBy group places a t) same (turns_not group places a t (are k group t at was));
    rest = λ k u le at. at;
  }

  -- past all of them each is at its location
  pub are_turned : (old new : List Track) → TurnedBelow groups places a old (length groups) new → AreTurned groups places new
  are_turned old new turned k group u at now =
      let t = one_at old new k u (sym turned.for_all) now in
      let by = turned.done k group t.0 u (slice_get_within groups k group at) at t.1 now in
      subst (IsLocationFor group places) (sym (located_past t.0 a by.to u by.turns)) by.by

-- without a flag all tracks stay
pub quiet_turned : (groups : List Group) (places : List (Option Place)) (a : ℕ) (changed : List Bool) (tracks : List Track) →
    StandStill groups places changed tracks → ((j : ℕ) → slice_index_or changed j false ≡ false) →
    TurnedBelow groups places a tracks (length groups) tracks
quiet_turned groups places a changed tracks still quiet =
    none_turned groups places a tracks (λ k group t at_group at_track. still k group t at_group at_track (none_changed changed quiet group))
