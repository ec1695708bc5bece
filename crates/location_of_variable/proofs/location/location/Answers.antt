use Rattle.std.proofs.Common.{◌≡◌, sym, ◌∙◌, ap, subst}
use Rattle.std.specs.Prelude.{All, Option, Some, None}
use Rattle.rv64_instr.specs.declared.place.Place.{Place}
use Rattle.mir_func.specs.Parts.{IsPart}
use Rattle.location_of_variable.specs.declared.group.Piece.{Piece}
use Rattle.location_of_variable.specs.VariableLocation.{IsWantedLocation, MayBeListed}
use Rattle.location_of_variable.specs.steps.Telling.{place_at, pieces_from, whole_place, in_pieces, told_or}
use Rattle.location_of_variable.proofs.Locating.{whole_wanted, whole_listed, pieces_wanted, pieces_listed, same_whole, same_pieces}
use Rattle.location_of_variable.proofs.location.location.Goals as goal

pub returns-in_ok-pieces-in-None : goal.returns-in_ok-pieces-in-None
returns-in_ok-pieces-in-None c = λ others same.
    let places = c.args.places.now in
    let group = c.args.group.now in
    let bounds = subst (All (λ (x : Piece). IsPart x.bytes)) c.as_slice.ensures.value c.in_ok-pieces-in-None.ensures.parts in
    let none : whole_place (place_at places) group.whole ≡ None = sym c.whole_place.ensures ∙ c.in-None.is in
    let none_there = sym (same_whole (place_at places) (place_at others) group.whole same.whole) ∙ none in
    let told = c.in_pieces.ensures ∙ ap in_pieces (c.in_ok-pieces-in-None.ensures.pieces ∙ ap (pieces_from (place_at places) 0) c.as_slice.ensures.value) in
    let is = told ∙ ap in_pieces (same_pieces (place_at places) (place_at others) group.pieces.items 0 same.pieces) in
    record {
      wanted = λ g start p parts v are of. subst (IsWantedLocation g start v p) (sym is) (pieces_wanted g start p parts others are v group of
          bounds none_there);
      listed = λ g start p parts v are of. subst MayBeListed (sym is) (pieces_listed g start p parts others are v group of bounds none_there);
      told = is ∙ sym (ap (λ (w : Option Place). told_or w (pieces_from (place_at others) 0 group.pieces.items)) none_there);
      bounds = λ _. bounds;
    }

pub returns-in-Some : goal.returns-in-Some
returns-in-Some c = λ others same.
    let group = c.args.group.now in
    let some : whole_place (place_at c.args.places.now) group.whole ≡ Some c.in-Some.place = sym c.whole_place.ensures ∙ c.in-Some.is in
    let some_there = sym (same_whole (place_at c.args.places.now) (place_at others) group.whole same.whole) ∙ some in
    record {
      wanted = λ g start p parts v are of. whole_wanted g start p parts others are v group of c.in-Some.place some_there;
      listed = λ g start p parts v are of. whole_listed g start p parts others are v group of c.in-Some.place some_there;
      told = sym (ap (λ (w : Option Place). told_or w (pieces_from (place_at others) 0 group.pieces.items)) some_there);
      bounds = λ none. absurd (let no : Some c.in-Some.place ≡ None = sym some_there ∙ none in cc);
    }
