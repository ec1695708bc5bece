use Rattle.std.proofs.Common.{◌≡◌, ℕ, ◌+◌, ◌<◌, List, ◌∷◌, ◌++◌, length, drop, get_or, sym, ◌∙◌, ap, subst, append_assoc, drop-cons, add-one}
use Rattle.std.specs.Prelude.{Option, All, option_to_list}
use Rattle.std.proofs.lemmas.List.{take_all}
use Rattle.std.proofs.lemmas.List.Elements.{All-more}
use Rattle.rv64_instr.specs.declared.place.Place.{Place}
use Rattle.mir_func.specs.Parts.{IsPart}
use Rattle.dwarf_loclists.specs.declared.range.Part.{Part}
use Rattle.location_of_variable.specs.declared.group.Piece.{Piece}
use Rattle.location_of_variable.specs.steps.Telling.{place_at, piece_told, end_past, pieces_from}
use Rattle.location_of_variable.proofs.location.pieces.Goals as goal

-- the part at an index, and those after it
split : (xs : List Piece) (i : ℕ) (x : Piece) → i < length xs → x ≡ get_or xs i x → drop i xs ≡ x ∷ drop (i + 1) xs
split xs i x lt is = drop-cons xs i x lt ∙ (λ z. sym is z ∷ drop (sym (add-one i) z) xs)

step : (place : ℕ → Option Place) (xs : List Piece) (i : ℕ) (x : Piece) (told new : List Part) (end e : ℕ) (o : Option Place) → i < length xs →
    x ≡ get_or xs i x → o ≡ place x.index → new ≡ told ++ option_to_list (piece_told o end x.bytes) → e ≡ end_past (piece_told o end x.bytes) end →
    new ++ pieces_from place e (drop (i + 1) xs) ≡ told ++ pieces_from place end (drop i xs)
step place xs i x told new end e o lt is place_is new_is end_is =
    let rest = drop (i + 1) xs in
    let t = piece_told o end x.bytes in
    ap (λ (z : List Part). z ++ pieces_from place e rest) new_is
    ∙ (ap (λ (n : ℕ). (told ++ option_to_list t) ++ pieces_from place n rest) end_is
    ∙ (append_assoc told (option_to_list t) (pieces_from place (end_past t end) rest)
    ∙ (ap (λ (q : Option Place). told ++ (option_to_list (piece_told q end x.bytes) ++ pieces_from place (end_past (piece_told q end x.bytes) end) rest))
    place_is
    ∙ ap (λ (ys : List Piece). told ++ pieces_from place end ys) (sym (split xs i x lt is)))))

pub loop-piece-preserved : goal.loop-piece-preserved
loop-piece-preserved c =
    let x = c.piece-item.result in
    record {
      told = step (place_at c.args.places.now) c.args.parts.now c.loop-piece.piece-index x c.loop-piece.told c.tell.new.told c.loop-piece.end
          c.in_ok-end.end c.place_at.result c.loop-piece-test.true c.piece-item.is c.place_at.ensures c.in_ok-end.ensures.told c.in_ok-end.ensures.end
          ∙ c.loop-piece.invariant.told;
      parts = All-more (λ (x : Piece). IsPart x.bytes) c.args.parts.now c.loop-piece.piece-index x c.loop-piece-test.true c.loop-piece.invariant.parts
          (subst (λ (x : Piece). IsPart x.bytes) c.piece-item.is c.tell.ensures.part);
    }

pub returns-clause-parts : goal.returns-clause-parts
returns-clause-parts c = subst (All (λ (x : Piece). IsPart x.bytes)) (take_all c.loop-piece.piece-index c.args.parts.now c.loop-piece-test.false)
    c.loop-piece.invariant.parts
