use Rattle.std.proofs.Common.{◌≡◌, List, ℕ, map, sym, ap, ◌∙◌, nat_eq}
use Rattle.std.specs.List.{slice_split}
use Rattle.rv64_instr.specs.declared.symbol.Symbol.{Symbol}
use Rattle.cli_numbers.specs.Symbols.{pair_text, CanBeGiven, ArePairs, IsAddressText}
use Rattle.cli_numbers.proofs.Pieces.{joined, some_pieces, split_listed, same_answers}
use Rattle.cli_numbers.proofs.SymbolTexts.{pairs_spelled}
use Rattle.cli_numbers.proofs.symbols.symbol_addresses.Goals as goal

-- a text is just what its pieces are
told : (text : List ℕ) (pairs : List (Symbol × ℕ)) (texts : List (List ℕ)) → texts ≡ slice_split (λ b. nat_eq b 44) text → ArePairs texts pairs →
    IsAddressText text pairs
told text pairs texts same h =
    let each = sym same ∙ h.each in
    record { listed = joined pair_text text pairs each; some = some_pieces pair_text text pairs each; given = h.given; once = h.once }

spelled : (text : List ℕ) (pairs : List (Symbol × ℕ)) (texts : List (List ℕ)) → texts ≡ slice_split (λ b. nat_eq b 44) text → IsAddressText text pairs →
    ArePairs texts pairs
spelled text pairs texts same h = record {
  each = same ∙ (ap (slice_split (λ b. nat_eq b 44)) h.listed ∙ split_listed pair_text CanBeGiven pairs_spelled pairs h.some h.given);
  given = h.given;
  once = h.once;
}

pub returns : goal.returns
returns c =
    let text = c.args.text.now in
    let texts = map (λ p. p.now) c.deref.result.now in
    let same = ap (map (λ p. p.now)) c.deref.ensures.value ∙ c.in_ok-pieces.ensures in
    same_answers (ArePairs texts) (IsAddressText text) (λ pairs h. told text pairs texts same h) (λ pairs h. spelled text pairs texts same h)
    c.each_pair.result c.each_pair.ensures
