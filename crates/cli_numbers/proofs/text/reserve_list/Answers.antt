use Rattle.std.proofs.Common.{◌≡◌, List, ℕ, map, sym, ap, ◌∙◌, nat_eq}
use Rattle.std.specs.List.{Contains, slice_split}
use Rattle.cli_numbers.proofs.Pieces.{joined, some_pieces, split_listed, same_answers}
use Rattle.rv64_instr.specs.Reserve.{RESERVABLE}
use Rattle.cli_numbers.specs.Reserve.{register_name, AreNamed, IsReserveText}
use Rattle.cli_numbers.proofs.Names.{names}
use Rattle.cli_numbers.proofs.text.reserve_list.Goals as goal

-- a text names just what its words do
told : (text registers : List ℕ) (words : List (List ℕ)) → words ≡ slice_split (λ b. nat_eq b 44) text → AreNamed words registers →
    IsReserveText text registers
told text registers words same h =
    let each = sym same ∙ h.each in
    record {
      named = joined register_name text registers each;
      some = some_pieces register_name text registers each;
      reservable = h.reservable;
      once = h.once;
    }

named : (text registers : List ℕ) (words : List (List ℕ)) → words ≡ slice_split (λ b. nat_eq b 44) text → IsReserveText text registers →
    AreNamed words registers
named text registers words same h = record {
  each = same ∙ (ap (slice_split (λ b. nat_eq b 44)) h.named ∙ split_listed register_name (Contains RESERVABLE) names registers h.some h.reservable);
  reservable = h.reservable;
  once = h.once;
}

pub returns : goal.returns
returns c =
    let text = c.args.text.now in
    let words = map (λ p. p.now) c.deref.result.now in
    let same = ap (map (λ p. p.now)) c.deref.ensures.value ∙ c.in_ok-pieces.ensures in
    same_answers (AreNamed words) (IsReserveText text) (λ registers h. told text registers words same h) (λ registers h. named text registers words same h)
    c.each_register.result c.each_register.ensures
