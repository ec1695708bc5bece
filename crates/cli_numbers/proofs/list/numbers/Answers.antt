use Rattle.std.proofs.Common.{◌≡◌, ◌<◌, ◌≤◌, ◌^◌, List, ℕ, length, map, sym, ap, ◌∙◌, nat_eq}
use Rattle.std.specs.List.{slice_split}
use Rattle.std.specs.Fmt.{decimal}
use Rattle.cli_numbers.specs.Numbers.{AreSpelled, AreListed}
use Rattle.cli_numbers.proofs.Decimals.{decimals}
use Rattle.cli_numbers.proofs.Pieces.{joined, some_pieces, split_listed, same_answers}
use Rattle.cli_numbers.proofs.list.numbers.Goals as goal

-- a text lists just what its pieces are
listed : (most : ℕ) (text values : List ℕ) (pieces : List (List ℕ)) → pieces ≡ slice_split (λ b. nat_eq b 44) text → AreSpelled pieces values →
    length values ≤ most → AreListed most text values
listed most text values pieces same h few =
    let each = sym same ∙ h.each in
    record { listed = joined decimal text values each; some = some_pieces decimal text values each; few = few; small = h.small }

unlisted : (most : ℕ) (text values : List ℕ) (pieces : List (List ℕ)) → pieces ≡ slice_split (λ b. nat_eq b 44) text → AreListed most text values →
    AreSpelled pieces values
unlisted most text values pieces same h = record {
  each = same ∙ (ap (slice_split (λ b. nat_eq b 44)) h.listed ∙ split_listed decimal (λ n. n < 2 ^ 64) decimals values h.some h.small);
  small = h.small;
}

pub returns : goal.returns
returns c =
    let text = c.args.text.now in
    let pieces = map (λ p. p.now) c.deref.result.now in
    let same = ap (map (λ p. p.now)) c.deref.ensures.value ∙ c.in_ok-pieces.ensures in
    same_answers (λ values. AreSpelled pieces values × (length values ≤ c.args.most)) (AreListed c.args.most text)
    (λ values h. listed c.args.most text values pieces same h.0 h.1) (λ values l. (unlisted c.args.most text values pieces same l, l.few))
    c.each_number.result c.each_number.ensures
