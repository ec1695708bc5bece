use Rattle.std.proofs.Common.{◌≡◌, ℕ, ◌<◌, ◌≤◌, ◌^◌, List, [], length, get_or, map, Option, Some, None, sym, ap, ◌∙◌, subst, arith}
use Rattle.std.specs.List.{All}
use Rattle.std.specs.Fmt.{decimal}
use Rattle.std.proofs.lemmas.List.Elements.{All-push, All-get_or}
use Rattle.cli_numbers.proofs.Pieces.{piece_at, one_list, next_piece, whole_list, same_length}
use Rattle.cli_numbers.proofs.Decimals.{decimals}
use Rattle.cli_numbers.proofs.list.each_number.Goals as goal

no_number : (n : ℕ) → ◌≡◌ {A = Option ℕ} None (Some n) → ⊥
no_number n e = cc

no_values : (values : List ℕ) → ◌≡◌ {A = Option (List ℕ)} None (Some values) → ⊥
no_values values e = cc

one_value : (xs ys : List ℕ) → ◌≡◌ {A = Option (List ℕ)} (Some xs) (Some ys) → xs ≡ ys
one_value xs ys e = cc

pub loop-piece-preserved : goal.loop-piece-preserved
loop-piece-preserved c =
    let i = c.loop-piece.piece-index in
    let before = c.loop-piece.values in
    let is = (c.number.ensures c.in-Some.n).0 c.in-Some.is in
    let below : i < length c.args.pieces.now = c.loop-piece-test.true in
    let push = c.in_ok-push-in-Some.ensures.ok in
    record {
      each = next_piece decimal c.args.pieces.now i before c.in-Some.n (record { ref_ptr = (0, 0); now = [] }) below c.loop-piece.invariant.each is.0
          ∙ ap (map decimal) (sym push);
      small = subst (All (λ n. n < 2 ^ 64)) (sym push)
          (All-push (λ n. n < 2 ^ 64) before c.in-Some.n c.loop-piece.invariant.small (omega (arith, is.1)));
    }

pub returns-in-None : goal.returns-in-None
returns-in-None c = λ values. (
  λ e. absurd (no_values values e),
  λ h. (
      let i = c.loop-piece.piece-index in
      let below : i < length c.args.pieces.now = c.loop-piece-test.true in
      let long = same_length decimal c.args.pieces.now values h.0.each in
      let n = get_or values i 0 in
      let small = All-get_or (λ m. m < 2 ^ 64) values i 0 (omega (arith, below, long)) h.0.small in
      let spelled = piece_at decimal c.args.pieces.now values i (record { ref_ptr = (0, 0); now = [] }) 0 h.0.each below in
      absurd (no_number n (sym c.in-None.is ∙ (c.number.ensures n).1 (spelled, omega (arith, small))))),
)

pub returns : goal.returns
returns c = λ values. (
  λ e. (
      let same = one_value c.loop-piece.values values e in
      let all = whole_list decimal c.args.pieces.now c.loop-piece.piece-index c.loop-piece.values c.loop-piece-test.false c.loop-piece.invariant.each in
      let each = all ∙ ap (map decimal) same in
      let long = same_length decimal c.args.pieces.now values each in
      let few : length c.args.pieces.now ≤ c.args.most = c.if-pieces-most.false in
      (record { each = each; small = subst (All (λ n. n < 2 ^ 64)) same c.loop-piece.invariant.small }, omega (arith, long, few))),
  λ h. (
      let all = whole_list decimal c.args.pieces.now c.loop-piece.piece-index c.loop-piece.values c.loop-piece-test.false c.loop-piece.invariant.each in
      ap (λ (xs : List ℕ). Some xs)
      (one_list decimal (λ n. n < 2 ^ 64) decimals c.loop-piece.values values c.loop-piece.invariant.small h.0.small (sym all ∙ h.0.each))),
)

pub returns-then-pieces-most : goal.returns-then-pieces-most
returns-then-pieces-most c = λ values. (
  λ e. absurd (no_values values e),
  λ h. (
      let long = same_length decimal c.args.pieces.now values h.0.each in
      let many : c.args.most < length c.args.pieces.now = c.if-pieces-most.true in
      absurd (omega (arith, long, many, h.1))),
)
