use Rattle.std.proofs.Common.{◌≡◌, ℕ, ◌<◌, List, [], length, get_or, map, take, Option, Some, None, sym, ap, ◌∙◌, subst, arith}
use Rattle.std.specs.List.{All, AllPairs}
use Rattle.std.proofs.lemmas.List.{take-map}
use Rattle.std.proofs.lemmas.List.Elements.{All-push, All-get_or, All-take}
use Rattle.std.proofs.lemmas.List.Quantifiers.{all_pairs_push}
use Rattle.rv64_instr.specs.declared.symbol.Symbol.{Symbol}
use Rattle.rv64_instr.specs.declared.symbol.Symbol.TheVariants.{Constant}
use Rattle.cli_numbers.specs.Symbols.{pair_text, CanBeGiven, AreOthers, ArePairs}
use Rattle.cli_numbers.proofs.Pieces.{piece_at, one_list, next_piece, whole_list, same_length}
use Rattle.cli_numbers.proofs.SymbolTexts.{no_pair, pairs_spelled, others_before}
use Rattle.cli_numbers.proofs.symbols.each_pair.Goals as goal

no_pairs : (pairs : List (Symbol × ℕ)) → ◌≡◌ {A = Option (List (Symbol × ℕ))} None (Some pairs) → ⊥
no_pairs pairs e = cc

one_value : (xs ys : List (Symbol × ℕ)) → ◌≡◌ {A = Option (List (Symbol × ℕ))} (Some xs) (Some ys) → xs ≡ ys
one_value xs ys e = cc

-- what stands where there is no pair
default : Symbol × ℕ
default = (Constant 0, 0)

pub loop-text-preserved : goal.loop-text-preserved
loop-text-preserved c =
    let i = c.loop-text.text-index in
    let before = c.loop-text.pairs in
    let p = c.in-Some.pair in
    let is = (c.in_ok-pair.ensures p).0 c.in-Some.is in
    let below : i < length c.args.texts.now = c.loop-text-test.true in
    let push = c.in_ok-push-in-Some.ensures.ok in
    let other = subst (λ (ps : List (Symbol × ℕ)). All (λ q. AreOthers q p) ps) c.as_slice.ensures is.other in
    record {
      each = next_piece pair_text c.args.texts.now i before p (record { ref_ptr = (0, 0); now = [] }) below c.loop-text.invariant.each is.spelled
          ∙ ap (map pair_text) (sym push);
      given = subst (All CanBeGiven) (sym push) (All-push CanBeGiven before p c.loop-text.invariant.given is.given);
      once = subst (AllPairs AreOthers) (sym push) (all_pairs_push AreOthers before p c.loop-text.invariant.once other);
    }

pub returns-in-None : goal.returns-in-None
returns-in-None c = λ pairs. (
  λ e. absurd (no_pairs pairs e),
  λ h. (
      let i = c.loop-text.text-index in
      let below : i < length c.args.texts.now = c.loop-text-test.true in
      let long = same_length pair_text c.args.texts.now pairs h.each in
      let inside : i < length pairs = omega (arith, below, long) in
      let p = get_or pairs i default in
      let front = sym (take-map pair_text i pairs) ∙ (ap (take i) (sym h.each) ∙ c.loop-text.invariant.each) in
      let same = one_list pair_text CanBeGiven pairs_spelled (take i pairs) c.loop-text.pairs (All-take CanBeGiven i pairs h.given)
      c.loop-text.invariant.given front in
      absurd (no_pair p (sym c.in-None.is ∙ (c.in_ok-pair.ensures p).1 (record {
        spelled = piece_at pair_text c.args.texts.now pairs i (record { ref_ptr = (0, 0); now = [] }) default h.each below;
        given = All-get_or CanBeGiven pairs i default inside h.given;
        other = subst (λ (ps : List (Symbol × ℕ)). All (λ q. AreOthers q p) ps) (same ∙ sym c.as_slice.ensures)
            (others_before pairs i default inside h.once);
      })))),
)

pub returns : goal.returns
returns c =
    let all = whole_list pair_text c.args.texts.now c.loop-text.text-index c.loop-text.pairs c.loop-text-test.false c.loop-text.invariant.each in
    λ pairs. (
      λ e. subst (ArePairs (map (λ t. t.now) c.args.texts.now)) (one_value c.loop-text.pairs pairs e)
          (record { each = all; given = c.loop-text.invariant.given; once = c.loop-text.invariant.once }),
      λ h. ap (λ (xs : List (Symbol × ℕ)). Some xs)
          (one_list pair_text CanBeGiven pairs_spelled c.loop-text.pairs pairs c.loop-text.invariant.given h.given (sym all ∙ h.each)),
    )
