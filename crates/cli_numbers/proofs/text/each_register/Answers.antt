use Rattle.std.proofs.Common.{◌≡◌, ◌≢◌, ℕ, ◌<◌, List, [], length, get_or, map, take, Option, Some, None, sym, ap, ◌∙◌, subst, arith}
use Rattle.std.specs.List.{All, AllPairs, Contains}
use Rattle.std.proofs.lemmas.List.{take-map}
use Rattle.std.proofs.lemmas.List.Elements.{All-push, All-get_or, All-take}
use Rattle.cli_numbers.proofs.Pieces.{piece_at, one_list, next_piece, whole_list, same_length}
use Rattle.rv64_instr.specs.Reserve.{RESERVABLE}
use Rattle.cli_numbers.specs.Reserve.{register_name, AreNamed}
use Rattle.cli_numbers.proofs.Names.{names, once_more, not_before}
use Rattle.cli_numbers.proofs.text.each_register.Goals as goal

no_register : (r : ℕ) → ◌≡◌ {A = Option ℕ} None (Some r) → ⊥
no_register r e = cc

no_registers : (registers : List ℕ) → ◌≡◌ {A = Option (List ℕ)} None (Some registers) → ⊥
no_registers registers e = cc

one_value : (xs ys : List ℕ) → ◌≡◌ {A = Option (List ℕ)} (Some xs) (Some ys) → xs ≡ ys
one_value xs ys e = cc

pub loop-word-preserved : goal.loop-word-preserved
loop-word-preserved c =
    let i = c.loop-word.word-index in
    let before = c.loop-word.registers in
    let r = c.in-Some.register in
    let is = (c.another.ensures r).0 c.in-Some.is in
    let below : i < length c.args.words.now = c.loop-word-test.true in
    let push = c.in_ok-push-in-Some.ensures.ok in
    let other = subst (λ (rs : List ℕ). Contains rs r → ⊥) c.as_slice.ensures is.other in
    record {
      each = next_piece register_name c.args.words.now i before r (record { ref_ptr = (0, 0); now = [] }) below c.loop-word.invariant.each is.named
          ∙ ap (map register_name) (sym push);
      reservable = subst (All (Contains RESERVABLE)) (sym push) (All-push (Contains RESERVABLE) before r c.loop-word.invariant.reservable is.reservable);
      once = subst (AllPairs (λ s t. s ≢ t)) (sym push) (once_more before r c.loop-word.invariant.once other);
    }

pub returns-in-None : goal.returns-in-None
returns-in-None c = λ registers. (
  λ e. absurd (no_registers registers e),
  λ h. (
      let i = c.loop-word.word-index in
      let below : i < length c.args.words.now = c.loop-word-test.true in
      let long = same_length register_name c.args.words.now registers h.each in
      let inside : i < length registers = omega (arith, below, long) in
      let r = get_or registers i 0 in
      let front = sym (take-map register_name i registers) ∙ (ap (take i) (sym h.each) ∙ c.loop-word.invariant.each) in
      let same = one_list register_name (Contains RESERVABLE) names (take i registers) c.loop-word.registers
      (All-take (Contains RESERVABLE) i registers h.reservable) c.loop-word.invariant.reservable front in
      absurd (no_register r (sym c.in-None.is ∙ (c.another.ensures r).1 (record {
        named = piece_at register_name c.args.words.now registers i (record { ref_ptr = (0, 0); now = [] }) 0 h.each below;
        reservable = All-get_or (Contains RESERVABLE) registers i 0 inside h.reservable;
        other = not_before registers c.as_slice.result.now i (same ∙ sym c.as_slice.ensures) inside h.once;
      })))),
)

pub returns : goal.returns
returns c =
    let all = whole_list register_name c.args.words.now c.loop-word.word-index c.loop-word.registers c.loop-word-test.false c.loop-word.invariant.each in
    λ registers. (
      λ e. subst (AreNamed (map (λ w. w.now) c.args.words.now)) (one_value c.loop-word.registers registers e)
          (record { each = all; reservable = c.loop-word.invariant.reservable; once = c.loop-word.invariant.once }),
      λ h. ap (λ (xs : List ℕ). Some xs)
          (one_list register_name (Contains RESERVABLE) names c.loop-word.registers registers c.loop-word.invariant.reservable h.reservable (sym all ∙ h.each)),
    )
