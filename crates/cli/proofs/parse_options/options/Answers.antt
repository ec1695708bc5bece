use Rattle.std.proofs.Common.{◌≡◌, ◌+◌, ◌∷◌, map, drop, sym, subst}
use Rattle.std.specs.Prelude.{string_bytes}
use Rattle.cli.specs.Options.{GiveOptions}
use Rattle.cli.specs.declared.options.Options.{Options}
use Rattle.cli.proofs.Giving.{no_options, left, none_left, all_given, one_more, no_more}
use Rattle.cli.proofs.parse_options.options.Goals as goal

pub loop-word-init : goal.loop-word-init
loop-word-init c = λ whole. (
  λ h. subst (λ (g : Options). GiveOptions g (map string_bytes c.args.words.now) whole) c.none-given.ensures h,
  λ h. subst (λ (g : Options). GiveOptions g (map string_bytes c.args.words.now) whole) (sym c.none-given.ensures) h,
)

pub loop-word-preserved : goal.loop-word-preserved
loop-word-preserved c = λ whole.
    let words = map string_bytes c.args.words.now in
    let i = c.loop-word.word-index in
    let same : drop i words ≡ c.as_str.result.now ∷ drop (i + 1) words =
    left c.args.words.now string_bytes i c.word-item.result c.as_str.result.now c.loop-word-test.true c.word-item.is c.as_str.ensures.value in
    let step = one_more c.loop-word.given c.as_str.result.now (drop (i + 1) words) (drop i words) same c.in_ok-next.field-0 (λ o. c.in_ok-next.ensures o) whole
    c.in-Some.next c.in-Some.is in
    let before = c.loop-word.invariant whole in (
      λ h. before.0 (step.1 h),
      λ h. step.0 (before.1 h),
    )

pub returns-in-None : goal.returns-in-None
returns-in-None c = λ whole.
    let words = map string_bytes c.args.words.now in
    let i = c.loop-word.word-index in
    let same : drop i words ≡ c.as_str.result.now ∷ drop (i + 1) words =
    left c.args.words.now string_bytes i c.word-item.result c.as_str.result.now c.loop-word-test.true c.word-item.is c.as_str.ensures.value in (
      λ e. absurd (no_options whole e),
      λ h. absurd (no_more c.loop-word.given c.as_str.result.now (drop (i + 1) words) (drop i words) same c.in_ok-next.field-0 (λ o. c.in_ok-next.ensures o)
          whole c.in-None.is ((c.loop-word.invariant whole).1 h)),
    )

pub returns : goal.returns
returns c = λ whole.
    let words = map string_bytes c.args.words.now in
    let i = c.loop-word.word-index in
    let all = all_given c.loop-word.given (drop i words) (none_left c.args.words.now string_bytes i c.loop-word-test.false) whole in
    let before = c.loop-word.invariant whole in (
      λ e. before.0 (all.0 e),
      λ h. all.1 (before.1 h),
    )
