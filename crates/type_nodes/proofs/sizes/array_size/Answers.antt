use Rattle.std.proofs.Common.{◌≡◌, ◌∷◌, ◌+◌, ◌*◌, ◌-◌, ◌^◌, ℕ, List, Option, Some, None, min, drop, arith, ap, ◌∙◌}
use Rattle.std.specs.Prelude.{slice_index_or}
use Rattle.std.specs.Option.{option_and_then}
use Rattle.std.proofs.lemmas.List.{drop_more}
use Rattle.type_nodes.specs.Sizes.{times, product}
use Rattle.type_nodes.proofs.Ordered.{capped, times_more}
use Rattle.type_nodes.proofs.sizes.array_size.Goals as goal

pub loop-count-preserved : goal.loop-count-preserved
loop-count-preserved c =
    let counts = c.args.counts.now in
    let k = c.loop-count.count-index in
    let n = c.in-Some.count in
    let t = c.loop-count.invariant.0 in
    let at : slice_index_or counts k None ≡ Some n = grind arith in
    let rest : drop k counts ≡ Some n ∷ drop (k + 1) counts =
    drop_more counts k None c.loop-count-test.true ∙ ap (λ (x : Option ℕ). x ∷ drop (k + 1) counts) at in (
      t * n,
      c.min-total-in-Some.ensures
          ∙ ap (λ (x : ℕ). min x (2 ^ 61)) (c.saturating_mul.ensures ∙ ap (λ (y : ℕ). min (y * n) (2 ^ 64 - 1)) c.loop-count.invariant.1)
          ∙ capped t n,
      c.loop-count.invariant.2 ∙ ap (λ (xs : List (Option ℕ)). option_and_then (times t) (product xs)) rest
          ∙ times_more t n (product (drop (k + 1) counts)),
    )
