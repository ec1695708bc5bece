use Rattle.std.proofs.Common.{ℕ, List, [], ◌∷◌, ◌++◌, sym, ap, ◌∙◌, arith, append_assoc, append-nil}
use Rattle.std.specs.Prelude.{replicate}
use Rattle.std.proofs.lemmas.List.{replicate_more}
use Rattle.constant_section.proofs.section.push_zeros.Goals as goal

pub loop-init : goal.loop-init
loop-init c = sym (append-nil c.args.bytes.now)

pub loop-preserved : goal.loop-preserved
loop-preserved c =
    let before : List ℕ = c.args.bytes.now in
    c.in_ok-push.ensures.ok
    ∙ (ap (λ (l : List ℕ). l ++ 0 ∷ []) c.loop.invariant
    ∙ (append_assoc before (replicate c.loop.counter 0) (0 ∷ []) ∙ ap (λ (l : List ℕ). before ++ l) (replicate_more c.loop.counter 0)))

pub returns : goal.returns
returns c =
    c.loop.invariant ∙ ap (λ (n : ℕ). c.args.bytes.now ++ replicate n 0) (omega (arith, c.loop.auto.counter-end, c.loop-test.false))
