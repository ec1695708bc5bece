use Rattle.std.proofs.Common.{◌≡◌, ◌++◌, ℕ, sym, subst}
use Rattle.std.specs.Prelude.{codes, OnOk}
use Rattle.std.specs.Fmt.{decimal}
use Rattle.pass_trait.specs.declared.loss.Lost.{Lost}
use Rattle.report_function.specs.Text.{lost_text}
use Rattle.report_function.proofs.text.push_lost.Goals as goal

pub returns-in-Number : goal.returns-in-Number
returns-in-Number c =
    let r = c.push_numbered.result in
    let new = c.push_numbered.new.text in
    let old = c.args.text.now in
    subst (λ (x : Lost). OnOk r (new ≡ old ++ lost_text x)) (sym c.in-Number.is)
    (subst (λ (n : ℕ). OnOk r (new ≡ old ++ (codes "lost number " ++ decimal n))) c.number.ensures c.push_numbered.ensures.ok)
