use Rattle.std.proofs.Common.{◌≡◌, ℕ, List, ◌∷◌, drop, sym, ap, ◌∙◌}
use Rattle.cli_numbers.proofs.name.register.Goals as goal

pub returns-in-Some : goal.returns-in-Some
returns-in-Some c = λ r.
    let s = c.in-Some.ensures.cases in
    let named : c.args.word.now ≡ 120 ∷ c.in-Some.digits.now = s.1.1 ∙ ap (λ (t : List ℕ). 120 ∷ t) (sym s.2) in (
      λ e. (let h = (c.with_digits.ensures r).0 e in (named ∙ ap (λ (t : List ℕ). 120 ∷ t) h.0, h.1)),
      λ h. (c.with_digits.ensures r).1 (ap (drop 1) (sym named ∙ h.0), h.1),
    )
