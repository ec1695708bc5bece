use Rattle.std.proofs.Common.{◌≡◌, ℕ, Option, Some, refl, sym, ◌∙◌, subst}
use Rattle.std.proofs.lemmas.Bool.{false≢true}
use Rattle.std.proofs.Common.{eqb}
use Rattle.std.proofs.lemmas.Bool.Decides.{Decides-eqb}
use Rattle.std.proofs.lemmas.List.Elements.{contains_decides, Decides-contains}
use Rattle.cli_numbers.specs.Reserve.{IsAnother}
use Rattle.cli_numbers.proofs.text.another.Goals as goal

one_number : (m n : ℕ) → ◌≡◌ {A = Option ℕ} (Some m) (Some n) → m ≡ n
one_number m n e = cc

pub returns-else-contains : goal.returns-else-contains
returns-else-contains c = λ r.
    let n = c.in_ok-register.register in
    let is = (c.in_ok-register.ensures n).0 refl in
    let found = Decides-contains c.args.registers.now n c.contains.result
    (contains_decides eqb Decides-eqb c.args.registers.now n c.contains.result c.contains.ensures.cases) in (
      λ e. subst (IsAnother c.args.registers.now c.args.word.now) (one_number n r e)
          (record { named = is.0; reservable = is.1; other = λ h. false≢true (sym c.if-contains.false ∙ found.1 h) }),
      λ a. (c.in_ok-register.ensures r).1 (a.named, a.reservable),
    )
