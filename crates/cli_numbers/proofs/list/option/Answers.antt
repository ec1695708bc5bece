use Rattle.std.proofs.Common.{◌≡◌, List, ℕ, ◌++◌, drop, length, Option, Some, None, Result, Ok, Err, ◌↔◌, sym, ap, ◌∙◌, subst, arith}
use Rattle.std.specs.Result.{IfOk}
use Rattle.std.proofs.lemmas.Grind.{common_steps}
use Rattle.cli_numbers.specs.Numbers.{AreListed, IsOption}
use Rattle.cli_numbers.proofs.list.option.Goals as goal

no_values : (values : List ℕ) → ◌≡◌ {A = Option (List ℕ)} None (Some values) → ⊥
no_values values e = cc

named_so : {E : Type 0} (r : Result (Option (List ℕ)) E) (most : ℕ) (name word text : List ℕ) → word ≡ name ++ text →
    ((list : List ℕ) → word ≡ name ++ list → list ≡ text) →
    IfOk r (λ o. (values : List ℕ) → (o ≡ Some values) ↔ AreListed most text values) →
    IfOk r (λ o. (values : List ℕ) → (o ≡ Some values) ↔ IsOption most name word values)
named_so (Err e) most name word text named one h = tt
named_so (Ok o) most name word text named one h = λ values. (
  λ e. record { list = text; named = named; lists = (h values).0 e },
  λ l. (h values).1 (subst (λ (t : List ℕ). AreListed most t values) (one l.list l.named) l.lists),
)

cut : (xs ys : List ℕ) → drop (length xs) (xs ++ ys) ≡ ys
cut xs ys = grind (arith, common_steps)

pub returns-in-Some : goal.returns-in-Some
returns-in-Some c =
    let name = c.args.name.now in
    let word = c.args.word.now in
    let s = c.in-Some.ensures.cases in
    named_so c.numbers.result c.args.most name word c.in-Some.text.now (s.1.1 ∙ ap (λ (t : List ℕ). name ++ t) (sym s.2))
    (λ list q. sym (cut name list) ∙ (ap (drop (length name)) (sym q) ∙ (ap (λ (n : ℕ). drop n word) (sym s.1.0) ∙ sym s.2))) c.numbers.ensures

pub returns-in-None : goal.returns-in-None
returns-in-None c = λ values. (λ e. absurd (no_values values e), λ h. absurd (c.in-None.ensures.cases h.list h.named))
