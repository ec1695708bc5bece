use Rattle.std.proofs.Common.{◌≡◌, ℕ, ◌≤◌, ◌<◌, ◌^◌, Some, None, Option, Ok, Err, Result, subst, sym, ap, ◌∙◌, arith}
use Rattle.std.specs.Fmt.{decimal}
use Rattle.std.proofs.lemmas.Fmt.{parse-decimal}
use Rattle.cli_numbers.proofs.number.number.Goals as goal

one_ok : {E : Type 0} (m n : ℕ) → ◌≡◌ {A = Result ℕ E} (Ok m) (Ok n) → m ≡ n
one_ok m n e = cc

no_err : {E : Type 0} (n : ℕ) (e : E) → ◌≡◌ {A = Result ℕ E} (Err e) (Ok n) → ⊥
no_err n e q = cc

no_number : (n : ℕ) → ◌≡◌ {A = Option ℕ} None (Some n) → ⊥
no_number n e = cc

pub returns-in-Ok : goal.returns-in-Ok
returns-in-Ok c = λ n. (
  λ e. (
      let s = c.within.ensures.some n e in
      let same : c.in-Ok.n ≡ n = sym s.0 in
      (subst (λ (m : ℕ). c.args.word.now ≡ decimal m) same s.1, subst (λ (m : ℕ). m ≤ c.args.limit) same s.2)),
  λ h. (
      let fits = c.ranges.limit.fits in
      let small : n < 2 ^ 64 = omega (arith, fits, h.1) in
      let parsed = parse-decimal 64 n c.args.word.now c.parse.result small small h.0 c.parse.ensures.value.0 in
      let same = one_ok c.in-Ok.n n (sym c.in-Ok.is ∙ parsed) in
      c.within.ensures.all (subst (λ (m : ℕ). c.args.word.now ≡ decimal m) (sym same) h.0) (subst (λ (m : ℕ). m ≤ c.args.limit) (sym same) h.1)
      ∙ ap (λ (m : ℕ). Some m) same),
)

pub returns-in-Err : goal.returns-in-Err
returns-in-Err c = λ n. (
  λ e. absurd (no_number n e),
  λ h. (
      let fits = c.ranges.limit.fits in
      let small : n < 2 ^ 64 = omega (arith, fits, h.1) in
      absurd (no_err n c.in-Err.field-0 (parse-decimal 64 n c.args.word.now (Err c.in-Err.field-0) small small h.0 c.in-Err.ensures.value.0))),
)
