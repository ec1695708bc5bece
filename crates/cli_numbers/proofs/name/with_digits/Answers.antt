use Rattle.std.proofs.Common.{◌≡◌, ℕ, ◌<◌, ◌≤◌, Option, Some, None, refl, sym, ap, ◌∙◌, subst, arith}
use Rattle.std.specs.List.{Contains}
use Rattle.std.specs.Option.{IfSome, IsNone}
use Rattle.std.specs.Fmt.{decimal}
use Rattle.std.proofs.lemmas.Bool.{false≢true}
use Rattle.rv64_instr.specs.Reserve.{RESERVABLE}
use Rattle.cli_numbers.proofs.Names.{below}
use Rattle.cli_numbers.proofs.name.with_digits.Goals as goal

no_number : (n : ℕ) → ◌≡◌ {A = Option ℕ} None (Some n) → ⊥
no_number n e = cc

one_number : (m n : ℕ) → ◌≡◌ {A = Option ℕ} (Some m) (Some n) → m ≡ n
one_number m n e = cc

some_number : (o : Option ℕ) (n : ℕ) → (IsNone o → 32 ≤ n) → IfSome o (λ m. m ≡ n) → n < 32 → o ≡ Some n
some_number None n none is lt = absurd (let le = none refl in omega (arith, le, lt))
some_number (Some m) n none is lt = ap (λ (x : ℕ). Some x) is

pub returns-then-is_reservable : goal.returns-then-is_reservable
returns-then-is_reservable c = λ r.
    let n = c.in_ok-number.number in
    let in_it : Contains RESERVABLE n = c.is_reservable.ensures.0 c.if-is_reservable.true in
    let lt = below n in_it in
    let spelled = (c.in_ok-number.ensures n).0 refl in
    let given : c.physical.result ≡ Some n = some_number c.physical.result n c.physical.ensures.none.0 c.physical.ensures.value (omega (arith, lt)) in (
      λ e. (
          let same = one_number n r (sym given ∙ e) in
          (subst (λ (m : ℕ). c.args.digits.now ≡ decimal m) same spelled.0, subst (Contains RESERVABLE) same in_it)),
      λ h. (
          let few = below r h.1 in
          given ∙ (c.in_ok-number.ensures r).1 (h.0, omega (arith, few))),
    )

pub returns-else-is_reservable : goal.returns-else-is_reservable
returns-else-is_reservable c = λ r. (
  λ e. absurd (no_number r e),
  λ h. (
      let few = below r h.1 in
      let same = one_number c.in_ok-number.number r ((c.in_ok-number.ensures r).1 (h.0, omega (arith, few))) in
      absurd (false≢true (sym c.if-is_reservable.false ∙ c.is_reservable.ensures.1 (subst (Contains RESERVABLE) (sym same) h.1)))),
)
