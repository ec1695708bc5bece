-- Numbers of 64 bits in decimal digits.
use Rattle.std.proofs.Common.{◌≡◌, ℕ, ◌+◌, ◌%◌, ◌<◌, ◌^◌, [], false, nat_eq, arith}
use Rattle.std.specs.Fmt.{decimal}
use Rattle.std.proofs.lemmas.Bool.{ne_eqb}
use Rattle.std.proofs.lemmas.Fmt.{decimal_by_steps, decimal_injective}
use Rattle.std.proofs.lemmas.List.Elements.{All-nil, All-cons, All-append}
use Rattle.cli_numbers.proofs.Pieces.{NoComma, IsSpelling}

other : (d : ℕ) → nat_eq (48 + d) 44 ≡ false
other d = ne_eqb (48 + d) 44 (λ e. omega (arith, e))

no_comma : (n : ℕ) → n < 2 ^ 64 → NoComma (decimal n)
no_comma n small =
    decimal_by_steps (λ _ bs. NoComma bs) (λ d _. All-cons (λ x. nat_eq x 44 ≡ false) (48 + d) [] (other d) (All-nil (λ x. nat_eq x 44 ≡ false)))
    (λ m ds _ h. All-append (λ x. nat_eq x 44 ≡ false) ds _ h (All-cons (λ x. nat_eq x 44 ≡ false) _ [] (other (m % 10)) (All-nil (λ x. nat_eq x 44 ≡ false))))
    n small

pub decimals : IsSpelling decimal (λ n. n < 2 ^ 64)
decimals = record { no_comma = no_comma; one = λ m n hm hn e. decimal_injective m n hm hn e }
