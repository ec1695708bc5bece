use Rattle.std.proofs.Common.{◌≡◌, Bool, true, false, refl, sym}
use Rattle.emit_code.proofs.laws.one_layout.Goals as goal

same : (x y : Bool) → (x ≡ true → y ≡ true) → (y ≡ true → x ≡ true) → x ≡ y
same true y there back = sym (there refl)
same false true there back = back refl
same false false there back = refl

pub returns : goal.returns
returns c = λ f base long other is others p. same (long p) (other p) (is.least other others.closed p) (others.least long is.closed p)
