-- Pieces that are written one after the other.
use Rattle.std.proofs.Common.{◌≡◌, List, ℕ, Option, Result, Ok, Err, OnOk, OnErr, subst}
use Rattle.base_io.specs.Told.{Appends, AppendsPrefix}

pub on_err : {T E P : Type 0} (r : Result T E) → P → OnErr r P
on_err (Ok x) p = tt
on_err (Err e) p = p

pub err_to : {T E P Q : Type 0} (r : Result T E) → (P → Q) → OnErr r P → OnErr r Q
err_to (Ok x) f p = tt
err_to (Err e) f p = f p

pub ok_to : {T E P Q : Type 0} (r : Result T E) → (P → Q) → OnOk r P → OnOk r Q
ok_to (Ok x) f p = f p
ok_to (Err e) f p = tt

pub appends_same : (a b : Option (List ℕ)) (xs ys : List ℕ) → xs ≡ ys → Appends a b xs → Appends a b ys
appends_same a b xs ys same appends = subst (λ (zs : List ℕ). Appends a b zs) same appends

pub prefix_same : (a b : Option (List ℕ)) (xs ys : List ℕ) → xs ≡ ys → AppendsPrefix a b xs → AppendsPrefix a b ys
prefix_same a b xs ys same prefix = subst (λ (zs : List ℕ). AppendsPrefix a b zs) same prefix
