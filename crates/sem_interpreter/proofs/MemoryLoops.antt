-- One turn of each loop over memory.
use Rattle.std.proofs.Common.{◌≡◌, ℕ, suc, ◌+◌, ◌-◌, ◌*◌, ◌/◌, ◌%◌, ◌^◌, ◌<◌, ◌≤◌, List, ◌∷◌, length, Option, Some, None, Bool}
use Rattle.std.proofs.Common.{cond, sym, ap, subst, ◌∙◌, inl, inr, drop, get_or, arith}
use Rattle.std.proofs.Math.Seq.{drop-cons}
use Rattle.std.proofs.Math.Nat.{pow-le-pow_right}
use Rattle.std.proofs.lemmas.List.{drop_all}
use Rattle.std.proofs.lemmas.Nat.{pow-add}
use Rattle.std.proofs.lemmas.Bool.{cases_eq, eq-eqb, ne_eqb}
use Rattle.std.specs.Prelude.{nat_eq, unwrap_or}
use Rattle.std.specs.Map.{lookup}
use Rattle.sem_mir.specs.State.{updated, spelled, stored, low_bytes, written}
use Rattle.sem_interpreter.specs.Memory.{MemoryHolds, some_writes}

pub memory_put : (es fs : List (ℕ × ℕ)) (f : ℕ → ℕ) (k b : ℕ) → MemoryHolds es f →
    ((q : ℕ) → lookup (nat_eq q) fs ≡ cond (nat_eq k q) (Some b) (lookup (nat_eq q) es)) → MemoryHolds fs (updated k b f)
memory_put es fs f k b holds put q =
    elim (cases_eq q k) [
      | inl e ↦
          ap (λ (t : Bool). cond t b (f q)) (eq-eqb q k e)
          ∙ sym (ap (λ (o : Option ℕ). unwrap_or o 0) (put q ∙ ap (λ (t : Bool). cond t (Some b) (lookup (nat_eq q) es)) (eq-eqb k q (sym e))))
      | inr ne ↦
          let other : k ≡ q → ⊥ = λ e. ne (sym e) in
          ap (λ (t : Bool). cond t b (f q)) (ne_eqb q k ne) ∙ holds q
          ∙ sym (ap (λ (o : Option ℕ). unwrap_or o 0) (put q ∙ ap (λ (t : Bool). cond t (Some b) (lookup (nat_eq q) es)) (ne_eqb k q other)))
    ]

pub stored_first : (f : ℕ → ℕ) (a n v : ℕ) → stored f (a + 0) (low_bytes (n - 0) v) ≡ stored f a (low_bytes n v)
stored_first f a n v =
    let x : a + 0 ≡ a = omega arith in
    let y : n - 0 ≡ n = omega arith in
    λ i. stored f (x i) (low_bytes (y i) v)

pub stored_turn : (f : ℕ → ℕ) (a k n rest : ℕ) (t : ℕ → ℕ) → k < n → stored f (a + k) (low_bytes (n - k) rest) ≡ t →
    stored (updated ((a + k) % 2 ^ 64) (rest % 256) f) (a + (k + 1)) (low_bytes (n - (k + 1)) (rest / 256)) ≡ t
stored_turn f a k n rest t lt h =
    let one : n - k ≡ suc (n - (k + 1)) = omega arith in
    let next : a + (k + 1) ≡ a + k + 1 = omega arith in
    ap (λ (x : ℕ). stored (updated ((a + k) % 2 ^ 64) (rest % 256) f) x (low_bytes (n - (k + 1)) (rest / 256))) next
    ∙ sym (ap (λ (m : ℕ). stored f (a + k) (low_bytes m rest)) one) ∙ h

pub written_some : (f : ℕ → ℕ) (ws : List (Option (ℕ × ℕ))) (i : ℕ) (d : Option (ℕ × ℕ)) (w : ℕ × ℕ) (t : ℕ → ℕ) → i < length ws → get_or ws i d ≡ Some w →
    written f (some_writes (drop i ws)) ≡ t → written (updated w.0 w.1 f) (some_writes (drop (i + 1) ws)) ≡ t
written_some f ws i d w t lt e h =
    let next : i + 1 ≡ suc i = omega arith in
    let here : drop i ws ≡ Some w ∷ drop (i + 1) ws = drop-cons ws i d lt ∙ ap (λ o. o ∷ drop (suc i) ws) e ∙ ap (λ (n : ℕ). Some w ∷ drop n ws) (sym next) in
    sym (ap (λ xs. written f (some_writes xs)) here) ∙ h

pub written_end : (es : List (ℕ × ℕ)) (f t : ℕ → ℕ) (ws : List (Option (ℕ × ℕ))) (i : ℕ) → length ws ≤ i → MemoryHolds es f →
    written f (some_writes (drop i ws)) ≡ t → MemoryHolds es t
written_end es f t ws i le holds h =
    let same : f ≡ t = sym (ap (λ xs. written f (some_writes xs)) (drop_all i ws le)) ∙ h in
    subst (λ (g : ℕ → ℕ). MemoryHolds es g) same holds

-- ---- numbers in memory
pub power_next : (i : ℕ) → 2 ^ (8 * (i + 1)) ≡ 2 ^ (8 * i) * 256
power_next i = (let e : 8 * (i + 1) ≡ 8 * i + 8 = omega arith in ap (λ (n : ℕ). 2 ^ n) e) ∙ pow-add 2 (8 * i) 8

pub power_small : (i : ℕ) → i < 8 → 2 ^ (8 * i) ≤ 2 ^ 56
power_small i lt = pow-le-pow_right {n = 2} (omega arith) {i = 8 * i} {j = 56} (omega arith)

pub spelled_turn : (f : ℕ → ℕ) (a n i : ℕ) → i < n → spelled f (a + (n - (i + 1))) (i + 1) ≡ spelled f (a + (n - i)) i * 256 + f ((a + (n - i - 1)) % 2 ^ 64)
spelled_turn f a n i lt =
    let one : i + 1 ≡ suc i = omega arith in
    let at : a + (n - (i + 1)) ≡ a + (n - i - 1) = omega arith in
    let next : a + (n - i - 1) + 1 ≡ a + (n - i) = omega arith in
    (λ j. spelled f (at j) (one j)) ∙ ap (λ (x : ℕ). f ((a + (n - i - 1)) % 2 ^ 64) + 256 * spelled f x i) next
    ∙ turned (f ((a + (n - i - 1)) % 2 ^ 64)) (spelled f (a + (n - i)) i)
  where
    turned : (x y : ℕ) → x + 256 * y ≡ y * 256 + x
    turned x y = omega arith

pub written_none : (f : ℕ → ℕ) (ws : List (Option (ℕ × ℕ))) (i : ℕ) (d : Option (ℕ × ℕ)) (t : ℕ → ℕ) → i < length ws → get_or ws i d ≡ None →
    written f (some_writes (drop i ws)) ≡ t → written f (some_writes (drop (i + 1) ws)) ≡ t
written_none f ws i d t lt e h =
    let next : i + 1 ≡ suc i = omega arith in
    let here : drop i ws ≡ None ∷ drop (i + 1) ws = drop-cons ws i d lt ∙ ap (λ o. o ∷ drop (suc i) ws) e ∙ ap (λ (n : ℕ). None ∷ drop n ws) (sym next) in
    sym (ap (λ xs. written f (some_writes xs)) here) ∙ h
