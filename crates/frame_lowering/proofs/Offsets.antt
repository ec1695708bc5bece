-- The offset that is found for a slot is that of the rule, also where no slot has the number.
use Rattle.std.proofs.Common.{◌≡◌, ℕ, suc, ◌+◌, ◌*◌, Bool, true, false, cond, List, [], ◌∷◌, length, nat_eq, Some, None, refl, sym, ap, ◌∙◌, arith}
use Rattle.frame_rule.specs.Rule.{slots_before, slot_offset}
use Rattle.frame_lowering.specs.steps.Framing.{offset_in}

found_by : (t : Bool) (k o s : ℕ) (slots : List ℕ) (n : ℕ) → nat_eq s n ≡ t →
    (offset_in (k + 1) slots n ≡ Some o → o ≡ 8 * (k + 1 + slots_before slots n)) →
    offset_in k (s ∷ slots) n ≡ Some o → o ≡ 8 * (k + slots_before (s ∷ slots) n)
found_by true k o s slots n t more e =
    let before : slots_before (s ∷ slots) n ≡ 0 = ap (λ (z : Bool). cond z 0 (suc (slots_before slots n))) t in
    let here : Some (8 * k) ≡ Some o = ap (λ (z : Bool). cond z (Some (8 * k)) (offset_in (k + 1) slots n)) (sym t) ∙ e in
    let same : 8 * k ≡ o = cc in
    omega (arith, before, same)
found_by false k o s slots n t more e =
    let before : slots_before (s ∷ slots) n ≡ suc (slots_before slots n) = ap (λ (z : Bool). cond z 0 (suc (slots_before slots n))) t in
    let below = more (ap (λ (z : Bool). cond z (Some (8 * k)) (offset_in (k + 1) slots n)) (sym t) ∙ e) in
    omega (arith, before, below)

found : (k o : ℕ) (slots : List ℕ) (n : ℕ) → offset_in k slots n ≡ Some o → o ≡ 8 * (k + slots_before slots n)
found k o [] n e = absurd cc
found k o (s ∷ slots) n e = found_by (nat_eq s n) k o s slots n refl (found (k + 1) o slots n) e

missing_by : (t : Bool) (k s : ℕ) (slots : List ℕ) (n : ℕ) → nat_eq s n ≡ t →
    (offset_in (k + 1) slots n ≡ None → slots_before slots n ≡ length slots) →
    offset_in k (s ∷ slots) n ≡ None → slots_before (s ∷ slots) n ≡ suc (length slots)
missing_by true k s slots n t more e =
    let here : Some (8 * k) ≡ None = ap (λ (z : Bool). cond z (Some (8 * k)) (offset_in (k + 1) slots n)) (sym t) ∙ e in absurd cc
missing_by false k s slots n t more e =
    let before : slots_before (s ∷ slots) n ≡ suc (slots_before slots n) = ap (λ (z : Bool). cond z 0 (suc (slots_before slots n))) t in
    before ∙ ap suc (more (ap (λ (z : Bool). cond z (Some (8 * k)) (offset_in (k + 1) slots n)) (sym t) ∙ e))

missing : (k : ℕ) (slots : List ℕ) (n : ℕ) → offset_in k slots n ≡ None → slots_before slots n ≡ length slots
missing k [] n e = refl
missing k (s ∷ slots) n e = missing_by (nat_eq s n) k s slots n refl (missing (k + 1) slots n) e

pub found_offset : (o : ℕ) (slots : List ℕ) (n : ℕ) → offset_in 0 slots n ≡ Some o → o ≡ slot_offset slots n
found_offset o slots n e = omega (arith, found 0 o slots n e)

pub missing_offset : (slots : List ℕ) (n : ℕ) → offset_in 0 slots n ≡ None → 8 * length slots ≡ slot_offset slots n
missing_offset slots n e = omega (arith, missing 0 slots n e)
