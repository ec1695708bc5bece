-- The registers of calls by a register and in tail position, by their forms.
use Rattle.std.proofs.Common.{◌≡◌, ◌⊎◌, ℕ, ◌<◌, ◌≤◌, Bool, true, false, List, [], ◌∷◌, All, cond, refl, inl, inr, arith, sym, subst, eq-eqb, ap, ◌∙◌}
use Rattle.std.specs.Prelude.{◌||◌, ◌&&◌, not, nat_eq, nat_le, nat_lt}
use Rattle.std.specs.List.{list_all}
use Rattle.std.proofs.lemmas.Bool.{and_parts, leb-true, ltb-true, eqb-true}
use Rattle.std.proofs.lemmas.List.Elements.{All-nil, All-cons}
use Rattle.rv64_instr.specs.declared.operand.Operand.{Operand}
use Rattle.rv64_instr.specs.declared.operand.Operand.TheVariants.{ImplicitDef, ImplicitUse, GlobalRegisters, Symbol, Mask}
use Rattle.rv64_instr.specs.Form.{is_argument, is_last_argument, is_call_register, is_tail_register, is_tail_use, is_held_tail_register, is_held_tail_use}
use Rattle.rv64_instr.specs.Form.{fits_call, fits_gone}
use Rattle.rv64_instr.specs.LocationEffects.{is_global_register}
use Rattle.rv64_instr.specs.Row.{implicit_uses}

either : (a b : Bool) → (a || b) ≡ true → (a ≡ true) ⊎ (b ≡ true)
either true b h = inl refl
either false b h = inr h

-- the registers of values that are passed in tail position
abbrev pub IsTailRegister : ℕ → Type 0
IsTailRegister r = (r ≡ 7) ⊎ (((10 ≤ r) × (r ≤ 17)) ⊎ ((28 ≤ r) × (r ≤ 31)))

within : (low high r : ℕ) → (nat_le low r && nat_le r high) ≡ true → (low ≤ r) × (r ≤ high)
within low high r h = let p = and_parts (nat_le low r) (nat_le r high) h in (leb-true low r p.0, leb-true r high p.1)

pub tail_register : (r : ℕ) → is_tail_register r ≡ true → IsTailRegister r
tail_register r h = elim (either (nat_eq r 7) ((nat_le 10 r && nat_le r 17) || (nat_le 28 r && nat_le r 31)) h) as (λ _. IsTailRegister r) [
  | inl a ↦ inl (eqb-true r 7 a)
  | inr b ↦ elim (either (nat_le 10 r && nat_le r 17) (nat_le 28 r && nat_le r 31) b) as (λ _. IsTailRegister r) [
    | inl c ↦ inr (inl (within 10 17 r c))
    | inr c ↦ inr (inr (within 28 31 r c))
  ]
]

-- by a register, it may be x6 too
pub tail_callee : (r : ℕ) → is_held_tail_register r ≡ true → (r ≡ 6) ⊎ IsTailRegister r
tail_callee r h = elim (either (nat_eq r 6) (is_tail_register r) h) as (λ _. (r ≡ 6) ⊎ IsTailRegister r) [
  | inl a ↦ inl (eqb-true r 6 a)
  | inr b ↦ inr (tail_register r b)
]

not_two : (r : ℕ) → not (nat_eq r 2) ≡ true → r ≡ 2 → ⊥
not_two r h two = let e : false ≡ true = sym (ap not (eq-eqb r 2 two)) ∙ h in cc

pub held_callee : (r : ℕ) → is_call_register r ≡ true → (r ≡ 2 → ⊥) × (r < 32)
held_callee r h = let p = and_parts (not (nat_eq r 2)) (nat_lt r 32) h in (not_two r p.0, ltb-true r 32 p.1)

-- the implicit use in front of others
pub one_more : (P : ℕ → Type 0) (r : ℕ) (rs : List ℕ) → (r ≡ 2) ⊎ P r → All P rs → All P (cond (nat_eq r 2) rs (r ∷ rs))
one_more P r rs (inl two) more = subst (λ (b : Bool). All P (cond b rs (r ∷ rs))) (sym (eq-eqb r 2 two)) more
one_more P r rs (inr here) more = by_test (nat_eq r 2) where
  by_test : (b : Bool) → All P (cond b rs (r ∷ rs))
  by_test true = more
  by_test false = All-cons P r rs here more

-- what holds of the registers of implicit uses, where it holds of each operand's
pub uses_hold : (P : ℕ → Type 0) (q : Operand → Bool) → ((r : ℕ) → q (ImplicitUse r) ≡ true → (r ≡ 2) ⊎ P r) → (os : List Operand) → list_all q os ≡ true →
    All P (implicit_uses os)
uses_hold P q holds [] h = All-nil P
uses_hold P q holds (ImplicitUse r ∷ os) h =
    let p = and_parts (q (ImplicitUse r)) (list_all q os) h in
    one_more P r (implicit_uses os) (holds r p.0) (uses_hold P q holds os p.1)
uses_hold P q holds (o ∷ os) h = uses_hold P q holds os (and_parts (q o) (list_all q os) h).1

pub tail_use : (r : ℕ) → is_tail_use (ImplicitUse r) ≡ true → (r ≡ 2) ⊎ IsTailRegister r
tail_use r h = elim (either (nat_eq r 2) (is_tail_register r) h) as (λ _. (r ≡ 2) ⊎ IsTailRegister r) [
  | inl a ↦ inl (eqb-true r 2 a)
  | inr b ↦ inr (tail_register r b)
]

pub held_tail_use : (r : ℕ) → is_held_tail_use (ImplicitUse r) ≡ true → (r ≡ 2) ⊎ ((r ≡ 6) ⊎ IsTailRegister r)
held_tail_use r h = elim (either (nat_eq r 2) (is_held_tail_register r) h) as (λ _. (r ≡ 2) ⊎ ((r ≡ 6) ⊎ IsTailRegister r)) [
  | inl a ↦ inl (eqb-true r 2 a)
  | inr b ↦ inr (tail_callee r b)
]

pub tail_low : (r : ℕ) → IsTailRegister r → r < 32
tail_low r (inl a) = omega (arith, a)
tail_low r (inr (inl a)) = (let x = a.1 in omega (arith, x))
tail_low r (inr (inr a)) = (let x = a.1 in omega (arith, x))

-- so what such a call reads is physical, and what any other call reads
pub tails_low : (os : List Operand) → list_all is_tail_use os ≡ true → All (λ r. r < 32) (implicit_uses os)
tails_low os e = uses_hold (λ r. r < 32) is_tail_use by_use os e where
  by_use : (r : ℕ) → is_tail_use (ImplicitUse r) ≡ true → (r ≡ 2) ⊎ (r < 32)
  by_use r h = elim (tail_use r h) as (λ _. (r ≡ 2) ⊎ (r < 32)) [ inl a ↦ inl a | inr b ↦ inr (tail_low r b) ]

pub callee_low : (r : ℕ) → (r ≡ 6) ⊎ IsTailRegister r → r < 32
callee_low r (inl six) = omega (arith, six)
callee_low r (inr is) = tail_low r is

held_tails_low : (os : List Operand) → list_all is_held_tail_use os ≡ true → All (λ r. r < 32) (implicit_uses os)
held_tails_low os e = uses_hold (λ r. r < 32) is_held_tail_use by_use os e where
  by_use : (r : ℕ) → is_held_tail_use (ImplicitUse r) ≡ true → (r ≡ 2) ⊎ (r < 32)
  by_use r h = elim (held_tail_use r h) as (λ _. (r ≡ 2) ⊎ (r < 32)) [ inl a ↦ inl a | inr b ↦ inr (callee_low r b) ]

pub arguments_low : (os : List Operand) → list_all is_argument os ≡ true → All (λ r. r < 32) (implicit_uses os)
arguments_low os e = uses_hold (λ r. r < 32) is_argument (λ r h. inr (ltb-true r 32 h)) os e

pub held_low : (r : ℕ) (os : List Operand) → (is_held_tail_register r && list_all is_held_tail_use os) ≡ true →
    All (λ r. r < 32) (implicit_uses (ImplicitUse r ∷ os))
held_low r os e =
    let p = and_parts (is_held_tail_register r) (list_all is_held_tail_use os) e in
    one_more (λ q. q < 32) r (implicit_uses os) (inr (callee_low r (tail_callee r p.0))) (held_tails_low os p.1)

-- the registers that callers and callees share are x3 and x4
pub global_low : (r : ℕ) → is_global_register r ≡ true → r ≤ 4
global_low r e = elim (either (nat_eq r 3) (nat_eq r 4) e) as (λ _. r ≤ 4) [
  | inl a ↦ (let x = eqb-true r 3 a in omega (arith, x))
  | inr b ↦ (let x = eqb-true r 4 b in omega (arith, x))
]

-- ---- forms within others

all_wider : (p q : Operand → Bool) → ((o : Operand) → p o ≡ true → q o ≡ true) → (os : List Operand) → list_all p os ≡ true → list_all q os ≡ true
all_wider p q wider [] e = refl
all_wider p q wider (o ∷ os) e =
    let k = and_parts (p o) (list_all p os) e in
    let first = wider o k.0 in
    let rest = all_wider p q wider os k.1 in
    λ i. first i && rest i

last_wider : (o : Operand) → is_last_argument o ≡ true → is_argument o ≡ true
last_wider (ImplicitDef r) e = e
last_wider (ImplicitUse r) e = e
last_wider GlobalRegisters e = e
last_wider _ e = absurd cc

or_more : (a b c : Bool) → (a || c) ≡ true → (a || (b || c)) ≡ true
or_more true b c e = refl
or_more false true c e = refl
or_more false false c e = e

tail_wider : (o : Operand) → is_tail_use o ≡ true → is_held_tail_use o ≡ true
tail_wider (ImplicitUse r) e = or_more (nat_eq r 2) (nat_eq r 6) (is_tail_register r) e
tail_wider GlobalRegisters e = e
tail_wider _ e = absurd cc

-- what a call that doesn't return has, a call may have, and what a call by a name in tail position has, one by a register may have
pub last_arguments : (os : List Operand) → list_all is_last_argument os ≡ true → list_all is_argument os ≡ true
last_arguments = all_wider is_last_argument is_argument last_wider

pub held_tail_uses : (os : List Operand) → list_all is_tail_use os ≡ true → list_all is_held_tail_use os ≡ true
held_tail_uses = all_wider is_tail_use is_held_tail_use tail_wider

pub gone_calls : (os : List Operand) → fits_gone os ≡ true → fits_call os ≡ true
gone_calls (Symbol name ∷ Mask ∷ rest) e = last_arguments rest e
gone_calls _ e = absurd cc

-- behind its callee a call that doesn't return has what a call may have
pub held_gone_arguments : (r : ℕ) (os : List Operand) → (is_call_register r && list_all is_last_argument os) ≡ true → list_all is_argument os ≡ true
held_gone_arguments r os e = last_arguments os (and_parts (is_call_register r) (list_all is_last_argument os) e).1

pub held_gone_low : (r : ℕ) (os : List Operand) → (is_call_register r && list_all is_last_argument os) ≡ true →
    All (λ r. r < 32) (implicit_uses (ImplicitUse r ∷ os))
held_gone_low r os e =
    let p = and_parts (is_call_register r) (list_all is_last_argument os) e in
    one_more (λ q. q < 32) r (implicit_uses os) (inr (held_callee r p.0).1) (arguments_low os (held_gone_arguments r os e))
