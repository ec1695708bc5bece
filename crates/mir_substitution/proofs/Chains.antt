-- Chains that end, by the number of their entries.
use Rattle.std.proofs.Common.{◌≡◌, ℕ, ◌≤◌, List, [], ◌∷◌, length, Option, Some, None, Bool, true, false, cond, refl, sym, ap, subst, arith, ◌∙◌}
use Rattle.std.proofs.Common.{zero, suc, inl, inr}
use Rattle.std.specs.Prelude.{nat_eq}
use Rattle.std.proofs.lemmas.Bool.{cases_Bool, eqb-true, eq-eqb}
use Rattle.mir_func.specs.declared.debug_substitution.OperandPair.{OperandPair}
use Rattle.mir_func.specs.declared.debug_substitution.DebugSubstitution.{DebugSubstitution}
use Rattle.mir_func.specs.Resolve.{is_pair, entry_of, chain_end, resolve, Ends, at, by}
use Rattle.mir_substitution.proofs.Entries.{is_pair-true, entry_of-later}

-- one look-up of a chain
pub chain_end-none : (subs : List DebugSubstitution) (n : ℕ) (q : OperandPair) → entry_of subs q ≡ None → chain_end subs n q ≡ Some q
chain_end-none subs zero q h = ap (λ (o : Option DebugSubstitution). elim o as (λ _. Option OperandPair) [ None ↦ Some q | Some e ↦ None ]) h
chain_end-none subs (suc n) q h = ap (λ (o : Option DebugSubstitution). elim o as (λ _. Option OperandPair)
    [ None ↦ Some q | Some e ↦ cond (nat_eq e.subreg 0) (chain_end subs n e.dst) None ]) h

pub chain_end-zero : (subs : List DebugSubstitution) (q : OperandPair) (e : DebugSubstitution) → entry_of subs q ≡ Some e → chain_end subs zero q ≡ None
chain_end-zero subs q e h = ap (λ (o : Option DebugSubstitution). elim o as (λ _. Option OperandPair) [ None ↦ Some q | Some e ↦ None ]) h

pub chain_end-some : (subs : List DebugSubstitution) (n : ℕ) (q : OperandPair) (e : DebugSubstitution) → entry_of subs q ≡ Some e →
    chain_end subs (suc n) q ≡ cond (nat_eq e.subreg 0) (chain_end subs n e.dst) None
chain_end-some subs n q e h = ap (λ (o : Option DebugSubstitution). elim o as (λ _. Option OperandPair)
    [ None ↦ Some q | Some e ↦ cond (nat_eq e.subreg 0) (chain_end subs n e.dst) None ]) h

-- a chain that goes on over an entry
pub chain_end-goes : (subs : List DebugSubstitution) (n : ℕ) (q : OperandPair) (e : DebugSubstitution) → entry_of subs q ≡ Some e → e.subreg ≡ 0 →
    chain_end subs (suc n) q ≡ chain_end subs n e.dst
chain_end-goes subs n q e h z = chain_end-some subs n q e h ∙ ap (λ (b : Bool). cond b (chain_end subs n e.dst) None) (eq-eqb e.subreg 0 z)

-- a chain that meets an entry for a part of a register
pub chain_end-part : (subs : List DebugSubstitution) (n : ℕ) (q : OperandPair) (e : DebugSubstitution) → entry_of subs q ≡ Some e → nat_eq e.subreg 0 ≡ false →
    chain_end subs n q ≡ None
chain_end-part subs zero q e h z = chain_end-zero subs q e h
chain_end-part subs (suc n) q e h z = chain_end-some subs n q e h ∙ ap (λ (b : Bool). cond b (chain_end subs n e.dst) None) z

-- the chain from a pair ends at another after exactly so many entries
abbrev pub EndsIn : List DebugSubstitution → ℕ → OperandPair → OperandPair → Type 0
EndsIn subs zero q r = (entry_of subs q ≡ None) × (q ≡ r)
EndsIn subs (suc n) q r = (e : DebugSubstitution) × (entry_of subs q ≡ Some e) × (e.subreg ≡ 0) × EndsIn subs n e.dst r

-- the number of entries is determined
EndsIn-unique : (subs : List DebugSubstitution) (m n : ℕ) (p q r s : OperandPair) → p ≡ q → EndsIn subs m p r → EndsIn subs n q s → m ≡ n
EndsIn-unique subs zero zero p q r s w a b = refl
EndsIn-unique subs zero (suc n) p q r s w (h, _) (e, k, z, b) =
    let no : ◌≡◌ {A = Option DebugSubstitution} None (Some e) = sym h ∙ ap (entry_of subs) w ∙ k in cc
EndsIn-unique subs (suc m) zero p q r s w (e, k, z, b) (h, _) =
    let no : ◌≡◌ {A = Option DebugSubstitution} (Some e) None = sym k ∙ ap (entry_of subs) w ∙ h in cc
EndsIn-unique subs (suc m) (suc n) p q r s w (e, k, z, a) (f, j, y, b) =
    let same : Some e ≡ Some f = sym k ∙ ap (entry_of subs) w ∙ j in
    let equal : e ≡ f = cc in
    ap suc (EndsIn-unique subs m n e.dst f.dst r s (ap (λ (x : DebugSubstitution). x.dst) equal) a b)

-- the entries of other sources
without : OperandPair → List DebugSubstitution → List DebugSubstitution
without q [] = []
without q (e ∷ es) = cond (is_pair e.src q) (without q es) (e ∷ without q es)

entry_of-without : (q p : OperandPair) (subs : List DebugSubstitution) → is_pair q p ≡ false → entry_of (without q subs) p ≡ entry_of subs p
unfolding without
entry_of-without q p [] h = refl
entry_of-without q p (e ∷ es) h =
    elim (cases_Bool (is_pair e.src q)) [
      | inl t ↦
          let other : is_pair e.src p ≡ false = ap (λ (x : OperandPair). is_pair x p) (is_pair-true e.src q t) ∙ h in
          ap (λ (b : Bool). entry_of (cond b (without q es) (e ∷ without q es)) p) t ∙ entry_of-without q p es h ∙ sym (entry_of-later e es p other)
      | inr f ↦
          ap (λ (b : Bool). entry_of (cond b (without q es) (e ∷ without q es)) p) f ∙ ap (λ (o : Option DebugSubstitution). cond (is_pair e.src p) (Some e) o)
          (entry_of-without q p es h)
    ]

length-without : (q : OperandPair) (subs : List DebugSubstitution) → length (without q subs) ≤ length subs
unfolding without
length-without q [] = omega arith
length-without q (e ∷ es) =
    let k = length-without q es in
    elim (is_pair e.src q) as (λ b. length (cond b (without q es) (e ∷ without q es)) ≤ suc (length es)) [ true ↦ omega arith | false ↦ omega arith ]

length-without_source : (q : OperandPair) (subs : List DebugSubstitution) (x : DebugSubstitution) → entry_of subs q ≡ Some x →
    suc (length (without q subs)) ≤ length subs
unfolding without
length-without_source q [] x h = (let no : ◌≡◌ {A = Option DebugSubstitution} None (Some x) = h in cc)
length-without_source q (e ∷ es) x h =
    elim (cases_Bool (is_pair e.src q)) [
      | inl t ↦
          let same = ap (λ (b : Bool). length (cond b (without q es) (e ∷ without q es))) t in
          let k = length-without q es in omega arith
      | inr f ↦
          let same = ap (λ (b : Bool). length (cond b (without q es) (e ∷ without q es))) f in
          let k = length-without_source q es x (sym (entry_of-later e es q f) ∙ h) in omega arith
    ]

-- a chain that never comes to a pair doesn't start there
apart : (subs : List DebugSubstitution) (q r : OperandPair) (m : ℕ) (p : OperandPair) → EndsIn subs m p r → ((k : ℕ) → k ≤ m → EndsIn subs k q r → ⊥) →
    is_pair q p ≡ false
apart subs q r m p a never =
    elim (cases_Bool (is_pair q p)) [
      | inl t ↦ absurd (never m (omega arith) (subst (λ (x : OperandPair). EndsIn subs m x r) (sym (is_pair-true q p t)) a))
      | inr f ↦ f
    ]

-- nor does it need its entries
EndsIn-without : (subs : List DebugSubstitution) (q r : OperandPair) (m : ℕ) (p : OperandPair) → EndsIn subs m p r → ((k : ℕ) → k ≤ m → EndsIn subs k q r → ⊥) →
    is_pair q p ≡ false → EndsIn (without q subs) m p r
EndsIn-without subs q r zero p (h, w) never f = (entry_of-without q p subs f ∙ h, w)
EndsIn-without subs q r (suc m) p (e, h, z, a) never f =
    let later : (k : ℕ) → k ≤ m → EndsIn subs k q r → ⊥ = λ k le b. never k (omega arith) b in
    (e, entry_of-without q p subs f ∙ h, z, EndsIn-without subs q r m e.dst a later (apart subs q r m e.dst a later))

-- no chain that ends is longer than the list
EndsIn-short : (n : ℕ) (subs : List DebugSubstitution) (q r : OperandPair) → EndsIn subs n q r → n ≤ length subs
EndsIn-short zero subs q r a = omega arith
EndsIn-short (suc m) subs q r (e, h, z, a) =
    let whole : EndsIn subs (suc m) q r = (e, h, z, a) in
    let never : (k : ℕ) → k ≤ m → EndsIn subs k q r → ⊥ = λ k le b. let same : k ≡ suc m = EndsIn-unique subs k (suc m) q q r r refl b whole in omega arith in
    let rest = EndsIn-short m (without q subs) e.dst r (EndsIn-without subs q r m e.dst a never (apart subs q r m e.dst a never)) in
    let fewer = length-without_source q subs e h in omega arith

-- it is found within any bound that isn't below its length
chain_end-found : (subs : List DebugSubstitution) (n k : ℕ) (q r : OperandPair) → n ≤ k → EndsIn subs n q r → chain_end subs k q ≡ Some r
chain_end-found subs zero k q r le (h, w) = chain_end-none subs k q h ∙ ap (λ (x : OperandPair). Some x) w
chain_end-found subs (suc n) zero q r le a = absurd (omega arith)
chain_end-found subs (suc n) (suc k) q r le (e, h, z, a) =
    chain_end-goes subs k q e h z ∙ chain_end-found subs n k e.dst r (omega arith) a

EndsIn-from : (subs : List DebugSubstitution) (q r : OperandPair) → Ends subs q r → (n : ℕ) × EndsIn subs n q r
EndsIn-from subs q r (at h) = (0, (h, refl))
EndsIn-from subs q r (by e h z a) = let rest = EndsIn-from subs e.dst r a in (suc rest.0, (e, h, z, rest.1))

Ends-here : (subs : List DebugSubstitution) (n : ℕ) (q r : OperandPair) → entry_of subs q ≡ None → chain_end subs n q ≡ Some r → Ends subs q r
Ends-here subs n q r w h =
    let some : Some q ≡ Some r = sym (chain_end-none subs n q w) ∙ h in
    let same : q ≡ r = cc in
    subst (λ (x : OperandPair). Ends subs q x) same (at w)

Ends-from : (subs : List DebugSubstitution) (n : ℕ) (q r : OperandPair) (o : Option DebugSubstitution) → entry_of subs q ≡ o → chain_end subs n q ≡ Some r →
    Ends subs q r
Ends-from subs n q r None w h = Ends-here subs n q r w h
Ends-from subs zero q r (Some e) w h = (let no : ◌≡◌ {A = Option OperandPair} None (Some r) = sym (chain_end-zero subs q e w) ∙ h in cc)
Ends-from subs (suc n) q r (Some e) w h =
    elim (cases_Bool (nat_eq e.subreg 0)) [
      | inl t ↦
          let whole : e.subreg ≡ 0 = eqb-true e.subreg 0 t in
          by e w whole (Ends-from subs n e.dst r (entry_of subs e.dst) refl (sym (chain_end-goes subs n q e w whole) ∙ h))
      | inr f ↦ (let no : ◌≡◌ {A = Option OperandPair} None (Some r) = sym (chain_end-part subs (suc n) q e w f) ∙ h in cc)
    ]

pub resolve_ends : (subs : List DebugSubstitution) (q r : OperandPair) → resolve subs q ≡ Some r → Ends subs q r
resolve_ends subs q r h = Ends-from subs (length subs) q r (entry_of subs q) refl h

pub ends_resolve : (subs : List DebugSubstitution) (q r : OperandPair) → Ends subs q r → resolve subs q ≡ Some r
ends_resolve subs q r h =
    let a = EndsIn-from subs q r h in
    chain_end-found subs a.0 (length subs) q r (EndsIn-short a.0 subs q r a.1) a.1
