-- One item: whatever has a token afterwards holds the value that the token names.
use Rattle.std.proofs.Common.{◌≡◌, ℕ, zero, suc, ◌<◌, List, [], ◌∷◌, Option, Some, None, Bool, true, false, cond, refl, sym, ap, ◌∙◌, subst}
use Rattle.std.proofs.Common.{eqb, arith}
use Rattle.std.proofs.lemmas.Bool.{eqb-true, eq-eqb, ne_eqb}
use Rattle.mir_func.specs.declared.variable.VarId.{VarId}
use Rattle.mir_func.specs.Variables.{part_value}
use Rattle.sem_mir.specs.State.{Core, content, put, put_all, assigned}
use Rattle.sem_mir.specs.Step.{or_zero}
use Rattle.sem_mir.specs.ValueId.{Token, Entry, Made, Fixed, Tokens, register_token, put_token, make_all}

-- the content is the value that the token names, where there is a token
abbrev pub Holds : (Token → ℕ) → Option Token → Option ℕ → Type 0
Holds V None y = Unit {0}
Holds V (Some k) y = y ≡ Some (V k)

-- the token was made before place n of the path
abbrev pub IsOlder : ℕ → Token → Type 0
IsOlder n (Entry r) = Unit {0}
IsOlder n (Made m r) = m < n
IsOlder n (Fixed c) = Unit {0}

abbrev pub IsOld : ℕ → Option Token → Type 0
IsOld n None = Unit {0}
IsOld n (Some k) = IsOlder n k

-- the value of a part: its low bytes of the token's
abbrev pub in_part : VarId → (Token → ℕ) → Token → ℕ
in_part v V k = part_value v (V k)

-- what has a token holds its value
pub record Good (V : Token → ℕ) (t : Tokens) (c : Core) : Type 0 where
  pub numbers : (k : ℕ) → V (Fixed k) ≡ k
  pub regs : (r : ℕ) → Holds V (register_token t.regs r) (content c.regs r)
  pub slots : (n : ℕ) → Holds V (t.slots n) (c.slots n)
  pub pairs : (n o : ℕ) → Holds V (t.pairs n o) (c.pairs n o)
  pub variables : (v : VarId) → Holds (in_part v V) (assigned v t.marks) (assigned v c.marks)

-- the tokens were made before place n, and x2 has none
pub record AreOld (n : ℕ) (t : Tokens) : Type 0 where
  pub regs : (r : ℕ) → IsOld n (register_token t.regs r)
  pub slots : (k : ℕ) → IsOld n (t.slots k)
  pub pairs : (k o : ℕ) → IsOld n (t.pairs k o)
  pub variables : (v : VarId) → IsOld n (assigned v t.marks)
  pub pointer : register_token t.regs 2 ≡ None

-- the two name tokens made before place n alike
abbrev pub AgreeBelow : ℕ → (Token → ℕ) → (Token → ℕ) → Type 0
AgreeBelow n V W = (k : Token) → IsOlder n k → W k ≡ V k

pub holds_agree : (n : ℕ) (V W : Token → ℕ) → AgreeBelow n V W → (x : Option Token) (y : Option ℕ) → IsOld n x → Holds V x y → Holds W x y
holds_agree n V W same None y o h = tt
holds_agree n V W same (Some k) y o h = h ∙ ap Some (sym (same k o))

pub good_agree : (n : ℕ) (V W : Token → ℕ) (t : Tokens) (c : Core) → AgreeBelow n V W → AreOld n t → Good V t c → Good W t c
good_agree n V W t c same o g = record {
  numbers = λ k. same (Fixed k) tt ∙ g.numbers k;
  regs = λ r. holds_agree n V W same _ _ (o.regs r) (g.regs r);
  slots = λ k. holds_agree n V W same _ _ (o.slots k) (g.slots k);
  pairs = λ k p. holds_agree n V W same _ _ (o.pairs k p) (g.pairs k p);
  variables = λ v. holds_agree n (in_part v V) (in_part v W) (λ k old. ap (part_value v) (same k old)) _ _ (o.variables v) (g.variables v);
}

-- the values of the tokens made at place n: what the registers hold afterwards
pub extend : (n : ℕ) → (ℕ → Option ℕ) → (Token → ℕ) → Token → ℕ
extend n regs V (Entry r) = V (Entry r)
extend n regs V (Made m r) = cond (eqb m n) (or_zero (content regs r)) (V (Made m r))
extend n regs V (Fixed c) = V (Fixed c)

pub extend_agrees : (n : ℕ) (regs : ℕ → Option ℕ) (V : Token → ℕ) → AgreeBelow n V (extend n regs V)
unfolding extend
extend_agrees n regs V (Entry r) o = refl
extend_agrees n regs V (Made m r) o =
    let ne : m ≡ n → ⊥ = λ e. absurd (omega arith) in
    ap (λ (z : Bool). cond z (or_zero (content regs r)) (V (Made m r))) (ne_eqb m n ne)
extend_agrees n regs V (Fixed c) o = refl

pub extend_made : (n : ℕ) (regs : ℕ → Option ℕ) (V : Token → ℕ) (r : ℕ) → extend n regs V (Made n r) ≡ or_zero (content regs r)
unfolding extend
extend_made n regs V r = ap (λ (z : Bool). cond z (or_zero (content regs r)) (V (Made n r))) (eq-eqb n n refl)

-- a register keeps its token and content, gets a new one, or has none
pub data IsMadeOr (n r : ℕ) (tr : ℕ → Option Token) (cr : ℕ → Option ℕ) (tr' : ℕ → Option Token) (cr' : ℕ → Option ℕ) : Type 0 where
  stays : register_token tr' r ≡ register_token tr r → content cr' r ≡ content cr r → IsMadeOr n r tr cr tr' cr'
  made : (v : ℕ) → register_token tr' r ≡ Some (Made n r) → content cr' r ≡ Some v → IsMadeOr n r tr cr tr' cr'
  nameless : register_token tr' r ≡ None → IsMadeOr n r tr cr tr' cr'

-- a register that is put: at x2 no token, elsewhere this one
put_itself : (rd : ℕ) (x : Option Token) (v : ℕ) (tr : ℕ → Option Token) (cr : ℕ → Option ℕ) (P : ℕ → Option Token → Option ℕ → Type 0) →
    ((r : ℕ) → P r (register_token tr r) (content cr r)) → ((r : ℕ) → r ≡ rd → P r x (Some v)) → ((r : ℕ) → P r None (Some v)) →
    (r : ℕ) → P r (register_token (put_token rd x tr) r) (content (put rd v cr) r)
put_itself zero x v tr cr P all new pointer r = all r
put_itself (suc rd) x v tr cr P all new pointer zero = all zero
put_itself (suc rd) x v tr cr P all new pointer (suc r) = by_case (eqb (suc r) (suc rd)) (eqb rd 1) refl where
  by_case : (same at_pointer : Bool) → eqb (suc r) (suc rd) ≡ same →
      P (suc r) (cond same (cond at_pointer None x) (tr (suc r))) (cond same (Some v) (cr (suc r)))
  by_case true true e = pointer (suc r)
  by_case true false e = new (suc r) (eqb-true (suc r) (suc rd) e)
  by_case false at_pointer e = all (suc r)

pub holds_put : (V : Token → ℕ) (rd : ℕ) (x : Option Token) (v : ℕ) (tr : ℕ → Option Token) (cr : ℕ → Option ℕ) → Holds V x (Some v) →
    ((r : ℕ) → Holds V (register_token tr r) (content cr r)) → (r : ℕ) → Holds V (register_token (put_token rd x tr) r) (content (put rd v cr) r)
holds_put V rd x v tr cr h all = put_itself rd x v tr cr (λ r y z. Holds V y z) all (λ r e. h) (λ r. tt)

pub old_put : (n rd : ℕ) (x : Option Token) (tr : ℕ → Option Token) → IsOld n x → ((r : ℕ) → IsOld n (register_token tr r)) → (r : ℕ) →
    IsOld n (register_token (put_token rd x tr) r)
old_put n rd x tr h all = put_itself rd x 0 tr (λ r. None) (λ r y z. IsOld n y) all (λ r e. h) (λ r. tt)

pub made_put : (n rd v : ℕ) (tr : ℕ → Option Token) (cr : ℕ → Option ℕ) (r : ℕ) → IsMadeOr n r tr cr (put_token rd (Some (Made n rd)) tr) (put rd v cr)
made_put n zero v tr cr r = stays refl refl
made_put n (suc rd) v tr cr zero = stays refl refl
made_put n (suc rd) v tr cr (suc r) = by_case (eqb (suc r) (suc rd)) (eqb rd 1) refl refl where
  puts : Bool → Bool → Option Token
  puts same at_pointer = cond same (cond at_pointer None (Some (Made n (suc rd)))) (tr (suc r))

  by_case : (same at_pointer : Bool) → eqb (suc r) (suc rd) ≡ same → eqb rd 1 ≡ at_pointer →
      IsMadeOr n (suc r) tr cr (put_token (suc rd) (Some (Made n (suc rd))) tr) (put (suc rd) v cr)
  by_case true true e f = nameless (λ i. puts (e i) (f i))
  by_case true false e f =
      made v ((λ i. puts (e i) (f i)) ∙ ap (λ (q : ℕ). Some (Made n q)) (sym (eqb-true (suc r) (suc rd) e))) (λ i. cond (e i) (Some v) (cr (suc r)))
  by_case false at_pointer e f = stays (λ i. puts (e i) (f i)) (λ i. cond (e i) (Some v) (cr (suc r)))

made_then : (n r : ℕ) (tr tr1 tr2 : ℕ → Option Token) (cr cr1 cr2 : ℕ → Option ℕ) → IsMadeOr n r tr cr tr1 cr1 → IsMadeOr n r tr1 cr1 tr2 cr2 →
    IsMadeOr n r tr cr tr2 cr2
made_then n r tr tr1 tr2 cr cr1 cr2 (stays a b) (stays c d) = stays (c ∙ a) (d ∙ b)
made_then n r tr tr1 tr2 cr cr1 cr2 (made v a b) (stays c d) = made v (c ∙ a) (d ∙ b)
made_then n r tr tr1 tr2 cr cr1 cr2 (nameless a) (stays c d) = nameless (c ∙ a)
made_then n r tr tr1 tr2 cr cr1 cr2 x (made v c d) = made v c d
made_then n r tr tr1 tr2 cr cr1 cr2 x (nameless c) = nameless c

pub made_all : (n : ℕ) (rs vs : List ℕ) (tr : ℕ → Option Token) (cr : ℕ → Option ℕ) (r : ℕ) → IsMadeOr n r tr cr (make_all n rs tr) (put_all rs vs cr)
made_all n [] vs tr cr r = stays refl refl
made_all n (q ∷ rs) [] tr cr r = made_then n r _ _ _ _ _ _ (made_put n q 0 tr cr r) (made_all n rs [] (put_token q (Some (Made n q)) tr) (put q 0 cr) r)
made_all n (q ∷ rs) (v ∷ vs) tr cr r = made_then n r _ _ _ _ _ _ (made_put n q v tr cr r) (made_all n rs vs (put_token q (Some (Made n q)) tr) (put q v cr) r)

-- the registers after an item that makes tokens at place n
pub holds_made : (n : ℕ) (V : Token → ℕ) (tr tr' : ℕ → Option Token) (cr cr' : ℕ → Option ℕ) → ((r : ℕ) → IsMadeOr n r tr cr tr' cr') →
    ((r : ℕ) → IsOld n (register_token tr r)) → ((r : ℕ) → Holds V (register_token tr r) (content cr r)) → (r : ℕ) →
    Holds (extend n cr' V) (register_token tr' r) (content cr' r)
holds_made n V tr tr' cr cr' new old h r =
    elim (new r) as (λ z. Holds (extend n cr' V) (register_token tr' r) (content cr' r)) [
      | stays a b ↦ subst (λ (z : Option Token). Holds (extend n cr' V) z (content cr' r)) (sym a)
          (subst (λ (z : Option ℕ). Holds (extend n cr' V) (register_token tr r) z) (sym b)
          (holds_agree n V (extend n cr' V) (extend_agrees n cr' V) _ _ (old r) (h r)))
      | made v a b ↦ subst (λ (z : Option Token). Holds (extend n cr' V) z (content cr' r)) (sym a) (b ∙ ap Some (sym (extend_made n cr' V r ∙ ap or_zero b)))
      | nameless a ↦ subst (λ (z : Option Token). Holds (extend n cr' V) z (content cr' r)) (sym a) tt
    ]

pub old_made_or : (n r : ℕ) (tr tr' : ℕ → Option Token) (cr cr' : ℕ → Option ℕ) → IsMadeOr n r tr cr tr' cr' → IsOld (suc n) (register_token tr r) →
    IsOld (suc n) (register_token tr' r)
old_made_or n r tr tr' cr cr' (stays a b) o = subst (λ (z : Option Token). IsOld (suc n) z) (sym a) o
old_made_or n r tr tr' cr cr' (made v a b) o = subst (λ (z : Option Token). IsOld (suc n) z) (sym a) (omega arith)
old_made_or n r tr tr' cr cr' (nameless a) o = subst (λ (z : Option Token). IsOld (suc n) z) (sym a) tt

pub old_later : (n : ℕ) (x : Option Token) → IsOld n x → IsOld (suc n) x
old_later n None o = tt
old_later n (Some (Entry r)) o = tt
old_later n (Some (Made m r)) o = omega arith
old_later n (Some (Fixed c)) o = tt

pub are_old_later : (n : ℕ) (t : Tokens) → AreOld n t → AreOld (suc n) t
are_old_later n t o = record {
  regs = λ r. old_later n _ (o.regs r);
  slots = λ k. old_later n _ (o.slots k);
  pairs = λ k p. old_later n _ (o.pairs k p);
  variables = λ v. old_later n _ (o.variables v);
  pointer = o.pointer;
}
