-- What items do to pairs and marks of two runs of which the second tells no more.
use Rattle.std.proofs.Common.{◌≡◌, ℕ, List, ◌∷◌, Option, Some, None, Bool, true, false, cond, nat_eq, slice_get, refl, sym, ap, ◌∙◌, subst, eqb-true}
use Rattle.sem_simulation.specs.rv64_instr.declared.operand.Operand.{Operand}
use Rattle.sem_simulation.specs.mir_func.declared.variable.VarId.{VarId}
use Rattle.sem_simulation.specs.mir_func.Variables.{is_same, overlaps}
use Rattle.sem_simulation.specs.sem_mir.State.{Core, updated, assigned, content}
use Rattle.sem_simulation.specs.sem_mir.Step.{seen, defined, given, numbered, part_of}
use Rattle.sem_mir.proofs.Told.{Below}
use Rattle.sem_agreement.specs.Agreement.{DebugLessDef}
use Rattle.sem_agreement.proofs.Outcomes.{TellsAs}

pub tells_itself : (Free : ℕ → Type 0) (c : Core) → DebugLessDef Free c c
tells_itself Free c = record { pairs = λ k o far v e. e; marks = λ w v e. e }

pub tells_on : (Free : ℕ → Type 0) (c d e : Core) → DebugLessDef Free c d → DebugLessDef Free d e → DebugLessDef Free c e
tells_on Free c d e h k =
    record { pairs = λ n o far v p. h.pairs n o far v (k.pairs n o far v p); marks = λ w v p. h.marks w v (k.marks w v p) }

-- more numbers are free
pub tells_freer : (Free More : ℕ → Type 0) → ((k : ℕ) → Free k → More k) → (c d : Core) → DebugLessDef Free c d → DebugLessDef More c d
tells_freer Free More f c d h = record { pairs = λ k o far. h.pairs k o (λ free. far (f k free)); marks = h.marks }

-- it hangs on pairs and marks alone
pub tells_of : (Free : ℕ → Type 0) (c d c' d' : Core) → TellsAs c c' → TellsAs d d' → DebugLessDef Free c d → DebugLessDef Free c' d'
tells_of Free c d c' d' same same' h = record {
  pairs = λ k o far v e. ap (λ (z : ℕ → ℕ → Option ℕ). z k o) same.0 ∙ h.pairs k o far v (ap (λ (z : ℕ → ℕ → Option ℕ). z k o) (sym same'.0) ∙ e);
  marks = λ w v e. ap (assigned w) same.1 ∙ h.marks w v (ap (assigned w) (sym same'.1) ∙ e);
}

module _ (Free : ℕ → Type 0) (c d : Core) (h : DebugLessDef Free c d) where
  -- new values of one number in both, in the first alone, and in the second alone
  pub pairs_both : (k : ℕ) (a b : ℕ → Option ℕ) → ((o : ℕ) → (Free k → ⊥) → Below (a o) (b o)) → (n o : ℕ) → (Free n → ⊥) →
      Below (updated k a c.pairs n o) (updated k b d.pairs n o)
  pairs_both k a b below n o far = by_test (nat_eq n k) refl where
    by_test : (z : Bool) → nat_eq n k ≡ z → Below (cond z a (c.pairs n) o) (cond z b (d.pairs n) o)
    by_test true e = below o (λ free. far (subst Free (sym (eqb-true n k e)) free))
    by_test false e = h.pairs n o far

  pub pairs_first : (k : ℕ) (a : ℕ → Option ℕ) → ((o : ℕ) → (Free k → ⊥) → d.pairs k o ≡ None) → (n o : ℕ) → (Free n → ⊥) →
      Below (updated k a c.pairs n o) (d.pairs n o)
  pairs_first k a none n o far = by_test (nat_eq n k) refl where
    by_test : (z : Bool) → nat_eq n k ≡ z → Below (cond z a (c.pairs n) o) (d.pairs n o)
    by_test true e v p =
        let same = eqb-true n k e in
        let none' : d.pairs n o ≡ None = ap (λ (z : ℕ). d.pairs z o) same ∙ none o (λ free. far (subst Free (sym same) free)) in
        let bad : None ≡ Some v = sym none' ∙ p in
        cc
    by_test false e v p = h.pairs n o far v p

  pub pairs_second : (k : ℕ) (b : ℕ → Option ℕ) → ((o : ℕ) → (Free k → ⊥) → Below (c.pairs k o) (b o)) → (n o : ℕ) → (Free n → ⊥) →
      Below (c.pairs n o) (updated k b d.pairs n o)
  pairs_second k b below n o far = by_test (nat_eq n k) refl where
    by_test : (z : Bool) → nat_eq n k ≡ z → Below (c.pairs n o) (cond z b (d.pairs n) o)
    by_test true e =
        let same = eqb-true n k e in
        subst (λ (z : ℕ). Below (c.pairs z o) (b o)) (sym same) (below o (λ free. far (subst Free (sym same) free)))
    by_test false e = h.pairs n o far

  -- a mark in both
  pub marks_both : (w : VarId) (a b : Option ℕ) → Below a b → (u : VarId) → Below (assigned u ((w, a) ∷ c.marks)) (assigned u ((w, b) ∷ d.marks))
  marks_both w a b below u = by_test (is_same u w) (overlaps u w) where
    by_test : (same over : Bool) → Below (cond same a (cond over None (assigned u c.marks))) (cond same b (cond over None (assigned u d.marks)))
    by_test true over v e = below v e
    by_test false true v e = cc
    by_test false false v e = h.marks u v e

  -- a mark in the second alone that assigns nothing
  pub marks_second : (w : VarId) (u : VarId) → Below (assigned u c.marks) (assigned u ((w, None) ∷ d.marks))
  marks_second w u = by_test (is_same u w) (overlaps u w) where
    by_test : (same over : Bool) → Below (assigned u c.marks) (cond same None (cond over None (assigned u d.marks)))
    by_test true over v e = cc
    by_test false true v e = cc
    by_test false false v e = h.marks u v e

-- a part of a value
pub part_less : (w : VarId) (a b : Option ℕ) → Below a b → Below (part_of w a) (part_of w b)
part_less w a None k v e = cc
part_less w a (Some x) k v e = ap (part_of w) (k x refl) ∙ e

-- a register that is held alike is seen alike
pub seen_held : (sp : Bool) (r : ℕ) (c d : Core) → content c.regs r ≡ content d.regs r → seen sp r c ≡ seen sp r d
seen_held true r c d e = e
seen_held false r c d e = ap (λ (z : Option ℕ). cond (nat_eq r 2) None z) e

pub given_less : (sp : Bool) (x : Option ℕ) (a b : Option ℕ) (c d : Core) → Below a b → ((r : ℕ) → x ≡ Some r → content c.regs r ≡ content d.regs r) →
    Below (given sp x a c) (given sp x b d)
given_less sp None a b c d k same v e = k v e
given_less sp (Some r) a b c d k same v e = seen_held sp r c d (same r refl) ∙ e

-- code with the same number in both: what it gives by the operands
pub numbers_both : (Free : ℕ → Type 0) (sp call : Bool) (n : Option ℕ) (os : List Operand) (c d : Core) → DebugLessDef Free c d →
    ((k o r : ℕ) → n ≡ Some k → defined call (slice_get os o) ≡ Some r → content c.regs r ≡ content d.regs r) →
    DebugLessDef Free (numbered sp call n os c) (numbered sp call n os d)
numbers_both Free sp call None os c d h same = h
numbers_both Free sp call (Some k) os c d h same = record {
  pairs = pairs_both Free c d h k (λ o. given sp (defined call (slice_get os o)) (c.pairs k o) c)
      (λ o. given sp (defined call (slice_get os o)) (d.pairs k o) d)
      (λ o far. given_less sp (defined call (slice_get os o)) (c.pairs k o) (d.pairs k o) c d (h.pairs k o far) (λ r. same k o r refl));
  marks = h.marks;
}

-- the same with operands of two kinds: each gives no more in the second
pub numbers_apart : (Free : ℕ → Type 0) (sp sp' call call' : Bool) (n : Option ℕ) (os os' : List Operand) (c d : Core) → DebugLessDef Free c d →
    ((k o : ℕ) → n ≡ Some k → (Free k → ⊥) →
    Below (given sp (defined call (slice_get os o)) (c.pairs k o) c) (given sp' (defined call' (slice_get os' o)) (d.pairs k o) d)) →
    DebugLessDef Free (numbered sp call n os c) (numbered sp' call' n os' d)
numbers_apart Free sp sp' call call' None os os' c d h below = h
numbers_apart Free sp sp' call call' (Some k) os os' c d h below = record {
  pairs = pairs_both Free c d h k (λ o. given sp (defined call (slice_get os o)) (c.pairs k o) c)
      (λ o. given sp' (defined call' (slice_get os' o)) (d.pairs k o) d) (λ o far. below k o refl far);
  marks = h.marks;
}

-- a number in the first alone, which the second doesn't tell
pub numbers_first : (Free : ℕ → Type 0) (sp call : Bool) (n : Option ℕ) (os : List Operand) (c d : Core) → DebugLessDef Free c d →
    ((k : ℕ) → n ≡ Some k → (Free k → ⊥) → (o : ℕ) → d.pairs k o ≡ None) → DebugLessDef Free (numbered sp call n os c) d
numbers_first Free sp call None os c d h none = h
numbers_first Free sp call (Some k) os c d h none = record {
  pairs = pairs_first Free c d h k (λ o. given sp (defined call (slice_get os o)) (c.pairs k o) c) (λ o far. none k refl far o);
  marks = h.marks;
}

-- a free number in the second alone
pub numbers_second : (Free : ℕ → Type 0) (sp call : Bool) (n : Option ℕ) (os : List Operand) (c d : Core) → DebugLessDef Free c d →
    ((k : ℕ) → n ≡ Some k → Free k) → DebugLessDef Free c (numbered sp call n os d)
numbers_second Free sp call None os c d h free = h
numbers_second Free sp call (Some k) os c d h free = record {
  pairs = pairs_second Free c d h k (λ o. given sp (defined call (slice_get os o)) (d.pairs k o) d) (λ o far. absurd (far (free k refl)));
  marks = h.marks;
}
