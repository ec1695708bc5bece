-- Entries by their sources.
use Rattle.std.proofs.Common.{◌≡◌, List, [], ◌∷◌, ◌++◌, Option, Some, None, Bool, true, false, cond, refl, sym, ap, ◌∙◌, inl, inr}
use Rattle.std.specs.Prelude.{nat_eq}
use Rattle.std.proofs.lemmas.Bool.{cases_Bool, and_parts, and_from, eqb-true, eq-eqb}
use Rattle.mir_func.specs.declared.debug_substitution.OperandPair.{OperandPair}
use Rattle.mir_func.specs.declared.debug_substitution.DebugSubstitution.{DebugSubstitution}
use Rattle.mir_func.specs.Resolve.{is_pair, entry_of}

pub is_pair-true : (p q : OperandPair) → is_pair p q ≡ true → p ≡ q
is_pair-true p q h =
    let both = and_parts (nat_eq p.number q.number) (nat_eq p.operand q.operand) h in
    let x : p.number ≡ q.number = eqb-true _ _ both.0 in
    let y : p.operand ≡ q.operand = eqb-true _ _ both.1 in
    λ i. record { number = x i; operand = y i }

pub is_pair-same : (p : OperandPair) → is_pair p p ≡ true
is_pair-same p = and_from _ _ (eq-eqb p.number p.number refl) (eq-eqb p.operand p.operand refl)

-- what a pair's entry is, where an entry with another source stands before
pub entry_of-later : (x : DebugSubstitution) (xs : List DebugSubstitution) (q : OperandPair) → is_pair x.src q ≡ false → entry_of (x ∷ xs) q ≡ entry_of xs q
entry_of-later x xs q h = ap (λ (b : Bool). cond b (Some x) (entry_of xs q)) h

pub entry_of-first : (x : DebugSubstitution) (xs : List DebugSubstitution) (q : OperandPair) → is_pair x.src q ≡ true → entry_of (x ∷ xs) q ≡ Some x
entry_of-first x xs q h = ap (λ (b : Bool). cond b (Some x) (entry_of xs q)) h

-- an entry whose source is new
pub entry_of-push : (xs : List DebugSubstitution) (e : DebugSubstitution) (q : OperandPair) → entry_of xs e.src ≡ None →
    entry_of (xs ++ e ∷ []) q ≡ cond (is_pair e.src q) (Some e) (entry_of xs q)
entry_of-push [] e q h = refl
entry_of-push (x ∷ xs) e q h =
    elim (cases_Bool (is_pair x.src e.src)) [
      | inl t ↦ (let w : ◌≡◌ {A = Option DebugSubstitution} (Some x) None = sym (entry_of-first x xs e.src t) ∙ h in cc)
      | inr f ↦
          let later : entry_of xs e.src ≡ None = sym (entry_of-later x xs e.src f) ∙ h in
          let known = entry_of-push xs e q later in
          elim (cases_Bool (is_pair x.src q)) [
            | inl t ↦ (elim (cases_Bool (is_pair e.src q)) [
              | inl u ↦
                  let same : x.src ≡ e.src = is_pair-true x.src q t ∙ sym (is_pair-true e.src q u) in
                  let no : true ≡ false = sym (is_pair-same e.src) ∙ ap (λ (p : OperandPair). is_pair p e.src) (sym same) ∙ f in cc
              | inr u ↦ entry_of-first x (xs ++ e ∷ []) q t ∙ sym (entry_of-first x xs q t) ∙ sym (ap (λ (b : Bool). cond b (Some e) (entry_of (x ∷ xs) q)) u)
            ])
            | inr g ↦ entry_of-later x (xs ++ e ∷ []) q g ∙ known ∙ sym (ap (λ (o : Option DebugSubstitution). cond (is_pair e.src q) (Some e) o)
                (entry_of-later x xs q g))
          ]
    ]
