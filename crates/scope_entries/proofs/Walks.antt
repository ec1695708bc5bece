-- What is left of a walk over scopes.
use Rattle.std.proofs.Common.{◌≡◌, ℕ, suc, ◌+◌, ◌<◌, Bool, true, false, cond, List, [], ◌∷◌, ◌++◌, length, drop, refl, sym, ap, ◌∙◌, arith, nat_eq, All, subst}
use Rattle.std.proofs.Common.{Option, Some, None, append_assoc, append-nil, length-append}
use Rattle.std.specs.Prelude.{IfSome}
use Rattle.std.specs.Option.{option_eq}
use Rattle.scope_ranges.specs.declared.scope.Scope.{Scope}
use Rattle.scope_entries.specs.declared.step.ScopeStep.{ScopeStep}
use Rattle.scope_entries.specs.declared.step.ScopeStep.TheVariants.{Open, Close}
use Rattle.scope_entries.specs.Prefix.{steps_from, steps_of}
use Rattle.scope_entries.specs.steps.Links.{first_from, first_behind, parent_at}
use Rattle.scope_variables.proofs.Keys.{same_option}
use Rattle.scope_entries.proofs.Places.{IsAt, at_index}

-- the steps through what stands in a scope
abbrev pub inside : List Scope → ℕ → List ScopeStep
inside scopes k = steps_from (k + 1) (drop (k + 1) scopes) (Some k)

-- its end, and the steps through what stands behind it in the same scope
abbrev pub closing : List Scope → ℕ → List ScopeStep
closing scopes k = Close k ∷ steps_from (k + 1) (drop (k + 1) scopes) (parent_at scopes k)

-- the steps from the begin of a scope on, in the scope around it
abbrev pub ahead : List Scope → Option ℕ → List ScopeStep
ahead scopes None = []
ahead scopes (Some k) = Open k ∷ (inside scopes k ++ closing scopes k)

-- the steps from the ends of open scopes on, the innermost of which is the last
abbrev pub behind : List Scope → (opens : List ℕ) → List ScopeStep
behind scopes [] = []
behind scopes (k ∷ ks) = behind scopes ks ++ closing scopes k

unroll_by : (scopes : List Scope) (around : Option ℕ) (k : ℕ) (s : Scope) (ss : List Scope) (b : Bool) → option_eq nat_eq s.parent around ≡ b
    → IsAt scopes k s ss → steps_from (k + 1) ss around ≡ ahead scopes (first_from (k + 1) ss around)
    → cond b (Open k ∷ (steps_from (k + 1) ss (Some k) ++ Close k ∷ steps_from (k + 1) ss around)) (steps_from (k + 1) ss around)
    ≡ ahead scopes (cond b (Some k) (first_from (k + 1) ss around))
unroll_by scopes around k s ss true same at before =
    let own : around ≡ parent_at scopes k = sym (same_option s.parent around same) ∙ ap (λ (t : Scope). t.parent) (sym at.item) in
    λ i. Open k ∷ (steps_from (k + 1) (at.rest i) (Some k) ++ Close k ∷ steps_from (k + 1) (at.rest i) (own i))
unroll_by scopes around k s ss false same at before = before

-- the steps in a scope begin with the first one there
pub unroll : (scopes : List Scope) (around : Option ℕ) (k : ℕ) (ss : List Scope) → ss ≡ drop k scopes
    → steps_from k ss around ≡ ahead scopes (first_from k ss around)
unfolding steps_from
unroll scopes around k [] e = refl
unroll scopes around k (s ∷ ss) e =
    let at = at_index scopes k s ss e in
    unroll_by scopes around k s ss (option_eq nat_eq s.parent around) refl at (unroll scopes around (k + 1) ss at.rest)

within_by : (scopes : List Scope) (k : ℕ) (b : Bool) (o : Option ℕ) → k < length scopes → IfSome o (λ n. n < length scopes)
    → IfSome (cond b (Some k) o) (λ n. n < length scopes)
within_by scopes k true o lt rest = lt
within_by scopes k false o lt rest = rest

-- and that is a scope's index
pub first_within : (scopes : List Scope) (around : Option ℕ) (k : ℕ) (ss : List Scope) → ss ≡ drop k scopes
    → IfSome (first_from k ss around) (λ n. n < length scopes)
first_within scopes around k [] e = tt
first_within scopes around k (s ∷ ss) e =
    let at = at_index scopes k s ss e in
    within_by scopes k (option_eq nat_eq s.parent around) (first_from (k + 1) ss around) at.within (first_within scopes around (k + 1) ss at.rest)

pub behind_push : (scopes : List Scope) (ks : List ℕ) (k : ℕ) → behind scopes (ks ++ k ∷ []) ≡ closing scopes k ++ behind scopes ks
behind_push scopes [] k = sym (append-nil (closing scopes k))
behind_push scopes (j ∷ ks) k =
    ap (λ (x : List ScopeStep). x ++ closing scopes j) (behind_push scopes ks k) ∙ append_assoc (closing scopes k) (behind scopes ks) (closing scopes j)

-- the steps so far, the scope that is next, if there is one, and those that are open
pub record IsWalked (scopes : List Scope) (steps : List ScopeStep) (next : Option ℕ) (opens : List ℕ) : Type 0 where
  pub whole : steps_of scopes ≡ steps ++ (ahead scopes next ++ behind scopes opens)
  pub next_within : IfSome next (λ k. k < length scopes)
  pub opens_within : All (λ k. k < length scopes) opens

walked_start : (scopes : List Scope) (next : Option ℕ) → next ≡ first_from 0 scopes None → IsWalked scopes [] next []
walked_start scopes next e = record {
  whole = unroll scopes None 0 scopes refl ∙ ap (ahead scopes) (sym e) ∙ sym (append-nil (ahead scopes next));
  next_within = subst (λ (o : Option ℕ). IfSome o (λ n. n < length scopes)) (sym e) (first_within scopes None 0 scopes refl);
  opens_within = λ i d lt. absurd (omega (arith, lt));
}

pub walked_none : (scopes : List Scope) (steps : List ScopeStep) (next : Option ℕ) (opens : List ℕ) → steps ≡ [] → opens ≡ []
    → next ≡ first_from 0 scopes None → IsWalked scopes steps next opens
walked_none scopes steps next opens none shut e =
    subst (λ (ks : List ℕ). IsWalked scopes steps next ks) (sym shut)
    (subst (λ (ss : List ScopeStep). IsWalked scopes ss next []) (sym none) (walked_start scopes next e))

-- the scope that is next begins
pub walked_open : (scopes : List Scope) (steps : List ScopeStep) (k : ℕ) (opens : List ℕ) (next : Option ℕ) (made : List ScopeStep) (opened : List ℕ)
    → IsWalked scopes steps (Some k) opens → next ≡ first_behind scopes k (Some k) → made ≡ steps ++ Open k ∷ [] → opened ≡ opens ++ k ∷ []
    → All (λ j. j < length scopes) opened → IsWalked scopes made next opened
walked_open scopes steps k opens next made opened is e f g all =
    let inner : inside scopes k ≡ ahead scopes next = unroll scopes (Some k) (k + 1) (drop (k + 1) scopes) refl ∙ ap (ahead scopes) (sym e) in
    let outer : behind scopes opened ≡ closing scopes k ++ behind scopes opens = ap (behind scopes) g ∙ behind_push scopes opens k in
    record {
      whole =
          is.whole
          ∙ ap (λ (x : List ScopeStep). steps ++ Open k ∷ x) (append_assoc (inside scopes k) (closing scopes k) (behind scopes opens))
          ∙ (λ i. steps ++ Open k ∷ (inner i ++ sym outer i))
          ∙ sym (append_assoc steps (Open k ∷ []) (ahead scopes next ++ behind scopes opened))
          ∙ ap (λ (x : List ScopeStep). x ++ (ahead scopes next ++ behind scopes opened)) (sym f);
      next_within =
          subst (λ (o : Option ℕ). IfSome o (λ n. n < length scopes)) (sym e) (first_within scopes (Some k) (k + 1) (drop (k + 1) scopes) refl);
      opens_within = all;
    }

-- the innermost open scope ends
pub walked_close : (scopes : List Scope) (steps : List ScopeStep) (k : ℕ) (opens : List ℕ) (next : Option ℕ) (made : List ScopeStep) (opened : List ℕ)
    → IsWalked scopes steps None opened → next ≡ first_behind scopes k (parent_at scopes k) → made ≡ steps ++ Close k ∷ [] → opened ≡ opens ++ k ∷ []
    → All (λ j. j < length scopes) opens → IsWalked scopes made next opens
walked_close scopes steps k opens next made opened is e f g all =
    let beside : steps_from (k + 1) (drop (k + 1) scopes) (parent_at scopes k) ≡ ahead scopes next =
    unroll scopes (parent_at scopes k) (k + 1) (drop (k + 1) scopes) refl ∙ ap (ahead scopes) (sym e) in
    record {
      whole =
          is.whole
          ∙ ap (λ (x : List ScopeStep). steps ++ x) (ap (behind scopes) g ∙ behind_push scopes opens k)
          ∙ (λ i. steps ++ Close k ∷ (beside i ++ behind scopes opens))
          ∙ sym (append_assoc steps (Close k ∷ []) (ahead scopes next ++ behind scopes opens))
          ∙ ap (λ (x : List ScopeStep). x ++ (ahead scopes next ++ behind scopes opens)) (sym f);
      next_within =
          subst (λ (o : Option ℕ). IfSome o (λ n. n < length scopes)) (sym e)
          (first_within scopes (parent_at scopes k) (k + 1) (drop (k + 1) scopes) refl);
      opens_within = all;
    }

-- no scope is open any more
pub walked_all : (scopes : List Scope) (steps : List ScopeStep) (opens : List ℕ) → IsWalked scopes steps None opens → opens ≡ [] → steps ≡ steps_of scopes
walked_all scopes steps opens is none = sym (is.whole ∙ ap (λ (ks : List ℕ). steps ++ behind scopes ks) none ∙ append-nil steps)

-- there are more steps while a scope is open
pub walked_short : (scopes : List Scope) (steps : List ScopeStep) (opened opens : List ℕ) (k : ℕ) → IsWalked scopes steps None opened → opened ≡ opens ++ k ∷ []
    → length steps < length (steps_of scopes)
walked_short scopes steps opened opens k is g =
    let rest = steps_from (k + 1) (drop (k + 1) scopes) (parent_at scopes k) ++ behind scopes opens in
    let long : length (steps_of scopes) ≡ length steps + suc (length rest) =
    ap length (is.whole ∙ ap (λ (x : List ScopeStep). steps ++ x) (ap (behind scopes) g ∙ behind_push scopes opens k))
    ∙ length-append steps (Close k ∷ rest) in
    omega (arith, long)

-- one more step
pub one_more : (steps made : List ScopeStep) (s : ScopeStep) → made ≡ steps ++ s ∷ [] → length made ≡ length steps + 1
one_more steps made s e = ap length e ∙ length-append steps (s ∷ [])
