-- Which code and which operand are found.
use Rattle.std.proofs.Common.{◌≡◌, ℕ, suc, ◌+◌, ◌<◌, List, [], ◌∷◌, ◌++◌, length, get_or, take, drop, Option, Some, None, Bool, true, false}
use Rattle.std.proofs.Common.{cond, refl, sym, ap, ◌∙◌, arith, drop-cons, is_some}
use Rattle.std.proofs.lemmas.List.{take_more, length-take-le, take-append-drop}
use Rattle.rv64_instr.specs.declared.operand.Operand.{Operand}
use Rattle.rv64_instr.specs.declared.place.Place.TheVariants.{Register}
use Rattle.mir_func.specs.declared.debug_substitution.OperandPair.{OperandPair}
use Rattle.mir_func.specs.declared.debug_substitution.DebugSubstitution.{DebugSubstitution}
use Rattle.mir_func.specs.declared.item.Item.{Item}
use Rattle.mir_func.specs.Resolve.{entry_of, resolve, Ends, at, by}
use Rattle.sem_agreement.specs.sem_mir.Step.{defined}
use Rattle.pass_trait.specs.Causes.{defines}
use Rattle.pass_salvage.specs.SalvageAction.{last_definition, is_register, here_or, first_definition, has_entry}
use Rattle.pass_trait.proofs.mir_substitution.Chains.{chain_end-none, resolve_ends}
use Rattle.pass_salvage.proofs.Last.{last_more as one_more}

-- ---- the last definition

-- one more item at the end
pub last_more : (s : ℕ) (xs : List Item) (x : Item) →
    last_definition s (xs ++ x ∷ []) ≡ cond (defines (Register s) x.kind) (Some (length xs)) (last_definition s xs)
last_more s = one_more (last_definition s) (λ (x : Item). defines (Register s) x.kind) refl (λ x xs. refl)

-- over one item that is no definition, and down to one that is
pub last_down : (s : ℕ) (xs : List Item) (i : ℕ) (x : Item) → i < length xs → x ≡ get_or xs i x → defines (Register s) x.kind ≡ false →
    last_definition s (take (i + 1) xs) ≡ last_definition s (take i xs)
last_down s xs i x lt e out =
    let one : take (i + 1) xs ≡ take i xs ++ x ∷ [] = take_more xs i x lt ∙ ap (λ (y : Item). take i xs ++ y ∷ []) (sym e) in
    ap (last_definition s) one ∙ last_more s (take i xs) x ∙ ap (λ (z : Bool). cond z (Some (length (take i xs))) (last_definition s (take i xs))) out

pub last_found : (s : ℕ) (xs : List Item) (i : ℕ) (x : Item) → i < length xs → x ≡ get_or xs i x → defines (Register s) x.kind ≡ true →
    last_definition s (take (i + 1) xs) ≡ Some i
last_found s xs i x lt e is =
    let one : take (i + 1) xs ≡ take i xs ++ x ∷ [] = take_more xs i x lt ∙ ap (λ (y : Item). take i xs ++ y ∷ []) (sym e) in
    let len : length (take i xs) ≡ i = length-take-le i xs (omega (arith, lt)) in
    ap (last_definition s) one ∙ last_more s (take i xs) x ∙ ap (λ (z : Bool). cond z (Some (length (take i xs))) (last_definition s (take i xs))) is ∙
    ap Some len

-- ---- the first operand that defines

none_later : (later : Option ℕ) → here_or false later ≡ None → later ≡ None
none_later None e = refl
none_later (Some n) e = cc

pub first_more : (call : Bool) (s : ℕ) (os : List Operand) (o : Operand) (rest : List Operand) → first_definition call s os ≡ None →
    is_register s (defined call (Some o)) ≡ true → first_definition call s (os ++ o ∷ rest) ≡ Some (length os)
first_more call s [] o rest none is = ap (λ (z : Bool). here_or z (first_definition call s rest)) is
first_more call s (p ∷ os) o rest none is =
    by_test (λ e. first_more call s os o rest e is) (is_register s (defined call (Some p))) none where
      by_test : (first_definition call s os ≡ None → first_definition call s (os ++ o ∷ rest) ≡ Some (length os)) → (z : Bool) →
          here_or z (first_definition call s os) ≡ None → here_or z (first_definition call s (os ++ o ∷ rest)) ≡ Some (length (p ∷ os))
      by_test later true e = cc
      by_test later false e = ap (here_or false) (later (none_later (first_definition call s os) e))

pub first_none : (call : Bool) (s : ℕ) (os : List Operand) (o : Operand) → first_definition call s os ≡ None →
    is_register s (defined call (Some o)) ≡ false → first_definition call s (os ++ o ∷ []) ≡ None
first_none call s [] o none is = ap (λ (z : Bool). here_or z None) is
first_none call s (p ∷ os) o none is = by_test (λ e. first_none call s os o e is) (is_register s (defined call (Some p))) none where
  by_test : (first_definition call s os ≡ None → first_definition call s (os ++ o ∷ []) ≡ None) → (z : Bool) →
      here_or z (first_definition call s os) ≡ None → here_or z (first_definition call s (os ++ o ∷ [])) ≡ None
  by_test later true e = cc
  by_test later false e = ap (here_or false) (later (none_later (first_definition call s os) e))

-- over one operand that defines something else, and to one that defines s
pub first_on : (call : Bool) (s : ℕ) (os : List Operand) (i : ℕ) (o : Operand) → i < length os → o ≡ get_or os i o →
    first_definition call s (take i os) ≡ None → is_register s (defined call (Some o)) ≡ false → first_definition call s (take (i + 1) os) ≡ None
first_on call s os i o lt e none out =
    let one : take (i + 1) os ≡ take i os ++ o ∷ [] = take_more os i o lt ∙ ap (λ (p : Operand). take i os ++ p ∷ []) (sym e) in
    ap (first_definition call s) one ∙ first_none call s (take i os) o none out

pub first_found : (call : Bool) (s : ℕ) (os : List Operand) (i : ℕ) (o : Operand) → i < length os → o ≡ get_or os i o →
    first_definition call s (take i os) ≡ None → is_register s (defined call (Some o)) ≡ true → first_definition call s os ≡ Some i
first_found call s os i o lt e none is =
    let rest : drop i os ≡ o ∷ drop (suc i) os = drop-cons os i o lt ∙ ap (λ (p : Operand). p ∷ drop (suc i) os) (sym e) in
    let all : os ≡ take i os ++ (o ∷ drop (suc i) os) = sym (take-append-drop i os) ∙ ap (λ (ps : List Operand). take i os ++ ps) rest in
    let len : length (take i os) ≡ i = length-take-le i os (omega (arith, lt)) in
    ap (first_definition call s) all ∙ first_more call s (take i os) o (drop (suc i) os) none is ∙ ap Some len

-- ---- entries

-- the end of a chain has no entry
ends_none : (subs : List DebugSubstitution) (q r : OperandPair) → Ends subs q r → entry_of subs r ≡ None
ends_none subs q r (at e) = e
ends_none subs q r (by {r = t} e has whole more) = ends_none subs e.dst r more

-- a pair resolves to itself exactly where it has no entry
pub has_none : (subs : List DebugSubstitution) (n o : ℕ) → resolve subs (record { number = n; operand = o }) ≡ Some (record { number = n; operand = o }) →
    has_entry subs (Some n) o ≡ false
has_none subs n o e = ap is_some (ends_none subs _ _ (resolve_ends subs _ _ e))

pub has_some : (subs : List DebugSubstitution) (n o : ℕ) →
    (resolve subs (record { number = n; operand = o }) ≡ Some (record { number = n; operand = o }) → ⊥) → has_entry subs (Some n) o ≡ true
has_some subs n o ne = by_entry (entry_of subs (record { number = n; operand = o })) refl where
  by_entry : (e : Option DebugSubstitution) → entry_of subs (record { number = n; operand = o }) ≡ e → is_some e ≡ true
  by_entry None e = absurd (ne (chain_end-none subs (length subs) _ e))
  by_entry (Some x) e = refl
