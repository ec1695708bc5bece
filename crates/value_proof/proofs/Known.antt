-- A number's token on a path is that of a number which an item gives, or of 0. By induction over the path: what has it after an
-- item had it before, or the item gives it.
use Rattle.std.proofs.Common.{◌≡◌, ℕ, zero, suc, List, [], ◌∷◌, ◌++◌, refl, sym, ap, ◌∙◌, subst, inl, inr, arith}
use Rattle.std.proofs.lemmas.Bool.Decides.{nat_tests, eqb_tells}
use Rattle.std.specs.Prelude.{Option, Some, None, Contains, Bool, true, false, cond, nat_lt, not, ◌&&◌, nat_eq, ◌⊎◌}
use Rattle.std.specs.List.{list_any}
use Rattle.rv64_instr.specs.Instruction.{Instruction}
use Rattle.rv64_instr.specs.Row.{Row, Fixes, Moves, Sets, Addresses, Loads, LoadsSlot, StoresSlot, Calls, row_of}
use Rattle.mir_func.specs.declared.debug_substitution.OperandPair.{OperandPair}
use Rattle.mir_func.specs.declared.variable.VarId.{VarId}
use Rattle.mir_func.specs.declared.variable.MarkValue.{MarkValue}
use Rattle.mir_func.specs.declared.item.ItemKind.{ItemKind}
use Rattle.mir_func.specs.declared.item.ItemKind.TheVariants.{Code, Mark, Phi}
use Rattle.mir_func.specs.Variables.{is_same, overlaps}
use Rattle.sem_mir.proofs.Assignments.{same_is}
use Rattle.mir_func.specs.declared.position.Pos.{Pos}
use Rattle.mir_func.specs.Graph.{Program, Fetch, Here, EndOfBlock, Outside}
use Rattle.sem_mir.specs.ValueId.{Entry, Fixed, Tokens, Path, begin, onward, after_fetch, entry_tokens, sets_pointer}
use Rattle.sem_value_ids.specs.Pullback.{
  Tracked,
  InRegister,
  InSlot,
  OfPair,
  OfVariable,
  OfNumber,
  token_of,
  token_back,
  Back,
  Was,
  New,
  Nameless,
  back,
  put_back,
  back_register,
  slot_stored,
  back_row,
  back_code,
  back_value,
  back_mark,
}
use Rattle.sem_value_ids.proofs.Backwards.{tokens_pull_back}
use Rattle.value_proof.specs.Classes.{IsKnown, KnowsRow, KnowsItem}
use Rattle.value_proof.specs.PreferredByClass.{AreEnoughFor, pairs_at, known_before}
use Rattle.value_proof.proofs.Pairs.{AddsPairs, adds_before, known_more, known_onward}
use Rattle.value_proof.proofs.Passing.{Knows, known_past_item}

-- a number's token is held by what is known only if the number is one of the things
abbrev pub OnlyKnown : (known things : List Tracked) → Tokens → Type 0
OnlyKnown known things t = (x : Tracked) (c : ℕ) → IsKnown known x → token_of x t ≡ Some (Fixed c) → Contains things (OfNumber c)

known_entry : (known things : List Tracked) → AddsPairs things known → Contains things (OfNumber 0) → OnlyKnown known things entry_tokens
known_entry known things a h (InRegister zero) c k e = let is : 0 ≡ c = cc in subst (λ (m : ℕ). Contains things (OfNumber m)) is h
known_entry known things a h (InRegister (suc r)) c k e = absurd (by_test (nat_lt (suc r) 32 && not (nat_eq (suc r) 2)) e) where
  by_test : (b : Bool) → cond b (Some (Entry (suc r))) None ≡ Some (Fixed c) → ⊥
  by_test true e = cc
  by_test false e = cc
known_entry known things a h (InSlot n) c k e = cc
known_entry known things a h (OfPair m o) c k e = cc
known_entry known things a h (OfVariable v) c k e = cc
known_entry known things a h (OfNumber d) c k e =
    let is : d ≡ c = cc in
    subst (λ (m : ℕ). Contains things (OfNumber m)) is (a.only (OfNumber d) tt k)

number_before : (known things : List Tracked) (n : ℕ) (t : Tokens) (b : Back) (c : ℕ) → OnlyKnown known things t → Knows known b →
    token_back n t b ≡ Some (Fixed c) →
    Contains things (OfNumber c)
number_before known things n t (Was y) c only k e = only y c k e
number_before known things n t (New i r) c only k e = cc
number_before known things n t Nameless c only k e = cc

-- ---- x2, and slots and parts of variables that have no class, have no token on any path

pub data IsBare (things : List Tracked) : Tracked → Type 0 where
  pointer : IsBare things (InRegister 2)
  slot : (n : ℕ) → (Contains things (InSlot n) → ⊥) → IsBare things (InSlot n)
  variable : (v : VarId) → (Contains things (OfVariable v) → ⊥) → IsBare things (OfVariable v)

abbrev pub NoneIsBare : (things : List Tracked) → Tokens → Type 0
NoneIsBare things t = (x : Tracked) → IsBare things x → token_of x t ≡ None

abbrev pub StaysBare : Tracked → Back → Type 0
StaysBare x b = (b ≡ Was x) ⊎ (b ≡ Nameless)

stays_if : (x : Tracked) (c : Bool) (a b : Back) → StaysBare x a → StaysBare x b → StaysBare x (cond c a b)
stays_if x true a b h k = h
stays_if x false a b h k = k

pointer_put : (rd : ℕ) (b : Back) → StaysBare (InRegister 2) (put_back rd b 2)
pointer_put zero b = inl refl
pointer_put (suc zero) b = inl refl
pointer_put (suc (suc zero)) b = inr refl
pointer_put (suc (suc (suc rd))) b = let off : nat_eq 2 (suc (suc (suc rd))) ≡ false = grind (arith, nat_tests) in
    subst (λ (z : Bool). StaysBare (InRegister 2) (cond z (cond (nat_eq (suc (suc rd)) 1) Nameless b) (Was (InRegister 2)))) (sym off) (inl refl)

pub pointer_stays : (row : Row) → StaysBare (InRegister 2) (back_register 0 row 2)
pointer_stays (Fixes rd c) = pointer_put rd (Was (OfNumber c))
pointer_stays (Moves rd rs) = pointer_put rd (Was (InRegister rs))
pointer_stays (Sets rd op a b) = pointer_put rd (New 0 rd)
pointer_stays (Addresses rd n offset) = pointer_put rd (New 0 rd)
pointer_stays (Loads rd op base offset) = pointer_put rd (New 0 rd)
pointer_stays (LoadsSlot rd n) = pointer_put rd (Was (InSlot n))
pointer_stays _ = inl refl

module _ (things : List Tracked) where
  slot_stays : (row : Row) (n : ℕ) → KnowsRow things row → (Contains things (InSlot n) → ⊥) → StaysBare (InSlot n) (slot_stored row n)
  slot_stays (StoresSlot rs m) n k bare = elim (eqb_tells n m) [
    | inl h ↦ absurd (bare (subst (λ (z : ℕ). Contains things (InSlot z)) (sym h.1) k.1))
    | inr h ↦ subst (λ (z : Bool). StaysBare (InSlot n) (cond z (Was (InRegister rs)) (Was (InSlot n)))) (sym h.0) (inl refl)
  ]
  slot_stays (Calls call) n k bare = stays_if (InSlot n) (list_any (nat_eq n) call.outgoing) Nameless (Was (InSlot n)) (inr refl) (inl refl)
  slot_stays _ n k bare = inl refl

  variable_stays : (resolve : OperandPair → Option OperandPair) (v : VarId) (m : MarkValue) (w : VarId) → Contains things (OfVariable v) →
      (Contains things (OfVariable w) → ⊥) → StaysBare (OfVariable w) (back_mark resolve v m (OfVariable w))
  variable_stays resolve v m w known bare = by_test (is_same w v) refl where
    by_test : (b : Bool) → is_same w v ≡ b → StaysBare (OfVariable w) (cond b (back_value resolve m) (cond (overlaps w v) Nameless (Was (OfVariable w))))
    by_test true e = absurd (bare (subst (λ (z : VarId). Contains things (OfVariable z)) (sym (same_is w v e)) known))
    by_test false e = stays_if (OfVariable w) (overlaps w v) Nameless (Was (OfVariable w)) (inr refl) (inl refl)

  row_stays : (row : Row) (x : Tracked) → KnowsRow things row → IsBare things x → StaysBare x (back_row 0 row x)
  row_stays row _ k pointer = pointer_stays row
  row_stays row _ k (slot n bare) = stays_if (InSlot n) (sets_pointer row) Nameless (slot_stored row n) (inr refl) (slot_stays row n k bare)
  row_stays row _ k (variable v bare) = inl refl

  code_stays : (i : Instruction) (j : Option ℕ) (x : Tracked) → KnowsRow things (row_of i) → IsBare things x → StaysBare x (back_code 0 i j x)
  code_stays i None x k bare = row_stays (row_of i) x k bare
  code_stays i (Some j) _ k pointer = pointer_stays (row_of i)
  code_stays i (Some j) _ k (slot n bare) = row_stays (row_of i) (InSlot n) k (slot n bare)
  code_stays i (Some j) _ k (variable v bare) = inl refl

  pub bare_stays : (resolve : OperandPair → Option OperandPair) (kind : ItemKind) (x : Tracked) → KnowsItem things resolve kind → IsBare things x →
      StaysBare x (back resolve 0 kind x)
  bare_stays resolve (Code i j) x k bare = code_stays i j x k.0 bare
  bare_stays resolve (Mark v m) _ k pointer = inl refl
  bare_stays resolve (Mark v m) _ k (slot n bare) = inl refl
  bare_stays resolve (Mark v m) _ k (variable w bare) = variable_stays resolve v m w k.1 bare
  bare_stays resolve (Phi p j) _ k pointer = inl refl
  bare_stays resolve (Phi p j) _ k (slot n bare) = inl refl
  bare_stays resolve (Phi p j) _ k (variable w bare) = inl refl

bare_before : (n : ℕ) (t : Tokens) (x : Tracked) (b : Back) → token_of x t ≡ None → StaysBare x b → token_back n t b ≡ None
bare_before n t x b none (inl is) = ap (token_back n t) is ∙ none
bare_before n t x b none (inr is) = ap (token_back n t) is

bare_entry : (things : List Tracked) → NoneIsBare things entry_tokens
bare_entry things _ pointer = refl
bare_entry things _ (slot n bare) = refl
bare_entry things _ (variable v bare) = refl

-- what is bare stays so with pairs
bare_with : (things known : List Tracked) → AddsPairs things known → (x : Tracked) → IsBare things x → IsBare known x
bare_with things known a _ pointer = pointer
bare_with things known a _ (slot n bare) = slot n (λ h. bare (a.only (InSlot n) tt h))
bare_with things known a _ (variable v bare) = variable v (λ h. bare (a.only (OfVariable v) tt h))

module _ (g : Program) (things : List Tracked) (are : AreEnoughFor g things) where
  abbrev known_at : Pos → List Tracked
  known_at p = known_before g things p.block p.item

  adds : (p : Pos) → AddsPairs things (known_at p)
  adds p = adds_before g things p.block p.item

  known_after : (n : ℕ) (p q : Pos) (f : Fetch) (t : Tokens) → g.fetch p ≡ f →
      ((x : Tracked) → IsKnown (known_at q) x → IsKnown (pairs_at f ++ known_at p) x) → OnlyKnown (known_at p) things t →
      OnlyKnown (known_at q) things (after_fetch g.resolve n f t)
  known_after n p q (Here item) t here from only = λ x c k e.
      number_before (known_at p) things n t (back g.resolve 0 item.kind x) c only
      (known_past_item (known_at p) g.resolve item.kind x (are.items p item here) (from x k))
      (sym (tokens_pull_back g.resolve n (item ∷ []) t x) ∙ e)
  known_after n p q (EndOfBlock k m) t here from only = λ x c j e. only x c (from x j) e
  known_after n p q Outside t here from only = λ x c j e. only x c (from x j) e

  bare_after : (n : ℕ) (p : Pos) (f : Fetch) (t : Tokens) → g.fetch p ≡ f → NoneIsBare things t → NoneIsBare things (after_fetch g.resolve n f t)
  bare_after n p (Here item) t here none = λ x bare.
      tokens_pull_back g.resolve n (item ∷ []) t x
      ∙ bare_before n t x (back g.resolve 0 item.kind x) (none x bare)
      (bare_stays (known_at p) g.resolve item.kind x (are.items p item here) (bare_with things (known_at p) (adds p) x bare))
  bare_after n p (EndOfBlock k m) t here none = none
  bare_after n p Outside t here none = none

  path_knows_pairs : {start : Pos} {n : ℕ} {p : Pos} {t : Tokens} → Path g start n p t → OnlyKnown (known_at p) things t
  path_knows_pairs {start = start} begin = known_entry (known_at start) things (adds start) are.zero
  path_knows_pairs (onward {n = n} {p = p} {q = q} {t = t} path edge) =
      known_after n p q (g.fetch p) t refl (known_onward g things p q edge) (path_knows_pairs path)

  pub path_knows : {start : Pos} {n : ℕ} {p : Pos} {t : Tokens} → Path g start n p t → OnlyKnown things things t
  path_knows {p = p} path = λ x c k e. path_knows_pairs path x c (known_more things (known_at p) (adds p) x k) e

  pub path_bare : {start : Pos} {n : ℕ} {p : Pos} {t : Tokens} → Path g start n p t → NoneIsBare things t
  path_bare begin = bare_entry things
  path_bare (onward {n = n} {p = p} {t = t} path edge) = bare_after n p (g.fetch p) t refl (path_bare path)
