-- Where the code stands that gives a copy's value, what stands behind it, and by which operand it gives the value.
use Rattle.std.proofs.Common.{◌≡◌, ℕ, zero, suc, ◌+◌, List, [], ◌∷◌, ◌++◌, drop, All, Option, Some, None, Bool, true, false, not, ◌&&◌}
use Rattle.std.proofs.Common.{◌||◌, eqb-true, slice_get, refl, sym, ap, subst}
use Rattle.std.specs.List.{list_any}
use Rattle.std.proofs.lemmas.List.Elements.{All-nil, All-cons}
use Rattle.rv64_instr.specs.declared.operand.Operand.{Operand}
use Rattle.rv64_instr.specs.declared.place.Place.TheVariants.{Register}
use Rattle.mir_func.specs.declared.item.Item.{Item}
use Rattle.pass_salvage.specs.sem_mir.Step.{defined}
use Rattle.pass_salvage.specs.pass_trait.Causes.{defines}
use Rattle.pass_salvage.specs.Salvage.{with_number, numbered_at}
use Rattle.pass_salvage.specs.SalvageAction.{further, last_definition, is_register, here_or, first_definition}

-- what stands above an item of a list and behind it
pub record Split (xs : List Item) (d n : ℕ) (x : Item) : Type 0 where
  pub above : List Item
  pub behind : List Item
  pub whole : xs ≡ above ++ x ∷ behind
  pub numbered : numbered_at d n xs ≡ above ++ record x { kind = with_number n x.kind } ∷ behind
  pub rest : drop (suc d) xs ≡ behind

drop_zero : (xs : List Item) → drop 0 xs ≡ xs
drop_zero [] = refl
drop_zero (x ∷ xs) = refl

pub split_at : (xs : List Item) (d n : ℕ) (x : Item) → slice_get xs d ≡ Some x → Split xs d n x
split_at [] d n x e = cc
split_at (y ∷ ys) zero n x e =
    let w : y ≡ x = cc in
    record {
      above = [];
      behind = ys;
      whole = ap (λ (z : Item). z ∷ ys) w;
      numbered = ap (λ (z : Item). record z { kind = with_number n z.kind } ∷ ys) w;
      rest = drop_zero ys;
    }
split_at (y ∷ ys) (suc d) n x e =
    let s = split_at ys d n x e in
    record {
      above = y ∷ s.above;
      behind = s.behind;
      whole = ap (λ (zs : List Item). y ∷ zs) s.whole;
      numbered = ap (λ (zs : List Item). y ∷ zs) s.numbered;
      rest = s.rest;
    }

-- ---- behind the last definition there is none

abbrev pub IsNoDefinition : ℕ → Item → Type 0
IsNoDefinition s x = defines (Register s) x.kind ≡ false

last_none : (s : ℕ) (xs : List Item) → last_definition s xs ≡ None → All (IsNoDefinition s) xs
last_none s [] e = All-nil (IsNoDefinition s)
last_none s (x ∷ xs) e = by_last (last_definition s xs) (defines (Register s) x.kind) refl refl e (last_none s xs) where
  by_last : (o : Option ℕ) (z : Bool) → last_definition s xs ≡ o → defines (Register s) x.kind ≡ z → further o z ≡ None →
      (last_definition s xs ≡ None → All (IsNoDefinition s) xs) → All (IsNoDefinition s) (x ∷ xs)
  by_last (Some m) z is out k rec = cc
  by_last None true is out k rec = cc
  by_last None false is out k rec = All-cons (IsNoDefinition s) x xs out (rec is)

pub last_behind : (s : ℕ) (xs : List Item) (d : ℕ) → last_definition s xs ≡ Some d → All (IsNoDefinition s) (drop (suc d) xs)
last_behind s [] d e = cc
last_behind s (x ∷ xs) d e = by_last (last_definition s xs) (defines (Register s) x.kind) refl refl e (last_behind s xs) where
  by_last : (o : Option ℕ) (z : Bool) → last_definition s xs ≡ o → defines (Register s) x.kind ≡ z → further o z ≡ Some d →
      ((m : ℕ) → last_definition s xs ≡ Some m → All (IsNoDefinition s) (drop (suc m) xs)) → All (IsNoDefinition s) (drop (suc d) (x ∷ xs))
  by_last (Some m) z is out k rec =
      let w : suc m ≡ d = cc in subst (λ (n : ℕ). All (IsNoDefinition s) (drop (suc n) (x ∷ xs))) w (rec m is)
  by_last None true is out k rec =
      let w : zero ≡ d = cc in
      subst (λ (n : ℕ). All (IsNoDefinition s) (drop (suc n) (x ∷ xs))) w (subst (All (IsNoDefinition s)) (sym (drop_zero xs)) (last_none s xs is))
  by_last None false is out k rec = cc

-- ---- the operand

register_is : (s : ℕ) (x : Option ℕ) → is_register s x ≡ true → x ≡ Some s
register_is s None e = cc
register_is s (Some r) e = ap Some (eqb-true r s e)

pub first_defines : (call : Bool) (s : ℕ) (os : List Operand) (o : ℕ) → first_definition call s os ≡ Some o → defined call (slice_get os o) ≡ Some s
first_defines call s [] o e = cc
first_defines call s (p ∷ os) o e =
    by_test (is_register s (defined call (Some p))) (first_definition call s os) refl refl e (first_defines call s os) where
      by_test : (z : Bool) (later : Option ℕ) → is_register s (defined call (Some p)) ≡ z → first_definition call s os ≡ later → here_or z later ≡ Some o →
          ((m : ℕ) → first_definition call s os ≡ Some m → defined call (slice_get os m) ≡ Some s) → defined call (slice_get (p ∷ os) o) ≡ Some s
      by_test true later is found k rec =
          let w : zero ≡ o = cc in
          subst (λ (n : ℕ). defined call (slice_get (p ∷ os) n) ≡ Some s) w (register_is s (defined call (Some p)) is)
      by_test false (Some m) is found k rec =
          let w : suc m ≡ o = cc in subst (λ (n : ℕ). defined call (slice_get (p ∷ os) n) ≡ Some s) w (rec m found)
      by_test false None is found k rec = cc

-- ---- tests

pub any_none : {A : Type 0} (p : A → Bool) (xs : List A) → list_any p xs ≡ false → All (λ (x : A). p x ≡ false) xs
any_none {A} p [] e = All-nil (λ (x : A). p x ≡ false)
any_none {A} p (x ∷ xs) e = by_test (p x) refl e (any_none p xs) where
  by_test : (z : Bool) → p x ≡ z → (z || list_any p xs) ≡ false → (list_any p xs ≡ false → All (λ (y : A). p y ≡ false) xs) → All (λ (y : A). p y ≡ false)
      (x ∷ xs)
  by_test true is k rec = cc
  by_test false is k rec = All-cons (λ (y : A). p y ≡ false) x xs is (rec k)

-- the last two of four tests
pub last_two : (a b c d : Bool) → (a && b && c && d) ≡ true → (c ≡ true) × (d ≡ true)
last_two true true true true h = (refl, refl)
last_two true true true false h = cc
last_two true true false d h = cc
last_two true false c d h = cc
last_two false b c d h = cc

pub not_is : (b : Bool) → not b ≡ true → b ≡ false
not_is true h = cc
not_is false h = refl
