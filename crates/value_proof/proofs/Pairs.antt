-- The pairs that items define: which they are, and what is known with them. Beside pairs nothing else comes to what was known.
use Rattle.std.proofs.Common.{◌≡◌, ℕ, zero, suc, ◌+◌, ◌<◌, List, [], ◌∷◌, ◌++◌, length, refl, sym, ap, ◌∙◌, subst, arith, inl, inr}
use Rattle.std.specs.Prelude.{Contains, Option, Some, None, Bool, ◌⊎◌, slice_get, take}
use Rattle.std.proofs.lemmas.List.Elements.{Contains-append_cases, Contains-append_left, Contains-append_right}
use Rattle.rv64_instr.specs.declared.operand.Operand.{Operand}
use Rattle.rv64_instr.specs.LocationEffects.{is_call}
use Rattle.rv64_instr.specs.declared.place.Place.{Place}
use Rattle.rv64_instr.specs.declared.place.Place.TheVariants.{Register, Slot, Const}
use Rattle.rv64_instr.specs.Arithmetic.{word}
use Rattle.rv64_instr.specs.Row.{Row, Fixes, LoadsSlot, StoresSlot, row_of}
use Rattle.mir_func.specs.declared.debug_substitution.OperandPair.{OperandPair}
use Rattle.mir_func.specs.declared.variable.MarkValue.{MarkValue}
use Rattle.mir_func.specs.declared.variable.MarkValue.TheVariants.{Nothing, Constant, At, Pair}
use Rattle.mir_func.specs.declared.exit.Exit.{Exit}
use Rattle.mir_func.specs.declared.exit.Exit.TheVariants.{Onward, Perhaps, Always, Final}
use Rattle.mir_func.specs.declared.item.Item.{Item}
use Rattle.mir_func.specs.declared.item.ItemKind.{ItemKind}
use Rattle.mir_func.specs.declared.item.ItemKind.TheVariants.{Code, Mark, Phi}
use Rattle.mir_func.specs.declared.position.Pos.{Pos}
use Rattle.mir_func.specs.Exits.{exit_of}
use Rattle.mir_func.specs.Graph.{Program, Fetch, Here, EndOfBlock, Outside, below, block_start, Edge, FetchEdge, ExitEdge}
use Rattle.sem_mir.specs.Step.{defined}
use Rattle.sem_value_ids.specs.Pullback.{Tracked, InRegister, InSlot, OfPair, OfVariable, OfNumber}
use Rattle.value_proof.specs.Classes.{IsKnown, KnowsRow, KnowsPair, KnowsValue, KnowsPlace, KnowsItem, with_pair, operand_pairs, pairs_of, known_past}
use Rattle.value_proof.specs.PreferredByClass.{pairs_at, known_before}

-- ---- lists

in_nothing : {A : Type 0} (x : A) → Contains [] x → ⊥
in_nothing x (k, lt, e) = let no : k < 0 = lt in omega (arith, no)

first_or_rest : {A : Type 0} (y : A) (ys : List A) (x : A) → Contains (y ∷ ys) x → (y ≡ x) ⊎ Contains ys x
first_or_rest y ys x (zero, lt, e) = inl e
first_or_rest y ys x (suc k, lt, e) = let less : suc k < suc (length ys) = lt in inr (k, omega (arith, less), e)

is_first : {A : Type 0} (x : A) (xs : List A) → Contains (x ∷ xs) x
is_first x xs = (zero, omega arith, refl)

in_rest : {A : Type 0} (y : A) (ys : List A) (x : A) → Contains ys x → Contains (y ∷ ys) x
in_rest y ys x (k, lt, e) = (suc k, omega (arith, lt), e)

-- ---- the pairs of an item

-- the item defines this pair
abbrev pub Defines : ItemKind → (k o : ℕ) → Type 0
Defines (Code i (Some j)) k o = (k ≡ j) × (r : ℕ) × (defined (is_call (row_of i)) (slice_get i.operands o) ≡ Some r)
Defines (Code i None) k o = ⊥
Defines (Mark v m) k o = ⊥
Defines (Phi p j) k o = (k ≡ j) × (o ≡ 0)

-- the operand that defines it, from the first of the operands on
record ByOperand (call : Bool) (k first : ℕ) (operands : List Operand) (x : Tracked) : Type 0 where
  operand : ℕ
  register : ℕ
  is : x ≡ OfPair k (first + operand)
  defines : defined call (slice_get operands operand) ≡ Some register

by_operand : (call : Bool) (k first : ℕ) (operands : List Operand) (x : Tracked) → Contains (operand_pairs call k first operands) x →
    ByOperand call k first operands x
by_operand call k first [] x h = absurd (in_nothing x h)
by_operand call k first (y ∷ ys) x h = by_first (defined call (Some y)) refl (λ more. later (by_operand call k (suc first) ys x more)) h where
  later : ByOperand call k (suc first) ys x → ByOperand call k first (y ∷ ys) x
  later d =
      let next : suc first + d.operand ≡ first + suc d.operand = omega arith in
      record { operand = suc d.operand; register = d.register; is = d.is ∙ ap (OfPair k) next; defines = d.defines }

  by_first : (d : Option ℕ) → defined call (Some y) ≡ d →
      (Contains (operand_pairs call k (suc first) ys) x → ByOperand call k first (y ∷ ys) x) →
      Contains (with_pair d k first (operand_pairs call k (suc first) ys)) x → ByOperand call k first (y ∷ ys) x
  by_first None e rest h = rest h
  by_first (Some r) e rest h = elim (first_or_rest (OfPair k first) (operand_pairs call k (suc first) ys) x h) [
    | inl is ↦
        let same : first ≡ first + 0 = omega arith in
        record { operand = 0; register = r; is = sym is ∙ ap (OfPair k) same; defines = e }
    | inr more ↦ rest more
  ]

operand_in : (call : Bool) (k first : ℕ) (operands : List Operand) (o r : ℕ) → defined call (slice_get operands o) ≡ Some r →
    Contains (operand_pairs call k first operands) (OfPair k (first + o))
operand_in call k first [] o r e = absurd (let no : None ≡ Some r = e in cc)
operand_in call k first (y ∷ ys) zero r e = by_first (defined call (Some y)) e where
  by_first : (d : Option ℕ) → d ≡ Some r → Contains (with_pair d k first (operand_pairs call k (suc first) ys)) (OfPair k (first + 0))
  by_first None h = absurd cc
  by_first (Some q) h =
      let same : first ≡ first + 0 = omega arith in
      subst (λ (z : ℕ). Contains (OfPair k first ∷ operand_pairs call k (suc first) ys) (OfPair k z)) same
      (is_first (OfPair k first) (operand_pairs call k (suc first) ys))
operand_in call k first (y ∷ ys) (suc o) r e =
    let next : suc first + o ≡ first + suc o = omega arith in
    by_first (defined call (Some y))
    (subst (λ (z : ℕ). Contains (operand_pairs call k (suc first) ys) (OfPair k z)) next (operand_in call k (suc first) ys o r e)) where
      by_first : (d : Option ℕ) → Contains (operand_pairs call k (suc first) ys) (OfPair k (first + suc o)) →
          Contains (with_pair d k first (operand_pairs call k (suc first) ys)) (OfPair k (first + suc o))
      by_first None rest = rest
      by_first (Some q) rest = in_rest (OfPair k first) (operand_pairs call k (suc first) ys) (OfPair k (first + suc o)) rest

record IsDefined (kind : ItemKind) (x : Tracked) : Type 0 where
  number : ℕ
  operand : ℕ
  is : x ≡ OfPair number operand
  by : Defines kind number operand

which : (kind : ItemKind) (x : Tracked) → Contains (pairs_of kind) x → IsDefined kind x
which (Code i (Some k)) x h =
    let d = by_operand (is_call (row_of i)) k 0 i.operands x h in
    let same : 0 + d.operand ≡ d.operand = omega arith in
    record { number = k; operand = d.operand; is = d.is ∙ ap (OfPair k) same; by = (refl, d.register, d.defines) }
which (Code i None) x h = absurd (in_nothing x h)
which (Mark v m) x h = absurd (in_nothing x h)
which (Phi p k) x h = elim (first_or_rest (OfPair k 0) [] x h) [
  | inl is ↦ record { number = k; operand = 0; is = sym is; by = (refl, refl) }
  | inr none ↦ absurd (in_nothing x none)
]

pub defined_pair : (kind : ItemKind) (k o : ℕ) → Contains (pairs_of kind) (OfPair k o) → Defines kind k o
defined_pair kind k o h =
    let d = which kind (OfPair k o) h in
    let same : OfPair k o ≡ OfPair d.number d.operand = d.is in
    let number : k ≡ d.number = cc in
    let operand : o ≡ d.operand = cc in
    subst (λ (z : ℕ). Defines kind z o) (sym number) (subst (λ (z : ℕ). Defines kind d.number z) (sym operand) d.by)

pub pair_in : (kind : ItemKind) (k o : ℕ) → Defines kind k o → Contains (pairs_of kind) (OfPair k o)
pair_in (Code i (Some j)) k o d =
    let same : 0 + o ≡ o = omega arith in
    subst (λ (z : ℕ). Contains (operand_pairs (is_call (row_of i)) j 0 i.operands) (OfPair z o)) (sym d.0)
    (subst (λ (z : ℕ). Contains (operand_pairs (is_call (row_of i)) j 0 i.operands) (OfPair j z)) same
    (operand_in (is_call (row_of i)) j 0 i.operands o d.1 d.2))
pair_in (Code i None) k o d = absurd d
pair_in (Mark v m) k o d = absurd d
pair_in (Phi p j) k o d =
    subst (λ (z : ℕ). Contains (OfPair j 0 ∷ []) (OfPair z o)) (sym d.0)
    (subst (λ (z : ℕ). Contains (OfPair j 0 ∷ []) (OfPair j z)) (sym d.1) (is_first (OfPair j 0) []))

-- ---- what is known with pairs

abbrev pub IsNoPair : Tracked → Type 0
IsNoPair (InRegister r) = Unit {0}
IsNoPair (InSlot n) = Unit {0}
IsNoPair (OfPair k o) = ⊥
IsNoPair (OfVariable v) = Unit {0}
IsNoPair (OfNumber c) = Unit {0}

-- what is known is these things, and beside them pairs alone
pub record AddsPairs (things known : List Tracked) : Type 0 where
  pub all : (x : Tracked) → Contains things x → Contains known x
  pub only : (x : Tracked) → IsNoPair x → Contains known x → Contains things x

pub adds_none : (things : List Tracked) → AddsPairs things things
adds_none things = record { all = λ x h. h; only = λ x none h. h }

pub adds_item : (things known : List Tracked) (kind : ItemKind) → AddsPairs things known → AddsPairs things (pairs_of kind ++ known)
adds_item things known kind a = record {
  all = λ x h. Contains-append_right (pairs_of kind) known x (a.all x h);
  only = λ x none h. elim (Contains-append_cases (pairs_of kind) known x h) [
    | inl pair ↦ absurd (subst IsNoPair (which kind x pair).is none)
    | inr more ↦ a.only x none more
  ];
}

-- what is no pair and known with an item's pairs was known
pub old_item : (known : List Tracked) (kind : ItemKind) (x : Tracked) → IsNoPair x → Contains (pairs_of kind ++ known) x → Contains known x
old_item known kind x none h = (adds_item known known kind (adds_none known)).only x none h

pub adds_past : (things known : List Tracked) (items : List Item) → AddsPairs things known → AddsPairs things (known_past known items)
adds_past things known [] a = a
adds_past things known (i ∷ items) a = adds_past things (pairs_of i.kind ++ known) items (adds_item things known i.kind a)

pub adds_before : (g : Program) (things : List Tracked) (b i : ℕ) → AddsPairs things (known_before g things b i)
adds_before g things b zero = adds_none things
adds_before g things b (suc i) = by_fetch (g.fetch (record { block = b; item = i })) (adds_before g things b i) where
  by_fetch : (f : Fetch) → AddsPairs things (known_before g things b i) → AddsPairs things (pairs_at f ++ known_before g things b i)
  by_fetch (Here item) a = adds_item things (known_before g things b i) item.kind a
  by_fetch (EndOfBlock k n) a = a
  by_fetch Outside a = a

pub known_more : (things known : List Tracked) → AddsPairs things known → (x : Tracked) → IsKnown things x → IsKnown known x
known_more things known a (InRegister r) k = k
known_more things known a (InSlot n) k = a.all (InSlot n) k
known_more things known a (OfPair j o) k = a.all (OfPair j o) k
known_more things known a (OfVariable v) k = a.all (OfVariable v) k
known_more things known a (OfNumber c) k = a.all (OfNumber c) k

-- where more is known, more of an item is
module _ (fewer more : List Tracked) (all : (x : Tracked) → Contains fewer x → Contains more x) where
  pub row_more : (row : Row) → KnowsRow fewer row → KnowsRow more row
  row_more (Fixes rd c) k = all (OfNumber c) k
  row_more (LoadsSlot rd n) k = all (InSlot n) k
  row_more (StoresSlot rs n) k = (k.0, all (InSlot n) k.1)
  row_more _ k = k

  pair_more : (q : Option OperandPair) → KnowsPair fewer q → KnowsPair more q
  pair_more None k = k
  pair_more (Some q) k = all (OfPair q.number q.operand) k

  pub value_more : (resolve : OperandPair → Option OperandPair) (m : MarkValue) → KnowsValue fewer resolve m → KnowsValue more resolve m
  value_more resolve Nothing k = k
  value_more resolve (Constant c) k = all (OfNumber (word c)) k
  value_more resolve (At r) k = k
  value_more resolve (Pair q) k = pair_more (resolve q) k

  pub place_more : (p : Option Place) → KnowsPlace fewer p → KnowsPlace more p
  place_more None k = k
  place_more (Some (Register r)) k = k
  place_more (Some (Slot n)) k = all (InSlot n) k
  place_more (Some (Const c)) k = all (OfNumber (word c)) k

  pub item_more : (resolve : OperandPair → Option OperandPair) (kind : ItemKind) → KnowsItem fewer resolve kind → KnowsItem more resolve kind
  item_more resolve (Code i k) h = (row_more (row_of i) h.0, h.1)
  item_more resolve (Mark v m) h = (value_more resolve m h.0, all (OfVariable v) h.1)
  item_more resolve (Phi p k) h = place_more p h

-- ---- past items

pub past_push : (known : List Tracked) (items : List Item) (item : Item) →
    known_past known (items ++ item ∷ []) ≡ pairs_of item.kind ++ known_past known items
past_push known [] item = refl
past_push known (i ∷ items) item = past_push (pairs_of i.kind ++ known) items item

-- more was known before, more is known past the items
pub past_more : (fewer more : List Tracked) (items : List Item) → ((x : Tracked) → Contains fewer x → Contains more x) → (x : Tracked) →
    Contains (known_past fewer items) x → Contains (known_past more items) x
past_more fewer more [] all x h = all x h
past_more fewer more (i ∷ items) all x h = past_more (pairs_of i.kind ++ fewer) (pairs_of i.kind ++ more) items each x h where
  each : (y : Tracked) → Contains (pairs_of i.kind ++ fewer) y → Contains (pairs_of i.kind ++ more) y
  each y h = elim (Contains-append_cases (pairs_of i.kind) fewer y h) [
    | inl pair ↦ Contains-append_left (pairs_of i.kind) more y pair
    | inr old ↦ Contains-append_right (pairs_of i.kind) more y (all y old)
  ]

-- what was known before items is known past them
pub past_keeps : (known : List Tracked) (items : List Item) (x : Tracked) → Contains known x → Contains (known_past known items) x
past_keeps known [] x h = h
past_keeps known (i ∷ items) x h = past_keeps (pairs_of i.kind ++ known) items x (Contains-append_right (pairs_of i.kind) known x h)

-- and so are the pairs of each of them
pub past_has : (known : List Tracked) (items : List Item) (k j : ℕ) (item : Item) (x : Tracked) → slice_get items j ≡ Some item → j < k →
    Contains (pairs_of item.kind) x → Contains (known_past known (take k items)) x
past_has known [] k j item x at lt h = absurd cc
past_has known (i ∷ items) zero j item x at lt h = absurd (omega (arith, lt))
past_has known (i ∷ items) (suc k) zero item x at lt h =
    let is : i ≡ item = cc in
    past_keeps (pairs_of i.kind ++ known) (take k items) x
    (Contains-append_left (pairs_of i.kind) known x (subst (λ (z : Item). Contains (pairs_of z.kind) x) (sym is) h))
past_has known (i ∷ items) (suc k) (suc j) item x at lt h = past_has (pairs_of i.kind ++ known) items k j item x at (omega (arith, lt)) h

-- ---- along an edge

module _ (g : Program) (things : List Tracked) (p q : Pos) where
  -- what is known where the edge leads to was known past what is before it
  abbrev IsKept : Type 0
  IsKept = (x : Tracked) → IsKnown (known_before g things q.block q.item) x → IsKnown (known_before g things p.block (suc p.item)) x

  to_below : q ≡ below p → IsKept
  to_below e x k =
      let next : p.item + 1 ≡ suc p.item = omega arith in
      subst (λ (n : ℕ). IsKnown (known_before g things p.block n) x) next
      (subst (λ (z : Pos). IsKnown (known_before g things z.block z.item) x) e k)

  to_start : (n : ℕ) → q ≡ block_start n → IsKept
  to_start n e x k =
      known_more things (known_before g things p.block (suc p.item)) (adds_before g things p.block (suc p.item)) x
      (subst (λ (z : Pos). IsKnown (known_before g things z.block z.item) x) e k)

  exit_onward : (exit : Exit) → ExitEdge g.enter exit p q → IsKept
  exit_onward Onward e = to_below e
  exit_onward (Perhaps n) (inl e) = to_start (g.enter n) e
  exit_onward (Perhaps n) (inr e) = to_below e
  exit_onward (Always n) e = to_start (g.enter n) e
  exit_onward Final e = absurd e

  fetch_onward : (f : Fetch) → FetchEdge g.enter f p q → IsKept
  fetch_onward (Here item) e = exit_onward (exit_of item.kind) e
  fetch_onward (EndOfBlock k n) e = to_start (g.enter n) e
  fetch_onward Outside e = absurd e

  pub known_onward : Edge g p q → (x : Tracked) → IsKnown (known_before g things q.block q.item) x →
      IsKnown (pairs_at (g.fetch p) ++ known_before g things p.block p.item) x
  known_onward e = fetch_onward (g.fetch p) e
