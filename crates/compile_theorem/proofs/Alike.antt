-- What a function's lines show wants the same places as the function: an address, a load or a store of a stack object is one of some object there too,
-- and gives its register a token of its own. So both have the same paths, with the same tokens.
use Rattle.std.proofs.Common.{◌≡◌, ℕ, zero, suc, ◌+◌, ◌-◌, ◌≤◌, ℤ, pos, List, [], ◌∷◌, ◌++◌, drop, map, Option, Some, None, Bool, true, false, cond, nat_eq}
use Rattle.std.proofs.Common.{nat_le, nat_lt, negsuc, ◌+ℤ◌, ◌-ℤ◌, refl, sym, ap, ◌∙◌, subst, arith}
use Rattle.std.specs.Prelude.{All, slice_get}
use Rattle.std.proofs.lemmas.Bool.{le-leb}
use Rattle.std.proofs.lemmas.List.Elements.{All-head, All-tail}
use Rattle.rv64_instr.specs.declared.op.Op.{Op}
use Rattle.rv64_instr.specs.Row.{ObjectAt}
use Rattle.rv64_instr.specs.declared.op.Op.TheVariants.{Immediate, Load, Store}
use Rattle.rv64_instr.specs.declared.op.LoadOp.{LoadOp}
use Rattle.rv64_instr.specs.declared.op.StoreOp.{StoreOp}
use Rattle.rv64_instr.specs.declared.op.ImmediateOp.{ImmediateOp}
use Rattle.rv64_instr.specs.declared.op.ImmediateOp.TheVariants.{Addi, Slti}
use Rattle.rv64_instr.specs.declared.operand.Operand.{Operand}
use Rattle.rv64_instr.specs.declared.operand.Operand.TheVariants.{Def, Use, Imm, Object as OfObject}
use Rattle.rv64_instr.specs.declared.place.Place.{Place}
use Rattle.rv64_instr.specs.Arithmetic.{word}
use Rattle.rv64_instr.specs.Row.{Addresses, Loads, Stores, Unfit}
use Rattle.mir_func.specs.declared.block.Block.{Block}
use Rattle.mir_func.specs.declared.debug_substitution.OperandPair.{OperandPair}
use Rattle.mir_func.specs.declared.item.Item.{Item}
use Rattle.mir_func.specs.declared.item.ItemKind.{ItemKind}
use Rattle.mir_func.specs.declared.item.ItemKind.TheVariants.{Code, Mark, Phi}
use Rattle.mir_func.specs.declared.object.Object.{Object}
use Rattle.mir_func.specs.declared.position.Pos.{Pos}
use Rattle.mir_func.specs.declared.variable.VarId.{VarId}
use Rattle.mir_func.specs.Function.{FramedFunction}
use Rattle.mir_func.specs.Graph.{Fetch, Here, EndOfBlock, Outside, Program, block_start, end_of, front, fetch_in, index_of, framed_program, KindEdge, FetchEdge}
use Rattle.mir_func.specs.Objects.{object_of, offset_of, offset_or_zero}
use Rattle.mir_func.specs.Sound.{AllItems, ObjectsIn, HasBytes, HasForm, contents_of}
use Rattle.mir_func.specs.SoundFrame.{body_of, own_size}
use Rattle.sem_mir.specs.ValueId.{Tokens, after_item, after_fetch, Path, begin, onward, moved_tokens, code_tokens}
use Rattle.sem_mir.specs.PreferredLocation.{SitsIn, IsPreferredLocation, NoneIsPreferred}
use Rattle.sem_mir.specs.ValueId.{numbered_tokens, given_token}
use Rattle.sem_mir.specs.State.{updated}
use Rattle.sem_mir.specs.Step.{defined}
use Rattle.listing_meaning.specs.Frame.{ShownObject, last_of, begins_by, has_byte, object_at, in_object, by_pointer, by_object, first_object, or_object}
use Rattle.listing_meaning.specs.Frame.{object_near, addressed}
use Rattle.listing_meaning.specs.Settled.{object_placed, frame_of, settled_sum, settled_address, settled_operands, settled_kind, settled_item, settled}

-- ---- the object that is found

record Found (x : Option ShownObject) : Type 0 where
  object : ShownObject
  is : x ≡ Some object

stays_found : (test : ShownObject → Bool) (o : ShownObject) (os : List ShownObject) → Found (last_of test (Some o) os)
stays_found test o [] = record { object = o; is = refl }
stays_found test o (x ∷ os) = by_test (test x) (stays_found test x os) (stays_found test o os) where
  by_test : (b : Bool) → Found (last_of test (Some x) os) → Found (last_of test (Some o) os) → Found (last_of test (cond b (Some x) (Some o)) os)
  by_test true new old = new
  by_test false new old = old

some_begins : (old : Option ShownObject) (os : List Object) (o : Object) (k n : ℕ) → object_of os k ≡ Some o → o.offset ≤ n →
    Found (last_of (begins_by n) old (map object_placed os))
some_begins old [] o k n is low = absurd cc
some_begins old (x ∷ os) o k n is low =
    by_id (nat_eq x.id k) is (λ same. by_first same) (λ more. some_begins (cond (nat_le x.offset n) (Some (object_placed x)) old) os o k n more low) where
      Later : Type 0
      Later = Found (last_of (begins_by n) (cond (nat_le x.offset n) (Some (object_placed x)) old) (map object_placed os))

      by_first : x ≡ o → Later
      by_first same =
          let at : nat_le x.offset n ≡ true = le-leb x.offset n (subst (λ (y : Object). y.offset ≤ n) (sym same) low) in
          subst (λ (b : Bool). Found (last_of (begins_by n) (cond b (Some (object_placed x)) old) (map object_placed os))) (sym at)
          (stays_found (begins_by n) (object_placed x) (map object_placed os))

      by_id : (b : Bool) → cond b (Some x) (object_of os k) ≡ Some o → (x ≡ o → Later) → (object_of os k ≡ Some o → Later) → Later
      by_id true e here more = let same : x ≡ o = cc in here same
      by_id false e here more = more e

some_found : (os : List Object) (o : Object) (k n : ℕ) → object_of os k ≡ Some o → o.offset ≤ n → Found (object_at (map object_placed os) n)
some_found os o k n is low =
    let one = some_begins None os o k n is low in
    subst (λ (x : Option ShownObject). Found (last_of (has_byte n) x (map object_placed os))) (sym one.is)
    (stays_found (has_byte n) one.object (map object_placed os))

some_first : (os : List Object) (n : ℕ) (o : Object) → object_of os n ≡ Some o → (p : ShownObject) × (first_object (map object_placed os) ≡ Some p)
some_first [] n o is = absurd cc
some_first (x ∷ os) n o is = (object_placed x, refl)

some_of : (r first : Option ShownObject) (p : ShownObject) → first ≡ Some p → (o : ShownObject) × (or_object r first ≡ Some o)
some_of None first p is = (p, is)
some_of (Some o) first p is = (o, refl)

-- ---- kinds

-- control goes on alike, and tokens are alike
pub record AreAlike (a b : ItemKind) : Type 0 where
  pub edge : (enter : ℕ → ℕ) (p q : Pos) → KindEdge enter a p q → KindEdge enter b p q
  pub back : (enter : ℕ → ℕ) (p q : Pos) → KindEdge enter b p q → KindEdge enter a p q
  pub tokens : (resolve : OperandPair → Option OperandPair) (n : ℕ) (t : Tokens) → after_item resolve n a t ≡ after_item resolve n b t

itself : (k : ItemKind) → AreAlike k k
itself k = record { edge = λ enter p q way. way; back = λ enter p q way. way; tokens = λ resolve n t. refl }

abbrev sum : ImmediateOp → (rd n : ℕ) (i : ℤ) (rest : List Operand) → (number : Option ℕ) → ItemKind
sum op rd n i rest number = Code (record { op = Immediate op; operands = Def rd ∷ OfObject n ∷ Imm i ∷ rest; volatile = false }) number

given_alike : (call : Bool) (x : Operand) (n m : ℕ) (i j : ℤ) (rest : List Operand) (o : ℕ) →
    defined call (slice_get (x ∷ OfObject n ∷ Imm i ∷ rest) o) ≡ defined call (slice_get (x ∷ OfObject m ∷ Imm j ∷ rest) o)
given_alike call x n m i j rest zero = refl
given_alike true x n m i j rest (suc zero) = refl
given_alike false x n m i j rest (suc zero) = refl
given_alike true x n m i j rest (suc (suc zero)) = refl
given_alike false x n m i j rest (suc (suc zero)) = refl
given_alike call x n m i j rest (suc (suc (suc o))) = refl

numbers_alike : (call : Bool) (number : Option ℕ) (x : Operand) (n m : ℕ) (i j : ℤ) (rest : List Operand) (t : Tokens) →
    numbered_tokens call number (x ∷ OfObject n ∷ Imm i ∷ rest) t ≡ numbered_tokens call number (x ∷ OfObject m ∷ Imm j ∷ rest) t
numbers_alike call None x n m i j rest t = refl
numbers_alike call (Some k) x n m i j rest t =
    ap (λ (which : ℕ → Option ℕ). record t { pairs = updated k (λ o. given_token (which o) (t.pairs k o) t) t.pairs })
    (λ z o. given_alike call x n m i j rest o z)

moved_alike : (index rd n m x y : ℕ) (t : Tokens) → code_tokens index (Addresses rd n x) t ≡ code_tokens index (Addresses rd m y) t
unfolding moved_tokens
moved_alike index rd n m x y t = refl

sums_alike : (op : ImmediateOp) (number : Option ℕ) (rd n m : ℕ) (i j : ℤ) (rest : List Operand) →
    AreAlike (sum op rd n i rest number) (sum op rd m j rest number)
sums_alike Addi number rd n m i j rest = record {
  edge = λ enter p q way. way;
  back = λ enter p q way. way;
  tokens = λ resolve index t.
      numbers_alike false number (Def rd) n m i j rest (code_tokens index (Addresses rd n (word i)) t) ∙
      ap (numbered_tokens false number (Def rd ∷ OfObject m ∷ Imm j ∷ rest)) (moved_alike index rd n m (word i) (word j) t);
}
sums_alike Slti number rd n m i j rest = record {
  edge = λ enter p q way. way;
  back = λ enter p q way. way;
  tokens = λ resolve index t. numbers_alike false number (Def rd) n m i j rest (code_tokens index Unfit t);
}
sums_alike op number rd n m i j rest = record {
  edge = λ enter p q way. way;
  back = λ enter p q way. way;
  tokens = λ resolve index t. numbers_alike false number (Def rd) n m i j rest (code_tokens index Unfit t);
}

abbrev load : LoadOp → (rd n : ℕ) (i : ℤ) (rest : List Operand) → (number : Option ℕ) → ItemKind
load op rd n i rest number = Code (record { op = Load op; operands = Def rd ∷ OfObject n ∷ Imm i ∷ rest; volatile = false }) number

abbrev store : StoreOp → (rs n : ℕ) (i : ℤ) (rest : List Operand) → (number : Option ℕ) → ItemKind
store op rs n i rest number = Code (record { op = Store op; operands = Use rs ∷ OfObject n ∷ Imm i ∷ rest; volatile = false }) number

loaded_alike : (index rd : ℕ) (op : LoadOp) (n m x y : ℕ) (t : Tokens) →
    code_tokens index (Loads rd op (ObjectAt n) x) t ≡ code_tokens index (Loads rd op (ObjectAt m) y) t
unfolding moved_tokens
loaded_alike index rd op n m x y t = refl

loads_alike : (op : LoadOp) (number : Option ℕ) (rd n m : ℕ) (i j : ℤ) (rest : List Operand) →
    AreAlike (load op rd n i rest number) (load op rd m j rest number)
loads_alike op number rd n m i j rest = record {
  edge = λ enter p q way. way;
  back = λ enter p q way. way;
  tokens = λ resolve index t.
      numbers_alike false number (Def rd) n m i j rest (code_tokens index (Loads rd op (ObjectAt n) (word i)) t) ∙
      ap (numbered_tokens false number (Def rd ∷ OfObject m ∷ Imm j ∷ rest)) (loaded_alike index rd op n m (word i) (word j) t);
}

stored_alike : (index rs : ℕ) (op : StoreOp) (n m x y : ℕ) (t : Tokens) →
    code_tokens index (Stores op rs (ObjectAt n) x) t ≡ code_tokens index (Stores op rs (ObjectAt m) y) t
unfolding moved_tokens
stored_alike index rs op n m x y t = refl

stores_alike : (op : StoreOp) (number : Option ℕ) (rs n m : ℕ) (i j : ℤ) (rest : List Operand) →
    AreAlike (store op rs n i rest number) (store op rs m j rest number)
stores_alike op number rs n m i j rest = record {
  edge = λ enter p q way. way;
  back = λ enter p q way. way;
  tokens = λ resolve index t.
      numbers_alike false number (Use rs) n m i j rest (code_tokens index (Stores op rs (ObjectAt n) (word i)) t) ∙
      ap (numbered_tokens false number (Use rs ∷ OfObject m ∷ Imm j ∷ rest)) (stored_alike index rs op n m (word i) (word j) t);
}

module _ (f : FramedFunction) where
  -- an access of an object leads to an object
  accessed_object : (n i : ℕ) → HasBytes f.objects n (word (pos i)) → (o : ShownObject) × (by_object (frame_of f) (own_size f + offset_of f.objects n + i) ≡
      OfObject o.id ∷ Imm (pos (own_size f + offset_of f.objects n + i - own_size f - o.offset)) ∷ [])
  accessed_object n i (o, is, fits) =
      let at : offset_of f.objects n ≡ o.offset = ap offset_or_zero is in
      let x = own_size f + offset_of f.objects n + i in
      let found = some_found f.objects o n (x - own_size f) is (omega (arith, at)) in
      (found.object, ap (λ (z : Option ShownObject). in_object z (x - own_size f) (by_pointer x)) found.is)

  -- an address leads to an object, wherever it lies
  near : (n : ℕ) (z : ℤ) → HasBytes f.objects n 0 → (o : ShownObject) × (object_near (frame_of f) z ≡ Some o)
  near n z (o, is, fits) = by_sign z (some_first f.objects n o is) where
    by_place : (q : Bool) (k : ℕ) → (p : ShownObject) × (first_object (map object_placed f.objects) ≡ Some p) →
        (r : ShownObject) × (cond q (first_object (map object_placed f.objects)) (or_object (object_at (map object_placed f.objects) k)
        (first_object (map object_placed f.objects))) ≡ Some r)
    by_place true k p = p
    by_place false k p = some_of (object_at (map object_placed f.objects) k) (first_object (map object_placed f.objects)) p.0 p.1

    by_sign : (y : ℤ) → (p : ShownObject) × (first_object (map object_placed f.objects) ≡ Some p) →
        (r : ShownObject) × (object_near (frame_of f) y ≡ Some r)
    by_sign (pos k) p = by_place (nat_lt k (own_size f)) (k - own_size f) p
    by_sign (negsuc k) p = p

  to_object : (o : ImmediateOp) (rd n : ℕ) (i : ℤ) (rest : List Operand) (number : Option ℕ) → HasBytes f.objects n 0 →
      AreAlike (sum o rd n i rest number) (Code (record { op = Immediate o; operands = settled_address f (Def rd ∷ OfObject n ∷ Imm i ∷ rest); volatile = false }) number)
  to_object o rd n i rest number has =
      let z : ℤ = pos (own_size f + offset_of f.objects n) +ℤ i in
      let found = near n z has in
      subst (λ (x : Option ShownObject). AreAlike (sum o rd n i rest number) (Code (record {
        op = Immediate o;
        operands = Def rd ∷ addressed (own_size f) x z ++ rest;
        volatile = false;
      }) number)) (sym found.1)
      (sums_alike o number rd n found.0.id i (z -ℤ pos (own_size f + found.0.offset)) rest)

  sum_settled : (op : ImmediateOp) (rd n : ℕ) (i : ℤ) (rest : List Operand) (number : Option ℕ) → HasForm (sum op rd n i rest number) →
      ObjectsIn f.objects (sum op rd n i rest number) →
      AreAlike (sum op rd n i rest number) (Code (record { op = Immediate op; operands = settled_address f (Def rd ∷ OfObject n ∷ Imm i ∷ rest); volatile = false }) number)
  sum_settled Addi rd n i rest number form has = to_object Addi rd n i rest number has
  sum_settled Slti rd n i rest number form has = absurd cc
  sum_settled op rd n i rest number form has = absurd cc

  settled_alike : (op : ImmediateOp) (operands : List Operand) (number : Option ℕ) →
      HasForm (Code (record { op = Immediate op; operands = operands; volatile = false }) number) →
      ObjectsIn f.objects (Code (record { op = Immediate op; operands = operands; volatile = false }) number) →
      AreAlike (Code (record { op = Immediate op; operands = operands; volatile = false }) number) (Code (record { op = Immediate op; operands = settled_address f operands; volatile = false }) number)
  settled_alike op (Def rd ∷ OfObject n ∷ Imm i ∷ rest) number form in_object = sum_settled op rd n i rest number form in_object
  settled_alike op (other ∷ OfObject n ∷ Imm i ∷ rest) number form in_object = absurd cc
  settled_alike op operands number form in_object = itself (Code (record { op = Immediate op; operands = operands; volatile = false }) number)

  load_settled : (op : LoadOp) (operands : List Operand) (number : Option ℕ) → HasForm (Code (record { op = Load op; operands = operands; volatile = false }) number) →
      ObjectsIn f.objects (Code (record { op = Load op; operands = operands; volatile = false }) number) →
      AreAlike (Code (record { op = Load op; operands = operands; volatile = false }) number) (Code (record { op = Load op; operands = settled_sum f operands; volatile = false }) number)
  load_settled op (Def rd ∷ OfObject n ∷ Imm (pos i) ∷ rest) number form (o, is, fits) =
      let found = accessed_object n i (o, is, omega (arith, fits)) in
      subst (λ (os : List Operand). AreAlike (load op rd n (pos i) rest number) (Code (record { op = Load op; operands = Def rd ∷ os ++ rest; volatile = false }) number))
      (sym found.1)
      (loads_alike op number rd n found.0.id (pos i) (pos (own_size f + offset_of f.objects n + i - own_size f - found.0.offset)) rest)
  load_settled op (other ∷ OfObject n ∷ Imm (pos i) ∷ rest) number form has = absurd cc
  load_settled op operands number form has = itself (Code (record { op = Load op; operands = operands; volatile = false }) number)

  store_settled : (op : StoreOp) (operands : List Operand) (number : Option ℕ) → HasForm (Code (record { op = Store op; operands = operands; volatile = false }) number) →
      ObjectsIn f.objects (Code (record { op = Store op; operands = operands; volatile = false }) number) →
      AreAlike (Code (record { op = Store op; operands = operands; volatile = false }) number) (Code (record { op = Store op; operands = settled_sum f operands; volatile = false }) number)
  store_settled op (Use rs ∷ OfObject n ∷ Imm (pos i) ∷ rest) number form (o, is, fits) =
      let found = accessed_object n i (o, is, omega (arith, fits)) in
      subst (λ (os : List Operand). AreAlike (store op rs n (pos i) rest number) (Code (record { op = Store op; operands = Use rs ∷ os ++ rest; volatile = false }) number))
      (sym found.1)
      (stores_alike op number rs n found.0.id (pos i) (pos (own_size f + offset_of f.objects n + i - own_size f - found.0.offset)) rest)
  store_settled op (other ∷ OfObject n ∷ Imm (pos i) ∷ rest) number form has = absurd cc
  store_settled op operands number form has = itself (Code (record { op = Store op; operands = operands; volatile = false }) number)

  code_alike : (op : Op) (operands : List Operand) (number : Option ℕ) → HasForm (Code (record { op = op; operands = operands; volatile = false }) number) →
      ObjectsIn f.objects (Code (record { op = op; operands = operands; volatile = false }) number) →
      AreAlike (Code (record { op = op; operands = operands; volatile = false }) number) (Code (record { op = op; operands = settled_operands f op operands; volatile = false }) number)
  code_alike (Immediate op) operands number form has = settled_alike op operands number form has
  code_alike (Load op) operands number form has = load_settled op operands number form has
  code_alike (Store op) operands number form has = store_settled op operands number form has
  code_alike op operands number form has = itself (Code (record { op = op; operands = operands; volatile = false }) number)

  kind_alike : (k : ItemKind) → HasForm k → ObjectsIn f.objects k → AreAlike k (settled_kind f k)
  kind_alike (Code c number) form has =
      let same = code_alike c.op c.operands number form has in
      record { edge = same.edge; back = same.back; tokens = same.tokens }
  kind_alike (Mark v m) form has = itself (Mark v m)
  kind_alike (Phi p k) form has = itself (Phi p k)

-- ---- what stands at a position

abbrev FetchAlike : Fetch → Fetch → Type 0
FetchAlike (Here i) (Here j) = AreAlike i.kind j.kind
FetchAlike (EndOfBlock k m) (EndOfBlock l n) = m ≡ n
FetchAlike Outside Outside = Unit {0}
FetchAlike (Here i) (EndOfBlock l n) = ⊥
FetchAlike (Here i) Outside = ⊥
FetchAlike (EndOfBlock k m) (Here j) = ⊥
FetchAlike (EndOfBlock k m) Outside = ⊥
FetchAlike Outside (Here j) = ⊥
FetchAlike Outside (EndOfBlock l n) = ⊥

module _ (f : FramedFunction) where
  -- what is needed of an item
  abbrev pub IsGood : Item → Type 0
  IsGood i = HasForm i.kind × ObjectsIn f.objects i.kind

  -- these blocks have the contents of settled ones
  abbrev pub Shows : (blocks others : List Block) → Type 0
  Shows blocks others = map contents_of others ≡ map contents_of (map (settled f) blocks)

  record HeadsAlike (b o : Block) (blocks others : List Block) : Type 0 where
    id : b.id ≡ o.id
    items : o.items ≡ map (settled_item f) b.items
    rest : Shows blocks others

  heads : (b o : Block) (blocks others : List Block) → Shows (b ∷ blocks) (o ∷ others) → HeadsAlike b o blocks others
  heads b o blocks others same =
      let one : contents_of o ≡ contents_of (settled f b) = cc in
      let rest : map contents_of others ≡ map contents_of (map (settled f) blocks) = cc in
      record { id = sym (ap (λ (x : ℕ × List Item). x.0) one); items = ap (λ (x : ℕ × List Item). x.1) one; rest = rest }

  ends_alike : (k l : ℕ) (blocks others : List Block) → Shows blocks others → FetchAlike (end_of k blocks) (end_of l others)
  ends_alike k l [] [] same = tt
  ends_alike k l [] (o ∷ others) same = cc
  ends_alike k l (b ∷ blocks) [] same = cc
  ends_alike k l (b ∷ blocks) (o ∷ others) same = (heads b o blocks others same).id

  fronts_alike : (k l n : ℕ) (items : List Item) (blocks others : List Block) → All IsGood items → Shows blocks others →
      FetchAlike (front (drop n items) k blocks) (front (drop n (map (settled_item f) items)) l others)
  fronts_alike k l zero [] blocks others good same = ends_alike k l blocks others same
  fronts_alike k l (suc n) [] blocks others good same = ends_alike k l blocks others same
  fronts_alike k l zero (i ∷ items) blocks others good same = let is = All-head IsGood i items good in kind_alike f i.kind is.0 is.1
  fronts_alike k l (suc n) (i ∷ items) blocks others good same = fronts_alike k l n items blocks others (All-tail IsGood i items good) same

  abbrev GoodBlock : Block → Type 0
  GoodBlock b = All IsGood b.items

  fetch_alike : (b n : ℕ) (blocks others : List Block) → AllItems IsGood blocks → Shows blocks others →
      FetchAlike (fetch_in (drop b blocks) n) (fetch_in (drop b others) n)
  fetch_alike zero n [] [] good same = tt
  fetch_alike (suc b) n [] [] good same = tt
  fetch_alike b n [] (o ∷ others) good same = cc
  fetch_alike b n (block ∷ blocks) [] good same = cc
  fetch_alike zero n (block ∷ blocks) (o ∷ others) good same =
      let h = heads block o blocks others same in
      subst (λ (xs : List Item). FetchAlike (front (drop n block.items) block.source_end blocks) (front (drop n xs) o.source_end others)) (sym h.items)
      (fronts_alike block.source_end o.source_end n block.items blocks others (All-head GoodBlock block blocks good) h.rest)
  fetch_alike (suc b) n (block ∷ blocks) (o ∷ others) good same =
      fetch_alike b n blocks others (All-tail GoodBlock block blocks good) (heads block o blocks others same).rest

  index_alike : (blocks others : List Block) (n : ℕ) → Shows blocks others → index_of blocks n ≡ index_of others n
  index_alike [] [] n same = refl
  index_alike [] (o ∷ others) n same = cc
  index_alike (b ∷ blocks) [] n same = cc
  index_alike (b ∷ blocks) (o ∷ others) n same =
      let h = heads b o blocks others same in
      ap (λ (x : ℕ). cond (nat_eq x n) 0 (suc (index_of blocks n))) h.id ∙
      ap (λ (k : ℕ). cond (nat_eq o.id n) 0 (suc k)) (index_alike blocks others n h.rest)

  body_alike : (blocks others : List Block) → Shows blocks others → Shows (body_of blocks) (body_of others)
  body_alike [] [] same = refl
  body_alike [] (o ∷ others) same = cc
  body_alike (b ∷ blocks) [] same = cc
  body_alike (b ∷ blocks) (o ∷ others) same = (heads b o blocks others same).rest

  -- ---- paths

  module _ (others : List Block) (resolve : OperandPair → Option OperandPair) (good : AllItems IsGood f.blocks) (same : Shows f.blocks others) where
    abbrev g : Program
    g = framed_program f.blocks resolve

    abbrev h : Program
    h = framed_program others resolve

    enters : g.enter ≡ h.enter
    enters = λ i n. suc (index_alike (body_of f.blocks) (body_of others) n (body_alike f.blocks others same) i)

    stands : (p : Pos) → FetchAlike (g.fetch p) (h.fetch p)
    stands p = fetch_alike p.block p.item f.blocks others good same

    edge_to : (x y : Fetch) → FetchAlike x y → (p q : Pos) → FetchEdge g.enter x p q → FetchEdge h.enter y p q
    edge_to (Here i) (Here j) alike p q way = subst (λ (e : ℕ → ℕ). KindEdge e j.kind p q) enters (alike.edge g.enter p q way)
    edge_to (EndOfBlock k m) (EndOfBlock l n) alike p q way = way ∙ ap (λ (z : ℕ). block_start (g.enter z)) alike ∙ ap (λ (e : ℕ → ℕ). block_start (e n)) enters
    edge_to Outside Outside alike p q way = absurd way
    edge_to (Here i) (EndOfBlock l n) alike p q way = absurd alike
    edge_to (Here i) Outside alike p q way = absurd alike
    edge_to (EndOfBlock k m) (Here j) alike p q way = absurd alike
    edge_to (EndOfBlock k m) Outside alike p q way = absurd alike
    edge_to Outside (Here j) alike p q way = absurd alike
    edge_to Outside (EndOfBlock l n) alike p q way = absurd alike

    edge_from : (x y : Fetch) → FetchAlike x y → (p q : Pos) → FetchEdge h.enter y p q → FetchEdge g.enter x p q
    edge_from (Here i) (Here j) alike p q way = subst (λ (e : ℕ → ℕ). KindEdge e i.kind p q) (sym enters) (alike.back h.enter p q way)
    edge_from (EndOfBlock k m) (EndOfBlock l n) alike p q way =
        way ∙ ap (λ (z : ℕ). block_start (h.enter z)) (sym alike) ∙ ap (λ (e : ℕ → ℕ). block_start (e m)) (sym enters)
    edge_from Outside Outside alike p q way = absurd way
    edge_from (Here i) (EndOfBlock l n) alike p q way = absurd alike
    edge_from (Here i) Outside alike p q way = absurd alike
    edge_from (EndOfBlock k m) (Here j) alike p q way = absurd alike
    edge_from (EndOfBlock k m) Outside alike p q way = absurd alike
    edge_from Outside (Here j) alike p q way = absurd alike
    edge_from Outside (EndOfBlock l n) alike p q way = absurd alike

    tokens_alike : (n : ℕ) (x y : Fetch) → FetchAlike x y → (t : Tokens) → after_fetch resolve n x t ≡ after_fetch resolve n y t
    tokens_alike n (Here i) (Here j) alike t = alike.tokens resolve n t
    tokens_alike n (EndOfBlock k m) (EndOfBlock l o) alike t = refl
    tokens_alike n Outside Outside alike t = refl
    tokens_alike n (Here i) (EndOfBlock l o) alike t = absurd alike
    tokens_alike n (Here i) Outside alike t = absurd alike
    tokens_alike n (EndOfBlock k m) (Here j) alike t = absurd alike
    tokens_alike n (EndOfBlock k m) Outside alike t = absurd alike
    tokens_alike n Outside (Here j) alike t = absurd alike
    tokens_alike n Outside (EndOfBlock l o) alike t = absurd alike

    path_to : {n : ℕ} {p : Pos} {t : Tokens} → Path g (block_start 0) n p t → Path h (block_start 0) n p t
    path_to begin = begin
    path_to (onward {n} {p} {q} {t} path edge) =
        subst (λ (z : Tokens). Path h (block_start 0) (suc n) q z) (sym (tokens_alike n (g.fetch p) (h.fetch p) (stands p) t))
        (onward (path_to path) (edge_to (g.fetch p) (h.fetch p) (stands p) p q edge))

    path_from : {n : ℕ} {p : Pos} {t : Tokens} → Path h (block_start 0) n p t → Path g (block_start 0) n p t
    path_from begin = begin
    path_from (onward {n} {p} {q} {t} path edge) =
        subst (λ (z : Tokens). Path g (block_start 0) (suc n) q z) (tokens_alike n (g.fetch p) (h.fetch p) (stands p) t)
        (onward (path_from path) (edge_from (g.fetch p) (h.fetch p) (stands p) p q edge))

    sits_to : (v : VarId) (p : Pos) (place : Place) → SitsIn g (block_start 0) v place p → SitsIn h (block_start 0) v place p
    sits_to v p place sits = record {
      reached = (sits.reached.0, sits.reached.1, path_to sits.reached.2);
      same = λ n t path. sits.same n t (path_from path);
    }

    sits_from : (v : VarId) (p : Pos) (place : Place) → SitsIn h (block_start 0) v place p → SitsIn g (block_start 0) v place p
    sits_from v p place sits = record {
      reached = (sits.reached.0, sits.reached.1, path_from sits.reached.2);
      same = λ n t path. sits.same n t (path_to path);
    }

    pub wanted_to : (v : VarId) (p : Pos) (place : Place) → IsPreferredLocation g (block_start 0) v p place → IsPreferredLocation h (block_start 0) v p place
    wanted_to v p place w =
        record { named = w.named; sits = sits_to v p place w.sits; first = λ x named before sits. w.first x named before (sits_from v p x sits) }

    pub wanted_from : (v : VarId) (p : Pos) (place : Place) → IsPreferredLocation h (block_start 0) v p place → IsPreferredLocation g (block_start 0) v p place
    wanted_from v p place w =
        record { named = w.named; sits = sits_from v p place w.sits; first = λ x named before sits. w.first x named before (sits_to v p x sits) }

    pub none_to : (v : VarId) (p : Pos) → NoneIsPreferred g (block_start 0) v p → NoneIsPreferred h (block_start 0) v p
    none_to v p none place named sits = none place named (sits_from v p place sits)

    pub none_from : (v : VarId) (p : Pos) → NoneIsPreferred h (block_start 0) v p → NoneIsPreferred g (block_start 0) v p
    none_from v p none place named sits = none place named (sits_to v p place sits)
