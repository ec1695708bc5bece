-- Classes past an item. A path to the position below comes by the item, so sharing pulls back to before it; there the classes
-- tell it, and a token that the item makes is none that was there.
use Rattle.std.proofs.Common.{◌≡◌, ◌≢◌, ℕ, zero, suc, ◌+◌, ◌<◌, List, [], ◌∷◌, ◌++◌, refl, sym, ap, ◌∙◌, subst, arith, inl, inr, eqb-true, eq-eqb}
use Rattle.std.proofs.lemmas.List.Elements.{Contains-append_cases}
use Rattle.std.specs.Prelude.{◌↔◌, Contains, Option, Some, None, Bool, true, false, cond, nat_eq, slice_get}
use Rattle.std.specs.List.{list_any}
use Rattle.rv64_instr.specs.declared.place.Place.{Place}
use Rattle.rv64_instr.specs.declared.place.Place.TheVariants.{Register, Slot, Const}
use Rattle.rv64_instr.specs.Instruction.{Instruction}
use Rattle.rv64_instr.specs.Row.{Row, Fixes, Moves, Sets, Addresses, Loads, LoadsSlot, StoresSlot, Branches, Jumps, Calls, Returns, Unfit, row_of}
use Rattle.rv64_instr.specs.DefsAndUses.{caller_saved}
use Rattle.rv64_instr.specs.LocationEffects.{is_call}
use Rattle.mir_func.specs.declared.position.Pos.{Pos}
use Rattle.mir_func.specs.declared.debug_substitution.OperandPair.{OperandPair}
use Rattle.mir_func.specs.declared.variable.VarId.{VarId}
use Rattle.mir_func.specs.declared.variable.MarkValue.{MarkValue}
use Rattle.mir_func.specs.declared.variable.MarkValue.TheVariants.{Nothing, Constant, At, Pair}
use Rattle.mir_func.specs.declared.item.Item.{Item}
use Rattle.mir_func.specs.declared.item.ItemKind.{ItemKind}
use Rattle.mir_func.specs.declared.item.ItemKind.TheVariants.{Code, Mark, Phi}
use Rattle.mir_func.specs.Variables.{is_same, overlaps}
use Rattle.mir_func.specs.Graph.{Program, Fetch, Here, EndOfBlock, Outside, below, block_start, Edge, FetchEdge, KindEdge, RowEdge}
use Rattle.sem_mir.specs.Step.{defined}
use Rattle.sem_mir.specs.ValueId.{Tokens, Path, begin, onward, after_fetch, after_item, sets_pointer}
use Rattle.sem_value_ids.specs.Pullback.{Tracked, InRegister, InSlot, OfPair, OfVariable, OfNumber, token_of, Back, Was, New, Nameless, back, Share, BacksShare}
use Rattle.sem_value_ids.specs.Pullback.{
  put_back,
  back_register,
  slot_stored,
  back_row,
  given_back,
  back_place,
  back_pair,
  back_value,
  back_code,
  back_mark,
  back_phi,
}
use Rattle.sem_value_ids.proofs.Sharing.{sharing_pulls_back}
use Rattle.value_proof.specs.Classes.{
  Classes,
  IsKnown,
  ShareOnPaths,
  AreClasses,
  class_back,
  AreFresh,
  KnowsRow,
  KnowsPair,
  KnowsValue,
  KnowsPlace,
  DefinePhysical,
  KnowsItem,
  pairs_of,
  ClassesPassItems,
  PathsComeFromAbove,
}
use Rattle.value_proof.proofs.Pairs.{AddsPairs, Defines, defined_pair, known_more, old_item}

-- ---- only the item above leads below

module _ (enter : ℕ → ℕ) (p q : Pos) where
  one_below : below q ≡ below p → q ≡ p
  one_below e =
      let block : q.block ≡ p.block = ap (λ (z : Pos). z.block) e in
      let next : q.item + 1 ≡ p.item + 1 = ap (λ (z : Pos). z.item) e in
      let item : q.item ≡ p.item = omega (arith, next) in
      λ i. record { block = block i; item = item i }

  no_start : (n : ℕ) → below p ≡ block_start n → ⊥
  no_start n e = let item : p.item + 1 ≡ 0 = ap (λ (z : Pos). z.item) e in omega (arith, item)

  row_above : (r : Row) → RowEdge enter r q (below p) → q ≡ p
  row_above (Branches op a b target) (inl e) = absurd (no_start (enter target) e)
  row_above (Branches op a b target) (inr e) = one_below (sym e)
  row_above (Jumps target) e = absurd (no_start (enter target) e)
  row_above (Returns ending) e = absurd e
  row_above Unfit e = absurd e
  row_above _ e = one_below (sym e)

  kind_above : (k : ItemKind) → KindEdge enter k q (below p) → q ≡ p
  kind_above (Code i k) e = row_above (row_of i) e
  kind_above (Mark v m) e = one_below (sym e)
  kind_above (Phi r k) e = one_below (sym e)

  fetch_above : (f : Fetch) → FetchEdge enter f q (below p) → q ≡ p
  fetch_above (Here i) e = kind_above i.kind e
  fetch_above (EndOfBlock k n) e = absurd (no_start (enter n) e)
  fetch_above Outside e = absurd e

-- a path to the position below is one to the position, and the edge
pub record FromAbove (g : Program) (start p : Pos) (m : ℕ) (u : Tokens) : Type 0 where
  pub count : ℕ
  pub tokens : Tokens
  pub path : Path g start count p tokens
  pub edge : Edge g p (below p)
  pub passed : u ≡ after_fetch g.resolve count (g.fetch p) tokens

from_above : {g : Program} {start q : Pos} {m : ℕ} {u : Tokens} → (p : Pos) → (start ≡ below p → ⊥) → q ≡ below p → Path g start m q u → FromAbove g start p m u
from_above p first e begin = absurd (first e)
from_above {g = g} {start = start} p first e (onward {n = n} {p = s} {q = q} {t = t} path edge) =
    let edge_below : Edge g s (below p) = subst (λ (z : Pos). Edge g s z) e edge in
    let at : s ≡ p = fetch_above g.enter p s (g.fetch s) edge_below in
    record {
      count = n;
      tokens = t;
      path = subst (λ (z : Pos). Path g start n z t) at path;
      edge = subst (λ (z : Pos). Edge g z (below p)) at edge_below;
      passed = ap (λ (z : Pos). after_fetch g.resolve n (g.fetch z) t) at;
    }

pub path_above : {g : Program} {start : Pos} {m : ℕ} {u : Tokens} → (p : Pos) → (start ≡ below p → ⊥) → Path g start m (below p) u → FromAbove g start p m u
path_above p first path = from_above p first refl path

pub paths_come_from_above : PathsComeFromAbove
paths_come_from_above g start p first reached =
    let above = path_above p first reached.2 in
    ((above.count, above.tokens, above.path), above.edge)

-- ---- what an item passes on is known, and is made by the item itself

-- a pull-back to what has a class, over one item
abbrev pub Knows : (things : List Tracked) → Back → Type 0
Knows things (Was x) = IsKnown things x
Knows things (New i r) = (i ≡ 0) × (r < 32)
Knows things Nameless = Unit {0}

module _ (things : List Tracked) where
  known_if : (b : Bool) (x y : Back) → Knows things x → Knows things y → Knows things (cond b x y)
  known_if true x y kx ky = kx
  known_if false x y kx ky = ky

  known_put : (rd : ℕ) (b : Back) (r : ℕ) → r < 32 → (r ≡ rd → Knows things b) → Knows things (put_back rd b r)
  known_put rd b zero kr k = kr
  known_put zero b (suc r) kr k = kr
  known_put (suc rd) b (suc r) kr k = by_test (nat_eq (suc r) (suc rd)) refl where
    by_test : (t : Bool) → nat_eq (suc r) (suc rd) ≡ t → Knows things (cond t (cond (nat_eq rd 1) Nameless b) (Was (InRegister (suc r))))
    by_test true e = known_if (nat_eq rd 1) Nameless b tt (k (eqb-true (suc r) (suc rd) e))
    by_test false e = kr

  known_new : (rd r : ℕ) → r < 32 → Knows things (put_back rd (New 0 rd) r)
  known_new rd r kr = known_put rd (New 0 rd) r kr (λ is. (refl, subst (λ (z : ℕ). z < 32) is kr))

  known_register : (row : Row) (r : ℕ) → KnowsRow things row → r < 32 → Knows things (back_register 0 row r)
  known_register (Fixes rd c) r k kr = known_put rd (Was (OfNumber c)) r kr (λ is. k)
  known_register (Moves rd rs) r k kr = known_put rd (Was (InRegister rs)) r kr (λ is. k)
  known_register (Sets rd op a b) r k kr = known_new rd r kr
  known_register (Addresses rd n offset) r k kr = known_new rd r kr
  known_register (Loads rd op base offset) r k kr = known_new rd r kr
  known_register (LoadsSlot rd n) r k kr = known_put rd (Was (InSlot n)) r kr (λ is. k)
  known_register (Calls call) r k kr = known_if (list_any (λ q. nat_eq r q) caller_saved) (New 0 r) (Was (InRegister r)) (refl, kr) kr
  known_register _ r k kr = kr

  known_stored : (row : Row) (n : ℕ) → KnowsRow things row → Contains things (InSlot n) → Knows things (slot_stored row n)
  known_stored (StoresSlot rs m) n k kn = known_if (nat_eq n m) (Was (InRegister rs)) (Was (InSlot n)) k.0 kn
  known_stored (Calls call) n k kn = known_if (list_any (nat_eq n) call.outgoing) Nameless (Was (InSlot n)) tt kn
  known_stored _ n k kn = kn

  known_row : (row : Row) (x : Tracked) → KnowsRow things row → IsKnown things x → Knows things (back_row 0 row x)
  known_row row (InRegister r) k kx = known_register row r k kx
  known_row row (InSlot n) k kx = known_if (sets_pointer row) Nameless (slot_stored row n) tt (known_stored row n k kx)
  known_row row (OfPair m o) k kx = kx
  known_row row (OfVariable v) k kx = kx
  known_row row (OfNumber c) k kx = kx

  known_given : (row : Row) (d : Option ℕ) (x : Tracked) → KnowsRow things row → ((r : ℕ) → d ≡ Some r → r < 32) → IsKnown things x →
      Knows things (given_back 0 row d x)
  known_given row None x k below kx = kx
  known_given row (Some rd) x k below kx = known_register row rd k (below rd refl)

  known_code : (i : Instruction) (n : Option ℕ) (x : Tracked) → KnowsRow things (row_of i) → DefinePhysical (is_call (row_of i)) i.operands →
      IsKnown things x → Knows things (back_code 0 i n x)
  known_code i None x k physical kx = known_row (row_of i) x k kx
  known_code i (Some j) (OfPair m o) k physical kx =
      let d = defined (is_call (row_of i)) (slice_get i.operands o) in
      known_if (nat_eq m j) (given_back 0 (row_of i) d (OfPair m o)) (Was (OfPair m o)) (known_given (row_of i) d (OfPair m o) k (physical o) kx) kx
  known_code i (Some j) (InRegister r) k physical kx = known_row (row_of i) (InRegister r) k kx
  known_code i (Some j) (InSlot n) k physical kx = known_row (row_of i) (InSlot n) k kx
  known_code i (Some j) (OfVariable v) k physical kx = known_row (row_of i) (OfVariable v) k kx
  known_code i (Some j) (OfNumber c) k physical kx = known_row (row_of i) (OfNumber c) k kx

  known_place : (p : Option Place) → KnowsPlace things p → Knows things (back_place p)
  known_place None k = tt
  known_place (Some (Register r)) k = k
  known_place (Some (Slot n)) k = k
  known_place (Some (Const c)) k = k

  known_pair : (q : Option OperandPair) → KnowsPair things q → Knows things (back_pair q)
  known_pair None k = tt
  known_pair (Some q) k = k

  known_value : (resolve : OperandPair → Option OperandPair) (m : MarkValue) → KnowsValue things resolve m → Knows things (back_value resolve m)
  known_value resolve Nothing k = tt
  known_value resolve (Constant c) k = k
  known_value resolve (At r) k = k
  known_value resolve (Pair q) k = known_pair (resolve q) k

  known_mark : (resolve : OperandPair → Option OperandPair) (v : VarId) (m : MarkValue) (x : Tracked) → KnowsValue things resolve m → IsKnown things x →
      Knows things (back_mark resolve v m x)
  known_mark resolve v m (OfVariable w) k kx =
      known_if (is_same w v) (back_value resolve m) (cond (overlaps w v) Nameless (Was (OfVariable w))) (known_value resolve m k)
      (known_if (overlaps w v) Nameless (Was (OfVariable w)) tt kx)
  known_mark resolve v m (InRegister r) k kx = kx
  known_mark resolve v m (InSlot n) k kx = kx
  known_mark resolve v m (OfPair j o) k kx = kx
  known_mark resolve v m (OfNumber c) k kx = kx

  known_phi : (p : Option Place) (j : ℕ) (x : Tracked) → KnowsPlace things p → IsKnown things x → Knows things (back_phi p j x)
  known_phi p j (OfPair m o) k kx =
      known_if (nat_eq m j) (cond (nat_eq o 0) (back_place p) (Was (OfPair m o))) (Was (OfPair m o))
      (known_if (nat_eq o 0) (back_place p) (Was (OfPair m o)) (known_place p k) kx) kx
  known_phi p j (InRegister r) k kx = kx
  known_phi p j (InSlot n) k kx = kx
  known_phi p j (OfVariable v) k kx = kx
  known_phi p j (OfNumber c) k kx = kx

  pub known_back : (resolve : OperandPair → Option OperandPair) (kind : ItemKind) (x : Tracked) → KnowsItem things resolve kind → IsKnown things x →
      Knows things (back resolve 0 kind x)
  known_back resolve (Code i n) x k kx = known_code i n x k.0 k.1 kx
  known_back resolve (Mark v m) x k kx = known_mark resolve v m x k.0 kx
  known_back resolve (Phi p j) x k kx = known_phi p j x k kx

  -- a pair that the item defines
  known_defined : (resolve : OperandPair → Option OperandPair) (kind : ItemKind) (k o : ℕ) → KnowsItem things resolve kind → Defines kind k o →
      Knows things (back resolve 0 kind (OfPair k o))
  known_defined resolve (Code i (Some j)) k o knows d =
      let given = given_back 0 (row_of i) (defined (is_call (row_of i)) (slice_get i.operands o)) (OfPair k o) in
      subst (λ (b : Bool). Knows things (cond b given (Was (OfPair k o)))) (sym (eq-eqb k j d.0))
      (subst (λ (z : Option ℕ). Knows things (given_back 0 (row_of i) z (OfPair k o))) (sym d.2)
      (known_register (row_of i) d.1 knows.0 (knows.1 o d.1 d.2)))
  known_defined resolve (Code i None) k o knows d = absurd d
  known_defined resolve (Mark v m) k o knows d = absurd d
  known_defined resolve (Phi p j) k o knows d =
      subst (λ (b : Bool). Knows things (cond b (cond (nat_eq o 0) (back_place p) (Was (OfPair k o))) (Was (OfPair k o)))) (sym (eq-eqb k j d.0))
      (subst (λ (b : Bool). Knows things (cond b (back_place p) (Was (OfPair k o)))) (sym (eq-eqb o 0 d.1)) (known_place p knows))

  -- what is known past the item
  pub known_past_item : (resolve : OperandPair → Option OperandPair) (kind : ItemKind) (x : Tracked) → KnowsItem things resolve kind →
      IsKnown (pairs_of kind ++ things) x → Knows things (back resolve 0 kind x)
  known_past_item resolve kind (InRegister r) k kx = known_back resolve kind (InRegister r) k kx
  known_past_item resolve kind (InSlot n) k kx = known_back resolve kind (InSlot n) k (old_item things kind (InSlot n) tt kx)
  known_past_item resolve kind (OfPair j o) k kx = elim (Contains-append_cases (pairs_of kind) things (OfPair j o) kx) [
    | inl pair ↦ known_defined resolve kind j o k (defined_pair kind j o pair)
    | inr old ↦ known_back resolve kind (OfPair j o) k old
  ]
  known_past_item resolve kind (OfVariable v) k kx = known_back resolve kind (OfVariable v) k (old_item things kind (OfVariable v) tt kx)
  known_past_item resolve kind (OfNumber c) k kx = known_back resolve kind (OfNumber c) k (old_item things kind (OfNumber c) tt kx)

-- ---- classes after the item, by what stood before it

module _ (g : Program) (start p : Pos) (things : List Tracked) (class : Classes) (fresh : ℕ → ℕ) (are : AreClasses g start p things class)
    (new : AreFresh things class fresh) where
  -- on every path to the position two pull-backs share
  abbrev BacksShareOnPaths : Back → Back → Type 0
  BacksShareOnPaths b c = (n : ℕ) (t : Tokens) → Path g start n p t → BacksShare t b c

  abbrev OneBack : Back → Back → Type 0
  OneBack b c = (class_back class fresh b ≡ class_back class fresh c) × (class_back class fresh b ≢ 0)

  on_path : (b c : Back) → BacksShareOnPaths b c → BacksShare are.reached.1 b c
  on_path b c share = share are.reached.0 are.reached.1 are.reached.2

  pub backs_one : (b c : Back) → Knows things b → Knows things c → OneBack b c ↔ BacksShareOnPaths b c
  backs_one (Was x) (Was y) kb kc = are.one x y kb kc
  backs_one (Was x) (New j r) kb kc = (λ h. absurd (new.new x r kb h.0), λ s. absurd (on_path (Was x) (New j r) s))
  backs_one (Was x) Nameless kb kc = (λ h. absurd (h.1 h.0), λ s. absurd (on_path (Was x) Nameless s))
  backs_one (New i q) (Was y) kb kc = (λ h. absurd (new.new y q kc (sym h.0)), λ s. absurd (on_path (New i q) (Was y) s))
  backs_one (New i q) (New j r) kb kc =
      (λ h. λ n t path. (kb.0 ∙ sym kc.0, new.apart q r h.0), λ s. (ap fresh (on_path (New i q) (New j r) s).1, new.some q))
  backs_one (New i q) Nameless kb kc = (λ h. absurd (new.some q h.0), λ s. absurd (on_path (New i q) Nameless s))
  backs_one Nameless c kb kc = (λ h. absurd (h.1 refl), λ s. absurd (on_path Nameless c s))

module _ (g : Program) (start p : Pos) (item : Item) (here : g.fetch p ≡ Here item) (edge : Edge g p (below p)) (first : start ≡ below p → ⊥) where
  -- a path goes on past the item
  path_on : (n : ℕ) (t : Tokens) → Path g start n p t → Path g start (suc n) (below p) (after_item g.resolve n item.kind t)
  path_on n t path = subst (λ (f : Fetch). Path g start (suc n) (below p) (after_fetch g.resolve n f t)) here (onward path edge)

  share_on : (x y : Tracked) → ShareOnPaths g start (below p) x y → (n : ℕ) (t : Tokens) → Path g start n p t →
      BacksShare t (back g.resolve 0 item.kind x) (back g.resolve 0 item.kind y)
  share_on x y share n t path =
      let after = share (suc n) (after_item g.resolve n item.kind t) (path_on n t path) in
      (sharing_pulls_back g start n p t path (item ∷ []) x y).0 after

  share_back : (x y : Tracked) → ((n : ℕ) (t : Tokens) → Path g start n p t → BacksShare t (back g.resolve 0 item.kind x) (back g.resolve 0 item.kind y)) →
      ShareOnPaths g start (below p) x y
  share_back x y share m u path =
      let above = path_above p first path in
      let after = (sharing_pulls_back g start above.count p above.tokens above.path (item ∷ []) x y).1 (share above.count above.tokens above.path) in
      let passed : u ≡ after_item g.resolve above.count item.kind above.tokens =
      above.passed ∙ ap (λ (f : Fetch). after_fetch g.resolve above.count f above.tokens) here in
      subst (λ (z : Tokens). Share (token_of x z) (token_of y z)) (sym passed) after

pub classes_pass_items : ClassesPassItems
classes_pass_items g start p known class fresh item first are here edge knows new = record {
  reached = (
    suc are.reached.0,
    after_item g.resolve are.reached.0 item.kind are.reached.1,
    path_on g start p item here edge first are.reached.0
        are.reached.1 are.reached.2,
  );
  one = λ x y kx ky.
      let kb = known_past_item known g.resolve item.kind x knows kx in
      let kc = known_past_item known g.resolve item.kind y knows ky in
      let both = backs_one g start p known class fresh are new (back g.resolve 0 item.kind x) (back g.resolve 0 item.kind y) kb kc in
      (λ h. share_back g start p item here edge first x y (both.0 h), λ s. both.1 (share_on g start p item here edge first x y s));
}

-- what holds of classes with pairs holds without them
pub classes_fewer : (g : Program) (start p : Pos) (things known : List Tracked) (class : Classes) → AddsPairs things known →
    AreClasses g start p known class → AreClasses g start p things class
classes_fewer g start p things known class a are = record {
  reached = are.reached;
  one = λ x y kx ky. are.one x y (known_more things known a x kx) (known_more things known a y ky);
}
