-- Pull-back of tokens over items: where each token after them comes from.
use Rattle.std.specs.Prelude.{◌≡◌, ◌↔◌, ℕ, zero, suc, ◌+◌, List, [], ◌∷◌, Option, Some, None, cond, nat_eq, slice_get}
use Rattle.std.specs.List.{list_any}
use Rattle.rv64_instr.specs.declared.place.Place.{Place}
use Rattle.rv64_instr.specs.declared.place.Place.TheVariants.{Register, Slot, Const}
use Rattle.rv64_instr.specs.Arithmetic.{word}
use Rattle.rv64_instr.specs.Instruction.{Instruction}
use Rattle.rv64_instr.specs.Row.{Row, row_of}
use Rattle.rv64_instr.specs.View.{Value, Literal, OfRegister, OfSlot, Computed, Write, SetsNothing, SetsRegister, SetsSlot, Clobbers, write_of}
use Rattle.rv64_instr.specs.DefsAndUses.{caller_saved}
use Rattle.rv64_instr.specs.LocationEffects.{is_call}
use Rattle.mir_func.specs.declared.debug_substitution.OperandPair.{OperandPair}
use Rattle.mir_func.specs.declared.position.Pos.{Pos}
use Rattle.mir_func.specs.declared.variable.VarId.{VarId}
use Rattle.mir_func.specs.declared.variable.MarkValue.{MarkValue}
use Rattle.mir_func.specs.declared.variable.MarkValue.TheVariants.{Nothing, Constant, At, Pair}
use Rattle.mir_func.specs.declared.item.Item.{Item}
use Rattle.mir_func.specs.declared.item.ItemKind.{ItemKind}
use Rattle.mir_func.specs.declared.item.ItemKind.TheVariants.{Code, Mark, Phi}
use Rattle.mir_func.specs.Variables.{is_same, overlaps}
use Rattle.mir_func.specs.Graph.{Program}
use Rattle.sem_mir.specs.Step.{defined}
use Rattle.sem_mir.specs.ValueId.{Token, Made, Fixed, Tokens, register_token, variable_token, sets_pointer, after_item, Path}

-- what has tokens: a register, a slot, a pair, a part of a variable, and a constant, which always has its own
pub data Tracked : Type 0 where
  InRegister : (r : ℕ) → Tracked
  InSlot : (n : ℕ) → Tracked
  OfPair : (k o : ℕ) → Tracked
  OfVariable : (v : VarId) → Tracked
  OfNumber : (c : ℕ) → Tracked

-- the token of a tracked entity
abbrev pub token_of : Tracked → Tokens → Option Token
token_of (InRegister r) t = register_token t.regs r
token_of (InSlot n) t = t.slots n
token_of (OfPair k o) t = t.pairs k o
token_of (OfVariable v) t = variable_token v t
token_of (OfNumber c) t = Some (Fixed c)

-- where the token of an entity after some items comes from: some entity had it before them, the item at an index among them
-- created it for a register, or there is none
pub data Back : Type 0 where
  Was : Tracked → Back
  New : (index r : ℕ) → Back
  Nameless : Back

-- the token of a pull-back, if the first of the items is at this index of the path, with these tokens before it
abbrev pub token_back : (first : ℕ) → Tokens → Back → Option Token
token_back n t (Was x) = token_of x t
token_back n t (New i r) = Some (Made (n + i) r)
token_back n t Nameless = None

-- a register pulled back over a write of rd: x0 drops writes, and x2 has no token
abbrev pub put_back : (rd : ℕ) → Back → (r : ℕ) → Back
put_back rd b zero = Was (InRegister zero)
put_back zero b (suc r) = Was (InRegister (suc r))
put_back (suc rd) b (suc r) = cond (nat_eq (suc r) (suc rd)) (cond (nat_eq rd 1) Nameless b) (Was (InRegister (suc r)))

-- where the token of a value comes from that register rd is set to by the item at an index
abbrev pub value_back : (index rd : ℕ) → Value → Back
value_back i rd (Literal c) = Was (OfNumber c)
value_back i rd (OfRegister rs) = Was (InRegister rs)
value_back i rd (OfSlot n) = Was (InSlot n)
value_back i rd Computed = New i rd

-- a register pulled back over what code sets
abbrev pub register_back : (index : ℕ) → Write → (r : ℕ) → Back
register_back i SetsNothing r = Was (InRegister r)
register_back i (SetsRegister rd value) r = put_back rd (value_back i rd value) r
register_back i (SetsSlot n rs) r = Was (InRegister r)
register_back i (Clobbers outgoing) r = cond (list_any (λ q. nat_eq r q) caller_saved) (New i r) (Was (InRegister r))

-- a register pulled back over code of a row
abbrev pub back_register : (index : ℕ) → Row → (r : ℕ) → Back
back_register i row r = register_back i (write_of row) r

-- a slot pulled back over what code sets, if that isn't x2
abbrev pub slot_back : Write → (k : ℕ) → Back
slot_back (SetsSlot n rs) k = cond (nat_eq k n) (Was (InRegister rs)) (Was (InSlot k))
slot_back (Clobbers outgoing) k = cond (list_any (nat_eq k) outgoing) Nameless (Was (InSlot k))
slot_back _ k = Was (InSlot k)

-- a slot pulled back over code of a row that doesn't write x2
abbrev pub slot_stored : Row → (k : ℕ) → Back
slot_stored row k = slot_back (write_of row) k

-- a slot pulled back over code of a row: a write of x2 takes each slot's token
abbrev pub back_slot : Row → (k : ℕ) → Back
back_slot row k = cond (sets_pointer row) Nameless (slot_stored row k)

-- any entity pulled back over code of a row, before its pairs are set: pairs, parts of variables and constants keep their tokens
abbrev pub back_row : (index : ℕ) → Row → Tracked → Back
back_row i row (InRegister r) = back_register i row r
back_row i row (InSlot k) = back_slot row k
back_row i row (OfPair k o) = Was (OfPair k o)
back_row i row (OfVariable v) = Was (OfVariable v)
back_row i row (OfNumber c) = Was (OfNumber c)

-- a pair of code's number pulled back over the code: to the register that its operand defines, or to itself
abbrev pub given_back : (index : ℕ) → Row → Option ℕ → Tracked → Back
given_back i row None x = Was x
given_back i row (Some rd) x = back_register i row rd

-- the pull-back of a phi's location; no location has no token
abbrev pub back_place : Option Place → Back
back_place None = Nameless
back_place (Some (Register r)) = Was (InRegister r)
back_place (Some (Slot n)) = Was (InSlot n)
back_place (Some (Const c)) = Was (OfNumber (word c))

-- the pull-back of what a pair resolved to
abbrev pub back_pair : Option OperandPair → Back
back_pair None = Nameless
back_pair (Some q) = Was (OfPair q.number q.operand)

-- the pull-back of a debug value's operand
abbrev pub back_value : (OperandPair → Option OperandPair) → MarkValue → Back
back_value resolve Nothing = Nameless
back_value resolve (Constant c) = Was (OfNumber (word c))
back_value resolve (At r) = Was (InRegister r)
back_value resolve (Pair q) = back_pair (resolve q)

-- any entity pulled back over code with a number: the pairs of the number have the tokens of the registers that the operands
-- define, and all else is as by its row
abbrev pub back_numbered : (index : ℕ) → Instruction → (number : ℕ) → Tracked → Back
back_numbered i c j (OfPair k o) =
    cond (nat_eq k j) (given_back i (row_of c) (defined (is_call (row_of c)) (slice_get c.operands o)) (OfPair k o)) (Was (OfPair k o))
back_numbered i c j (InRegister r) = back_row i (row_of c) (InRegister r)
back_numbered i c j (InSlot k) = back_row i (row_of c) (InSlot k)
back_numbered i c j (OfVariable v) = back_row i (row_of c) (OfVariable v)
back_numbered i c j (OfNumber m) = back_row i (row_of c) (OfNumber m)

-- any entity pulled back over code, with a debug instruction number or without one
abbrev pub back_code : (index : ℕ) → Instruction → Option ℕ → Tracked → Back
back_code i c None x = back_row i (row_of c) x
back_code i c (Some j) x = back_numbered i c j x

-- any entity pulled back over a mark: its part has its operand's token, and other parts that overlap it have none
abbrev pub back_mark : (OperandPair → Option OperandPair) → VarId → MarkValue → Tracked → Back
back_mark resolve v m (OfVariable w) = cond (is_same w v) (back_value resolve m) (cond (overlaps w v) Nameless (Was (OfVariable w)))
back_mark resolve v m (InRegister r) = Was (InRegister r)
back_mark resolve v m (InSlot k) = Was (InSlot k)
back_mark resolve v m (OfPair k o) = Was (OfPair k o)
back_mark resolve v m (OfNumber c) = Was (OfNumber c)

-- any entity pulled back over a phi: operand 0 of its number has its location's token
abbrev pub back_phi : Option Place → (number : ℕ) → Tracked → Back
back_phi p j (OfPair k o) = cond (nat_eq k j) (cond (nat_eq o 0) (back_place p) (Was (OfPair k o))) (Was (OfPair k o))
back_phi p j (InRegister r) = Was (InRegister r)
back_phi p j (InSlot k) = Was (InSlot k)
back_phi p j (OfVariable v) = Was (OfVariable v)
back_phi p j (OfNumber c) = Was (OfNumber c)

-- any entity pulled back over the item at an index among some
abbrev pub back : (OperandPair → Option OperandPair) → (index : ℕ) → ItemKind → Tracked → Back
back resolve i (Code c k) x = back_code i c k x
back resolve i (Mark v m) x = back_mark resolve v m x
back resolve i (Phi p k) x = back_phi p k x

-- the pull-back of a pull-back
abbrev pub through : (Tracked → Back) → Back → Back
through f (Was x) = f x
through f (New i r) = New i r
through f Nameless = Nameless

-- any entity pulled back over a list of items, of which the first has this index: from the last one upward
abbrev pub back_over : (OperandPair → Option OperandPair) → (index : ℕ) → List Item → Tracked → Back
back_over resolve i [] x = Was x
back_over resolve i (item ∷ items) x = through (back resolve i item.kind) (back_over resolve (suc i) items x)

-- the tokens after items, of which the first is at this index of the path
abbrev pub after_items : (OperandPair → Option OperandPair) → (index : ℕ) → List Item → Tokens → Tokens
after_items resolve n [] t = t
after_items resolve n (item ∷ items) t = after_items resolve (suc n) items (after_item resolve n item.kind t)

-- After items each tracked entity has the token of its pull-back.
abbrev pub TokensPullBack : Type 0
TokensPullBack = (resolve : OperandPair → Option OperandPair) (first : ℕ) (items : List Item) (t : Tokens) (x : Tracked) →
    token_of x (after_items resolve first items t) ≡ token_back first t (back_over resolve 0 items x)

-- two pull-backs have one token, or both none: both are the same new one, or the entities before agree so
abbrev pub BacksAgree : Tokens → Back → Back → Type 0
BacksAgree t (Was x) (Was y) = token_of x t ≡ token_of y t
BacksAgree t (New i q) (New j r) = (i ≡ j) × (q ≡ r)
BacksAgree t Nameless Nameless = Unit {0}
BacksAgree t (Was x) Nameless = token_of x t ≡ None
BacksAgree t Nameless (Was y) = token_of y t ≡ None
BacksAgree t (Was x) (New j r) = ⊥
BacksAgree t (New i q) (Was y) = ⊥
BacksAgree t (New i q) Nameless = ⊥
BacksAgree t Nameless (New j r) = ⊥

-- On a path, two entities have one token after items, or both have none, exactly if their pull-backs agree before them: a token
-- that an item creates isn't one that was there.
abbrev pub AgreementPullsBack : Type 0
AgreementPullsBack = (g : Program) (start : Pos) (n : ℕ) (p : Pos) (t : Tokens) → Path g start n p t → (items : List Item) (x y : Tracked) →
    (token_of x (after_items g.resolve n items t) ≡ token_of y (after_items g.resolve n items t))
    ↔ BacksAgree t (back_over g.resolve 0 items x) (back_over g.resolve 0 items y)

-- both have a token, and the same one
abbrev pub Share : Option Token → Option Token → Type 0
Share a b = (k : Token) × (a ≡ Some k) × (b ≡ Some k)

-- two pull-backs have a token, the same one: the same new one, or one that both entities had before
abbrev pub BacksShare : Tokens → Back → Back → Type 0
BacksShare t (Was x) (Was y) = Share (token_of x t) (token_of y t)
BacksShare t (New i q) (New j r) = (i ≡ j) × (q ≡ r)
BacksShare t (Was x) (New j r) = ⊥
BacksShare t (New i q) (Was y) = ⊥
BacksShare t Nameless c = ⊥
BacksShare t (Was x) Nameless = ⊥
BacksShare t (New i q) Nameless = ⊥

-- On a path, two entities share a token after items exactly if their pull-backs do before them.
abbrev pub SharingPullsBack : Type 0
SharingPullsBack = (g : Program) (start : Pos) (n : ℕ) (p : Pos) (t : Tokens) → Path g start n p t → (items : List Item) (x y : Tracked) →
    Share (token_of x (after_items g.resolve n items t)) (token_of y (after_items g.resolve n items t))
    ↔ BacksShare t (back_over g.resolve 0 items x) (back_over g.resolve 0 items y)
