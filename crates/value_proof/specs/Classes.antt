-- Class numbers of tracked entities at a position: the same number if and only if the same token on every path.
use Rattle.std.specs.Prelude.{◌≡◌, ◌≢◌, ◌↔◌, ℕ, suc, ◌<◌, List, [], ◌∷◌, ◌++◌, Contains, Option, Some, None, Bool, slice_get}
use Rattle.rv64_instr.specs.declared.place.Place.{Place}
use Rattle.rv64_instr.specs.declared.place.Place.TheVariants.{Register, Slot, Const}
use Rattle.rv64_instr.specs.Arithmetic.{word}
use Rattle.rv64_instr.specs.Row.{Row, row_of}
use Rattle.rv64_instr.specs.View.{Value, Literal, OfRegister, OfSlot, Computed, Write, SetsNothing, SetsRegister, SetsSlot, Clobbers, write_of}
use Rattle.rv64_instr.specs.declared.operand.Operand.{Operand}
use Rattle.rv64_instr.specs.Instruction.{Instruction}
use Rattle.rv64_instr.specs.LocationEffects.{is_call}
use Rattle.mir_func.specs.declared.debug_substitution.OperandPair.{OperandPair}
use Rattle.mir_func.specs.declared.position.Pos.{Pos}
use Rattle.mir_func.specs.declared.variable.MarkValue.{MarkValue}
use Rattle.mir_func.specs.declared.variable.MarkValue.TheVariants.{Nothing, Constant, At, Pair}
use Rattle.mir_func.specs.declared.item.Item.{Item}
use Rattle.mir_func.specs.declared.item.ItemKind.{ItemKind}
use Rattle.mir_func.specs.declared.item.ItemKind.TheVariants.{Code, Mark, Phi}
use Rattle.mir_func.specs.Graph.{Program, Here, below, Edge}
use Rattle.sem_mir.specs.Step.{defined}
use Rattle.sem_mir.specs.ValueId.{Tokens, Path}
use Rattle.sem_value_ids.specs.Pullback.{Tracked, InRegister, InSlot, OfPair, OfVariable, OfNumber, token_of, Back, Was, New, Nameless, back, Share}

-- a class for each tracked entity, and 0 for no class
abbrev pub Classes : Type 0
Classes = Tracked → ℕ

-- an entity is known if it is a physical register or in the list
abbrev pub IsKnown : (things : List Tracked) → Tracked → Type 0
IsKnown things (InRegister r) = r < 32
IsKnown things (InSlot n) = Contains things (InSlot n)
IsKnown things (OfPair k o) = Contains things (OfPair k o)
IsKnown things (OfVariable v) = Contains things (OfVariable v)
IsKnown things (OfNumber c) = Contains things (OfNumber c)

-- both entities have the same class, and it isn't 0
abbrev pub HaveOneClass : Classes → (x y : Tracked) → Type 0
HaveOneClass class x y = (class x ≡ class y) × (class x ≢ 0)

-- some path leads to a position
abbrev pub IsReached : (g : Program) (start p : Pos) → Type 0
IsReached g start p = (n : ℕ) × (t : Tokens) × Path g start n p t

-- on every path to it both have a token, and the same one
abbrev pub ShareOnPaths : (g : Program) (start p : Pos) → (x y : Tracked) → Type 0
ShareOnPaths g start p x y = (n : ℕ) (t : Tokens) → Path g start n p t → Share (token_of x t) (token_of y t)

-- the position is reached, and two known entities have the same class other than 0 if and only if they have the same token on
-- every path to it
pub record AreClasses (g : Program) (start p : Pos) (things : List Tracked) (class : Classes) : Type 0 where
  pub reached : IsReached g start p
  pub one : (x y : Tracked) → IsKnown things x → IsKnown things y → HaveOneClass class x y ↔ ShareOnPaths g start p x y

-- an entity's class after an item, by the classes before it. A token that the item defines in register r has the class `fresh r`
abbrev pub class_back : Classes → (fresh : ℕ → ℕ) → Back → ℕ
class_back class fresh (Was x) = class x
class_back class fresh (New i r) = fresh r
class_back class fresh Nameless = 0

-- classes for new tokens: distinct for distinct registers, used by no known entity, and not 0
pub record AreFresh (things : List Tracked) (class : Classes) (fresh : ℕ → ℕ) : Type 0 where
  pub apart : (q r : ℕ) → fresh q ≡ fresh r → q ≡ r
  pub new : (x : Tracked) (r : ℕ) → IsKnown things x → class x ≢ fresh r
  pub some : (r : ℕ) → fresh r ≢ 0

-- the constant, register or slot that a value is a copy of is known
abbrev pub KnowsCopied : (things : List Tracked) → Value → Type 0
KnowsCopied things (Literal c) = Contains things (OfNumber c)
KnowsCopied things (OfRegister rs) = rs < 32
KnowsCopied things (OfSlot n) = Contains things (InSlot n)
KnowsCopied things Computed = Unit {0}

-- the registers, slots and constants that a write copies are known
abbrev pub KnowsWrite : (things : List Tracked) → Write → Type 0
KnowsWrite things SetsNothing = Unit {0}
KnowsWrite things (SetsRegister rd value) = KnowsCopied things value
KnowsWrite things (SetsSlot n rs) = (rs < 32) × Contains things (InSlot n)
KnowsWrite things (Clobbers outgoing) = Unit {0}

-- the registers, slots and constants that an instruction of this row copies are known
abbrev pub KnowsRow : (things : List Tracked) → Row → Type 0
KnowsRow things row = KnowsWrite things (write_of row)

-- the pair that a debug operand resolves to, if any, is in the list
abbrev pub KnowsPair : (things : List Tracked) → Option OperandPair → Type 0
KnowsPair things None = Unit {0}
KnowsPair things (Some q) = Contains things (OfPair q.number q.operand)

-- the entity that a debug value's operand reads, if any, is known
abbrev pub KnowsValue : (things : List Tracked) → (OperandPair → Option OperandPair) → MarkValue → Type 0
KnowsValue things resolve Nothing = Unit {0}
KnowsValue things resolve (Constant c) = Contains things (OfNumber (word c))
KnowsValue things resolve (At r) = r < 32
KnowsValue things resolve (Pair q) = KnowsPair things (resolve q)

-- the entity of a DBG_PHI's location, if any, is known
abbrev pub KnowsPlace : (things : List Tracked) → Option Place → Type 0
KnowsPlace things (Some (Register r)) = r < 32
KnowsPlace things (Some (Slot n)) = Contains things (InSlot n)
KnowsPlace things (Some (Const c)) = Contains things (OfNumber (word c))
KnowsPlace things None = Unit {0}

-- the registers that operands define are physical
abbrev pub DefinePhysical : (call : Bool) → List Operand → Type 0
DefinePhysical call operands = (o r : ℕ) → defined call (slice_get operands o) ≡ Some r → r < 32

-- the entities that an item copies are known, and so is the part of a variable that a debug value assigns
abbrev pub KnowsItem : (things : List Tracked) → (OperandPair → Option OperandPair) → ItemKind → Type 0
KnowsItem things resolve (Code i k) = KnowsRow things (row_of i) × DefinePhysical (is_call (row_of i)) i.operands
KnowsItem things resolve (Mark v m) = KnowsValue things resolve m × Contains things (OfVariable v)
KnowsItem things resolve (Phi p k) = KnowsPlace things p

-- the pair of operand o of code with number k, if the operand defines a register, and then these entities
abbrev pub with_pair : Option ℕ → (k o : ℕ) → List Tracked → List Tracked
with_pair None k o pairs = pairs
with_pair (Some r) k o pairs = OfPair k o ∷ pairs

-- the pairs of the operands of code with number k that define registers, if the first of the operands has this index
abbrev pub operand_pairs : (call : Bool) → (k first : ℕ) → List Operand → List Tracked
operand_pairs call k first [] = []
operand_pairs call k first (o ∷ operands) = with_pair (defined call (Some o)) k first (operand_pairs call k (suc first) operands)

-- the pairs that code with a debug instruction number, or without one, defines
abbrev pub code_pairs : Instruction → Option ℕ → List Tracked
code_pairs i None = []
code_pairs i (Some k) = operand_pairs (is_call (row_of i)) k 0 i.operands

-- the pairs that an item defines
abbrev pub pairs_of : ItemKind → List Tracked
pairs_of (Code i k) = code_pairs i k
pairs_of (Mark v m) = []
pairs_of (Phi p k) = OfPair k 0 ∷ []

-- what is known past items: what was known before them, and the pairs that they define
abbrev pub known_past : (known : List Tracked) → List Item → List Tracked
known_past known [] = known
known_past known (i ∷ items) = known_past (pairs_of i.kind ++ known) items

-- If control continues below an item, the classes computed past it from those before it are classes there, also of the pairs that
-- it defines.
abbrev pub ClassesPassItems : Type 0
ClassesPassItems = (g : Program) (start p : Pos) (known : List Tracked) (class : Classes) (fresh : ℕ → ℕ) (item : Item) →
    (start ≡ below p → ⊥) → AreClasses g start p known class → g.fetch p ≡ Here item → Edge g p (below p) → KnowsItem known g.resolve item.kind →
    AreFresh known class fresh →
    AreClasses g start (below p) (pairs_of item.kind ++ known) (λ x. class_back class fresh (back g.resolve 0 item.kind x))

-- A path to the position below p comes through p and its edge down, unless the paths start there.
abbrev pub PathsComeFromAbove : Type 0
PathsComeFromAbove = (g : Program) (start p : Pos) → (start ≡ below p → ⊥) → IsReached g start (below p) → IsReached g start p × Edge g p (below p)
