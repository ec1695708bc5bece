-- When a function follows a source, that is, refines it: its shape, and its runs from every start state.
use Rattle.std.specs.Prelude.{◌≡◌, ◌⊎◌, Bool, ℕ, ◌+◌, ◌*◌, ◌<◌, ◌≤◌, List, [], ◌∷◌, length, All, Contains, Option, Some, true, false, slice_get}
use Rattle.mir_func.specs.rv64_instr.Row.{Row, Branches, Jumps, Returns, row_of}
use Rattle.mir_func.specs.rv64_instr.View.{Literal, OfRegister, OfSlot, Write, SetsRegister, SetsSlot, write_of, Class, Branch, Return, class_of}
use Rattle.mir_func.specs.rv64_instr.LocationEffects.{IsSlotStore}
use Rattle.mir_func.specs.rv64_instr.Instruction.{is_volatile_load}
use Rattle.mir_func.specs.declared.position.Pos.{Pos}
use Rattle.mir_func.specs.declared.position.Origin.{Origin}
use Rattle.mir_func.specs.declared.position.Origin.TheVariants.{Kept, Before}
use Rattle.mir_func.specs.declared.block.Block.{Block}
use Rattle.mir_func.specs.declared.debug_substitution.OperandPair.{OperandPair}
use Rattle.mir_func.specs.declared.object.Object.{Object}
use Rattle.mir_func.specs.declared.exit.Exit.{Exit}
use Rattle.mir_func.specs.declared.exit.Exit.TheVariants.{Onward, Perhaps, Always, Final}
use Rattle.mir_func.specs.Exits.{row_exit}
use Rattle.mir_func.specs.declared.item.Item.{Item}
use Rattle.mir_func.specs.declared.item.ItemKind.{ItemKind}
use Rattle.mir_func.specs.declared.item.ItemKind.TheVariants.{Code, Mark, Phi}
use Rattle.mir_func.specs.declared.variable.MarkValue.TheVariants.{Nothing}
use Rattle.mir_func.specs.Sound.{AreApart, ids_of}
use Rattle.sem_mir.specs.State.{State}
use Rattle.mir_func.specs.Graph.{Fetch, Here, EndOfBlock, Program, below, block_start, program_of, Edge, Leads}
use Rattle.mir_func.specs.Positions.{position_of}
use Rattle.sem_mir.specs.Align.{ByItems, ByEnds, sync_point_at, AnyOrigin, RunsMatch}
use Rattle.sem_mir.specs.InitialState.{first_of, IsInitialState}

-- code that sets this may be added before position `item` of a block that ends at index `source_end`: slot loads and constant definitions before
-- its end, and slot stores anywhere
abbrev pub MayAddWrite : Write → (item source_end : ℕ) → Type 0
MayAddWrite (SetsRegister rd (Literal n)) k source_end = k < source_end
MayAddWrite (SetsRegister rd (OfSlot n)) k source_end = k < source_end
MayAddWrite (SetsSlot n rs) k source_end = Unit {0}
MayAddWrite _ k source_end = ⊥

-- code of this exit that sets this may be added there: also an unconditional branch at the block's end
abbrev pub MayAddExit : Exit → Write → (item source_end : ℕ) → Type 0
MayAddExit Onward w k source_end = MayAddWrite w k source_end
MayAddExit (Perhaps n) w k source_end = ⊥
MayAddExit (Always n) w k source_end = k ≡ source_end
MayAddExit Final w k source_end = ⊥

-- code of this row may be added there
abbrev pub MayAdd : Row → (item source_end : ℕ) → Type 0
MayAdd row k source_end = MayAddExit (row_exit row) (write_of row) k source_end

-- the item is code of the row's class
abbrev pub ItemHasClass : Row → ItemKind → Type 0
ItemHasClass r (Code c k) = class_of (row_of c) ≡ class_of r
ItemHasClass r _ = ⊥

-- what the source has at a position is code of the row's class
abbrev pub HasClass : Row → Fetch → Type 0
HasClass r (Here i) = ItemHasClass r i.kind
HasClass r _ = ⊥

-- code of this row may have this origin: kept code keeps its class, and added code is of a kind that may be added
abbrev pub RowFits : Program → Row → (source_end : ℕ) → Origin → Type 0
RowFits src r source_end (Kept p) = HasClass r (src.fetch p)
RowFits src r source_end (Before p) = MayAdd r p.item source_end

-- an item may have this origin. Debug items may have any
abbrev pub KindFits : Program → ItemKind → (source_end : ℕ) → Origin → Type 0
KindFits src (Code c k) source_end o = RowFits src (row_of c) source_end o
KindFits src (Mark v m) source_end o = Unit {0}
KindFits src (Phi p k) source_end o = Unit {0}

-- the item is code, and is a volatile load or not
abbrev pub ItemIsVolatile : Bool → ItemKind → Type 0
ItemIsVolatile volatile (Code c k) = is_volatile_load c ≡ volatile
ItemIsVolatile volatile _ = ⊥

-- what the source has at a position is code, and is a volatile load or not
abbrev pub IsVolatile : Bool → Fetch → Type 0
IsVolatile volatile (Here i) = ItemIsVolatile volatile i.kind
IsVolatile volatile _ = ⊥

-- kept code is a volatile load exactly if the source's is
abbrev pub StaysVolatile : Program → ItemKind → Origin → Type 0
StaysVolatile src (Code c k) (Kept p) = IsVolatile (is_volatile_load c) (src.fetch p)
StaysVolatile src _ o = Unit {0}

-- an added debug value is undef
abbrev pub MarkFits : ItemKind → Origin → Type 0
MarkFits (Mark v Nothing) o = Unit {0}
MarkFits (Mark v m) (Before p) = ⊥
MarkFits _ o = Unit {0}

-- the order of origins in a block: what is added before a position comes before what is kept of it
abbrev pub rank : Origin → ℕ
rank (Kept p) = 2 * p.item + 1
rank (Before p) = 2 * p.item

-- the least rank of the next item: any number of items may be added before a position, but each item of the source is kept at most
-- once
abbrev pub next_rank : Origin → ℕ
next_rank (Kept p) = 2 * p.item + 2
next_rank (Before p) = 2 * p.item

-- the origins are in block b, in its order from rank `least` on, and no item of the source is kept twice
abbrev pub InOrder : (b least : ℕ) → List Item → Type 0
InOrder b n [] = Unit {0}
InOrder b n (x ∷ xs) = ((position_of x.origin).block ≡ b) × (n ≤ rank x.origin) × InOrder b (next_rank x.origin) xs

-- f's blocks are some of the source's, in the source's order, with the same numbers and silent indices
pub data Among : List Block → List Block → Type 0 where
  none : {bs : List Block} → Among [] bs
  same : {a b : Block} {rest bs : List Block} → a.id ≡ b.id → a.source_end ≡ b.source_end → Among rest bs → Among (a ∷ rest) (b ∷ bs)
  left : {b : Block} {rest bs : List Block} → Among rest bs → Among rest (b ∷ bs)

-- the item is code whose row satisfies P
abbrev pub OnRow : (Row → Type 0) → ItemKind → Type 0
OnRow P (Code c k) = P (row_of c)
OnRow P _ = ⊥

-- control goes to block n, perhaps or always
abbrev pub ExitsTo : ℕ → Exit → Type 0
ExitsTo n Onward = ⊥
ExitsTo n (Perhaps target) = target ≡ n
ExitsTo n (Always target) = target ≡ n
ExitsTo n Final = ⊥

-- a conditional or unconditional branch to block n
abbrev pub GoesTo : ℕ → Row → Type 0
GoesTo n row = ExitsTo n (row_exit row)

-- no copy of a register to itself
abbrev pub IsNoSelfCopy : Write → Type 0
IsNoSelfCopy (SetsRegister rd (OfRegister rs)) = rd ≡ rs → ⊥
IsNoSelfCopy _ = Unit {0}

-- no branch, and no copy of a register to itself
abbrev pub CountsBy : Exit → Write → Type 0
CountsBy Onward w = IsNoSelfCopy w
CountsBy (Perhaps n) w = ⊥
CountsBy (Always n) w = ⊥
CountsBy Final w = Unit {0}

-- code other than a branch or a copy of a register to itself
abbrev pub Counts : Row → Type 0
Counts row = CountsBy (row_exit row) (write_of row)

-- the item at q is code other than a branch or a copy of a register to itself, its origin isn't the end of p's block, and it is
-- earlier in p's block or reachable from p
abbrev pub IsMetApart : Program → (p : Pos) → (source_end : ℕ) → (q : Pos) → Item → Type 0
IsMetApart f p k q j = (f.fetch q ≡ Here j) × OnRow Counts j.kind × (position_of j.origin ≡ record { block = p.block; item = k } → ⊥) ×
    (((q.block ≡ p.block) × (q.item < p.item)) ⊎ Leads f p q)

-- the shape of a function that follows a source, that is, refines it
pub record Shape (src f : List Block) (srcp fp : Program) : Type 0 where
  pub among : Among f src
  pub first : first_of f ≡ first_of src
  -- if some path of the source leads back to its first block, some branch of f has that block as its target
  pub back : (q : Pos) → Leads srcp (block_start (first_of src)) q → Edge srcp q (block_start (first_of src)) →
      (p : Pos) × (i : Item) × (fp.fetch p ≡ Here i) × OnRow (GoesTo (first_of src)) i.kind
  pub order : All (λ b. InOrder b.id 0 b.items) f
  pub items : All (λ b. All (λ i. KindFits srcp i.kind b.source_end i.origin) b.items) f
  pub volatile : All (λ b. All (λ i. StaysVolatile srcp i.kind i.origin) b.items) f
  -- a slot store that is added before a block's end has other code earlier in the block or reachable from it: so a cycle of jumps
  -- alone stores to no slot
  pub stores : (b : Block) → Contains f b → (p : Pos) (i : Item) → p.block ≡ b.id → fp.fetch p ≡ Here i → OnRow IsSlotStore i.kind →
      i.origin ≡ Before (record { block = b.id; item = b.source_end }) → (q : Pos) × (j : Item) × IsMetApart fp p b.source_end q j
  -- between code that is added before a position and what is kept there no variable gets a value
  pub marks : All (λ b. All (λ i. MarkFits i.kind i.origin) b.items) f

-- f follows the source: it has the shape, and from every start state its run refines the source's, with instructions as observation
-- points
pub record Follows (objects : List Object) (src f : List Block) (subs fsubs : OperandPair → Option OperandPair) : Type 0 where
  pub shape : Shape src f (program_of true src subs) (program_of false f fsubs)
  pub runs : (s : State) → IsInitialState objects (first_of src) s → RunsMatch (program_of true src subs) (program_of false f fsubs)
      (sync_point_at ByItems (program_of false f fsubs)) (AnyOrigin (sync_point_at ByItems (program_of false f fsubs))) s s

-- the same terminator up to its registers
abbrev pub SameEnd : Row → Row → Type 0
SameEnd (Branches op a b t) (Branches op' a' b' t') = (op ≡ op') × (t ≡ t')
SameEnd (Jumps t) (Jumps t') = t ≡ t'
SameEnd (Returns v) (Returns w) = Unit {0}
SameEnd _ _ = ⊥

-- the class of terminators
abbrev pub IsEndClass : Class → Type 0
IsEndClass Branch = Unit {0}
IsEndClass Return = Unit {0}
IsEndClass _ = ⊥

-- a terminator: a branch, a jump or a return
abbrev pub IsEnd : Row → Type 0
IsEnd row = IsEndClass (class_of row)

-- both items are code, and the same terminator up to its registers
abbrev pub KindsEndAlike : ItemKind → ItemKind → Type 0
KindsEndAlike (Code c k) (Code d l) = SameEnd (row_of c) (row_of d)
KindsEndAlike _ _ = ⊥

-- some item of f is kept from position p and is the same terminator as i
abbrev pub EndIsKept : Program → Pos → Item → Type 0
EndIsKept f p i = (q : Pos) × (j : Item) × (f.fetch q ≡ Here j) × (j.origin ≡ Kept p) × KindsEndAlike i.kind j.kind

-- item j is kept from an item of the source that is the same terminator
abbrev pub EndComesFrom : Program → Item → Type 0
EndComesFrom src j = (p : Pos) × (i : Item) × (src.fetch p ≡ Here i) × (j.origin ≡ Kept p) × KindsEndAlike i.kind j.kind

-- f's block ends match the source's: f has as many blocks, keeps each terminator and adds none, and its runs refine the source's with
-- block ends as observation points too
pub record HasWholeEnds (objects : List Object) (src f : List Block) (subs fsubs : OperandPair → Option OperandPair) : Type 0 where
  pub blocks : length f ≡ length src
  pub kept : (p : Pos) (i : Item) → (program_of true src subs).fetch p ≡ Here i → OnRow IsEnd i.kind → EndIsKept (program_of false f fsubs) p i
  pub only : (q : Pos) (j : Item) → (program_of false f fsubs).fetch q ≡ Here j → OnRow IsEnd j.kind → EndComesFrom (program_of true src subs) j
  pub runs : (s : State) → IsInitialState objects (first_of src) s → RunsMatch (program_of true src subs) (program_of false f fsubs)
      (sync_point_at ByEnds (program_of false f fsubs)) (AnyOrigin (sync_point_at ByEnds (program_of false f fsubs))) s s

-- the position isn't past its block's end
abbrev pub IsWithin : Program → Pos → Type 0
IsWithin src p = (k n : ℕ) → src.fetch p ≡ EndOfBlock k n → p.item ≡ k

-- a source program: the origin of each item is its own position, a block's end is at its silent index, and no position that a branch
-- or a fall-through reaches is past its block's end
pub record IsSource (src : Program) : Type 0 where
  pub items : (p : Pos) (i : Item) → src.fetch p ≡ Here i → i.origin ≡ Kept p
  pub ends : (p : Pos) (k n : ℕ) → src.fetch p ≡ EndOfBlock k n → src.fetch (record { block = p.block; item = k }) ≡ EndOfBlock k n
  pub starts : (n : ℕ) → IsWithin src (block_start n)
  pub falls : (p : Pos) (i : Item) → src.fetch p ≡ Here i → IsWithin src (below p)

-- a function as it is read: block numbers differ, each item is its own origin, and each block's silent index is how many items it has
pub record IsRead (blocks : List Block) : Type 0 where
  pub apart : AreApart (ids_of blocks)
  pub items : All (λ b. (k : ℕ) (i : Item) → slice_get b.items k ≡ Some i → i.origin ≡ Kept (record { block = b.id; item = k })) blocks
  pub source_end : All (λ b. b.source_end ≡ length b.items) blocks
