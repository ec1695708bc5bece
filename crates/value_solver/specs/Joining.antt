-- The values at a block's end, and the join of those of all predecessors.
use Rattle.std.specs.Prelude.{◌≡◌, ℕ, zero, suc, ◌+◌, ◌*◌, ◌<◌, ◌≤◌, List, [], ◌∷◌, length, slice_index, slice_index_or, Bool, true, false, cond, not, nat_eq}
use Rattle.std.specs.List.{list_all}
use Rattle.value_solver.specs.declared.entry.BlockEntry.{BlockEntry}
use Rattle.value_solver.specs.declared.flow.Source.{Source}
use Rattle.value_solver.specs.declared.flow.Source.TheVariants.{Was, New, Nameless}
use Rattle.value_solver.specs.declared.flow.Change.{Change}
use Rattle.value_solver.specs.Numbering.{class_in, IsNumbered}

-- the source of an entity's token after a list of changes, the last of which counts
abbrev pub source_from : Source → List Change → (i : ℕ) → Source
source_from s [] i = s
source_from s (c ∷ cs) i = source_from (cond (nat_eq c.thing i) c.source s) cs i

-- the source for an entity by its number: 0 is no entity, and i + 1 the entity with index i
abbrev pub source_at : List Change → ℕ → Source
source_at cs zero = Nameless
source_at cs (suc i) = source_from (Was i) cs i

-- the class at a block's end by its source. A new token has a class above n, an upper bound of the entry's classes
abbrev pub class_past : (n : ℕ) → List ℕ → Source → ℕ
class_past n cs (Was j) = slice_index cs j
class_past n cs (New k r) = n + 1 + 4128 * k + r
class_past n cs Nameless = 0

-- whether an entity has a token at a block's end on each path: a new one, or that of an entity whose bit is set in the entry
abbrev pub bit_past : List Bool → Source → Bool
bit_past gs (Was j) = slice_index_or gs j false
bit_past gs (New k r) = true
bit_past gs Nameless = false

-- what a block propagates: its entry, with its changes applied
pub record Hand : Type 0 where
  pub entry : BlockEntry
  pub changes : List Change

-- the class at the end of a block, of an entity by its number
abbrev pub hand_class : Hand → ℕ → ℕ
hand_class h x = class_past (length h.entry.classes) h.entry.classes (source_at h.changes x)

-- the bit at the end of a block, of the entity with this index
abbrev pub hand_bit : Hand → (i : ℕ) → Bool
hand_bit h i = bit_past h.entry.given (source_from (Was i) h.changes i)

-- two entities, by their numbers, have the same class at the end of the block
abbrev pub agree : (x y : ℕ) → Hand → Bool
agree x y h = nat_eq (hand_class h x) (hand_class h y)

-- two entities, by their numbers, have the same class in an entry
abbrev pub alike : BlockEntry → (x y : ℕ) → Bool
alike e x y = nat_eq (class_in e.classes x) (class_in e.classes y)

-- a source in range: an entity below n, or a register below 4128
abbrev pub SourceWithin : ℕ → Source → Type 0
SourceWithin n (Was j) = j < n
SourceWithin n (New k r) = r < 4128
SourceWithin n Nameless = Unit {0}

-- changes of entities below n, each with a source in range
abbrev pub AreWithin : ℕ → List Change → Type 0
AreWithin n [] = Unit {0}
AreWithin n (c ∷ cs) = (c.thing < n) × SourceWithin n c.source × AreWithin n cs

-- a well-formed entry over n tracked entities
pub record IsKnown (n : ℕ) (e : BlockEntry) : Type 0 where
  pub classes : length e.classes ≡ n
  pub bits : length e.given ≡ n
  -- class numbers are at most n
  pub few : (i : ℕ) → slice_index e.classes i ≤ n
  -- an entity with class 0 has its bit unset
  pub off : (i : ℕ) → slice_index e.classes i ≡ 0 → slice_index_or e.given i false ≡ false

-- the computed values at a block's end: the classes and the bits
pub record IsPast (h : Hand) (classes : List ℕ) (given : List Bool) : Type 0 where
  pub long : length classes ≡ length h.entry.classes
  pub bits : length given ≡ length h.entry.classes
  pub class : (x : ℕ) → class_in classes x ≡ hand_class h x
  pub bit : (i : ℕ) → slice_index_or given i false ≡ hand_bit h i

-- the join of what is propagated: two entities have the same class if and only if they do in each, and a bit is set if and only
-- if it is set in each
pub record IsJoin (n : ℕ) (hands : List Hand) (e : BlockEntry) : Type 0 where
  pub classes : length e.classes ≡ n
  pub bits : length e.given ≡ n
  pub reached : e.reached ≡ not (nat_eq (length hands) 0)
  pub one : (x y : ℕ) → alike e x y ≡ list_all (agree x y) hands
  pub bit : (i : ℕ) → i < n → slice_index_or e.given i false ≡ list_all (λ h. hand_bit h i) hands
  pub numbered : (m : ℕ) × IsNumbered 1 e.classes m

-- the entry while hands are joined: their join, or an unreached entry while there is none
pub record IsJoined (n : ℕ) (hands : List Hand) (e : BlockEntry) : Type 0 where
  pub some : e.reached ≡ true → IsJoin n hands e
  pub none : e.reached ≡ false → hands ≡ []
