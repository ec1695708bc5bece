-- The properties of an output: of runs of its code, of its location lists, and of its layout.
use Rattle.std.specs.Prelude.{◌≡◌, ℕ, suc, ◌+◌, List, [], ◌∷◌, length, Option, Some, None, slice_get, map, All}
use Rattle.rv64_instr.specs.declared.place.Place.{Place}
use Rattle.mir_func.specs.declared.variable.VarId.{VarId}
use Rattle.mir_func.specs.Graph.{block_start}
use Rattle.mir_func.specs.Parts.{Bytes}
use Rattle.mir_func.specs.Resolve.{resolve}
use Rattle.mir_func.specs.Sound.{contents_of}
use Rattle.dwarf_loclists.specs.Grammar.{PlaceAt, PieceAt}
use Rattle.listing_meaning.specs.sem_machine.Headline.{Headline}
use Rattle.listing_meaning.specs.sem_machine.Exact.{AreExact}
use Rattle.frame_rule.specs.Rule.{framed_of}
use Rattle.listing_text.specs.declared.output.ListedFunction.{ListedFunction}
use Rattle.listing_text.specs.declared.output.ListedVariable.{ListedVariable}
use Rattle.listing_text.specs.declared.output.Output.{Output}
use Rattle.listing_meaning.specs.Program.{IsLaidOut as LinesLie, IsListedAt, image_of, program_shown, blocks_shown}
use Rattle.listing_meaning.specs.Listing.{object_listed}
use Rattle.listing_meaning.specs.Settled.{settled}
use Rattle.compile_theorem.specs.Source.{SourceFunction, PassedFunction, OfEach}
use Rattle.dwarf_unit.specs.Variables.{whole, variables_of_function}

-- ---- what its location lists say

-- List k of `.debug_loclists` has this place for a part of a variable at an address: for the whole variable (no fragment) as a simple location, for a
-- fragment as a piece with exactly the fragment's offset and length.
abbrev pub GivesPart : (section : List ℕ) → (list address : ℕ) → Option Bytes → Place → Type 0
GivesPart section k a None place = PlaceAt section k a (Some place)
GivesPart section k a (Some b) place = (n : ℕ) × PieceAt section k a n (Some (record { offset = b.offset; length = b.length; place = place }))

-- `.debug_loclists` has this place for a part of a variable at an address, in the list that is named by a listed variable of the function. That
-- listed variable is the whole variable.
pub record Gives (o : Output) (f : ListedFunction) (v : VarId) (address : ℕ) (place : Place) : Type 0 where
  pub number : ℕ
  pub line : ListedVariable
  pub stands : slice_get f.variables number ≡ Some line
  pub named : line.variable ≡ whole v
  pub given : GivesPart o.loclists line.list address v.fragment place

-- ---- layout of the listing

-- the listed variable with list number k; its name is that of its metadata node
abbrev pub variable_listed : (names : ℕ → List ℕ) → (k : ℕ) → VarId → ListedVariable
variable_listed names k v = record { list = k; variable = v; name = names v.node }

-- the listed variables, with list numbers k, k + 1, ..
abbrev pub variable_lines : (names : ℕ → List ℕ) → ℕ → List VarId → List ListedVariable
variable_lines names k [] = []
variable_lines names k (v ∷ vs) = variable_listed names k v ∷ variable_lines names (suc k) vs

-- The functions fill the addresses from a to b: each begins at the end of the previous one.
abbrev pub FunctionsLie : ℕ → List ListedFunction → ℕ → Type 0
FunctionsLie a [] b = a ≡ b
FunctionsLie a (f ∷ fs) b = (f.low ≡ a) × FunctionsLie f.high fs b

-- A listed function has its source's name and stack objects, and its lines fill its addresses in order.
pub record IsLaidOut (source : SourceFunction) (f : ListedFunction) : Type 0 where
  pub named : f.name ≡ source.function.name
  pub objects : f.objects ≡ map object_listed source.function.objects
  pub lines : LinesLie f

-- The listed variables are the variables of the sources with their names. List numbers count from k over all functions.
abbrev pub ListVariables : (names : ℕ → List ℕ) → (k : ℕ) → List SourceFunction → List ListedFunction → Type 0
ListVariables names k [] [] = Unit {0}
ListVariables names k [] (f ∷ fs) = ⊥
ListVariables names k (s ∷ ss) [] = ⊥
ListVariables names k (s ∷ ss) (f ∷ fs) =
    (f.variables ≡ variable_lines names k (variables_of_function s.function.blocks)) × ListVariables names (k + length f.variables) ss fs

-- Each listed function is laid out for its source, list numbers count from 0, and the functions fill `.text` from address 0.
pub record AreLaidOut (names : ℕ → List ℕ) (sources : List SourceFunction) (o : Output) : Type 0 where
  pub each : OfEach IsLaidOut sources o.functions
  pub variables : ListVariables names 0 sources o.functions
  pub functions : FunctionsLie 0 o.functions (length o.text)

-- ---- the properties

-- The headline for a source and its listed function: from every start, for every script of answers to calls and every number of steps, each time the
-- machine comes to a listed line, the source comes to the line's origin with the same events, unless it stops on a frame fault before. A return has
-- the same result and restores x1, x2 and the callee-saved registers, and each place in the location lists holds the value of the newest assignment.
-- The machine stops only where its run ends (in what is read: at a return), or where it waits for the answer of a call.
abbrev pub MeetsHeadline : Output → SourceFunction → ListedFunction → Type 0
MeetsHeadline o source f = Headline source.function (resolve source.substitutions) (image_of o f) (Gives o f)

-- The location lists are exact for a listed function: at the address of each byte of a line, a part of a variable has exactly the place that is
-- wanted at the line's position, and none exactly if none is wanted. Wanted places are defined by the value numbers over all paths of the function
-- that the lines show. At an address outside the function's lines there is no place.
abbrev pub IsExactFor : Output → ListedFunction → Type 0
IsExactFor o f = AreExact (program_shown f) (block_start 0) (IsListedAt f) (Gives o f)

-- the headline holds for each source and its listed function
abbrev pub Promises : List SourceFunction → Output → Type 0
Promises sources o = OfEach (MeetsHeadline o) sources o.functions

-- the location lists are exact for each listed function
abbrev pub IsExact : Output → Type 0
IsExact o = All (IsExactFor o) o.functions

-- The lines show the passed function with its frame, unchanged, and the listing has its substitutions. An address, a load or a store of a stack object
-- is shown relative to the last object that has its byte (see `settled`).
pub record ListsFramed (p : PassedFunction) (f : ListedFunction) : Type 0 where
  pub blocks : map contents_of (blocks_shown f) ≡ map contents_of (map (settled (framed_of p.function)) (framed_of p.function).blocks)
  pub substitutions : f.substitutions ≡ p.substitutions

-- The listed functions are exactly the passed functions with their frames, in order.
abbrev pub ListsPassed : List PassedFunction → Output → Type 0
ListsPassed functions o = OfEach ListsFramed functions o.functions
