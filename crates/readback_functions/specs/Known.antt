-- Invariants of a body that was read.
use Rattle.std.specs.Prelude.{◌≡◌, ℕ, ◌≤◌, Bool, true, false, ◌==◌, List, length, map, All, Contains, IfSome, Ok}
use Rattle.std.specs.List.{list_any}
use Rattle.std.specs.Option.{option_map_or}
use Rattle.read_metadata.specs.Maps.{Maps}
use Rattle.read_lexer.specs.declared.line.Line.{Line}
use Rattle.mir_func.specs.declared.item.ItemKind.{ItemKind}
use Rattle.mir_func.specs.Sound.{items_of, number_of}
use Rattle.read_line.specs.declared.form.BodyLine.TheVariants.{Item as OfItem}
use Rattle.read_line.specs.declared.form.ItemForm.{ItemForm}
use Rattle.read_line.specs.Body.{body_line_of}
use Rattle.read_item.specs.declared.judged.Judged.TheVariants as judged_as
use Rattle.read_item.specs.declared.judged.JudgedItem.{JudgedItem}
use Rattle.read_item.specs.Judge.{judged}
use Rattle.read_body.specs.declared.body.Body.{Body}
use Rattle.read_body.specs.Body.{constant_of, object_named, blocks_of}
use Rattle.read_body.specs.Limits.{MAX_VARIABLES, MAX_NUMBERS, MAX_CONSTANTS}
use Rattle.read_body.specs.FirstUseOrder.{is_met}
use Rattle.read_program.specs.BodyLines.{body_of}
use Rattle.readback_items.specs.Body.{VariableIn}

-- whether an item of this kind names this stack object
abbrev pub names : ℕ → ItemKind → Bool
names n kind = option_map_or (λ m. n == m) (object_named kind) false

-- one of the texts is a line that is read as an item of this kind
pub record IsOfLine (meta : Maps) (texts : List (List ℕ)) (kind : ItemKind) : Type 0 where
  pub text : List ℕ
  pub there : Contains texts text
  pub form : ItemForm
  pub says : body_line_of false text ≡ Ok (OfItem form)
  pub item : JudgedItem
  pub means : judged false meta form ≡ Ok (judged_as.Item item)
  pub is : item.kind ≡ kind

-- The invariants of a body: each item comes from a line, its recorded stack objects are exactly those that an item names, and all constants, debug
-- instruction numbers and variables of its items are recorded, within their limits.
pub record IsKnown (meta : Maps) (texts : List (List ℕ)) (body : Body) : Type 0 where
  pub each : All (λ i. IsOfLine meta texts i.kind) (items_of (blocks_of body))
  pub objects : (n : ℕ) → is_met n body.objects ≡ list_any (λ i. names n i.kind) (items_of (blocks_of body))
  pub constants : All (λ i. IfSome (constant_of i.kind) (λ k. is_met k body.constants ≡ true)) (items_of (blocks_of body))
  pub few : length body.constants ≤ MAX_CONSTANTS
  pub numbers : All (λ i. IfSome (number_of i.kind) (λ k. is_met k body.numbers ≡ true)) (items_of (blocks_of body))
  pub few_numbers : length body.numbers ≤ MAX_NUMBERS
  pub variables : All (λ i. VariableIn body.variables i.kind) (items_of (blocks_of body))
  pub few_variables : length body.variables ≤ MAX_VARIABLES

-- Every body that was read has these invariants.
abbrev pub BodiesAreKnown : Type 0
BodiesAreKnown = (meta : Maps) (lines : List Line) (body : Body) → body_of false meta lines ≡ Ok body → IsKnown meta (map (λ (l : Line). l.text) lines) body
