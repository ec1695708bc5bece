-- The lines of the variables of a function that was read are printable, and there are few of them.
use Rattle.std.proofs.Common.{◌≡◌, ℕ, suc, ◌+◌, ◌<◌, ◌≤◌, ◌^◌, Bool, true, false, cond, List, [], ◌∷◌, ◌++◌, length, All, Option, Some, None}
use Rattle.std.proofs.Common.{refl, sym, subst, arith}
use Rattle.std.specs.Prelude.{IfSome}
use Rattle.std.specs.List.{flat_map, list_any}
use Rattle.std.proofs.lemmas.List.{length-append}
use Rattle.std.proofs.lemmas.List.Elements.{All-nil, All-cons, All-head, All-tail, All-append, All-push}
use Rattle.read_metadata.specs.Maps.{Maps}
use Rattle.read_metadata.specs.Metadata.{location_at}
use Rattle.mir_func.specs.declared.block.Block.{Block}
use Rattle.mir_func.specs.declared.item.Item.{Item}
use Rattle.mir_func.specs.declared.item.ItemKind.{ItemKind}
use Rattle.mir_func.specs.declared.item.ItemKind.TheVariants.{Code, Mark, Phi}
use Rattle.mir_func.specs.declared.location.Loc.{Loc}
use Rattle.mir_func.specs.declared.location.Loc.TheVariants.{Absent, Node, Inline}
use Rattle.mir_func.specs.declared.variable.VarId.{VarId}
use Rattle.mir_func.specs.Function.{Function}
use Rattle.mir_func.specs.Sound.{AllItems, items_of}
use Rattle.mir_func.specs.Variables.{is_same_variable}
use Rattle.base_ids.specs.Limits.{MAX_NUMBER}
use Rattle.read_program.specs.Limited.{KindIsLimited, LocIsLimited}
use Rattle.mir_printer.specs.Printable.{Declared, IsNumber, IsPrintable, IsPrintableKind, inlined_at}
use Rattle.listing_text.specs.Shown.{IsPrintableVariable}
use Rattle.compile_program.specs.compile_theorem.OutputProperties.{variable_listed, variable_lines}
use Rattle.compile_program.specs.read_proof.Read.{declared_in, LocationsAreLimited, IsReadFunction}
use Rattle.dwarf_line_table.specs.Files.{with_new, first_uses}
use Rattle.compile_program.specs.dwarf_unit.Variables.{whole, marked, marks_of, variables_of_function}
use Rattle.read_item.specs.Debug.{inlined_at_node}

-- ---- first uses

module _ {X : Type 0} (is : X → X → Bool) where
  new_kept : (P : X → Type 0) (b : Bool) (known : List X) (x : X) → All P known → P x → All P (cond b known (known ++ x ∷ []))
  new_kept P true known x all p = all
  new_kept P false known x all p = All-push P known x all p

  uses_kept : (P : X → Type 0) (known xs : List X) → All P known → All P xs → All P (first_uses is known xs)
  uses_kept P known [] all new = all
  uses_kept P known (x ∷ xs) all new = uses_kept P (with_new is known x) xs
      (new_kept P (list_any (is x) known) known x all (All-head P x xs new)) (All-tail P x xs new)

  new_count : (b : Bool) (known : List X) (x : X) → length (cond b known (known ++ x ∷ [])) ≤ length known + 1
  new_count true known x = omega arith
  new_count false known x = omega (arith, length-append known (x ∷ []))

  uses_count : (known xs : List X) → length (first_uses is known xs) ≤ length known + length xs
  uses_count known [] = omega arith
  uses_count known (x ∷ xs) =
      let rest = uses_count (with_new is known x) xs in
      let one = new_count (list_any (is x) known) known x in
      omega (arith, rest, one)

-- ---- how many

marked_count : (kind : ItemKind) → length (marked kind) ≤ 1
marked_count (Mark v m) = omega arith
marked_count (Code i k) = omega arith
marked_count (Phi p k) = omega arith

marks_count : (items : List Item) → length (marks_of items) ≤ length items
marks_count [] = omega arith
marks_count (i ∷ items) =
    let one = marked_count i.kind in
    let rest = marks_count items in
    let both = length-append (marked i.kind) (marks_of items) in
    omega (arith, one, rest, both)

blocks_count : (bs : List Block) → length (flat_map (λ b. marks_of b.items) bs) ≤ length (items_of bs)
blocks_count [] = omega arith
blocks_count (b ∷ bs) =
    let one = marks_count b.items in
    let rest = blocks_count bs in
    let marks = length-append (marks_of b.items) (flat_map (λ x. marks_of x.items) bs) in
    let items = length-append b.items (items_of bs) in
    omega (arith, one, rest, marks, items)

-- a function has no more variables than items
pub few_variables : (bs : List Block) → length (variables_of_function bs) ≤ length (items_of bs)
few_variables bs =
    let uses = uses_count is_same_variable [] (flat_map (λ b. marks_of b.items) bs) in
    let marks = blocks_count bs in
    omega (arith, uses, marks)

-- ---- their numbers

record IsSmall (v : VarId) : Type 0 where
  node : IsNumber v.node
  inlined_at : IfSome v.inlined_at IsNumber
  whole : v.fragment ≡ None

number : (n : ℕ) → n ≤ MAX_NUMBER → IsNumber n
number n small = omega (arith, small)

may_number : (n : Option ℕ) → IfSome n (λ k. k ≤ MAX_NUMBER) → IfSome n IsNumber
may_number None small = tt
may_number (Some n) small = number n small

module _ (meta : Maps) (f : Function) (locations : LocationsAreLimited meta) where
  abbrev declared : Declared
  declared = declared_in meta f

  inlined_small : (loc : Loc) → LocIsLimited loc → IfSome (inlined_at declared.inlined loc) IsNumber
  inlined_small Absent small = tt
  inlined_small (Node n) small = may_number (inlined_at_node (location_at meta n)) (locations n)
  inlined_small (Inline l) small = may_number l.inlined_at small.3

  marked_small : (loc : Loc) (kind : ItemKind) → KindIsLimited kind → LocIsLimited loc → IsPrintableKind declared loc kind → All IsSmall (marked kind)
  marked_small loc (Mark v m) small at told = All-cons IsSmall (whole v) [] (record {
    node = number v.node small.0.0;
    inlined_at = subst (λ (n : Option ℕ). IfSome n IsNumber) (sym told.0.inlined) (inlined_small loc at);
    whole = refl;
  }) (All-nil IsSmall)
  marked_small loc (Code i k) small at told = All-nil IsSmall
  marked_small loc (Phi p k) small at told = All-nil IsSmall

  abbrev Limited : Item → Type 0
  Limited i = KindIsLimited i.kind × LocIsLimited i.loc

  items_small : (items : List Item) → All Limited items → All (IsPrintable declared) items → All IsSmall (marks_of items)
  items_small [] small told = All-nil IsSmall
  items_small (i ∷ items) small told =
      let here = All-head Limited i items small in
      All-append IsSmall (marked i.kind) (marks_of items) (marked_small i.loc i.kind here.0 here.1 (All-head (IsPrintable declared) i items told).kind)
      (items_small items (All-tail Limited i items small) (All-tail (IsPrintable declared) i items told))

  blocks_small : (bs : List Block) → AllItems Limited bs → AllItems (IsPrintable declared) bs → All IsSmall (flat_map (λ b. marks_of b.items) bs)
  blocks_small [] small told = All-nil IsSmall
  blocks_small (b ∷ bs) small told =
      All-append IsSmall (marks_of b.items) (flat_map (λ x. marks_of x.items) bs)
      (items_small b.items (All-head (λ (x : Block). All Limited x.items) b bs small) (All-head (λ (x : Block). All (IsPrintable declared) x.items) b bs told))
      (blocks_small bs (All-tail (λ (x : Block). All Limited x.items) b bs small) (All-tail (λ (x : Block). All (IsPrintable declared) x.items) b bs told))

  -- ---- their lines

  lines_printable : (names : ℕ → List ℕ) (k : ℕ) (vs : List VarId) → k + length vs < 2 ^ 32 → All IsSmall vs →
      All IsPrintableVariable (variable_lines names k vs)
  lines_printable names k [] few all = All-nil IsPrintableVariable
  lines_printable names k (v ∷ vs) few all =
      let here = All-head IsSmall v vs all in
      All-cons IsPrintableVariable (variable_listed names k v) (variable_lines names (suc k) vs)
      (record { list = omega (arith, few); node = here.node; inlined_at = here.inlined_at; whole = here.whole })
      (lines_printable names (suc k) vs (omega (arith, few)) (All-tail IsSmall v vs all))

  -- the lines of the variables of a function that was read, whose lists are numbered from a number on
  pub variables_printable : IsReadFunction meta f → (names : ℕ → List ℕ) (first : ℕ) → first + length (items_of f.blocks) < 2 ^ 32 →
      All IsPrintableVariable (variable_lines names first (variables_of_function f.blocks))
  variables_printable read names first few =
      let no_more = few_variables f.blocks in
      lines_printable names first (variables_of_function f.blocks) (omega (arith, few, no_more))
      (uses_kept is_same_variable IsSmall [] (flat_map (λ b. marks_of b.items) f.blocks) (All-nil IsSmall)
      (blocks_small f.blocks read.limited read.printable))
