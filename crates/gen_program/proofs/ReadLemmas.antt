-- The program of a generated function is as it was read.
use Rattle.std.proofs.Common.{◌≡◌, ℕ, ◌+◌, ◌<◌, ◌≤◌, ◌^◌, [], ◌∷◌, length, All, Option, Some, None, IfSome, refl, sym, ap, subst}
use Rattle.std.proofs.Common.{arith, lit<, lit≤}
use Rattle.std.specs.Prelude.{pos, negsuc, true, int_le, slice_get}
use Rattle.std.specs.Option.{option_and_then}
use Rattle.std.proofs.lemmas.Bool.{le-leb, and_from}
use Rattle.std.specs.Cmp.{nat_cmp_total}
use Rattle.std.specs.FinMap.{get-from_entries}
use Rattle.std.proofs.lemmas.List.Elements.{All-nil, All-cons, All-weaker}
use Rattle.rv64_instr.specs.declared.operand.Operand.{Operand}
use Rattle.rv64_instr.specs.Form.{has_12_bits}
use Rattle.read_metadata.specs.declared.node.LocationNode.{LocationNode}
use Rattle.read_metadata.specs.declared.node.Node.{Node}
use Rattle.read_metadata.specs.Maps.{Maps}
use Rattle.read_metadata.specs.Metadata.{metadata_of, location_at, as_location}
use Rattle.mir_func.specs.declared.block.Block.{Block}
use Rattle.mir_func.specs.declared.item.Item.{Item}
use Rattle.mir_func.specs.declared.item.ItemKind.{ItemKind}
use Rattle.mir_func.specs.declared.location.Loc.{Loc}
use Rattle.mir_func.specs.declared.location.Loc.TheVariants.{Absent}
use Rattle.mir_func.specs.declared.object.Object.{Object}
use Rattle.mir_func.specs.declared.position.Origin.TheVariants.{Kept}
use Rattle.mir_func.specs.Sound.{AllItems, HasForm}
use Rattle.mir_func.specs.SoundFrame.{IsPhysical, HasPhysical}
use Rattle.gen_function.specs.Generator.{generated}
use Rattle.gen_function.proofs.Sound.{generated_is_sound}
use Rattle.read_proof.specs.read_item.Debug.{inlined_at_node}
use Rattle.mir_exposure.specs.declared.exposure.Exposure.TheVariants.{Nothing}
use Rattle.read_proof.specs.read_program.declared.closing.Parsed.{Parsed}
use Rattle.read_proof.specs.read_program.declared.program.Program.{Program}
use Rattle.read_proof.specs.read_program.Limited.{IsLimited, KindIsLimited, LocIsLimited}
use Rattle.mir_printer.specs.Printable.{Declared, IsNumber, HasNumbers, IsAsDeclared, IsPrintable, IsPrintableKind, IsPrintableLoc}
use Rattle.base_ids.specs.Limits.{MAX_NUMBER}
use Rattle.read_proof.specs.Read.{declared_in, EntryIsLimited, IsObjectNumber, IsReadFunction, IsReadProgram}
use Rattle.gen_program.specs.Program.{generated_program}
use Rattle.gen_program.proofs.Made.{IsMade, adds, copies, gives, sets, stores, loads, phis, marks, branches, jumps, returns, IsMadeItem, IsMadeBlock}
use Rattle.gen_program.proofs.Made.{few_items}
use Rattle.gen_program.proofs.Steps.{TOP, generated_made, of_made}

-- ---- lists of operands

pub one : (P : Operand → Type 0) (a : Operand) → P a → All P (a ∷ [])
one P a p = All-cons P a [] p (All-nil P)

pub two : (P : Operand → Type 0) (a b : Operand) → P a → P b → All P (a ∷ b ∷ [])
two P a b p q = All-cons P a (b ∷ []) p (one P b q)

pub three : (P : Operand → Type 0) (a b c : Operand) → P a → P b → P c → All P (a ∷ b ∷ c ∷ [])
three P a b c p q r = All-cons P a (b ∷ c ∷ []) p (two P b c q r)

-- ---- items

-- a small constant has 12 bits
fits_12_bits : (n : ℕ) → n < 64 → has_12_bits (pos n) ≡ true
fits_12_bits n l = and_from (int_le (negsuc 2047) (pos n)) (int_le (pos n) (pos 2047)) refl (le-leb n 2047 (omega (arith, l)))

has_form_made : {top : ℕ} {kind : ItemKind} → IsMade top kind → HasForm kind
has_form_made (adds rd rs rt k a b c l) = refl
has_form_made (copies rd rs k a b l) = refl
has_form_made gives = refl
has_form_made (sets rd n k a l m) = and_from (has_12_bits (pos n)) true (fits_12_bits n l) refl
has_form_made (stores rs n a l) = refl
has_form_made (loads rd n k a l m) = refl
has_form_made (phis rs k a l) = tt
has_form_made (marks n k l m) = tt
has_form_made (branches rs n a l) = refl
has_form_made (jumps n l) = refl
has_form_made returns = refl

physical_made : {top : ℕ} {kind : ItemKind} → IsMade top kind → HasPhysical kind
physical_made (adds rd rs rt k a b c l) = three IsPhysical _ _ _ a.1 b.1 c.1
physical_made (copies rd rs k a b l) = two IsPhysical _ _ a.1 b.1
physical_made gives = two IsPhysical _ _ (lit< tt) (lit< tt)
physical_made (sets rd n k a l m) = three IsPhysical _ _ _ a.1 (lit< tt) tt
physical_made (stores rs n a l) = three IsPhysical _ _ _ a.1 tt tt
physical_made (loads rd n k a l m) = three IsPhysical _ _ _ a.1 tt tt
physical_made (phis rs k a l) = a.1
physical_made (marks n k l m) = tt
physical_made (branches rs n a l) = three IsPhysical _ _ _ a.1 (lit< tt) tt
physical_made (jumps n l) = one IsPhysical _ tt
physical_made returns = one IsPhysical _ (lit< tt)

-- numbers up to the greatest are within the limits
low : (n : ℕ) → n ≤ TOP → n ≤ MAX_NUMBER
low n l = omega (arith, l)

number : (n : ℕ) → n ≤ TOP → IsNumber n
number n l = omega (arith, l)

register_number : (r : ℕ) → r < 32 → IsNumber r
register_number r l = omega (arith, l)

slot_low : (n : ℕ) → n < 4 → n ≤ MAX_NUMBER
slot_low n l = omega (arith, l)

slot_number : (n : ℕ) → n < 4 → IsNumber n
slot_number n l = omega (arith, l)

node_low : (n : ℕ) → n < 4 → 10 + n ≤ MAX_NUMBER
node_low n l = omega (arith, l)

node_number : (n : ℕ) → n < 4 → IsNumber (10 + n)
node_number n l = omega (arith, l)

constant_signed : (n : ℕ) → n < 64 → n < 2 ^ 63
constant_signed n l = omega (arith, l)

zero_signed : 0 < 2 ^ 63
zero_signed = omega arith

-- a physical register is a register
below : (r : ℕ) → r < 32 → r < 4128
below r l = omega (arith, l)

limited_made : {kind : ItemKind} → IsMade TOP kind → KindIsLimited kind
limited_made (adds rd rs rt k a b c l) = (three IsLimited _ _ _ (below rd a.1) (below rs b.1) (below rt c.1), low k l)
limited_made (copies rd rs k a b l) = (two IsLimited _ _ (below rd a.1) (below rs b.1), low k l)
limited_made gives = (two IsLimited _ _ (lit< tt) (lit< tt), tt)
limited_made (sets rd n k a l m) = (three IsLimited _ _ _ (below rd a.1) (lit< tt) (constant_signed n l), low k m)
limited_made (stores rs n a l) = (three IsLimited _ _ _ (below rs a.1) (slot_low n l) zero_signed, tt)
limited_made (loads rd n k a l m) = (three IsLimited _ _ _ (below rd a.1) (slot_low n l) zero_signed, low k m)
limited_made (phis rs k a l) = ((a.0, below rs a.1), low k l)
limited_made (marks n k l m) = ((node_low n l, tt), (low k m, lit≤ tt))
limited_made (branches rs n a l) = (three IsLimited _ _ _ (below rs a.1) (lit< tt) (low n l), tt)
limited_made (jumps n l) = (one IsLimited _ (low n l), tt)
limited_made returns = (one IsLimited _ (lit< tt), tt)

module _ (meta : Maps) (number_of_it count : ℕ) where
  abbrev declared : Declared
  declared = declared_in meta (generated number_of_it count)

  abbrev As : Operand → Type 0
  As o = IsAsDeclared declared.objects o

  printable_made : {kind : ItemKind} → IsMade TOP kind → IsPrintableKind declared Absent kind
  printable_made (adds rd rs rt k a b c l) = (
    record {
      form = refl;
      numbers = three HasNumbers _ _ _ (register_number rd a.1) (register_number rs b.1) (register_number rt c.1);
      stack = λ f. three As _ _ _ tt tt tt;
    },
    number k l,
  )
  printable_made (copies rd rs k a b l) =
      (record { form = refl; numbers = two HasNumbers _ _ (register_number rd a.1) (register_number rs b.1); stack = λ f. two As _ _ tt tt }, number k l)
  printable_made gives = (record { form = refl; numbers = two HasNumbers _ _ (lit< tt) (lit< tt); stack = λ f. two As _ _ tt tt }, tt)
  printable_made (sets rd n k a l m) = (
    record {
      form = has_form_made (sets rd n k a l m);
      numbers = three HasNumbers _ _ _ (register_number rd a.1) (lit< tt) (constant_signed n l);
      stack = λ f. three As _ _ _ tt tt tt;
    },
    number k m,
  )
  printable_made (stores rs n a l) = (
    record {
      form = refl;
      numbers = three HasNumbers _ _ _ (register_number rs a.1) (slot_number n l) zero_signed;
      stack = λ f. three As _ _ _ tt refl tt;
    },
    tt,
  )
  printable_made (loads rd n k a l m) = (
    record {
      form = refl;
      numbers = three HasNumbers _ _ _ (register_number rd a.1) (slot_number n l) zero_signed;
      stack = λ f. three As _ _ _ tt refl tt;
    },
    number k m,
  )
  printable_made (phis rs k a l) = ((a.0, register_number rs a.1), number k l)
  printable_made (marks n k l m) = (record { node = node_number n l; inlined = refl; part = tt }, (number k m, lit< tt))
  printable_made (branches rs n a l) = (
    record {
      form = refl;
      numbers = three HasNumbers _ _ _ (register_number rs a.1) (lit< tt) (number n l);
      stack = λ f. three As _ _ _ tt tt tt;
    },
    tt,
  )
  printable_made (jumps n l) = (record { form = refl; numbers = one HasNumbers _ (number n l); stack = λ f. one As _ tt }, tt)
  printable_made returns = (record { form = refl; numbers = one HasNumbers _ (lit< tt); stack = λ f. one As _ tt }, tt)

  printable_item : (i : Item) → IsMadeItem TOP i → IsPrintable declared i
  printable_item i m = record {
    kind = subst (λ (l : Loc). IsPrintableKind declared l i.kind) (sym m.absent) (printable_made m.made);
    loc = subst IsPrintableLoc (sym m.absent) tt;
  }

-- ---- the function

all_slots : (P : ℕ → Type 0) → P 0 → P 1 → P 2 → P 3 → All P (0 ∷ 1 ∷ 2 ∷ 3 ∷ [])
all_slots P a b c d = All-cons P 0 (1 ∷ 2 ∷ 3 ∷ []) a (All-cons P 1 (2 ∷ 3 ∷ []) b (All-cons P 2 (3 ∷ []) c (All-cons P 3 [] d (All-nil P))))

block_low : (b : Block) → IsMadeBlock TOP b → b.id ≤ MAX_NUMBER
block_low b m = let l = m.low in omega (arith, l)

pub generated_is_read : (meta : Maps) (number count : ℕ) → 1 ≤ count → count ≤ 512 → IsReadFunction meta (generated number count)
generated_is_read meta number count some few =
    let f = generated number count in
    let made = generated_made number count few in
    let sound = generated_is_sound number count some few in
    let items = few_items count count (record { state = number; given = 0 }) (omega arith) in
    record {
      sound = sound;
      read = record {
        apart = sound.blocks_apart;
        items = All-weaker (IsMadeBlock TOP)
            (λ (b : Block). (k : ℕ) (i : Item) → slice_get b.items k ≡ Some i → i.origin ≡ Kept (record { block = b.id; item = k })) (λ b m. m.origins)
            f.blocks made;
        source_end = All-weaker (IsMadeBlock TOP) (λ (b : Block). b.source_end ≡ length b.items) (λ b m. m.source_end) f.blocks made;
      };
      form = of_made (λ i. HasForm i.kind) (λ i m. has_form_made m.made) number count few;
      limited = of_made (λ i. KindIsLimited i.kind × LocIsLimited i.loc) (λ i m. (limited_made m.made, subst LocIsLimited (sym m.absent) tt)) number
          count few;
      printable = of_made (IsPrintable (declared_in meta f)) (λ i m. printable_item meta number count i m) number count few;
      few_items = omega (arith, items, few);
      ids = All-weaker (IsMadeBlock TOP) (λ (b : Block). b.id ≤ MAX_NUMBER) block_low f.blocks made;
      objects = All-nil (λ (o : Object). IsObjectNumber o.id o.fixed_offset);
      slots = all_slots (λ n. n ≤ MAX_NUMBER) (lit≤ tt) (lit≤ tt) (lit≤ tt) (lit≤ tt);
    }

-- it has no virtual registers
pub generated_is_physical : (number count : ℕ) → count ≤ 512 → AllItems (λ i. HasPhysical i.kind) (generated number count).blocks
generated_is_physical number count few = of_made (λ i. HasPhysical i.kind) (λ i m. physical_made m.made) number count few

-- ---- the program

-- without metadata no node is a location
no_location : (n : ℕ) → location_at (metadata_of []) n ≡ None
unfolding metadata_of
no_location n = ap (λ (o : Option Node). option_and_then as_location o) (get-from_entries nat_cmp_total [] n)

pub generated_program_is_read : (number count : ℕ) → 1 ≤ count → count ≤ 512 → IsReadProgram (generated_program number count)
generated_program_is_read number count some few =
    let meta = metadata_of [] in
    let parsed : Parsed = record { func = generated number count; subs = []; pool = []; exposure = Nothing } in
    record {
      few = lit≤ tt;
      functions = All-cons (λ (f : Parsed). IsReadFunction meta f.func) parsed [] (generated_is_read meta number count some few)
          (All-nil (λ (f : Parsed). IsReadFunction meta f.func));
      substitutions = All-cons (λ (f : Parsed). All EntryIsLimited f.subs) parsed [] (All-nil EntryIsLimited)
          (All-nil (λ (f : Parsed). All EntryIsLimited f.subs));
      locations = λ n. subst (λ (o : Option LocationNode). IfSome (inlined_at_node o) (λ k. k ≤ MAX_NUMBER)) (sym (no_location n)) tt;
    }

-- so is a program that is this one
pub is_read : (p : Program) (number count : ℕ) → 1 ≤ count → count ≤ 512 → p ≡ generated_program number count → IsReadProgram p
is_read p number count some few same = subst IsReadProgram (sym same) (generated_program_is_read number count some few)
