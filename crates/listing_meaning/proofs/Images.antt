-- The image of a listing: line by line it is that of the layout.
use Rattle.std.proofs.Common.{◌≡◌, ℕ, suc, ◌+◌, max, ℤ, pos, negsuc, arith, true, false, List, [], ◌∷◌, ◌++◌, Option, Some, None, refl, ap, sym, ◌∙◌, subst}
use Rattle.std.specs.Prelude.{map, All}
use Rattle.std.specs.List.{flat_map, list_all}
use Rattle.std.proofs.lemmas.Bool.{and_parts}
use Rattle.std.proofs.lemmas.Grind.{flat_map-append}
use Rattle.std.proofs.lemmas.List.{map-append}
use Rattle.std.proofs.lemmas.List.Elements.{All-head, All-tail}
use Rattle.rv64_instr.specs.declared.op.Op.{Op}
use Rattle.rv64_instr.specs.declared.op.Op.TheVariants.{Branch}
use Rattle.rv64_instr.specs.declared.op.BranchOp.{BranchOp}
use Rattle.rv64_instr.specs.declared.operand.Operand.{Operand}
use Rattle.rv64_instr.specs.declared.operand.Operand.TheVariants.{Use, Imm, Block as OfBlock, ImplicitDef, ImplicitUse}
use Rattle.rv64_instr.specs.Form.{is_implicit}
use Rattle.rv64_instr.specs.Instruction.{Instruction}
use Rattle.rv64_instr.specs.Inverse.{inverse}
use Rattle.mir_func.specs.declared.block.Block.{Block}
use Rattle.mir_func.specs.declared.item.Item.{Item}
use Rattle.mir_func.specs.declared.item.ItemKind.{ItemKind}
use Rattle.mir_func.specs.declared.item.ItemKind.TheVariants.{Code, Mark, Phi}
use Rattle.mir_func.specs.declared.object.Object.{Object}
use Rattle.mir_func.specs.Objects.{area_of, end_from, own_end, up_to, depth_of, depth_from, IsFixedAt}
use Rattle.mir_func.specs.Sound.{AllItems, HasForm}
use Rattle.machine_steps_proof.specs.sem_machine.Image.{CodeLine}
use Rattle.emit_code.specs.LongBranch.{jump_to}
use Rattle.emit_code.specs.Listed.{Line as LaidLine, form_lines as laid_form, kind_lines as laid_kind, lines_at as laid_lines}
use Rattle.emit_code.specs.Rule.{Layout, Site, Form, LongBranch, form_of, address_in, added_before, sites_in, sites_from}
use Rattle.emit_code.specs.steps.Emitted.{IsFormed}
use Rattle.machine_steps_proof.specs.Images.{code_line}
use Rattle.listing_text.specs.Output.{operand_of}
use Rattle.listing_meaning.specs.Frame.{end_at, end_of, depth_at, deepest, area_shown, offset_at, object_shown}
use Rattle.listing_meaning.specs.Program.{code_lines}
use Rattle.listing_meaning.specs.Listing.{implicits, branch_skip, line_at, form_lines, kind_lines, site_lines, items_listed, blocks_listed, object_listed}
use Rattle.listing_meaning.specs.Listing.{place_listed, prologue_listed, body_listed}
use Rattle.listing_meaning.specs.Settled.{object_placed}
use Rattle.listing_meaning.specs.Laws.{ListingsShowTheImage}
use Rattle.listing_meaning.proofs.Forms.{FormView, one, call, long, viewed}

-- ---- implicit operands stay

implicit_more : (o : Operand) (os : List Operand) → is_implicit o ≡ true → map operand_of (implicits os) ≡ os → map operand_of (implicits (o ∷ os)) ≡ o ∷ os
implicit_more (ImplicitDef r) os is more = ap (λ (t : List Operand). ImplicitDef r ∷ t) more
implicit_more (ImplicitUse r) os is more = ap (λ (t : List Operand). ImplicitUse r ∷ t) more
implicit_more o os is more = absurd cc

pub implicits_stay : (os : List Operand) → list_all is_implicit os ≡ true → map operand_of (implicits os) ≡ os
implicits_stay [] all = refl
implicits_stay (o ∷ os) all =
    let both = and_parts (is_implicit o) (list_all is_implicit os) all in
    implicit_more o os both.0 (implicits_stay os both.1)

-- ---- a line, or two

module _ (l : Layout) where
  abbrev LongAlike : (a : ℕ) (i : Item) (k : Option ℕ) (n : ℕ) → Op → List Operand → Type 0
  LongAlike a i k n op os = flat_map code_lines (branch_skip a i.origin op os ++ line_at (Some (a + 4)) i (Code (jump_to n) k) ∷ []) ≡
      map code_line (laid_form l.framed a i.origin (record { op = op; operands = os; volatile = false }) (LongBranch n))

  long_alike : (a : ℕ) (i : Item) (k : Option ℕ) (b : BranchOp) (x y n m : ℕ) (rest : List Operand) → list_all is_implicit rest ≡ true →
      LongAlike a i k m (Branch b) (Use x ∷ Use y ∷ OfBlock n ∷ rest)
  long_alike a i k b x y n m rest all = ap (λ (os : List Operand). record {
    address = a;
    origin = added_before i.origin;
    instruction = record { op = Branch (inverse b); operands = Use x ∷ Use y ∷ Imm (pos 8) ∷ os; volatile = false };
  } ∷ record { address = a + 4; origin = i.origin; instruction = jump_to m } ∷ []) (implicits_stay rest all)

  form_alike : (a : ℕ) (i : Item) (c : Instruction) (k : Option ℕ) (f : Form) → FormView c.op c.operands f →
      flat_map code_lines (form_lines l a i c k f) ≡ map code_line (laid_form l.framed a i.origin c f)
  form_alike a i c k f one = refl
  form_alike a i c k f (call name os os_is op_is) = refl
  form_alike a i c k f (long b x y n rest op_is os_is all) =
      subst (λ (op : Op). LongAlike a i k n op c.operands) (sym op_is)
      (subst (λ (os : List Operand). LongAlike a i k n (Branch b) os) (sym os_is) (long_alike a i k b x y n n rest all))

  kind_alike : (s : Site) (kind : ItemKind) → HasForm kind → flat_map code_lines (kind_lines l s kind) ≡ map code_line (laid_kind l s kind)
  kind_alike s (Code c k) form =
      form_alike (address_in l s.point) s.item c k (form_of (l.long s.point) (Code c k)) (viewed (l.long s.point) c.op c.operands form)
  kind_alike s (Mark v m) form = refl
  kind_alike s (Phi p k) form = refl

  -- ---- all of them

  items_alike : (b n : ℕ) (items : List Item) → All IsFormed items →
      flat_map code_lines (flat_map (site_lines l) (sites_in b n items)) ≡ map code_line (flat_map (laid_lines l) (sites_in b n items))
  items_alike b n [] all = refl
  items_alike b n (i ∷ items) all =
      let s : Site = record { point = record { block = b; item = n }; item = i } in
      flat_map-append code_lines (site_lines l s) (flat_map (site_lines l) (sites_in b (suc n) items)) ∙
      (ap (λ (t : List CodeLine). t ++ flat_map code_lines (flat_map (site_lines l) (sites_in b (suc n) items))) (kind_alike s i.kind
      (All-head IsFormed i items all)) ∙
      (ap (λ (t : List CodeLine). map code_line (laid_lines l s) ++ t) (items_alike b (suc n) items (All-tail IsFormed i items all)) ∙
      sym (map-append code_line (laid_lines l s) (flat_map (laid_lines l) (sites_in b (suc n) items)))))

  pub blocks_alike : (b : ℕ) (blocks : List Block) → AllItems IsFormed blocks →
      flat_map code_lines (flat_map (λ listed. listed.lines) (blocks_listed l b blocks)) ≡ map code_line (flat_map (laid_lines l) (sites_from b blocks))
  blocks_alike b [] all = refl
  blocks_alike b (block ∷ blocks) all =
      let first = items_listed l b block.items in
      let rest = flat_map (λ listed. listed.lines) (blocks_listed l (suc b) blocks) in
      let others = flat_map (laid_lines l) (sites_from (suc b) blocks) in
      flat_map-append code_lines first rest ∙
      (ap (λ (t : List CodeLine). t ++ flat_map code_lines rest) (items_alike b 0 block.items (All-head (λ x. All IsFormed x.items) block blocks all)) ∙
      (ap (λ (t : List CodeLine). map code_line (flat_map (laid_lines l) (sites_in b 0 block.items)) ++ t)
      (blocks_alike (suc b) blocks (All-tail (λ x. All IsFormed x.items) block blocks all)) ∙
      (sym (map-append code_line (flat_map (laid_lines l) (sites_in b 0 block.items)) others) ∙
      ap (λ (t : List LaidLine). map code_line t) (sym (flat_map-append (laid_lines l) (sites_in b 0 block.items) (sites_from (suc b) blocks))))))

  whole_alike : (blocks : List Block) → AllItems IsFormed blocks →
      flat_map code_lines (prologue_listed l blocks ++ flat_map (λ listed. listed.lines) (body_listed l blocks)) ≡
      map code_line (flat_map (laid_lines l) (sites_from 0 blocks))
  whole_alike [] all = refl
  whole_alike (p ∷ blocks) all = blocks_alike 0 (p ∷ blocks) all

end_alike : (n : ℕ) (o : Object) (fixed : Option ℤ) → end_at n o.size (place_listed o.offset fixed) ≡ own_end n o fixed
end_alike n o None = refl
end_alike n o (Some d) = refl

ends_alike : (n : ℕ) (objects : List Object) → end_of n (map object_listed objects) ≡ end_from n objects
ends_alike n [] = refl
ends_alike n (o ∷ objects) =
    ap (λ (m : ℕ). end_of m (map object_listed objects)) (end_alike n o o.fixed_offset) ∙ ends_alike (own_end n o o.fixed_offset) objects

depth_alike : (offset : ℕ) (fixed : Option ℤ) → depth_at (place_listed offset fixed) ≡ depth_of fixed
depth_alike offset None = refl
depth_alike offset (Some d) = refl

depths_alike : (n : ℕ) (objects : List Object) → deepest n (map object_listed objects) ≡ depth_from n objects
depths_alike n [] = refl
depths_alike n (o ∷ objects) =
    ap (λ (m : ℕ). deepest (max n m) (map object_listed objects)) (depth_alike o.offset o.fixed_offset) ∙ depths_alike (max n (depth_of o.fixed_offset)) objects

pub areas_alike : (objects : List Object) → area_shown (map object_listed objects) ≡ area_of objects
areas_alike objects = λ k. up_to 16 (ends_alike 0 objects k) + up_to 16 (depths_alike 0 objects k)

offset_alike : (area offset : ℕ) (fixed : Option ℤ) → IsFixedAt area offset fixed → offset_at area (place_listed offset fixed) ≡ offset
offset_alike area offset None is = refl
offset_alike area offset (Some (pos n)) is = sym is
offset_alike area offset (Some (negsuc n)) is = omega (arith, is)

-- objects that are where they must be are shown with their offsets
pub objects_alike : (area : ℕ) (objects : List Object) → All (λ o. IsFixedAt area o.offset o.fixed_offset) objects →
    map (object_shown area) (map object_listed objects) ≡ map object_placed objects
objects_alike area [] is = refl
objects_alike area (o ∷ objects) is =
    let here = offset_alike area o.offset o.fixed_offset (All-head (λ (x : Object). IsFixedAt area x.offset x.fixed_offset) o objects is) in
    let rest = objects_alike area objects (All-tail (λ (x : Object). IsFixedAt area x.offset x.fixed_offset) o objects is) in
    λ k. record { id = o.id; size = o.size; offset = here k } ∷ rest k

pub image_shown : ListingsShowTheImage
image_shown l variables substitutions o more formed text = record {
  low = refl;
  area = areas_alike l.framed.objects;
  more = more;
  text = text;
  lines = whole_alike l l.framed.blocks formed;
}
