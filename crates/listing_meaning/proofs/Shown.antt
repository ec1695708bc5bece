-- The lines of a listing show the items that were laid out, line by line and block by block.
use Rattle.std.proofs.Common.{◌≡◌, ℕ, suc, ◌+◌, true, List, [], ◌∷◌, ◌++◌, Option, Some, None, refl, ap, sym, ◌∙◌}
use Rattle.std.proofs.Common.{Bool, false, subst}
use Rattle.std.specs.Prelude.{map, All}
use Rattle.std.specs.List.{flat_map, list_all}
use Rattle.std.proofs.lemmas.List.Elements.{All-head, All-tail}
use Rattle.rv64_instr.specs.declared.op.Op.{Op}
use Rattle.rv64_instr.specs.declared.op.Op.TheVariants.{Branch}
use Rattle.rv64_instr.specs.declared.op.BranchOp.{BranchOp}
use Rattle.rv64_instr.specs.declared.op.BranchOp.TheVariants.{Beq}
use Rattle.rv64_instr.specs.declared.operand.Operand.{Operand}
use Rattle.rv64_instr.specs.declared.operand.Operand.TheVariants.{Use, Block as OfBlock}
use Rattle.rv64_instr.specs.Instruction.{Instruction, is_volatile_load}
use Rattle.rv64_instr.specs.Form.{is_implicit}
use Rattle.rv64_instr.specs.Inverse.{inverse}
use Rattle.mir_func.specs.declared.block.Block.{Block}
use Rattle.mir_func.specs.declared.item.Item.{Item}
use Rattle.mir_func.specs.declared.item.ItemKind.{ItemKind}
use Rattle.mir_func.specs.declared.item.ItemKind.TheVariants.{Code, Mark, Phi}
use Rattle.mir_func.specs.Sound.{SlotsIn, ObjectsIn, HasForm, contents_of}
use Rattle.mir_func.specs.SoundFrame.{slot_offsets, IsFramed}
use Rattle.emit_code.specs.LongBranch.{jump_to}
use Rattle.emit_code.specs.Listed.{listed}
use Rattle.emit_code.specs.Rule.{Layout, Site, Form, form_of, address_in, sites_in}
use Rattle.listing_text.specs.declared.output.Line.{Line}
use Rattle.listing_text.specs.Output.{operand_of}
use Rattle.listing_meaning.specs.Frame.{raised}
use Rattle.listing_meaning.specs.Program.{items_shown, block_shown}
use Rattle.listing_meaning.specs.Listing.{implicits, branch_skip, line_at, form_lines, kind_lines, site_lines, blocks_listed}
use Rattle.listing_meaning.specs.Settled.{frame_of, settled_kind, settled_item, settled}
use Rattle.listing_meaning.proofs.Forms.{FormView, one, call, long, viewed}
use Rattle.listing_meaning.proofs.Images.{implicits_stay}
use Rattle.listing_meaning.proofs.Operands.{IsSteady, operands_back}

abbrev pub SteadyKind : ItemKind → Type 0
SteadyKind (Code c k) = IsSteady c.op c.operands
SteadyKind (Mark v m) = Unit {0}
SteadyKind (Phi p k) = Unit {0}

twice : (b : BranchOp) → inverse (inverse b) ≡ b
twice Beq = refl
twice _ = refl

module _ (l : Layout) (framed : IsFramed l.framed) where
  -- what is known of an item of the function
  pub record Good (i : Item) : Type 0 where
    pub form : HasForm i.kind
    pub steady : SteadyKind i.kind
    pub slots : SlotsIn (slot_offsets l.framed) i.kind
    pub objects : ObjectsIn l.framed.objects i.kind

  raised_back : (c : Instruction) (k : Option ℕ) → HasForm (Code c k) → IsSteady c.op c.operands → SlotsIn (slot_offsets l.framed) (Code c k) →
      ObjectsIn l.framed.objects (Code c k) → raised (frame_of l.framed) (Code (listed l.framed c) k) ≡ settled_kind l.framed (Code c k)
  raised_back c k form steady slots objects =
      ap (λ (os : List Operand). Code (record { op = c.op; operands = os; volatile = is_volatile_load c }) k) (operands_back l.framed framed c.op c.operands form steady slots.0 objects)

  -- ---- one item

  abbrev LongShown : (a : ℕ) (i : Item) (k : Option ℕ) (n : ℕ) (rest : List Line) (volatile : Bool) → Op → List Operand → Type 0
  LongShown a i k n rest volatile op os = items_shown (frame_of l.framed) None (branch_skip a i.origin op os ++ line_at (Some (a + 4)) i (Code
      (jump_to n) k) ∷ [] ++ rest) ≡
      record i { kind = settled_kind l.framed (Code (record { op = op; operands = os; volatile = volatile }) k) } ∷ items_shown (frame_of l.framed) None rest

  long_shown : (a : ℕ) (i : Item) (k : Option ℕ) (rest : List Line) (volatile : Bool) (b : BranchOp) (x y n : ℕ) (os : List Operand) → list_all is_implicit os ≡ true →
      LongShown a i k n rest volatile (Branch b) (Use x ∷ Use y ∷ OfBlock n ∷ os)
  long_shown a i k rest volatile b x y n os all =
      ap (λ (o : BranchOp). record i { kind = Code (record { op = Branch o; operands = Use x ∷ Use y ∷ OfBlock n ∷ map operand_of (implicits os); volatile = false }) k } ∷
      items_shown (frame_of l.framed) None rest) (twice b) ∙
      ap (λ (ps : List Operand). record i { kind = Code (record { op = Branch b; operands = Use x ∷ Use y ∷ OfBlock n ∷ ps; volatile = false }) k } ∷
      items_shown (frame_of l.framed) None rest) (implicits_stay os all)

  form_shown : (a : ℕ) (i : Item) (c : Instruction) (k : Option ℕ) (rest : List Line) (f : Form) → FormView c.op c.operands f →
      raised (frame_of l.framed) (Code (listed l.framed c) k) ≡ settled_kind l.framed (Code c k) →
      items_shown (frame_of l.framed) None (form_lines l a i c k f ++ rest) ≡ record i { kind = settled_kind l.framed (Code c k) } ∷
      items_shown (frame_of l.framed) None rest
  form_shown a i c k rest f one back = ap (λ (kind : ItemKind). record i { kind = kind } ∷ items_shown (frame_of l.framed) None rest) back
  form_shown a i c k rest f (call name os os_is op_is) back =
      ap (λ (kind : ItemKind). record i { kind = kind } ∷ items_shown (frame_of l.framed) None rest) back
  form_shown a i c k rest f (long b x y n os op_is os_is all) back =
      subst (λ (op : Op). LongShown a i k n rest c.volatile op c.operands) (sym op_is)
      (subst (λ (ps : List Operand). LongShown a i k n rest c.volatile (Branch b) ps) (sym os_is) (long_shown a i k rest c.volatile b x y n os all))

  kind_shown_first : (s : Site) (kind : ItemKind) (rest : List Line) → HasForm kind → SteadyKind kind → SlotsIn (slot_offsets l.framed) kind →
      ObjectsIn l.framed.objects kind →
      items_shown (frame_of l.framed) None (kind_lines l s kind ++ rest) ≡ record s.item { kind = settled_kind l.framed kind } ∷
      items_shown (frame_of l.framed) None rest
  kind_shown_first s (Code c k) rest form steady slots objects =
      form_shown (address_in l s.point) s.item c k rest (form_of (l.long s.point) (Code c k)) (viewed (l.long s.point) c.op c.operands form)
      (raised_back c k form steady slots objects)
  kind_shown_first s (Mark v m) rest form steady slots objects = refl
  kind_shown_first s (Phi p k) rest form steady slots objects = refl

  -- ---- blocks

  items_back : (b n : ℕ) (items : List Item) → All Good items →
      items_shown (frame_of l.framed) None (flat_map (site_lines l) (sites_in b n items)) ≡ map (settled_item l.framed) items
  items_back b n [] all = refl
  items_back b n (i ∷ items) all =
      let good = All-head Good i items all in
      kind_shown_first (record { point = record { block = b; item = n }; item = i }) i.kind (flat_map (site_lines l) (sites_in b (suc n) items)) good.form
      good.steady good.slots good.objects ∙
      ap (λ (is : List Item). settled_item l.framed i ∷ is) (items_back b (suc n) items (All-tail Good i items all))

  pub blocks_back : (b : ℕ) (blocks : List Block) → All (λ block. All Good block.items) blocks →
      map (λ listed. contents_of (block_shown (frame_of l.framed) listed)) (blocks_listed l b blocks) ≡ map (λ block. contents_of (settled l.framed block))
      blocks
  blocks_back b [] all = refl
  blocks_back b (block ∷ blocks) all =
      let items = items_back b 0 block.items (All-head (λ x. All Good x.items) block blocks all) in
      let rest = blocks_back (suc b) blocks (All-tail (λ x. All Good x.items) block blocks all) in
      ap (λ (is : List Item). (block.id, is) ∷ map (λ listed. contents_of (block_shown (frame_of l.framed) listed)) (blocks_listed l (suc b) blocks)) items ∙
      ap (λ (bs : List (ℕ × List Item)). contents_of (settled l.framed block) ∷ bs) rest
