-- The lines of a listing lie one after the other, since the entries of the layout do.
use Rattle.std.proofs.Common.{◌≡◌, ℕ, suc, ◌+◌, ◌*◌, List, [], ◌∷◌, ◌++◌, Option, Some, refl, ap, sym, ◌∙◌, subst, arith}
use Rattle.std.specs.Prelude.{All, sum_by, length}
use Rattle.std.specs.List.{flat_map}
use Rattle.std.proofs.lemmas.Grind.{flat_map-append}
use Rattle.std.proofs.lemmas.List.Elements.{All-head, All-tail, All-cons, All-append}
use Rattle.rv64_instr.specs.declared.op.Op.{Op}
use Rattle.rv64_instr.specs.declared.op.Op.TheVariants.{Branch}
use Rattle.rv64_instr.specs.declared.op.BranchOp.{BranchOp}
use Rattle.rv64_instr.specs.declared.operand.Operand.{Operand}
use Rattle.rv64_instr.specs.declared.operand.Operand.TheVariants.{Use, Block as OfBlock}
use Rattle.rv64_instr.specs.Instruction.{Instruction}
use Rattle.rv64_instr.specs.Row.{row_of}
use Rattle.rv64_instr.specs.LocationEffects.{has_site}
use Rattle.mir_func.specs.declared.block.Block.{Block}
use Rattle.mir_func.specs.declared.item.Item.{Item}
use Rattle.mir_func.specs.declared.item.ItemKind.{ItemKind}
use Rattle.mir_func.specs.declared.item.ItemKind.TheVariants.{Code, Mark, Phi}
use Rattle.mir_func.specs.declared.position.Pos.{Pos}
use Rattle.mir_func.specs.Sound.{AllItems, HasForm}
use Rattle.emit_code.specs.LongBranch.{jump_to}
use Rattle.emit_code.specs.Laid.{StandFrom}
use Rattle.emit_code.specs.Listed.{listed}
use Rattle.emit_code.specs.Rule.{Layout, Site, Form, form_of, address_in, form_entries, entries_at, sites_in, sites_from, sites_of, words_of}
use Rattle.emit_code.specs.steps.Emitted.{IsFormed}
use Rattle.emit_code.proofs.Sites.{site_size}
use Rattle.emit_code.proofs.Stand.{stands, words_fill}
use Rattle.emit_code.specs.declared.code.EncodedInstruction.{EncodedInstruction}
use Rattle.listing_text.specs.declared.output.Line.{Line}
use Rattle.listing_meaning.specs.Program.{LinesLie, lines_of}
use Rattle.listing_meaning.specs.Listing.{branch_skip, line_at, form_lines, kind_lines, site_lines, items_listed, blocks_listed, prologue_listed, body_listed}
use Rattle.listing_meaning.specs.Listing.{listing_of}
use Rattle.listing_meaning.specs.Laws.{ListingsLie}
use Rattle.listing_meaning.proofs.Forms.{FormView, one, call, long, viewed}
use Rattle.listing_meaning.proofs.Sizes.{is_call_form, calls_listed, past_word, past_call}

module _ (l : Layout) where
  abbrev LongLies : (a at : ℕ) (i : Item) (k : Option ℕ) (n : ℕ) (rest : List Line) (end : ℕ) → Op → List Operand → Type 0
  LongLies a at i k n rest end op os = LinesLie a (branch_skip at i.origin op os ++ line_at (Some (at + 4)) i (Code (jump_to n) k) ∷ [] ++ rest) end

  long_lies : (a at : ℕ) (i : Item) (k : Option ℕ) (rest : List Line) (end : ℕ) (b : BranchOp) (x y n m : ℕ) (os : List Operand) → at ≡ a → at + 4 ≡ a + 4 →
      LinesLie (a + 4 + 4) rest end → LongLies a at i k m rest end (Branch b) (Use x ∷ Use y ∷ OfBlock n ∷ os)
  long_lies a at i k rest end b x y n m os first second lie = (first, (ap (λ (z : ℕ). Some z) second, lie))

  form_lies : (a : ℕ) (at : ℕ) (p : Pos) (i : Item) (c : Instruction) (k : Option ℕ) (rest : List Line) (end : ℕ) (f : Form) → FormView c.op c.operands f →
      has_site (row_of (listed l.framed c)) ≡ is_call_form f → (es : List EncodedInstruction) →
      StandFrom a (form_entries at i.origin p f ++ es) end → ((x : ℕ) → StandFrom x es end → LinesLie x rest end) →
      LinesLie a (form_lines l at i c k f ++ rest) end
  form_lies a at p i c k rest end f one calls es stand more =
      (ap (λ (z : ℕ). Some z) stand.0, subst (λ (x : ℕ). LinesLie x rest end) (sym (past_word l.framed a c k calls)) (more (a + 4) stand.2))
  form_lies a at p i c k rest end f (call name os os_is op_is) calls es stand more =
      (ap (λ (z : ℕ). Some z) stand.0, subst (λ (x : ℕ). LinesLie x rest end) (sym (past_call l.framed a c k calls)) (more (a + 8) stand.2))
  form_lies a at p i c k rest end f (long b x y n os op_is os_is all) calls es stand more =
      let lie = long_lies a at i k rest end b x y n n os stand.0 stand.2.0 (more (a + 4 + 4) stand.2.2) in
      subst (λ (op : Op). LongLies a at i k n rest end op c.operands) (sym op_is)
      (subst (λ (ps : List Operand). LongLies a at i k n rest end (Branch b) ps) (sym os_is) lie)

  kind_lies : (a : ℕ) (s : Site) (kind : ItemKind) (rest : List Line) (end : ℕ) → HasForm kind → (es : List EncodedInstruction) →
      StandFrom a (form_entries (address_in l s.point) s.item.origin s.point (form_of (l.long s.point) kind) ++ es) end →
      ((x : ℕ) → StandFrom x es end → LinesLie x rest end) → LinesLie a (kind_lines l s kind ++ rest) end
  kind_lies a s (Code c k) rest end form es stand more =
      form_lies a (address_in l s.point) s.point s.item c k rest end (form_of (l.long s.point) (Code c k)) (viewed (l.long s.point) c.op c.operands form)
      (calls_listed l.framed (l.long s.point) c form) es stand more
  kind_lies a s (Mark v m) rest end form es stand more = (refl, more a stand)
  kind_lies a s (Phi p k) rest end form es stand more = (refl, more a stand)

  lies : (sites : List Site) → All (λ s. IsFormed s.item) sites → (a end : ℕ) → StandFrom a (flat_map (entries_at l) sites) end →
      LinesLie a (flat_map (site_lines l) sites) end
  lies [] forms a end stand = stand
  lies (s ∷ sites) forms a end stand =
      kind_lies a s s.item.kind (flat_map (site_lines l) sites) end (All-head (λ x. IsFormed x.item) s sites forms) (flat_map (entries_at l) sites) stand
      (λ x. lies sites (All-tail (λ x. IsFormed x.item) s sites forms) x end)

  -- ---- all lines of a function

  forms_in : (b n : ℕ) (items : List Item) → All IsFormed items → All (λ s. IsFormed s.item) (sites_in b n items)
  forms_in b n [] forms = λ k d low. absurd (omega (arith, low))
  forms_in b n (i ∷ items) forms =
      All-cons (λ s. IsFormed s.item) (record { point = record { block = b; item = n }; item = i }) (sites_in b (suc n) items) (All-head IsFormed i items forms)
      (forms_in b (suc n) items (All-tail IsFormed i items forms))

  forms_from : (b : ℕ) (blocks : List Block) → AllItems IsFormed blocks → All (λ s. IsFormed s.item) (sites_from b blocks)
  forms_from b [] forms = λ k d low. absurd (omega (arith, low))
  forms_from b (block ∷ blocks) forms =
      All-append (λ s. IsFormed s.item) (sites_in b 0 block.items) (sites_from (suc b) blocks)
      (forms_in b 0 block.items (All-head (λ x. All IsFormed x.items) block blocks forms))
      (forms_from (suc b) blocks (All-tail (λ x. All IsFormed x.items) block blocks forms))

  lines_from : (b : ℕ) (blocks : List Block) → flat_map (λ listed. listed.lines) (blocks_listed l b blocks) ≡ flat_map (site_lines l) (sites_from b blocks)
  lines_from b [] = refl
  lines_from b (block ∷ blocks) =
      ap (λ (t : List Line). items_listed l b block.items ++ t) (lines_from (suc b) blocks) ∙
      sym (flat_map-append (site_lines l) (sites_in b 0 block.items) (sites_from (suc b) blocks))

  lines_whole : (blocks : List Block) → prologue_listed l blocks ++ flat_map (λ listed. listed.lines) (body_listed l blocks) ≡
      flat_map (site_lines l) (sites_from 0 blocks)
  lines_whole [] = refl
  lines_whole (p ∷ blocks) = lines_from 0 (p ∷ blocks)

pub listings_lie : ListingsLie
listings_lie l variables substitutions formed worded =
    let end : l.base + 4 * length (words_of l) ≡ l.base + sum_by (site_size l.long) (sites_of l.framed) = ap (λ (n : ℕ). l.base + n) (words_fill l worded) in
    let lie = lies l (sites_from 0 l.framed.blocks) (forms_from l 0 l.framed.blocks formed) l.base (l.base + sum_by (site_size l.long) (sites_of l.framed))
    (stands l) in
    subst (λ (x : ℕ). LinesLie l.base (lines_of (listing_of l variables substitutions)) x) (sym end)
    (subst (λ (ls : List Line). LinesLie l.base ls (l.base + sum_by (site_size l.long) (sites_of l.framed))) (sym (lines_whole l l.framed.blocks)) lie)
