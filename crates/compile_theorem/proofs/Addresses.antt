-- Where the blocks of a listing begin: lines lie as far from each other as the layout's items do, so the block of a number begins where its layout
-- says.
use Rattle.std.proofs.Common.{◌≡◌, ℕ, zero, suc, ◌+◌, Bool, true, false, cond, nat_eq, List, [], ◌∷◌, ◌++◌, take, Option, Some, refl, ap, sym, ◌∙◌, subst}
use Rattle.std.proofs.Common.{arith, eq-eqb}
use Rattle.std.specs.Prelude.{All, Contains}
use Rattle.std.specs.List.{flat_map}
use Rattle.std.proofs.lemmas.List.Elements.{All-head, All-tail}
use Rattle.rv64_instr.specs.declared.op.Op.{Op}
use Rattle.rv64_instr.specs.declared.op.Op.TheVariants.{Branch}
use Rattle.rv64_instr.specs.declared.op.BranchOp.{BranchOp}
use Rattle.rv64_instr.specs.declared.operand.Operand.{Operand}
use Rattle.rv64_instr.specs.declared.operand.Operand.TheVariants.{Use, Block as OfBlock}
use Rattle.rv64_instr.specs.Instruction.{Instruction}
use Rattle.rv64_instr.specs.Row.{row_of}
use Rattle.rv64_instr.specs.LocationEffects.{has_site}
use Rattle.mir_func.specs.declared.block.Block.{Block}
use Rattle.mir_func.specs.declared.debug_substitution.DebugSubstitution.{DebugSubstitution}
use Rattle.mir_func.specs.declared.item.Item.{Item}
use Rattle.mir_func.specs.declared.item.ItemKind.{ItemKind}
use Rattle.mir_func.specs.declared.item.ItemKind.TheVariants.{Code, Mark, Phi}
use Rattle.mir_func.specs.Graph.{index_of}
use Rattle.mir_func.specs.Sound.{AllItems, ids_of, HasForm}
use Rattle.mir_func.specs.SoundFrame.{body_of}
use Rattle.emit_code.specs.LongBranch.{jump_to}
use Rattle.emit_code.specs.Listed.{listed}
use Rattle.emit_code.specs.Rule.{Layout, Site, Form, form_of, form_size, address_in, items_size, blocks_size, items_at, sites_in, start_of}
use Rattle.emit_code.specs.steps.Emitted.{IsFormed}
use Rattle.listing_text.specs.declared.output.Line.{Line}
use Rattle.listing_text.specs.declared.output.ListedVariable.{ListedVariable}
use Rattle.listing_meaning.specs.Listing.{branch_skip, line_at, form_lines, kind_lines, site_lines, items_listed, blocks_listed, listing_of}
use Rattle.listing_meaning.specs.Listing.{prologue_listed, body_listed}
use Rattle.listing_meaning.proofs.Forms.{FormView, one, call, long, viewed}
use Rattle.listing_meaning.proofs.Sizes.{is_call_form, calls_listed, past_word, past_call}
use Rattle.compile_theorem.specs.Words.{past_lines, block_address}

module _ (l : Layout) where
  abbrev LongPast : (a at : ℕ) (i : Item) (k : Option ℕ) (n : ℕ) (rest : List Line) → Op → List Operand → Type 0
  LongPast a at i k n rest op os = past_lines a (branch_skip at i.origin op os ++ line_at (Some (at + 4)) i (Code (jump_to n) k) ∷ [] ++
      rest) ≡ past_lines (a + 8) rest

  long_past : (a at : ℕ) (i : Item) (k : Option ℕ) (m : ℕ) (rest : List Line) (b : BranchOp) (x y n : ℕ) (os : List Operand) →
      LongPast a at i k m rest (Branch b) (Use x ∷ Use y ∷ OfBlock n ∷ os)
  long_past a at i k m rest b x y n os = let sum : a + 4 + 4 ≡ a + 8 = omega arith in ap (λ (z : ℕ). past_lines z rest) sum

  form_past : (a at : ℕ) (i : Item) (c : Instruction) (k : Option ℕ) (rest : List Line) (f : Form) → FormView c.op c.operands f →
      has_site (row_of (listed l.framed c)) ≡ is_call_form f → past_lines a (form_lines l at i c k f ++ rest) ≡ past_lines (a + form_size f) rest
  form_past a at i c k rest f one calls = ap (λ (z : ℕ). past_lines z rest) (past_word l.framed a c k calls)
  form_past a at i c k rest f (call name os os_is op_is) calls = ap (λ (z : ℕ). past_lines z rest) (past_call l.framed a c k calls)
  form_past a at i c k rest f (long b x y n os op_is os_is all) calls =
      subst (λ (op : Op). LongPast a at i k n rest op c.operands) (sym op_is)
      (subst (λ (ps : List Operand). LongPast a at i k n rest (Branch b) ps) (sym os_is) (long_past a at i k n rest b x y n os))

  kind_past : (a : ℕ) (s : Site) (kind : ItemKind) (rest : List Line) → HasForm kind →
      past_lines a (kind_lines l s kind ++ rest) ≡ past_lines (a + form_size (form_of (l.long s.point) kind)) rest
  kind_past a s (Code c k) rest form =
      form_past a (address_in l s.point) s.item c k rest (form_of (l.long s.point) (Code c k)) (viewed (l.long s.point) c.op c.operands form)
      (calls_listed l.framed (l.long s.point) c form)
  kind_past a s (Mark v m) rest form = let none : a ≡ a + 0 = omega arith in ap (λ (z : ℕ). past_lines z rest) none
  kind_past a s (Phi p k) rest form = let none : a ≡ a + 0 = omega arith in ap (λ (z : ℕ). past_lines z rest) none

  items_past : (b n : ℕ) (items : List Item) → All IsFormed items → (a : ℕ) →
      past_lines a (flat_map (site_lines l) (sites_in b n items)) ≡ a + items_size l.long b n items
  items_past b n [] forms a = omega arith
  items_past b n (i ∷ items) forms a =
      let s : Site = record { point = record { block = b; item = n }; item = i } in
      let size = form_size (form_of (l.long s.point) i.kind) in
      let rest = items_past b (suc n) items (All-tail IsFormed i items forms) (a + size) in
      kind_past a s i.kind (flat_map (site_lines l) (sites_in b (suc n) items)) (All-head IsFormed i items forms) ∙ (rest ∙ omega arith)

  abbrev OfBlocks : Block → Type 0
  OfBlocks b = All IsFormed b.items

  block_begins : (a b : ℕ) (blocks : List Block) (n : ℕ) → AllItems IsFormed blocks → Contains (ids_of blocks) n →
      block_address a (blocks_listed l b blocks) n ≡ Some (a + blocks_size l.long b (take (index_of blocks n) blocks))
  block_begins a b [] n forms (k, low, is) = absurd (omega (arith, low))
  block_begins a b (block ∷ blocks) n forms has =
      by_test (nat_eq block.id n) refl (λ more. block_begins (a + items_size l.long b 0 block.items) (suc b) blocks n
      (All-tail OfBlocks block blocks forms) more) where
        past : past_lines a (items_listed l b block.items) ≡ a + items_size l.long b 0 block.items
        past = items_past b 0 block.items (All-head OfBlocks block blocks forms) a

        later : nat_eq block.id n ≡ false → Contains (ids_of (block ∷ blocks)) n → Contains (ids_of blocks) n
        later other (zero, low, is) = let both : false ≡ true = sym other ∙ eq-eqb block.id n is in cc
        later other (suc k, low, is) = (k, omega (arith, low), is)

        by_test : (t : Bool) → nat_eq block.id n ≡ t →
            (Contains (ids_of blocks) n → block_address (a + items_size l.long b 0 block.items) (blocks_listed l (suc b) blocks) n ≡
            Some (a + items_size l.long b 0 block.items + blocks_size l.long (suc b) (take (index_of blocks n) blocks))) →
            cond t (Some a) (block_address (past_lines a (items_listed l b block.items)) (blocks_listed l (suc b) blocks) n) ≡
            Some (a + blocks_size l.long b (take (cond t 0 (suc (index_of blocks n))) (block ∷ blocks)))
        by_test true t more = ap (λ (z : ℕ). Some z) (let none : a ≡ a + 0 = omega arith in none)
        by_test false t more =
            ap (λ (z : ℕ). block_address z (blocks_listed l (suc b) blocks) n) past ∙ more (later t has) ∙
            ap (λ (z : ℕ). Some z) (let sum : a + items_size l.long b 0 block.items + blocks_size l.long (suc b) (take (index_of blocks n) blocks) ≡
            a + (items_size l.long b 0 block.items + blocks_size l.long (suc b) (take (index_of blocks n) blocks)) = omega arith in sum)

  nothing_before : (b : ℕ) (items : List Item) → items_size l.long b 0 (take 0 items) ≡ 0
  nothing_before b [] = refl
  nothing_before b (i ∷ items) = refl

  -- a block begins where the layout says
  pub start_shown : (variables : List ListedVariable) (substitutions : List DebugSubstitution) (n : ℕ) → AllItems IsFormed l.framed.blocks →
      Contains (ids_of (body_of l.framed.blocks)) n →
      block_address (past_lines l.base (listing_of l variables substitutions).prologue) (listing_of l variables substitutions).blocks n ≡ Some (start_of l n)
  start_shown variables substitutions n forms has = by_blocks l.framed.blocks forms has where
    by_blocks : (blocks : List Block) → AllItems IsFormed blocks → Contains (ids_of (body_of blocks)) n →
        block_address (past_lines l.base (prologue_listed l blocks))
        (body_listed l blocks) n ≡
        Some (l.base + (blocks_size l.long 0 (take (suc (index_of (body_of blocks) n)) blocks) +
        items_size l.long (suc (index_of (body_of blocks) n)) 0 (take 0 (items_at blocks (suc (index_of (body_of blocks) n))))))
    by_blocks [] forms (k, low, is) = absurd (omega (arith, low))
    by_blocks (p ∷ blocks) forms has =
        let k = index_of blocks n in
        let past = items_past 0 0 p.items (All-head OfBlocks p blocks forms) l.base in
        let begins = block_begins (l.base + items_size l.long 0 0 p.items) 1 blocks n (All-tail OfBlocks p blocks forms) has in
        let none = nothing_before (suc k) (items_at (p ∷ blocks) (suc k)) in
        ap (λ (z : ℕ). block_address z (blocks_listed l 1 blocks) n) past ∙ begins ∙
        ap (λ (z : ℕ). Some z) (let sum : l.base + items_size l.long 0 0 p.items + blocks_size l.long 1 (take k blocks) ≡
        l.base + (items_size l.long 0 0 p.items + blocks_size l.long 1 (take k blocks) + items_size l.long (suc k) 0 (take 0 (items_at (p ∷ blocks) (suc k)))) =
        omega (arith, none) in sum)
