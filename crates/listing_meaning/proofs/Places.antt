-- Which byte stands at which place: line by line and entry by entry, the two are the same.
use Rattle.std.proofs.Common.{◌≡◌, ◌⊎◌, inl, inr, ℕ, zero, suc, ◌+◌, ◌<◌, ◌≤◌, List, [], ◌∷◌, ◌++◌, length, take, Option, Some, refl, ap, sym, ◌∙◌}
use Rattle.std.proofs.Common.{subst, arith}
use Rattle.std.specs.Prelude.{All, filter, Contains, slice_get}
use Rattle.std.specs.List.{flat_map}
use Rattle.std.proofs.lemmas.Grind.{flat_map-append}
use Rattle.std.proofs.lemmas.List.Elements.{All-head, All-tail, Contains-append_right}
use Rattle.rv64_instr.specs.declared.op.Op.{Op}
use Rattle.rv64_instr.specs.declared.op.Op.TheVariants.{Branch}
use Rattle.rv64_instr.specs.declared.op.BranchOp.{BranchOp}
use Rattle.rv64_instr.specs.declared.operand.Operand.{Operand}
use Rattle.rv64_instr.specs.declared.operand.Operand.TheVariants.{Use, Block as OfBlock}
use Rattle.rv64_instr.specs.Instruction.{Instruction}
use Rattle.rv64_instr.specs.Row.{row_of}
use Rattle.rv64_instr.specs.LocationEffects.{has_site}
use Rattle.mir_func.specs.declared.block.Block.{Block}
use Rattle.mir_func.specs.declared.item.Item.{Item}
use Rattle.mir_func.specs.declared.item.ItemKind.{ItemKind}
use Rattle.mir_func.specs.declared.item.ItemKind.TheVariants.{Code, Mark, Phi}
use Rattle.mir_func.specs.declared.position.Pos.{Pos}
use Rattle.mir_func.specs.declared.position.ProgramPoint.{ProgramPoint}
use Rattle.mir_func.specs.Sound.{AllItems, HasForm}
use Rattle.mir_func.specs.Successors.{pos_in}
use Rattle.emit_code.specs.declared.code.EncodedInstruction.{EncodedInstruction}
use Rattle.emit_code.specs.LongBranch.{jump_to}
use Rattle.emit_code.specs.Listed.{listed}
use Rattle.emit_code.specs.Rule.{Layout, Site, Form, LongBranch, form_of, address_in, form_entries, entries_at, sites_in, sites_from}
use Rattle.emit_code.specs.steps.Emitted.{IsFormed, point_of}
use Rattle.listing_text.specs.declared.output.Line.{Line}
use Rattle.listing_text.specs.declared.output.Line.TheVariants.{Item as OfItem, Skip}
use Rattle.listing_text.specs.declared.output.ListedBlock.{ListedBlock}
use Rattle.listing_meaning.specs.Program.{is_item, address_of, past_line}
use Rattle.listing_meaning.specs.Listing.{branch_skip, line_at, form_lines, kind_lines, site_lines, items_listed, blocks_listed, listing_of}
use Rattle.listing_meaning.specs.Laws.{HasByteAt, PlacesArePoints}
use Rattle.listing_meaning.proofs.Forms.{FormView, one, call, long, viewed}
use Rattle.listing_meaning.proofs.Sizes.{is_call_form, calls_listed, past_word, past_call}
use Rattle.listing_meaning.proofs.Framing.{blocks_whole}

module _ (a : ℕ) where
  -- a line has the byte
  abbrev LineByte : Line → Type 0
  LineByte line = (first : ℕ) × (address_of line ≡ Some first) × (first ≤ a) × (a < past_line first line)

  -- one of the lines has it, at this index of the items, where the first line stands at n
  abbrev Listed : List Line → (n m : ℕ) → Type 0
  Listed [] n m = ⊥
  Listed (OfItem i ∷ ls) n m = (LineByte (OfItem i) × (m ≡ n)) ⊎ Listed ls (suc n) m
  Listed (Skip s ∷ ls) n m = (LineByte (Skip s) × (m ≡ n)) ⊎ Listed ls n m

  to_listed : (ls : List Line) (number n m : ℕ) (line : Line) → slice_get ls number ≡ Some line → n + length (filter is_item (take number ls)) ≡ m →
      LineByte line → Listed ls n m
  to_listed [] number n m line e is byte = absurd cc
  to_listed (OfItem i ∷ ls) zero n m line e is byte =
      let same : line ≡ OfItem i = cc in
      inl (subst LineByte same byte, omega (arith, is))
  to_listed (Skip s ∷ ls) zero n m line e is byte =
      let same : line ≡ Skip s = cc in
      inl (subst LineByte same byte, omega (arith, is))
  to_listed (OfItem i ∷ ls) (suc k) n m line e is byte = inr (to_listed ls k (suc n) m line e (omega (arith, is)) byte)
  to_listed (Skip s ∷ ls) (suc k) n m line e is byte = inr (to_listed ls k n m line e is byte)

  record Numbered (ls : List Line) (n m : ℕ) : Type 0 where
    number : ℕ
    line : Line
    stands : slice_get ls number ≡ Some line
    item : n + length (filter is_item (take number ls)) ≡ m
    byte : LineByte line

  from_listed : (ls : List Line) (n m : ℕ) → Listed ls n m → Numbered ls n m
  from_listed [] n m none = elim none [ ]
  from_listed (OfItem i ∷ ls) n m (inl (byte, is)) = record { number = 0; line = OfItem i; stands = refl; item = omega (arith, is); byte = byte }
  from_listed (Skip s ∷ ls) n m (inl (byte, is)) = record { number = 0; line = Skip s; stands = refl; item = omega (arith, is); byte = byte }
  from_listed (OfItem i ∷ ls) n m (inr more) =
      let r = from_listed ls (suc n) m more in
      record { number = suc r.number; line = r.line; stands = r.stands; item = omega (arith, r.item); byte = r.byte }
  from_listed (Skip s ∷ ls) n m (inr more) =
      let r = from_listed ls n m more in
      record { number = suc r.number; line = r.line; stands = r.stands; item = r.item; byte = r.byte }

  -- ---- entries

  abbrev EntryByte : EncodedInstruction → Type 0
  EntryByte e = (e.address ≤ a) × (a < e.address + e.size)

  abbrev Entered : List EncodedInstruction → Pos → Type 0
  Entered [] p = ⊥
  Entered (e ∷ es) p = (EntryByte e × (e.point ≡ point_of p)) ⊎ Entered es p

  entered_left : (es ds : List EncodedInstruction) (p : Pos) → Entered es p → Entered (es ++ ds) p
  entered_left [] ds p none = elim none [ ]
  entered_left (e ∷ es) ds p (inl is) = inl is
  entered_left (e ∷ es) ds p (inr more) = inr (entered_left es ds p more)

  entered_right : (es ds : List EncodedInstruction) (p : Pos) → Entered ds p → Entered (es ++ ds) p
  entered_right [] ds p is = is
  entered_right (e ∷ es) ds p is = inr (entered_right es ds p is)

  entered_cases : (es ds : List EncodedInstruction) (p : Pos) → Entered (es ++ ds) p → Entered es p ⊎ Entered ds p
  entered_cases [] ds p is = inr is
  entered_cases (e ∷ es) ds p (inl is) = inl (inl is)
  entered_cases (e ∷ es) ds p (inr more) = elim (entered_cases es ds p more) [ inl x ↦ inl (inr x) | inr y ↦ inr y ]

  to_byte : (es : List EncodedInstruction) (p : Pos) → Entered es p → HasByteAt es a p
  to_byte [] p none = elim none [ ]
  to_byte (e ∷ es) p (inl (byte, is)) =
      record { entry = e; among = (0, omega arith, refl); point = is; from = byte.0; within = byte.1 }
  to_byte (e ∷ es) p (inr more) =
      let r = to_byte es p more in
      record { entry = r.entry; among = Contains-append_right (e ∷ []) es r.entry r.among; point = r.point; from = r.from; within = r.within }

  from_byte : (es : List EncodedInstruction) (p : Pos) (e : EncodedInstruction) → Contains es e → e.point ≡ point_of p → EntryByte e → Entered es p
  from_byte [] p e (n, low, is) point byte = absurd (omega (arith, low))
  from_byte (x ∷ es) p e (zero, low, is) point byte = inl (subst (λ (y : EncodedInstruction). EntryByte y × (y.point ≡ point_of p)) (sym is) (byte, point))
  from_byte (x ∷ es) p e (suc n, low, is) point byte = inr (from_byte es p e (n, omega (arith, low), is) point byte)

  -- ---- one item

  module _ (l : Layout) (b n : ℕ) where
    same_point : (m : ℕ) → m ≡ n → point_of (pos_in b n) ≡ point_of (pos_in b m)
    same_point m is = ap (λ (x : ℕ). point_of (pos_in b x)) (sym is)

    -- a line of code at an address, with so many bytes
    code_byte : (at size : ℕ) (i : Item) (kind : ItemKind) → ((x : ℕ) → past_line x (line_at (Some at) i kind) ≡ x + size) → LineByte (line_at
        (Some at) i kind) →
        (at ≤ a) × (a < at + size)
    code_byte at size i kind past (first, is, from, within) =
        let same : at ≡ first = cc in
        let end = past first in
        (omega (arith, same, from), omega (arith, same, end, within))

    byte_code : (at size : ℕ) (i : Item) (kind : ItemKind) → ((x : ℕ) → past_line x (line_at (Some at) i kind) ≡ x + size) → (at ≤ a) × (a < at + size) →
        LineByte (line_at (Some at) i kind)
    byte_code at size i kind past (from, within) = (at, refl, from, (let end = past at in omega (arith, end, within)))

    abbrev Onward : (at : ℕ) → Item → Form → List Line → (rest : List Line) → (m : ℕ) → Type 0
    Onward at i f ls rest m = Listed (ls ++ rest) n m → Entered (form_entries at i.origin (pos_in b n) f) (pos_in b m) ⊎ Listed rest (suc n) m

    abbrev LongOnward : (at : ℕ) (i : Item) (k : Option ℕ) (t : ℕ) (rest : List Line) (m : ℕ) → Op → List Operand → Type 0
    LongOnward at i k t rest m op os = Onward at i (LongBranch t) (branch_skip at i.origin op os ++ line_at (Some (at + 4)) i (Code (jump_to t) k) ∷ []) rest m

    long_onward : (at : ℕ) (i : Item) (k : Option ℕ) (t : ℕ) (rest : List Line) (m : ℕ) (o : BranchOp) (x y z : ℕ) (os : List Operand) →
        LongOnward at i k t rest m (Branch o) (Use x ∷ Use y ∷ OfBlock z ∷ os)
    long_onward at i k t rest m o x y z os (inl ((first, is, from, within), same)) =
        let here : at ≡ first = cc in
        inl (inl ((omega (arith, here, from), omega (arith, here, within)), same_point m same))
    long_onward at i k t rest m o x y z os (inr (inl (byte, same))) =
        inl (inr (inl (code_byte (at + 4) 4 i (Code (jump_to t) k) (λ x. refl) byte, same_point m same)))
    long_onward at i k t rest m o x y z os (inr (inr more)) = inr more

    form_onward : (at : ℕ) (i : Item) (c : Instruction) (k : Option ℕ) (rest : List Line) (m : ℕ) (f : Form) → FormView c.op c.operands f →
        has_site (row_of (listed l.framed c)) ≡ is_call_form f → Onward at i f (form_lines l at i c k f) rest m
    form_onward at i c k rest m f one calls (inl (byte, same)) =
        inl (inl (code_byte at 4 i (Code (listed l.framed c) k) (λ x. past_word l.framed x c k calls) byte, same_point m same))
    form_onward at i c k rest m f one calls (inr more) = inr more
    form_onward at i c k rest m f (call name os os_is op_is) calls (inl (byte, same)) =
        inl (inl (code_byte at 8 i (Code (listed l.framed c) k) (λ x. past_call l.framed x c k calls) byte, same_point m same))
    form_onward at i c k rest m f (call name os os_is op_is) calls (inr more) = inr more
    form_onward at i c k rest m f (long o x y t os op_is os_is all) calls is =
        subst (λ (op : Op). LongOnward at i k t rest m op c.operands) (sym op_is)
        (subst (λ (ps : List Operand). LongOnward at i k t rest m (Branch o) ps) (sym os_is) (long_onward at i k t rest m o x y t os)) is

    kind_onward : (i : Item) (kind : ItemKind) (rest : List Line) (m : ℕ) → HasForm kind →
        Listed (kind_lines l (record { point = pos_in b n; item = i }) kind ++ rest) n m →
        Entered (form_entries (address_in l (pos_in b n)) i.origin (pos_in b n) (form_of (l.long (pos_in b n)) kind)) (pos_in b m) ⊎ Listed rest (suc n) m
    kind_onward i (Code c k) rest m form is =
        form_onward (address_in l (pos_in b n)) i c k rest m (form_of (l.long (pos_in b n)) (Code c k)) (viewed (l.long (pos_in b n)) c.op c.operands form)
        (calls_listed l.framed (l.long (pos_in b n)) c form) is
    kind_onward i (Mark v x) rest m form (inl ((first, is, from, within), same)) = absurd cc
    kind_onward i (Mark v x) rest m form (inr more) = inr more
    kind_onward i (Phi p k) rest m form (inl ((first, is, from, within), same)) = absurd cc
    kind_onward i (Phi p k) rest m form (inr more) = inr more

    -- and the other way round
    record Back (lines : List Line) (p : Pos) : Type 0 where
      block : p.block ≡ b
      listed : (rest : List Line) → Listed (lines ++ rest) n p.item

    index : (p : Pos) → point_of (pos_in b n) ≡ point_of p → p.item ≡ n
    index p e = ap (λ (q : ProgramPoint). q.item) (sym e)

    block : (p : Pos) → point_of (pos_in b n) ≡ point_of p → p.block ≡ b
    block p e = ap (λ (q : ProgramPoint). q.block) (sym e)

    abbrev LongBack : (at : ℕ) (i : Item) (k : Option ℕ) (t : ℕ) (p : Pos) → Op → List Operand → Type 0
    LongBack at i k t p op os = Entered (form_entries at i.origin (pos_in b n) (LongBranch t)) p →
        Back (branch_skip at i.origin op os ++ line_at (Some (at + 4)) i (Code (jump_to t) k) ∷ []) p

    long_back : (at : ℕ) (i : Item) (k : Option ℕ) (t : ℕ) (p : Pos) (o : BranchOp) (x y z : ℕ) (os : List Operand) →
        LongBack at i k t p (Branch o) (Use x ∷ Use y ∷ OfBlock z ∷ os)
    long_back at i k t p o x y z os (inl (byte, e)) = record { block = block p e; listed = λ rest. inl ((at, refl, byte.0, byte.1), index p e) }
    long_back at i k t p o x y z os (inr (inl (byte, e))) =
        record { block = block p e; listed = λ rest. inr (inl (byte_code (at + 4) 4 i (Code (jump_to t) k) (λ x. refl) byte, index p e)) }
    long_back at i k t p o x y z os (inr (inr none)) = elim none [ ]

    form_back : (at : ℕ) (i : Item) (c : Instruction) (k : Option ℕ) (p : Pos) (f : Form) → FormView c.op c.operands f →
        has_site (row_of (listed l.framed c)) ≡ is_call_form f → Entered (form_entries at i.origin (pos_in b n) f) p → Back (form_lines l at i c k f) p
    form_back at i c k p f one calls (inl (byte, e)) = record {
      block = block p e;
      listed = λ rest. inl (byte_code at 4 i (Code (listed l.framed c) k) (λ x. past_word l.framed x c k calls) byte, index p e);
    }
    form_back at i c k p f one calls (inr none) = elim none [ ]
    form_back at i c k p f (call name os os_is op_is) calls (inl (byte, e)) = record {
      block = block p e;
      listed = λ rest. inl (byte_code at 8 i (Code (listed l.framed c) k) (λ x. past_call l.framed x c k calls) byte, index p e);
    }
    form_back at i c k p f (call name os os_is op_is) calls (inr none) = elim none [ ]
    form_back at i c k p f (long o x y t os op_is os_is all) calls is =
        subst (λ (op : Op). LongBack at i k t p op c.operands) (sym op_is)
        (subst (λ (ps : List Operand). LongBack at i k t p (Branch o) ps) (sym os_is) (long_back at i k t p o x y t os)) is

    kind_back : (i : Item) (kind : ItemKind) (p : Pos) → HasForm kind →
        Entered (form_entries (address_in l (pos_in b n)) i.origin (pos_in b n) (form_of (l.long (pos_in b n)) kind)) p →
        Back (kind_lines l (record { point = pos_in b n; item = i }) kind) p
    kind_back i (Code c k) p form is =
        form_back (address_in l (pos_in b n)) i c k p (form_of (l.long (pos_in b n)) (Code c k)) (viewed (l.long (pos_in b n)) c.op c.operands form)
        (calls_listed l.framed (l.long (pos_in b n)) c form) is
    kind_back i (Mark v x) p form none = elim none [ ]
    kind_back i (Phi r k) p form none = elim none [ ]

  -- ---- blocks

  module _ (l : Layout) where
    abbrev LongLater : (at : ℕ) (i : Item) (k : Option ℕ) (t n m : ℕ) (rest : List Line) → Op → List Operand → Type 0
    LongLater at i k t n m rest op os = Listed (branch_skip at i.origin op os ++ line_at (Some (at + 4)) i (Code (jump_to t) k) ∷ [] ++ rest) n m

    form_later : (at : ℕ) (i : Item) (c : Instruction) (k : Option ℕ) (n m : ℕ) (rest : List Line) (f : Form) → FormView c.op c.operands f →
        Listed rest (suc n) m → Listed (form_lines l at i c k f ++ rest) n m
    form_later at i c k n m rest f one more = inr more
    form_later at i c k n m rest f (call name os os_is op_is) more = inr more
    form_later at i c k n m rest f (long o x y t os op_is os_is all) more =
        let both : LongLater at i k t n m rest (Branch o) (Use x ∷ Use y ∷ OfBlock t ∷ os) = inr (inr more) in
        subst (λ (op : Op). LongLater at i k t n m rest op c.operands) (sym op_is)
        (subst (λ (ps : List Operand). LongLater at i k t n m rest (Branch o) ps) (sym os_is) both)

    later : (i : Item) (kind : ItemKind) (b n m : ℕ) (rest : List Line) → Listed rest (suc n) m → HasForm kind →
        Listed (kind_lines l (record { point = pos_in b n; item = i }) kind ++ rest) n m
    later i (Code c k) b n m rest more form =
        form_later (address_in l (pos_in b n)) i c k n m rest (form_of (l.long (pos_in b n)) (Code c k)) (viewed (l.long
        (pos_in b n)) c.op c.operands form) more
    later i (Mark v x) b n m rest more form = inr more
    later i (Phi p k) b n m rest more form = inr more

    items_to : (b n m : ℕ) (items : List Item) → All IsFormed items → Listed (flat_map (site_lines l) (sites_in b n items)) n m →
        Entered (flat_map (entries_at l) (sites_in b n items)) (pos_in b m)
    items_to b n m [] forms none = elim none [ ]
    items_to b n m (i ∷ items) forms is =
        let s : Site = record { point = pos_in b n; item = i } in
        let rest = flat_map (entries_at l) (sites_in b (suc n) items) in
        elim (kind_onward l b n i i.kind (flat_map (site_lines l) (sites_in b (suc n) items)) m (All-head IsFormed i items forms) is) [
          | inl here ↦ entered_left (entries_at l s) rest (pos_in b m) here
          | inr more ↦ entered_right (entries_at l s) rest (pos_in b m) (items_to b (suc n) m items (All-tail IsFormed i items forms) more)
        ]

    record InBlock (b n : ℕ) (items : List Item) (p : Pos) : Type 0 where
      block : p.block ≡ b
      listed : Listed (flat_map (site_lines l) (sites_in b n items)) n p.item

    items_back : (b n : ℕ) (items : List Item) (p : Pos) → All IsFormed items → Entered (flat_map (entries_at l) (sites_in b n items)) p → InBlock b n items p
    items_back b n [] p forms none = elim none [ ]
    items_back b n (i ∷ items) p forms is =
        let s : Site = record { point = pos_in b n; item = i } in
        let lines = flat_map (site_lines l) (sites_in b (suc n) items) in
        let form = All-head IsFormed i items forms in
        elim (entered_cases (entries_at l s) (flat_map (entries_at l) (sites_in b (suc n) items)) p is) [
          | inl here ↦ let back = kind_back l b n i i.kind p form here in record { block = back.block; listed = back.listed lines }
          | inr more ↦ let back = items_back b (suc n) items p (All-tail IsFormed i items forms) more in record {
            block = back.block;
            listed = later i i.kind b n p.item lines back.listed form;
          }
        ]

    blocks_to : (b k m : ℕ) (blocks : List Block) (listed : ListedBlock) → AllItems IsFormed blocks → slice_get (blocks_listed l b blocks) k ≡ Some listed →
        Listed listed.lines 0 m → Entered (flat_map (entries_at l) (sites_from b blocks)) (pos_in (b + k) m)
    blocks_to b k m [] listed forms e is = absurd cc
    blocks_to b zero m (block ∷ blocks) listed forms e is =
        let same : listed ≡ record { id = block.id; lines = items_listed l b block.items } = cc in
        let here = items_to b 0 m block.items (All-head (λ x. All IsFormed x.items) block blocks forms) (subst (λ
        (x : ListedBlock). Listed x.lines 0 m) same is) in
        let first : b + 0 ≡ b = omega arith in
        subst (λ (x : ℕ). Entered (flat_map (entries_at l) (sites_from b (block ∷ blocks))) (pos_in x m)) (sym first)
        (subst (λ (es : List EncodedInstruction). Entered es (pos_in b m)) (sym (flat_map-append (entries_at l) (sites_in b 0 block.items) (sites_from
        (suc b) blocks)))
        (entered_left (flat_map (entries_at l) (sites_in b 0 block.items)) (flat_map (entries_at l) (sites_from (suc b) blocks)) (pos_in b m) here))
    blocks_to b (suc k) m (block ∷ blocks) listed forms e is =
        let more = blocks_to (suc b) k m blocks listed (All-tail (λ x. All IsFormed x.items) block blocks forms) e is in
        let next : suc b + k ≡ b + suc k = omega arith in
        subst (λ (es : List EncodedInstruction). Entered es (pos_in (b + suc k) m)) (sym (flat_map-append (entries_at l) (sites_in b 0 block.items) (sites_from
        (suc b) blocks)))
        (entered_right (flat_map (entries_at l) (sites_in b 0 block.items)) (flat_map (entries_at l) (sites_from (suc b) blocks)) (pos_in (b + suc k) m)
        (subst (λ (x : ℕ). Entered (flat_map (entries_at l) (sites_from (suc b) blocks)) (pos_in x m)) next more))

    record AmongBlocks (b : ℕ) (blocks : List Block) (p : Pos) : Type 0 where
      number : ℕ
      listed : ListedBlock
      stands : slice_get (blocks_listed l b blocks) number ≡ Some listed
      block : p.block ≡ b + number
      byte : Listed listed.lines 0 p.item

    blocks_from : (b : ℕ) (blocks : List Block) (p : Pos) → AllItems IsFormed blocks → Entered (flat_map (entries_at l) (sites_from b blocks)) p →
        AmongBlocks b blocks p
    blocks_from b [] p forms none = elim none [ ]
    blocks_from b (block ∷ blocks) p forms is =
        let first = sites_in b 0 block.items in
        let rest = sites_from (suc b) blocks in
        elim (entered_cases (flat_map (entries_at l) first) (flat_map (entries_at l) rest) p
        (subst (λ (es : List EncodedInstruction). Entered es p) (flat_map-append (entries_at l) first rest) is)) [
          | inl here ↦ let back = items_back b 0 block.items p (All-head (λ x. All IsFormed x.items) block blocks forms) here in record {
            number = 0;
            listed = record { id = block.id; lines = items_listed l b block.items };
            stands = refl;
            block = omega (arith, back.block);
            byte = back.listed;
          }
          | inr more ↦ let back = blocks_from (suc b) blocks p (All-tail (λ x. All IsFormed x.items) block blocks forms) more in record {
            number = suc back.number;
            listed = back.listed;
            stands = back.stands;
            block = omega (arith, back.block);
            byte = back.byte;
          }
        ]

pub places_are_points : PlacesArePoints
places_are_points l variables substitutions framed formed a p =
    let f = listing_of l variables substitutions in
    let whole = blocks_whole l variables substitutions framed in (
      λ at.
          let stands : slice_get (blocks_listed l 0 l.framed.blocks) p.block ≡ Some at.block = ap (λ bs. slice_get bs p.block) (sym whole) ∙ at.stands in
          let lines = to_listed a at.block.lines at.number 0 p.item at.line at.listed (omega (arith, at.item)) (at.first, at.begins, at.from, at.within) in
          let entered = blocks_to a l 0 p.block p.item l.framed.blocks at.block formed stands lines in
          let from_zero : 0 + p.block ≡ p.block = omega arith in
          to_byte a (flat_map (entries_at l) (sites_from 0 l.framed.blocks)) p
          (subst (λ (x : ℕ). Entered a (flat_map (entries_at l) (sites_from 0 l.framed.blocks)) (pos_in x p.item)) from_zero entered),
      λ byte.
          let entered = from_byte a (flat_map (entries_at l) (sites_from 0 l.framed.blocks)) p byte.entry byte.among byte.point (byte.from, byte.within) in
          let back = blocks_from a l 0 l.framed.blocks p formed entered in
          let line = from_listed a back.listed.lines 0 p.item back.byte in
          let place : back.number ≡ p.block = omega (arith, back.block) in
          record {
            block = back.listed;
            number = line.number;
            line = line.line;
            first = line.byte.0;
            stands = ap (λ bs. slice_get bs p.block) whole ∙ (ap (λ (k : ℕ). slice_get (blocks_listed l 0 l.framed.blocks) k) (sym place) ∙ back.stands);
            listed = line.stands;
            item = omega (arith, line.item);
            begins = line.byte.1;
            from = line.byte.2;
            within = line.byte.3;
          },
    )
