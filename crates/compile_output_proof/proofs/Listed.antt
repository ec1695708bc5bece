-- Each byte of a line that is listed of a layout is one of an entry of the layout, which comes from where the line does.
use Rattle.std.proofs.Common.{◌≡◌, ◌⊎◌, inl, inr, ℕ, suc, ◌+◌, ◌<◌, ◌≤◌, Bool, true, false, List, [], ◌∷◌, ◌++◌, All, Option, Some, None, Contains}
use Rattle.std.proofs.Common.{refl, ap, sym, ◌∙◌, subst, arith}
use Rattle.std.specs.List.{flat_map}
use Rattle.std.proofs.lemmas.Grind.{flat_map-append}
use Rattle.std.proofs.lemmas.List.Elements.{All-head, All-tail, All-nil, All-cons, All-append, Contains-append_cases, Contains-append_left}
use Rattle.std.proofs.lemmas.List.Elements.{Contains-append_right}
use Rattle.rv64_instr.specs.declared.op.Op.{Op}
use Rattle.rv64_instr.specs.declared.op.Op.TheVariants.{Branch}
use Rattle.rv64_instr.specs.declared.op.BranchOp.{BranchOp}
use Rattle.rv64_instr.specs.declared.operand.Operand.{Operand}
use Rattle.rv64_instr.specs.declared.operand.Operand.TheVariants.{Use, Block as OfBlock}
use Rattle.rv64_instr.specs.Instruction.{Instruction}
use Rattle.rv64_instr.specs.LocationEffects.{has_site}
use Rattle.rv64_instr.specs.Row.{row_of}
use Rattle.rv64_instr.specs.Inverse.{inverse}
use Rattle.mir_func.specs.declared.block.Block.{Block}
use Rattle.mir_func.specs.declared.debug_substitution.DebugSubstitution as func
use Rattle.mir_func.specs.declared.item.Item.{Item}
use Rattle.mir_func.specs.declared.item.ItemKind.{ItemKind}
use Rattle.mir_func.specs.declared.item.ItemKind.TheVariants.{Code, Mark, Phi}
use Rattle.mir_func.specs.Sound.{AllItems, HasForm}
use Rattle.emit_code.specs.declared.code.EncodedInstruction.{EncodedInstruction}
use Rattle.emit_code.specs.LongBranch.{jump_to}
use Rattle.emit_code.specs.Listed.{listed}
use Rattle.emit_code.specs.Rule.{Layout, Site, Form, LongBranch, form_of, address_in, added_before, form_entries, entry, entries_at, entries_of}
use Rattle.emit_code.specs.Rule.{sites_in, sites_from, sites_of}
use Rattle.emit_code.specs.steps.Emitted.{IsFormed}
use Rattle.listing_text.specs.declared.output.Line.{Line}
use Rattle.listing_text.specs.declared.output.Line.TheVariants.{Skip}
use Rattle.listing_text.specs.declared.output.ListedBlock.{ListedBlock}
use Rattle.listing_text.specs.declared.output.ListedVariable.{ListedVariable}
use Rattle.compile_program.specs.listing_meaning.Program.{address_of, past_line, lines_of}
use Rattle.compile_program.specs.listing_meaning.Listing.{implicits, branch_skip, line_at, form_lines, kind_lines, site_lines, items_listed, blocks_listed}
use Rattle.compile_program.specs.listing_meaning.Listing.{prologue_listed, body_listed}
use Rattle.compile_program.specs.listing_meaning.Listing.{listing_of}
use Rattle.compile_program.proofs.listing_meaning.Forms.{FormView, one, call, long, viewed}
use Rattle.compile_program.proofs.listing_meaning.Sizes.{is_call_form, calls_listed, past_word, past_call}
use Rattle.dwarf_line_table.proofs.Members.{no_member, head_member, later_member, member_cases}
use Rattle.compile_output_proof.specs.Lines.{origin_of}

-- an element of what lists are mapped to
mapped_from : {X Y : Type 0} (h : X → List Y) (xs : List X) (y : Y) → Contains (flat_map h xs) y → (x : X) × Contains xs x × Contains (h x) y
mapped_from h [] y is = absurd (no_member y is)
mapped_from h (x ∷ xs) y is = by (Contains-append_cases (h x) (flat_map h xs) y is) (mapped_from h xs y) where
  by : Contains (h x) y ⊎ Contains (flat_map h xs) y → (Contains (flat_map h xs) y → (z : _) × Contains xs z × Contains (h z) y) →
      (z : _) × Contains (x ∷ xs) z × Contains (h z) y
  by (inl here) later = (x, head_member x xs, here)
  by (inr more) later = let found = later more in (found.0, later_member x found.0 xs found.1, found.2)

module _ (a : ℕ) where
  -- a line has the byte
  record LineByte (line : Line) : Type 0 where
    first : ℕ
    begins : address_of line ≡ Some first
    from : first ≤ a
    within : a < past_line first line

  -- one of entries has it, from where the line comes
  record Entered (es : List EncodedInstruction) (line : Line) : Type 0 where
    entry : EncodedInstruction
    among : Contains es entry
    from : entry.address ≤ a
    within : a < entry.address + entry.size
    origin : entry.origin ≡ origin_of line

  module _ (l : Layout) where
    -- a line of code with so many bytes
    code_entered : (at size : ℕ) (i : Item) (kind : ItemKind) (e : EncodedInstruction) (es : List EncodedInstruction) → Contains es e → e.address ≡ at →
        e.size ≡ size →
        e.origin ≡ i.origin → ((x : ℕ) → past_line x (line_at (Some at) i kind) ≡ x + size) → LineByte (line_at (Some at) i kind) →
        Entered es (line_at (Some at) i kind)
    code_entered at size i kind e es among address sized origin past byte =
        let begins = byte.begins in
        let same : at ≡ byte.first = cc in
        let end = past byte.first in
        let from = byte.from in
        let within = byte.within in
        record {
          entry = e;
          among = among;
          from = omega (arith, address, same, from);
          within = omega (arith, address, sized, same, end, within);
          origin = origin;
        }

    abbrev Enters : (at : ℕ) → Site → Form → List Line → Type 0
    Enters at s f ls = (line : Line) → Contains ls line → LineByte line → Entered (form_entries at s.item.origin s.point f) line

    one_line : (at size : ℕ) (s : Site) (kind : ItemKind) (calls : Bool) → ((x : ℕ) → past_line x (line_at (Some at) s.item kind) ≡ x + size) →
        (line : Line) → Contains (line_at (Some at) s.item kind ∷ []) line → LineByte line →
        Entered (entry at size s.item.origin s.point calls ∷ []) line
    one_line at size s kind calls past line is byte = by (member_cases (line_at (Some at) s.item kind) line [] is) where
      by : (line_at (Some at) s.item kind ≡ line) ⊎ Contains [] line → Entered (entry at size s.item.origin s.point calls ∷ []) line
      by (inl same) = subst (Entered (entry at size s.item.origin s.point calls ∷ [])) same
          (code_entered at size s.item kind (entry at size s.item.origin s.point calls) (entry at size s.item.origin s.point calls ∷ [])
          (head_member (entry at size s.item.origin s.point calls) []) refl refl refl past (subst LineByte (sym same) byte))
      by (inr none) = absurd (no_member line none)

    abbrev LongEnters : (at : ℕ) (s : Site) (k : Option ℕ) (t : ℕ) → Op → List Operand → Type 0
    LongEnters at s k t op os = Enters at s (LongBranch t) (branch_skip at s.item.origin op os ++ line_at (Some (at + 4)) s.item (Code (jump_to t) k) ∷ [])

    -- the line that skips the jump of a long branch
    abbrev skip_line : (at : ℕ) → Site → BranchOp → (x y : ℕ) → List Operand → Line
    skip_line at s o x y os = Skip (record {
      address = at;
      origin = added_before s.item.origin;
      op = inverse o;
      first = x;
      second = y;
      implicit = implicits os;
    })

    long_enters : (at : ℕ) (s : Site) (k : Option ℕ) (t : ℕ) (o : BranchOp) (x y z : ℕ) (os : List Operand) →
        LongEnters at s k t (Branch o) (Use x ∷ Use y ∷ OfBlock z ∷ os)
    long_enters at s k t o x y z os line is byte =
        by (member_cases (skip_line at s o x y os) line (line_at (Some (at + 4)) s.item (Code (jump_to t) k) ∷ []) is) where
          skip : EncodedInstruction
          skip = entry at 4 (added_before s.item.origin) s.point false

          jump : EncodedInstruction
          jump = entry (at + 4) 4 s.item.origin s.point false

          by : (skip_line at s o x y os ≡ line) ⊎ Contains (line_at (Some (at + 4)) s.item (Code (jump_to t) k) ∷ []) line → Entered (skip ∷ jump ∷ []) line
          by (inl same) =
              let b = subst LineByte (sym same) byte in
              let begins = b.begins in
              let at_first : at ≡ b.first = cc in
              let from = b.from in
              let within = b.within in
              subst (Entered (skip ∷ jump ∷ [])) same (record {
                entry = skip;
                among = head_member skip (jump ∷ []);
                from = omega (arith, at_first, from);
                within = omega (arith, at_first, within);
                origin = refl;
              })
          by (inr more) =
              let found = one_line (at + 4) 4 s (Code (jump_to t) k) false (λ q. refl) line more byte in
              record {
                entry = found.entry;
                among = later_member skip found.entry (jump ∷ []) found.among;
                from = found.from;
                within = found.within;
                origin =
                    found.origin;
              }

    form_enters : (at : ℕ) (s : Site) (c : Instruction) (k : Option ℕ) (f : Form) → FormView c.op c.operands f →
        has_site (row_of (listed l.framed c)) ≡ is_call_form f → Enters at s f (form_lines l at s.item c k f)
    form_enters at s c k f one calls = one_line at 4 s (Code (listed l.framed c) k) false (λ x. past_word l.framed x c k calls)
    form_enters at s c k f (call name os os_is op_is) calls = one_line at 8 s (Code (listed l.framed c) k) true (λ x. past_call l.framed x c k calls)
    form_enters at s c k f (long b x y n os op_is os_is all) calls =
        subst (λ (op : Op). LongEnters at s k n op c.operands) (sym op_is)
        (subst (λ (ps : List Operand). LongEnters at s k n (Branch b) ps) (sym os_is) (long_enters at s k n b x y n os))

    no_byte : (i : Item) (kind : ItemKind) (line : Line) → Contains (line_at None i kind ∷ []) line → LineByte line → ⊥
    no_byte i kind line is byte = by (member_cases (line_at None i kind) line [] is) where
      by : (line_at None i kind ≡ line) ⊎ Contains [] line → ⊥
      by (inl same) = let none = (subst LineByte (sym same) byte).begins in cc
      by (inr none) = no_member line none

    kind_enters : (s : Site) (kind : ItemKind) → HasForm kind → (line : Line) → Contains (kind_lines l s kind) line → LineByte line →
        Entered (form_entries (address_in l s.point) s.item.origin s.point (form_of (l.long s.point) kind)) line
    kind_enters s (Code c k) form line is byte =
        form_enters (address_in l s.point) s c k (form_of (l.long s.point) (Code c k)) (viewed (l.long s.point) c.op c.operands form)
        (calls_listed l.framed (l.long s.point) c form) line is byte
    kind_enters s (Mark v m) form line is byte = absurd (no_byte s.item (Mark v m) line is byte)
    kind_enters s (Phi p k) form line is byte = absurd (no_byte s.item (Phi p k) line is byte)

    -- ---- all sites

    abbrev SiteForm : Site → Type 0
    SiteForm s = IsFormed s.item

    sites_enter : (sites : List Site) → All SiteForm sites → (line : Line) → Contains (flat_map (site_lines l) sites) line → LineByte line →
        Entered (flat_map (entries_at l) sites) line
    sites_enter [] forms line is byte = absurd (no_member line is)
    sites_enter (s ∷ sites) forms line is byte =
        by (Contains-append_cases (site_lines l s) (flat_map (site_lines l) sites) line is)
        (λ more. sites_enter sites (All-tail SiteForm s sites forms) line more byte) where
          by : Contains (site_lines l s) line ⊎ Contains (flat_map (site_lines l) sites) line →
              (Contains (flat_map (site_lines l) sites) line → Entered (flat_map (entries_at l) sites) line) →
              Entered (entries_at l s ++ flat_map (entries_at l) sites) line
          by (inl here) later =
              let found = kind_enters s s.item.kind (All-head SiteForm s sites forms) line here byte in
              record {
                entry = found.entry;
                among = Contains-append_left (entries_at l s) (flat_map (entries_at l) sites) found.entry found.among;
                from = found.from;
                within = found.within;
                origin = found.origin;
              }
          by (inr more) later =
              let found = later more in
              record {
                entry = found.entry;
                among = Contains-append_right (entries_at l s) (flat_map (entries_at l) sites) found.entry found.among;
                from = found.from;
                within = found.within;
                origin = found.origin;
              }

    items_formed : (b n : ℕ) (items : List Item) → All IsFormed items → All SiteForm (sites_in b n items)
    items_formed b n [] forms = All-nil SiteForm
    items_formed b n (i ∷ items) forms = All-cons SiteForm _ (sites_in b (suc n) items) (All-head IsFormed i items forms)
        (items_formed b (suc n) items (All-tail IsFormed i items forms))

    blocks_formed : (b : ℕ) (blocks : List Block) → AllItems IsFormed blocks → All SiteForm (sites_from b blocks)
    blocks_formed b [] forms = All-nil SiteForm
    blocks_formed b (block ∷ blocks) forms =
        All-append SiteForm (sites_in b 0 block.items) (sites_from (suc b) blocks)
        (items_formed b 0 block.items (All-head (λ (x : Block). All IsFormed x.items) block blocks forms))
        (blocks_formed (suc b) blocks (All-tail (λ (x : Block). All IsFormed x.items) block blocks forms))

    -- the lines of blocks are those of their sites
    blocks_lines : (b : ℕ) (blocks : List Block) →
        flat_map (λ (x : ListedBlock). x.lines) (blocks_listed l b blocks) ≡ flat_map (site_lines l) (sites_from b blocks)
    blocks_lines b [] = refl
    blocks_lines b (block ∷ blocks) =
        ap (λ (ls : List Line). items_listed l b block.items ++ ls) (blocks_lines (suc b) blocks)
        ∙ sym (flat_map-append (site_lines l) (sites_in b 0 block.items) (sites_from (suc b) blocks))

    all_lines : (blocks : List Block) →
        prologue_listed l blocks ++ flat_map (λ (x : ListedBlock). x.lines) (body_listed l blocks) ≡ flat_map (site_lines l) (sites_from 0 blocks)
    all_lines [] = refl
    all_lines (p ∷ blocks) = blocks_lines 0 (p ∷ blocks)

    -- a byte of a line of a listing
    pub listing_entered : (variables : List ListedVariable) (substitutions : List func.DebugSubstitution) → AllItems IsFormed l.framed.blocks → (line : Line) →
        Contains (lines_of (listing_of l variables substitutions)) line → (first : ℕ) → address_of line ≡ Some first → first ≤ a → a < past_line first line →
        (e : EncodedInstruction) × Contains (entries_of l) e × (e.address ≤ a) × (a < e.address + e.size) × (e.origin ≡ origin_of line)
    listing_entered variables substitutions forms line is first begins from within =
        let found = sites_enter (sites_of l.framed) (blocks_formed 0 l.framed.blocks forms) line
        (subst (λ (ls : List Line). Contains ls line) (all_lines l.framed.blocks) is)
        (record { first = first; begins = begins; from = from; within = within }) in
        (found.entry, found.among, found.from, found.within, found.origin)
