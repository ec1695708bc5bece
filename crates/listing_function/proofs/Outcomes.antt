-- What an item's entries say of its lines: code of one word and a call have one entry, and the next one is of another point, so there
-- is one line; a long branch has two entries of one point, and two lines.
use Rattle.std.proofs.Common.{◌≡◌, ℕ, ◌+◌, Bool, true, false, ◌&&◌, cond, nat_eq, List, [], ◌∷◌, ◌++◌, drop, Option, Some, None}
use Rattle.std.proofs.Common.{refl, ap, sym, subst, ◌∙◌, inl, inr}
use Rattle.std.specs.Prelude.{◌⊎◌}
use Rattle.std.proofs.lemmas.List.{drop-drop}
use Rattle.std.proofs.lemmas.Bool.{and_parts, eqb-true, eq-eqb}
use Rattle.rv64_instr.specs.declared.op.Op.{Op}
use Rattle.rv64_instr.specs.declared.op.Op.TheVariants.{Branch as OfBranch}
use Rattle.rv64_instr.specs.declared.op.BranchOp.{BranchOp}
use Rattle.rv64_instr.specs.declared.operand.Operand.{Operand}
use Rattle.rv64_instr.specs.declared.operand.Operand.TheVariants.{Use, Block}
use Rattle.rv64_instr.specs.Instruction.{Instruction}
use Rattle.mir_func.specs.declared.item.Item.{Item}
use Rattle.mir_func.specs.declared.item.ItemKind.{ItemKind}
use Rattle.mir_func.specs.declared.item.ItemKind.TheVariants.{Code}
use Rattle.mir_func.specs.declared.position.ProgramPoint.{ProgramPoint}
use Rattle.mir_func.specs.declared.position.Pos.{Pos}
use Rattle.mir_func.specs.Sound.{HasForm}
use Rattle.emit_code.specs.declared.code.EncodedInstruction.{EncodedInstruction}
use Rattle.emit_code.specs.LongBranch.{jump_to}
use Rattle.emit_code.specs.Listed.{listed}
use Rattle.emit_code.specs.Rule.{Layout, Site, Form, form_of, address_in, form_entries, entries_at, entry, added_before}
use Rattle.emit_code.specs.steps.Emitted.{point_of}
use Rattle.listing_text.specs.declared.output.Line.{Line}
use Rattle.listing_meaning.specs.Listing.{branch_skip, line_at, form_lines, kind_lines, site_lines}
use Rattle.listing_meaning.proofs.Forms.{FormView, one, call, long, viewed}
use Rattle.listing_function.specs.declared.lines.Long.{Long}
use Rattle.listing_function.specs.steps.Entries.{first_address, second_address, is_same_point, BeginsApart, StandsAt}
use Rattle.listing_function.specs.steps.Operands.{branch_by}
use Rattle.listing_function.specs.steps.Lines.{long_by, long_lines}

-- ---- the next entry

same_by : (q : Bool) (p : Pos) (y : EncodedInstruction) → is_same_point (point_of p) y.point ≡ q → (y.point ≡ point_of p → ⊥) →
    cond q (Some y.address) None ≡ None
same_by false p y is apart = refl
same_by true p y is apart =
    let both = and_parts (nat_eq p.block y.point.block) (nat_eq p.item y.point.item) is in
    let block : p.block ≡ y.point.block = eqb-true _ _ both.0 in
    let item : p.item ≡ y.point.item = eqb-true _ _ both.1 in
    absurd (apart (λ i. record { block = sym block i; item = sym item i }))

next_apart : (p : Pos) (e : EncodedInstruction) (others : List EncodedInstruction) → e.point ≡ point_of p → BeginsApart p others →
    second_address (e ∷ others) ≡ None
next_apart p e [] is apart = refl
next_apart p e (y ∷ others) is apart =
    ap (λ (q : ProgramPoint). cond (is_same_point q y.point) (Some y.address) None) is ∙ same_by (is_same_point (point_of p) y.point) p y refl apart

-- ---- what the entries say

module _ (l : Layout) (i : Item) (c : Instruction) (k : Option ℕ) (a : ℕ) (es others : List EncodedInstruction) (lines : List Line) where
  pub record One : Type 0 where
    pub first : first_address es ≡ Some a
    pub second : second_address es ≡ None
    pub lined : lines ≡ line_at (Some a) i (Code (listed l.framed c) k) ∷ []
    pub rest : drop 1 es ≡ others

  pub record Two : Type 0 where
    pub branch : Long
    pub first : first_address es ≡ Some a
    pub second : long_by (second_address es) (branch_by c.op c.operands) ≡ Some branch
    pub lined : lines ≡ long_lines a branch i c.operands k
    pub rest : drop 2 es ≡ others

  single : (e : EncodedInstruction) (p : Pos) → e.point ≡ point_of p → e.address ≡ a → es ≡ e ∷ others → BeginsApart p others →
      lines ≡ line_at (Some a) i (Code (listed l.framed c) k) ∷ [] → One
  single e p at here is apart lined = record {
    first = ap first_address is ∙ ap (λ (x : ℕ). Some x) here;
    second = ap second_address is ∙ next_apart p e others at apart;
    lined = lined;
    rest = ap (drop 1) is;
  }

  long_alike : (b : BranchOp) (x y n : ℕ) (rest : List Operand) (op : Op) (os : List Operand) → op ≡ OfBranch b → os ≡ Use x ∷ Use y ∷ Block n ∷ rest →
      branch_skip a i.origin op os ++ line_at (Some (a + 4)) i (Code (jump_to n) k) ∷ [] ≡
      long_lines a (record { jump = a + 4; branch = record { op = b; first = x; second = y; target = n } }) i os k
  long_alike b x y n rest op os op_is os_is =
      let far : Long = record { jump = a + 4; branch = record { op = b; first = x; second = y; target = n } } in
      subst (λ (o : Op). branch_skip a i.origin o os ++ line_at (Some (a + 4)) i (Code (jump_to n) k) ∷ [] ≡ long_lines a far i os k) (sym op_is)
      (subst (λ (t : List Operand). branch_skip a i.origin (OfBranch b) t ++ line_at (Some (a + 4)) i (Code (jump_to n) k) ∷ [] ≡ long_lines a far i t k)
      (sym os_is) refl)

  branch_found : (b : BranchOp) (x y n : ℕ) (rest : List Operand) (op : Op) (os : List Operand) → op ≡ OfBranch b → os ≡ Use x ∷ Use y ∷ Block n ∷ rest →
      branch_by op os ≡ Some (record { op = b; first = x; second = y; target = n })
  branch_found b x y n rest op os op_is os_is = ap (λ (o : Op). branch_by o os) op_is ∙ ap (branch_by (OfBranch b)) os_is

  second_there : (x y : EncodedInstruction) (p : Pos) → x.point ≡ point_of p → y.point ≡ point_of p → second_address (x ∷ y ∷ others) ≡ Some y.address
  second_there x y p e d =
      let same : is_same_point x.point y.point ≡ true = (λ i. is_same_point (e i) (d i)) ∙ point_is p in
      ap (λ (q : Bool). cond q (Some y.address) None) same
    where
      point_is : (p : Pos) → is_same_point (point_of p) (point_of p) ≡ true
      point_is p = (λ j. eq-eqb p.block p.block refl j && nat_eq p.item p.item) ∙ eq-eqb p.item p.item refl

  outcome_by : (p : Pos) (f : Form) → FormView c.op c.operands f → es ≡ form_entries a i.origin p f ++ others → BeginsApart p others →
      lines ≡ form_lines l a i c k f → One ⊎ Two
  outcome_by p f one is apart lined = inl (single (entry a 4 i.origin p false) p refl refl is apart lined)
  outcome_by p f (call name os os_is op_is) is apart lined = inl (single (entry a 8 i.origin p true) p refl refl is apart lined)
  outcome_by p f (long b x y n rest op_is os_is all) is apart lined =
      let second : second_address es ≡ Some (a + 4) = ap second_address is ∙ second_there (entry a 4 (added_before i.origin) p false)
      (entry (a + 4) 4 i.origin p false) p refl refl in
      inr (record {
        branch = record { jump = a + 4; branch = record { op = b; first = x; second = y; target = n } };
        first = ap first_address is;
        second = ap (λ (t : Option ℕ). long_by t (branch_by c.op c.operands)) second
            ∙ ap (long_by (Some (a + 4))) (branch_found b x y n rest c.op c.operands op_is os_is);
        lined = lined ∙ long_alike b x y n rest c.op c.operands op_is os_is;
        rest = ap (drop 2) is;
      })

pub outcome : (l : Layout) (s : Site) (c : Instruction) (k : Option ℕ) (es others : List EncodedInstruction) → HasForm (Code c k) → Code c k ≡ s.item.kind →
    es ≡ entries_at l s ++ others → BeginsApart s.point others →
    One l s.item c k (address_in l s.point) es others (site_lines l s) ⊎ Two l s.item c k (address_in l s.point) es others (site_lines l s)
outcome l s c k es others form kind is apart =
    outcome_by l s.item c k (address_in l s.point) es others (site_lines l s) s.point (form_of (l.long s.point) (Code c k))
    (viewed (l.long s.point) c.op c.operands form)
    (is ∙ ap (λ (t : ItemKind). form_entries (address_in l s.point) s.item.origin s.point (form_of (l.long s.point) t) ++ others) (sym kind)) apart
    (ap (kind_lines l s) (sym kind))

-- ---- what is listed

module _ (l : Layout) (s : Site) (c : Instruction) (k : Option ℕ) (es others : List EncodedInstruction) (a : ℕ) where
  two_given : (far : Long) → Some a ≡ first_address es → Some far ≡ long_by (second_address es) (branch_by c.op c.operands) →
      One l s.item c k (address_in l s.point) es others (site_lines l s) ⊎ Two l s.item c k (address_in l s.point) es others (site_lines l s) →
      (long_lines a far s.item c.operands k ≡ site_lines l s) × (drop 2 es ≡ others)
  two_given far first both (inl o) =
      let none : Some far ≡ None = both ∙ ap (λ (t : Option ℕ). long_by t (branch_by c.op c.operands)) o.second in absurd cc
  two_given far first both (inr t) =
      let there : Some a ≡ Some (address_in l s.point) = first ∙ t.first in
      let address : a ≡ address_in l s.point = cc in
      let found : Some far ≡ Some t.branch = both ∙ t.second in
      let branch : far ≡ t.branch = cc in
      ((λ j. long_lines (address j) (branch j) s.item c.operands k) ∙ sym t.lined, t.rest)

  one_given : Some a ≡ first_address es → None ≡ long_by (second_address es) (branch_by c.op c.operands) →
      One l s.item c k (address_in l s.point) es others (site_lines l s) ⊎ Two l s.item c k (address_in l s.point) es others (site_lines l s) →
      (line_at (Some a) s.item (Code (listed l.framed c) k) ∷ [] ≡ site_lines l s) × (drop 1 es ≡ others)
  one_given first none (inl o) =
      let there : Some a ≡ Some (address_in l s.point) = first ∙ o.first in
      let address : a ≡ address_in l s.point = cc in
      (ap (λ (x : ℕ). line_at (Some x) s.item (Code (listed l.framed c) k) ∷ []) address ∙ sym o.lined, o.rest)
  one_given first none (inr t) = let some : None ≡ Some t.branch = none ∙ t.second in absurd cc

module _ (l : Layout) (s : Site) (c : Instruction) (k : Option ℕ) (entries others : List EncodedInstruction) (at a : ℕ) (form : HasForm (Code c k))
    (kind : Code c k ≡ s.item.kind) (stands : StandsAt l entries at s others) where
  pub long_lined : (far : Long) → Some a ≡ first_address (drop at entries) →
      Some far ≡ long_by (second_address (drop at entries)) (branch_by c.op c.operands) → (old new : List Line) (item : Item) → item ≡ s.item →
      new ≡ old ++ long_lines a far item c.operands k → (new ≡ old ++ site_lines l s) × (drop (at + 2) entries ≡ others)
  long_lined far first both old new item is pushed =
      let given = two_given l s c k (drop at entries) others a far first both (outcome l s c k (drop at entries) others form kind stands.here stands.apart) in (
        pushed ∙ ap (λ (i : Item). old ++ long_lines a far i c.operands k) is ∙ ap (λ (t : List Line). old ++ t) given.0,
        sym (drop-drop 2 at entries) ∙ given.1,
      )

  pub one_lined : Some a ≡ first_address (drop at entries) → None ≡ long_by (second_address (drop at entries)) (branch_by c.op c.operands) →
      (old new : List Line) (item : Item) → item ≡ s.item → new ≡ old ++ line_at (Some a) item (Code (listed l.framed c) k) ∷ [] →
      (new ≡ old ++ site_lines l s) × (drop (at + 1) entries ≡ others)
  one_lined first none old new item is pushed =
      let given = one_given l s c k (drop at entries) others a first none (outcome l s c k (drop at entries) others form kind stands.here stands.apart) in (
        pushed ∙ ap (λ (i : Item). old ++ line_at (Some a) i (Code (listed l.framed c) k) ∷ []) is ∙ ap (λ (t : List Line). old ++ t) given.0,
        sym (drop-drop 1 at entries) ∙ given.1,
      )
