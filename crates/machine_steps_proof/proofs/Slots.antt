-- Where a slot has a token on a path of a function with its frame, it is one of the frame's, and the frame is up: tokens of slots come from
-- stores alone, a write of x2 takes them all away, and x2 is at its content at entry right at the start and right below such a write alone.
use Rattle.std.proofs.Common.{◌≡◌, ◌⊎◌, ℕ, zero, suc, Option, Some, None, Bool, true, false, cond, refl, sym, ap, ◌∙◌, subst, inl, inr}
use Rattle.std.proofs.Common.{ne_eqb}
use Rattle.std.proofs.lemmas.Bool.{cases_eq}
use Rattle.std.proofs.lemmas.List.Elements.{All-contains}
use Rattle.rv64_instr.specs.declared.operand.Operand.{Operand}
use Rattle.rv64_instr.specs.Arithmetic.{word}
use Rattle.rv64_instr.specs.Row.{Row, StoresSlot, Branches, Jumps, Calls, Returns, Unfit, row_of}
use Rattle.rv64_instr.specs.Row.{add_row}
use Rattle.rv64_instr.specs.LocationEffects.{is_call}
use Rattle.mir_func.specs.declared.debug_substitution.OperandPair.{OperandPair}
use Rattle.mir_func.specs.declared.exit.Exit.TheVariants.{Final}
use Rattle.mir_func.specs.declared.item.Item.{Item}
use Rattle.mir_func.specs.declared.item.ItemKind.{ItemKind}
use Rattle.mir_func.specs.declared.item.ItemKind.TheVariants.{Code, Mark, Phi}
use Rattle.mir_func.specs.declared.position.Pos.{Pos}
use Rattle.mir_func.specs.Exits.{row_exit, exit_of}
use Rattle.mir_func.specs.Function.{FramedFunction}
use Rattle.mir_func.specs.Graph.{Fetch, Here, EndOfBlock, Outside, Program, below, block_start, framed_program, RowEdge, KindEdge, FetchEdge}
use Rattle.mir_func.specs.Sound.{SlotIn, SlotsIn}
use Rattle.mir_func.specs.SoundFrame.{adds_to_pointer, slot_offsets, IsSlotOffset, IsFramed}
use Rattle.sem_mir.specs.ValueId.{Token, Tokens, register_token, moved_tokens, sets_pointer, code_tokens, numbered_tokens, after_item, after_fetch}
use Rattle.sem_mir.specs.ValueId.{Path, begin, onward}
use Rattle.sem_mir.proofs.Places.{without_some}
use Rattle.machine_steps_proof.specs.Laid.{fetched}
use Rattle.machine_steps_proof.specs.Pointer.{lowered_by}
use Rattle.machine_steps_proof.proofs.Points.{of_item, PointerMotion, keeps, lowers, raises, leaves, pointer_motion, start_down}

-- ---- tokens of slots come from stores

-- the slot had its token before, or the code stores it
abbrev CameFrom : Row → Tokens → (slot : ℕ) → Token → Type 0
CameFrom row t o k = (t.slots o ≡ Some k) ⊎ ((rs : ℕ) × (row ≡ StoresSlot rs o))

moved_slots : (n : ℕ) (row : Row) (t : Tokens) (o : ℕ) (k : Token) → (moved_tokens n row t).slots o ≡ Some k → CameFrom row t o k
unfolding moved_tokens
moved_slots n (StoresSlot rs j) t o k e = elim (cases_eq o j) as (λ _. CameFrom (StoresSlot rs j) t o k) [
  | inl same ↦ inr (rs, ap (StoresSlot rs) (sym same))
  | inr other ↦ inl (ap (λ (b : Bool). cond b (register_token t.regs rs) (t.slots o)) (sym (ne_eqb o j other)) ∙ e)
]
moved_slots n (Calls call) t o k e = inl (without_some call.outgoing o k t.slots e)
moved_slots n _ t o k e = inl e

code_slots : (n : ℕ) (row : Row) (t : Tokens) (o : ℕ) (k : Token) → (code_tokens n row t).slots o ≡ Some k → (sets_pointer row ≡ false) × CameFrom row t o k
code_slots n row t o k e = by_pointer (sets_pointer row) refl e where
  by_pointer : (b : Bool) → sets_pointer row ≡ b → (cond b (record (moved_tokens n row t) { slots = λ q. None }) (moved_tokens n row t)).slots o ≡ Some k →
      (sets_pointer row ≡ false) × CameFrom row t o k
  by_pointer true s h = cc
  by_pointer false s h = (s, moved_slots n row t o k h)

numbered_slots : (call : Bool) (j : Option ℕ) (os : Rattle.std.proofs.Common.List Operand) (t : Tokens) → (numbered_tokens call j os t).slots ≡ t.slots
numbered_slots call None os t = refl
numbered_slots call (Some j) os t = refl

-- an item's code
abbrev KindCameFrom : ItemKind → Tokens → (slot : ℕ) → Token → Type 0
KindCameFrom (Code c j) t o k = (sets_pointer (row_of c) ≡ false) × CameFrom (row_of c) t o k
KindCameFrom (Mark v m) t o k = t.slots o ≡ Some k
KindCameFrom (Phi p j) t o k = t.slots o ≡ Some k

item_slots : (resolve : OperandPair → Option OperandPair) (n : ℕ) (kind : ItemKind) (t : Tokens) (o : ℕ) (k : Token) →
    (after_item resolve n kind t).slots o ≡ Some k → KindCameFrom kind t o k
item_slots resolve n (Code c j) t o k e =
    code_slots n (row_of c) t o k
    (ap (λ (slots : ℕ → Option Token). slots o) (sym (numbered_slots (is_call (row_of c)) j c.operands (code_tokens n (row_of c) t))) ∙ e)
item_slots resolve n (Mark v m) t o k e = e
item_slots resolve n (Phi p j) t o k e = e

-- ---- where edges lead

-- an edge leads below, or to the start of a block that is entered
abbrev LeadsOn : (ℕ → ℕ) → Pos → Pos → Type 0
LeadsOn enter p q = (q ≡ below p) ⊎ ((n : ℕ) × (q ≡ block_start (enter n)))

row_leads : (enter : ℕ → ℕ) (r : Row) (p q : Pos) → RowEdge enter r p q → LeadsOn enter p q
row_leads enter (Branches op a b target) p q (inl e) = inr (target, e)
row_leads enter (Branches op a b target) p q (inr e) = inl e
row_leads enter (Jumps target) p q e = inr (target, e)
row_leads enter (Returns ending) p q e = absurd e
row_leads enter Unfit p q e = absurd e
row_leads enter _ p q e = inl e

kind_leads : (enter : ℕ → ℕ) (k : ItemKind) (p q : Pos) → KindEdge enter k p q → LeadsOn enter p q
kind_leads enter (Code c j) p q e = row_leads enter (row_of c) p q e
kind_leads enter (Mark v m) p q e = inl e
kind_leads enter (Phi r j) p q e = inl e

row_final : (enter : ℕ → ℕ) (r : Row) (p q : Pos) → row_exit r ≡ Final → RowEdge enter r p q → ⊥
row_final enter (Returns ending) p q e edge = edge
row_final enter Unfit p q e edge = edge
row_final enter _ p q e edge = cc

kind_final : (enter : ℕ → ℕ) (k : ItemKind) (p q : Pos) → exit_of k ≡ Final → KindEdge enter k p q → ⊥
kind_final enter (Code c j) p q e edge = row_final enter (row_of c) p q e edge
kind_final enter (Mark v m) p q e edge = cc
kind_final enter (Phi r j) p q e edge = cc

adds_set : (n : ℕ) → sets_pointer (add_row 2 2 n) ≡ true
adds_set zero = refl
adds_set (suc n) = refl

-- ---- the frame of a slot with a token

module _ (f : FramedFunction) (framed : IsFramed f) (resolve : OperandPair → Option OperandPair) where
  abbrev g : Program
  g = framed_program f.blocks resolve

  stored_in : (p : Pos) (i : Item) (c : _) (j : Option ℕ) (rs o : ℕ) → fetched f p ≡ Here i → i.kind ≡ Code c j → row_of c ≡ StoresSlot rs o → IsSlotOffset f o
  stored_in p i c j rs o here kind row =
      let slots = subst (SlotsIn (slot_offsets f)) kind (of_item f (λ (x : Item). SlotsIn (slot_offsets f) x.kind) framed.slots p i here) in
      All-contains (IsSlotOffset f) (slot_offsets f) o framed.offsets (subst (SlotIn (slot_offsets f)) row slots.0)

  -- the slot is one of the frame's
  pub slot_offset : {n : ℕ} {p : Pos} {t : Tokens} → Path g (block_start 0) n p t → (o : ℕ) (k : Token) → t.slots o ≡ Some k → IsSlotOffset f o
  slot_offset begin o k e = cc
  slot_offset (onward {n} {p} {q} {t} path edge) o k e = by_fetch (λ h. slot_offset path o k h) (g.fetch p) refl e where
    by_kind : (t.slots o ≡ Some k → IsSlotOffset f o) → (i : Item) → g.fetch p ≡ Here i → (kind : ItemKind) → i.kind ≡ kind → KindCameFrom kind t o k →
        IsSlotOffset f o
    by_kind before i here (Code c j) is (s, inl h) = before h
    by_kind before i here (Code c j) is (s, inr (rs, row)) = stored_in p i c j rs o here is row
    by_kind before i here (Mark v m) is h = before h
    by_kind before i here (Phi r j) is h = before h

    by_fetch : (t.slots o ≡ Some k → IsSlotOffset f o) → (x : Fetch) → g.fetch p ≡ x → (after_fetch resolve n x t).slots o ≡ Some k → IsSlotOffset f o
    by_fetch before (Here i) here h = by_kind before i here i.kind refl (item_slots resolve n i.kind t o k h)
    by_fetch before (EndOfBlock j m) here h = before h
    by_fetch before Outside here h = before h

  goes_down : (p q : Pos) → lowered_by f (below p) ≡ f.size → LeadsOn g.enter p q → lowered_by f q ≡ f.size
  goes_down p q next (inl e) = ap (lowered_by f) e ∙ next
  goes_down p q next (inr (n, e)) = ap (lowered_by f) e ∙ start_down f framed _

  -- an addition to x2 takes its token away
  added_none : (kind : ItemKind) (z : _) (t : Tokens) (o : ℕ) (k : Token) → kind ≡ Code (adds_to_pointer z) None → KindCameFrom kind t o k → ⊥
  added_none kind z t o k is h =
      let came = subst (λ (x : ItemKind). KindCameFrom x t o k) is h in
      let bad : true ≡ false = sym (adds_set (word z)) ∙ came.0 in
      cc

  -- and the frame is up
  pub slot_up : {n : ℕ} {p : Pos} {t : Tokens} → Path g (block_start 0) n p t → (o : ℕ) (k : Token) → t.slots o ≡ Some k → lowered_by f p ≡ f.size
  slot_up begin o k e = cc
  slot_up (onward {n} {p} {q} {t} path edge) o k e = by_fetch (g.fetch p) refl edge e where
    by_motion : (i : Item) → PointerMotion f p i.kind → KindEdge g.enter i.kind p q → KindCameFrom i.kind t o k → lowered_by f q ≡ f.size
    by_motion i (keeps leave here next on) way h = goes_down p q next (kind_leads g.enter i.kind p q way)
    by_motion i (lowers is ne here next) way h = absurd (added_none i.kind _ t o k is h)
    by_motion i (raises is ne here next) way h = absurd (added_none i.kind _ t o k is h)
    by_motion i (leaves is) way h = absurd (kind_final g.enter i.kind p q is way)

    by_fetch : (x : Fetch) → g.fetch p ≡ x → FetchEdge g.enter x p q → (after_fetch resolve n x t).slots o ≡ Some k → lowered_by f q ≡ f.size
    by_fetch (Here i) here way h = by_motion i (pointer_motion f framed p i here) way (item_slots resolve n i.kind t o k h)
    by_fetch (EndOfBlock j m) here way h = ap (lowered_by f) way ∙ start_down f framed _
    by_fetch Outside here way h = absurd way
