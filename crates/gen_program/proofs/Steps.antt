-- Generated functions have no frame fault.
--
-- Registers are written from the start on, and stay so. The first four steps store the four slots, and slots stay written too. So no
-- item of the function reads what isn't written, and none has another access to memory.
use Rattle.std.proofs.Common.{◌≡◌, ℕ, zero, suc, ◌+◌, ◌<◌, ◌≤◌, List, [], ◌∷◌, drop, Option, Some, None, refl, sym, ap, ◌∙◌, subst, inl, inr, arith, ◌++◌}
use Rattle.std.proofs.Common.{Bool, true, false, cond, nat_eq, ◌&&◌, is_some, ◌⊎◌, lit<}
use Rattle.std.specs.List.{All}
use Rattle.std.proofs.lemmas.Bool.{cases_eq}
use Rattle.std.proofs.lemmas.List.Elements.{All-nil, All-cons, All-head, All-tail, All-drop, All-weaker}
use Rattle.rv64_instr.specs.Row.{Input, Content, Number, PartOf}
use Rattle.rv64_instr.specs.DefsAndUses.{reads, way_reads}
use Rattle.rv64_instr.specs.Instruction.{Instruction}
use Rattle.std.specs.Prelude.{pos}
use Rattle.rv64_instr.specs.declared.op.Op.TheVariants.{Store}
use Rattle.rv64_instr.specs.declared.op.StoreOp.TheVariants.{Sd}
use Rattle.rv64_instr.specs.declared.operand.Operand.{Operand}
use Rattle.rv64_instr.specs.declared.operand.Operand.TheVariants.{Use, Imm, Slot as OfSlot}
use Rattle.rv64_instr.specs.Arithmetic.{taken}
use Rattle.rv64_instr.specs.LocationEffects.{is_call}
use Rattle.rv64_instr.specs.Row.{Row, Fixes, Moves, Sets, LoadsSlot, StoresSlot, Branches, Jumps, Returns, row_of}
use Rattle.mir_func.specs.declared.block.Block.{Block}
use Rattle.mir_func.specs.declared.debug_substitution.OperandPair.{OperandPair}
use Rattle.mir_func.specs.declared.item.Item.{Item}
use Rattle.mir_func.specs.declared.item.ItemKind.{ItemKind}
use Rattle.mir_func.specs.declared.item.ItemKind.TheVariants.{Code, Mark, Phi}
use Rattle.mir_func.specs.declared.position.Pos.{Pos}
use Rattle.mir_func.specs.Graph.{Fetch, Here, EndOfBlock, Outside, Program, below, block_start, end_of, front, fetch_in, from_block, program_of}
use Rattle.mir_func.specs.Sound.{AllItems}
use Rattle.sem_mir.specs.InitialState.{first_of}
use Rattle.sem_mir.specs.State.{Core, State, content, put, updated}
use Rattle.sem_mir.specs.Step.{Went, Returned, Faulted, Waits, Lost, Outcome, Falls, Goes, Gives, Traps, Asks, Breaks, moved, read, set_register}
use Rattle.sem_mir.specs.Step.{slot_loaded, does, are_written, act, with_core, numbered, do_item, do_fetch, Next, after, step, run}
use Rattle.sem_mir.proofs.Places.{put_same, put_other, updated_same, updated_other}
use Rattle.gen_function.specs.Draws.{Drawn}
use Rattle.gen_function.specs.Items.{copy, store}
use Rattle.gen_function.specs.Generator.{blocks_made}
use Rattle.gen_function.proofs.Placing.{item_at}
use Rattle.gen_program.specs.Laws.{GeneratedRunsDontFault, MarksWhole, GeneratedFunctionsMarkWholes}
use Rattle.gen_program.proofs.Made.{IsMade, adds, copies, gives, sets, stores, loads, phis, marks, branches, jumps, returns}
use Rattle.gen_program.proofs.Made.{IsMadeItem, IsMadeBlock, blocks_are_made, BeginsByStoring, begins_by_storing}

-- ---- rows

abbrev IsLow : ℕ → Type 0
IsLow r = r < 32

abbrev InputIsLow : Input → Type 0
InputIsLow (Content r) = r < 32
InputIsLow (Number n) = Unit {0}
InputIsLow (PartOf half y) = Unit {0}

-- a row that reads physical registers and the four slots alone, and calls nothing
abbrev pub IsMildRow : Row → Type 0
IsMildRow (Fixes rd n) = Unit {0}
IsMildRow (Moves rd rs) = rs < 32
IsMildRow (Sets rd op a b) = (a < 32) × InputIsLow b
IsMildRow (LoadsSlot rd n) = n < 4
IsMildRow (StoresSlot rs n) = rs < 32
IsMildRow (Branches op a b target) = (a < 32) × (b < 32)
IsMildRow (Jumps target) = Unit {0}
IsMildRow (Returns ending) = All IsLow (way_reads ending.way ++ ending.values)
IsMildRow _ = ⊥

abbrev pub IsMild : ItemKind → Type 0
IsMild (Code i k) = IsMildRow (row_of i)
IsMild (Mark v m) = Unit {0}
IsMild (Phi p k) = Unit {0}

copies_mildly : (rd rs : ℕ) (k : Option ℕ) → rs < 32 → IsMild (copy rd rs k)
copies_mildly rd zero k l = tt
copies_mildly rd (suc rs) k l = l

pub made_mild : {top : ℕ} {kind : ItemKind} → IsMade top kind → IsMild kind
made_mild (adds rd rs rt k a b c l) = (b.1, c.1)
made_mild (copies rd rs k a b l) = copies_mildly rd rs (Some k) b.1
made_mild gives = lit< tt
made_mild (sets rd n k a l m) = tt
made_mild (stores rs n a l) = a.1
made_mild (loads rd n k a l m) = l
made_mild (phis rs k a l) = tt
made_mild (marks n k l m) = tt
made_mild (branches rs n a l) = (a.1, lit< tt)
made_mild (jumps n l) = tt
made_mild returns = All-cons IsLow 10 [] (lit< tt) (All-nil IsLow)

-- ---- what is written stays so

abbrev HasRegisters : Core → Type 0
HasRegisters c = (r : ℕ) → r < 32 → (v : ℕ) × (content c.regs r ≡ Some v)

-- the slots below a number are written
abbrev HasSlots : (count : ℕ) → Core → Type 0
HasSlots k c = (n : ℕ) → n < k → (v : ℕ) × (c.slots n ≡ Some v)

record Keeps (c : Core) : Type 0 where
  regs : HasRegisters c
  slots : HasSlots 4 c

put_written : (rd x : ℕ) (regs : ℕ → Option ℕ) (r v : ℕ) → content regs r ≡ Some v → (w : ℕ) × (content (put rd x regs) r ≡ Some w)
put_written rd x regs zero v e = (0, refl)
put_written rd x regs (suc r) v e =
    elim (cases_eq (suc r) rd) as (λ _. (w : ℕ) × (content (put rd x regs) (suc r) ≡ Some w)) [
      | inl same ↦ (x, subst (λ (q : ℕ). content (put q x regs) (suc r) ≡ Some x) same (put_same (suc r) x regs (λ z. cc)))
      | inr ne ↦ (v, put_other rd (suc r) x regs ne ∙ e)
    ]

set_has : (rd x : ℕ) (c : Core) → HasRegisters c → HasRegisters (set_register rd x c)
set_has rd x c h r l = let k = h r l in put_written rd x c.regs r k.0 k.1

slot_written : (j x : ℕ) (slots : ℕ → Option ℕ) (n : ℕ) → ((n ≡ j → ⊥) → (v : ℕ) × (slots n ≡ Some v)) →
    (v : ℕ) × (updated j (Some x) slots n ≡ Some v)
slot_written j x slots n h =
    elim (cases_eq n j) as (λ _. (v : ℕ) × (updated j (Some x) slots n ≡ Some v)) [
      | inl same ↦ (x, subst (λ (q : ℕ). updated j (Some x) slots q ≡ Some x) (sym same) (updated_same j (Some x) slots))
      | inr ne ↦ (let k = h ne in (k.0, updated_other j n (Some x) slots ne ∙ k.1))
    ]

-- an outcome is no fault, and what is kept is kept where it goes on
abbrev IsMildOutcome : Outcome → Type 0
IsMildOutcome (Falls c) = Keeps c
IsMildOutcome (Goes n c) = Keeps c
IsMildOutcome (Gives v) = Unit {0}
IsMildOutcome Traps = ⊥
IsMildOutcome Asks = Unit {0}
IsMildOutcome Breaks = Unit {0}

sets_mildly : (rd x : ℕ) (c : Core) → Keeps c → Keeps (set_register rd x c)
sets_mildly rd x c h = record { regs = set_has rd x c h.regs; slots = h.slots }

either : (b : Bool) (x y : Outcome) → IsMildOutcome x → IsMildOutcome y → IsMildOutcome (cond b x y)
either true x y p q = p
either false x y p q = q

does_mildly : (r : Row) (c : Core) → IsMildRow r → Keeps c → IsMildOutcome (does r c)
unfolding does
does_mildly (Fixes rd n) c m h = sets_mildly rd _ c h
does_mildly (Moves rd rs) c m h = sets_mildly rd _ c h
does_mildly (Sets rd op a b) c m h = sets_mildly rd _ c h
does_mildly (LoadsSlot rd n) c m h = let k = h.slots n m in subst (λ (o : Option ℕ). IsMildOutcome (slot_loaded rd c o)) (sym k.1) (sets_mildly rd k.0 c h)
does_mildly (StoresSlot rs n) c m h = record { regs = h.regs; slots = λ q l. slot_written n (read c rs) c.slots q (λ ne. h.slots q l) }
does_mildly (Branches op a b t) c m h = either (taken op (read c a) (read c b)) (Goes t c) (Falls c) h h
does_mildly (Jumps t) c m h = h
does_mildly (Returns v) c m h = tt
does_mildly _ c m h = absurd m

-- what it reads is written
all_written : (c : Core) (rs : List ℕ) → HasRegisters c → All IsLow rs → are_written c rs ≡ true
all_written c [] has low = refl
all_written c (r ∷ rs) has low =
    let k = has r (All-head IsLow r rs low) in
    ap (λ (x : Option ℕ). is_some x && are_written c rs) k.1 ∙ all_written c rs has (All-tail IsLow r rs low)

one : (a : ℕ) → a < 32 → All IsLow (a ∷ [])
one a l = All-cons IsLow a [] l (All-nil IsLow)

two : (a b : ℕ) → a < 32 → b < 32 → All IsLow (a ∷ b ∷ [])
two a b l m = All-cons IsLow a (b ∷ []) l (one b m)

reads_low : (r : Row) → IsMildRow r → All IsLow (reads r)
reads_low (Fixes rd n) m = All-nil IsLow
reads_low (Moves rd rs) m = one rs m
reads_low (Sets rd op a (Content r)) m = two a r m.0 m.1
reads_low (Sets rd op a (Number n)) m = one a m.0
reads_low (Sets rd op a (PartOf half y)) m = one a m.0
reads_low (LoadsSlot rd n) m = All-nil IsLow
reads_low (StoresSlot rs n) m = one rs m
reads_low (Branches op a b t) m = two a b m.0 m.1
reads_low (Jumps t) m = All-nil IsLow
reads_low (Returns v) m = m
reads_low _ m = absurd m

act_does : (r : Row) (c : Core) → IsMildRow r → HasRegisters c → act r c ≡ does r c
unfolding act
act_does r c m h = ap (λ (b : Bool). cond b (does r c) Traps) (all_written c (reads r) h (reads_low r m))

numbered_keeps : (sp call : Bool) (k : Option ℕ) (operands : List Operand) (o : Outcome) → IsMildOutcome o →
    IsMildOutcome (with_core (numbered sp call k operands) o)
numbered_keeps sp call None operands (Falls c) h = h
numbered_keeps sp call (Some k) operands (Falls c) h = record { regs = h.regs; slots = h.slots }
numbered_keeps sp call None operands (Goes n c) h = h
numbered_keeps sp call (Some k) operands (Goes n c) h = record { regs = h.regs; slots = h.slots }
numbered_keeps sp call k operands (Gives v) h = tt
numbered_keeps sp call k operands Traps h = h
numbered_keeps sp call k operands Asks h = tt
numbered_keeps sp call k operands Breaks h = tt

item_mildly : (g : Program) (kind : ItemKind) (c : Core) → IsMild kind → Keeps c → IsMildOutcome (do_item g kind c)
item_mildly g (Code i k) c m h =
    numbered_keeps g.sees_pointer (is_call (row_of i)) k i.operands (act (row_of i) c)
    (subst IsMildOutcome (sym (act_does (row_of i) c m h.regs)) (does_mildly (row_of i) c m h))
item_mildly g (Mark v x) c m h = record { regs = h.regs; slots = h.slots }
item_mildly g (Phi p k) c m h = record { regs = h.regs; slots = h.slots }

-- ---- what stands at positions

from_block-all : (Q : Block → Type 0) (bs : List Block) (n : ℕ) → All Q bs → All Q (from_block bs n)
from_block-all Q [] n h = h
from_block-all Q (b ∷ bs) n h = by_test (nat_eq b.id n) (from_block-all Q bs n (All-tail Q b bs h)) where
  by_test : (t : Bool) → All Q (from_block bs n) → All Q (cond t (b ∷ bs) (from_block bs n))
  by_test true more = h
  by_test false more = more

end_is_no_item : (k : ℕ) (bs : List Block) (i : Item) → end_of k bs ≡ Here i → ⊥
end_is_no_item k [] i e = cc
end_is_no_item k (b ∷ bs) i e = cc

front_item : (P : Item → Type 0) (items : List Item) (k : ℕ) (bs : List Block) (i : Item) → front items k bs ≡ Here i → All P items → P i
front_item P [] k bs i e h = absurd (end_is_no_item k bs i e)
front_item P (x ∷ items) k bs i e h = let same : x ≡ i = cc in subst P same (All-head P x items h)

pub item_in : (P : Item → Type 0) (bs : List Block) (n : ℕ) (i : Item) → fetch_in bs n ≡ Here i → All (λ b. All P b.items) bs → P i
item_in P [] n i e h = absurd cc
item_in P (b ∷ bs) n i e h =
    front_item P (drop n b.items) b.source_end bs i e (All-drop P n b.items (All-head (λ (x : Block). All P x.items) b bs h))

-- what holds of all items holds of the one at a position
pub fetched : (P : Item → Type 0) (bs : List Block) (b n : ℕ) (i : Item) → fetch_in (from_block bs b) n ≡ Here i → All (λ b. All P b.items) bs → P i
fetched P bs b n i e h = item_in P (from_block bs b) n i e (from_block-all (λ (x : Block). All P x.items) bs b h)

-- ---- runs

abbrev at_first : ℕ → Pos
at_first j = record { block = 0; item = j }

module _ (blocks : List Block) (mild : All (λ b. All (λ i. IsMild i.kind) b.items) blocks) (begins : BeginsByStoring blocks)
    (resolve : OperandPair → Option OperandPair) where
  abbrev src : Program
  src = program_of true blocks resolve

  first_store : (j : ℕ) → j < 4 → src.fetch (at_first j) ≡ Here (item_at 0 j (store 10 j))
  first_store zero l = ap (λ (bs : List Block). fetch_in (from_block bs 0) 0) begins.is
  first_store (suc zero) l = ap (λ (bs : List Block). fetch_in (from_block bs 0) 1) begins.is
  first_store (suc (suc zero)) l = ap (λ (bs : List Block). fetch_in (from_block bs 0) 2) begins.is
  first_store (suc (suc (suc zero))) l = ap (λ (bs : List Block). fetch_in (from_block bs 0) 3) begins.is
  first_store (suc (suc (suc (suc j)))) l = absurd (omega (arith, l))

  -- the run is among the first stores
  record IsStoring (s : State) : Type 0 where
    index : ℕ
    low : index < 4
    at : s.pos ≡ at_first index
    stored : HasSlots index s.core

  record IsMildState (s : State) : Type 0 where
    regs : HasRegisters s.core
    slots : HasSlots 4 s.core ⊎ IsStoring s

  abbrev IsMildNext : Next → Type 0
  IsMildNext (Went t) = IsMildState t
  IsMildNext (Returned v) = Unit {0}
  IsMildNext Faulted = ⊥
  IsMildNext Waits = Unit {0}
  IsMildNext Lost = Unit {0}

  moves_mildly : (p : Pos) (o : Outcome) → IsMildOutcome o → IsMildNext (moved src.enter p o)
  moves_mildly p (Falls c) h = record { regs = h.regs; slots = inl h.slots }
  moves_mildly p (Goes n c) h = record { regs = h.regs; slots = inl h.slots }
  moves_mildly p (Gives v) h = tt
  moves_mildly p Traps h = h
  moves_mildly p Asks h = tt
  moves_mildly p Breaks h = tt

  fetch_mildly : (p : Pos) (x : Fetch) (c : Core) → src.fetch p ≡ x → Keeps c → IsMildOutcome (do_fetch src x c)
  fetch_mildly p (Here i) c e h = item_mildly src i.kind c (fetched (λ j. IsMild j.kind) blocks p.block p.item i e mild) h
  fetch_mildly p (EndOfBlock k n) c e h = h
  fetch_mildly p Outside c e h = tt

  -- the core past one of the first stores
  abbrev stored_in : ℕ → Core → Core
  stored_in j c = record c { slots = updated j (Some (read c 10)) c.slots }

  store_acts : (j : ℕ) (c : Core) → HasRegisters c → act (StoresSlot 10 j) c ≡ Falls (stored_in j c)
  unfolding does
  store_acts j c h = act_does (StoresSlot 10 j) c (lit< tt) h

  item_falls : (i : Instruction) (c d : Core) → act (row_of i) c ≡ Falls d → do_item src (Code i None) c ≡ Falls d
  item_falls i c d e = ap (with_core (numbered true (is_call (row_of i)) None i.operands)) e

  store_does : (j : ℕ) (c : Core) → HasRegisters c → do_item src (store 10 j) c ≡ Falls (stored_in j c)
  store_does j c h =
      item_falls (record { op = Store Sd; operands = Use 10 ∷ OfSlot j ∷ Imm (pos 0) ∷ []; volatile = false }) c (stored_in j c) (store_acts j c h)

  past_store : (s : State) → HasRegisters s.core → (st : IsStoring s) → IsMildState (record { pos = below s.pos; core = stored_in st.index s.core })
  past_store s regs st =
      let x = read s.core 10 in
      elim (cases_eq st.index 3) as (λ _. IsMildState (record { pos = below s.pos; core = stored_in st.index s.core })) [
        | inl last ↦ record {
          regs = regs;
          slots = inl (λ n l. slot_written st.index x s.core.slots n (λ ne. st.stored n (below_last n l ne last)));
        }
        | inr ne ↦ record {
          regs = regs;
          slots = inr (record {
            index = suc st.index;
            low = not_last ne;
            at = ap below st.at ∙ ap at_first (one_more st.index);
            stored = λ n l. slot_written st.index x s.core.slots n (λ other. st.stored n (below_next n l other));
          });
        }
      ] where
        below_last : (n : ℕ) → n < 4 → (n ≡ st.index → ⊥) → st.index ≡ 3 → n < st.index
        below_last n l ne last = omega (arith, l, ne, last)

        not_last : (st.index ≡ 3 → ⊥) → suc st.index < 4
        not_last ne = let low = st.low in omega (arith, ne, low)

        one_more : (n : ℕ) → n + 1 ≡ suc n
        one_more n = omega arith

        below_next : (n : ℕ) → n < suc st.index → (n ≡ st.index → ⊥) → n < st.index
        below_next n l other = omega (arith, l, other)

  mild_step : (s : State) → IsMildState s → IsMildNext (step src s)
  mild_step s h = elim h.slots as (λ _. IsMildNext (step src s)) [
    | inl all ↦ moves_mildly s.pos (do_fetch src (src.fetch s.pos) s.core)
        (fetch_mildly s.pos (src.fetch s.pos) s.core refl (record { regs = h.regs; slots = all }))
    | inr st ↦ (
        let here : src.fetch s.pos ≡ Here (item_at 0 st.index (store 10 st.index)) = ap src.fetch st.at ∙ first_store st.index st.low in
        let falls : do_fetch src (src.fetch s.pos) s.core ≡ Falls (stored_in st.index s.core) =
        ap (λ (x : Fetch). do_fetch src x s.core) here ∙ store_does st.index s.core h.regs in
        subst (λ (o : Outcome). IsMildNext (moved src.enter s.pos o)) (sym falls) (past_store s h.regs st))
  ]

  goes_mildly : (k : State → Next) → ((t : State) → IsMildState t → IsMildNext (k t)) → (x : Next) → IsMildNext x → IsMildNext (after x k)
  goes_mildly k each (Went t) m = each t m
  goes_mildly k each (Returned v) m = tt
  goes_mildly k each Faulted m = m
  goes_mildly k each Waits m = tt
  goes_mildly k each Lost m = tt

  mild_run : (n : ℕ) (s : State) → IsMildState s → IsMildNext (run src n s)
  mild_run zero s h = h
  mild_run (suc n) s h = goes_mildly (run src n) (λ t m. mild_run n t m) (step src s) (mild_step s h)

  mild_start : (s : State) → HasRegisters s.core → s.pos ≡ at_first 0 → IsMildState s
  mild_start s regs at = record {
    regs = regs;
    slots = inr (record { index = 0; low = lit< tt; at = at; stored = λ n l. absurd (omega (arith, l)) });
  }

  pub runs_never_fault : (s : State) → HasRegisters s.core → s.pos ≡ at_first 0 → (n : ℕ) → run src n s ≡ Faulted → ⊥
  runs_never_fault s regs at n e = subst IsMildNext e (mild_run n s (mild_start s regs at))

-- ---- generated functions

abbrev start : ℕ → Drawn
start number = record { state = number; given = 0 }

abbrev all_blocks : (number count : ℕ) → List Block
all_blocks number count = (blocks_made count count (start number)).blocks

-- the greatest number
abbrev pub TOP : ℕ
TOP = 3072

pub generated_made : (number count : ℕ) → count ≤ 512 → All (IsMadeBlock TOP) (all_blocks number count)
generated_made number count few = blocks_are_made TOP count count (start number) (omega (arith, few)) (omega arith) (omega (arith, few))

pub generated_begins : (number count : ℕ) → 1 ≤ count → BeginsByStoring (all_blocks number count)
generated_begins number zero some = absurd (omega (arith, some))
generated_begins number (suc count) some = begins_by_storing (suc count) count (start number)

-- what follows of each item that is made so holds of all items
pub of_made : (P : Item → Type 0) → ((i : Item) → IsMadeItem TOP i → P i) → (number count : ℕ) → count ≤ 512 → AllItems P (all_blocks number count)
of_made P f number count few =
    All-weaker (IsMadeBlock TOP) (λ (b : Block). All P b.items)
    (λ b m. All-weaker (IsMadeItem TOP) P f b.items m.items) (all_blocks number count) (generated_made number count few)

starts_first : (blocks : List Block) → BeginsByStoring blocks → first_of blocks ≡ 0
starts_first blocks b = ap first_of b.is

pub generated_runs_dont_fault : GeneratedRunsDontFault
generated_runs_dont_fault number count some few resolve s start_of n e =
    let begins = generated_begins number count some in
    let blocks = all_blocks number count in
    runs_never_fault blocks (of_made (λ i. IsMild i.kind) (λ i m. made_mild m.made) number count few) begins resolve s
    (λ r l. let k = start_of.regs r l in (k.0, k.1)) (start_of.pos ∙ ap block_start (starts_first blocks begins)) n e

marks_whole : {top : ℕ} {kind : ItemKind} → IsMade top kind → MarksWhole kind
marks_whole (adds rd rs rt k a b c l) = tt
marks_whole (copies rd rs k a b l) = tt
marks_whole gives = tt
marks_whole (sets rd n k a l m) = tt
marks_whole (stores rs n a l) = tt
marks_whole (loads rd n k a l m) = tt
marks_whole (phis rs k a l) = tt
marks_whole (marks n k l m) = refl
marks_whole (branches rs n a l) = tt
marks_whole (jumps n l) = tt
marks_whole returns = tt

pub generated_functions_mark_wholes : GeneratedFunctionsMarkWholes
generated_functions_mark_wholes number count some few = of_made (λ i. MarksWhole i.kind) (λ i m. marks_whole m.made) number count few
