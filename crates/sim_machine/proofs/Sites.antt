-- Entries by their addresses.
use Rattle.std.proofs.Common.{◌≡◌, ◌≢◌, ℕ, zero, suc, ◌+◌, ◌*◌, ◌<◌, ◌≤◌, List, []}
use Rattle.std.proofs.Common.{◌∷◌, length, get_or, drop, Option, Some, None, Bool, true, false, cond, nat_eq}
use Rattle.std.proofs.Common.{refl, sym, ap, ◌∙◌, subst, arith}
use Rattle.std.proofs.Common.{◌++◌, ◌^◌, append_assoc, drop-drop}
use Rattle.std.specs.Option.{IfSome}
use Rattle.std.specs.List.{All, flat_map}
use Rattle.std.specs.Int.{w32, to_le_bytes}
use Rattle.std.proofs.Math.Seq.{drop-cons}
use Rattle.std.proofs.lemmas.List.Concat.{flat_map-cons}
use Rattle.std.proofs.lemmas.List.{drop_all}
use Rattle.std.proofs.lemmas.List.Elements.{All-head, All-drop}
use Rattle.std.proofs.lemmas.Bool.{eqb-true, eq-eqb, ne_eqb}
use Rattle.emit_code.specs.declared.code.EncodedInstruction.{EncodedInstruction}
use Rattle.rv64_instr.specs.Instruction.{Instruction}
use Rattle.std.specs.Prelude.{is_some, IsSome}
use Rattle.rv64_instr.specs.LocationEffects.{is_call, is_named, has_site}
use Rattle.rv64_instr.specs.Row.{Row, Calls, Returns, row_of, CallSite as Call, Callee, Named, Held, Ending}
use Rattle.rv64_instr.specs.declared.decoded.Callee.{Callee as Decoded}
use Rattle.rv64_instr.specs.declared.decoded.Way.TheVariants.{Back, Tail, Never}
use Rattle.rv64_instr.specs.Decoded.{ShowsWay}
use Rattle.mir_func.specs.declared.block.Block.{Block}
use Rattle.mir_func.specs.declared.item.Item.{Item}
use Rattle.mir_func.specs.declared.item.ItemKind.{ItemKind}
use Rattle.mir_func.specs.declared.item.ItemKind.TheVariants.{Code, Mark, Phi}
use Rattle.mir_func.specs.declared.position.ProgramPoint.{ProgramPoint}
use Rattle.mir_func.specs.Function.{FramedFunction}
use Rattle.mir_func.specs.Sound.{AllItems}
use Rattle.mir_func.specs.SoundFrame.{IsPhysical, HasPhysical}
use Rattle.mir_func.specs.Graph.{Fetch, Here, EndOfBlock, Outside, fetch_in, front, end_of}
use Rattle.emit_code.specs.Laid.{LaidCode, IsCode, StandFrom}
use Rattle.sem_machine.specs.Image.{Image, word_at}
use Rattle.sem_machine.specs.MachineStep.{call_of, left_by, elsewhere, callee_size}
use Rattle.sem_machine.proofs.Fetching.{word_here}
use Rattle.sim_machine.specs.declared.site.Transfer.{Transfer}
use Rattle.sim_machine.specs.declared.site.Transfer.TheVariants.{Departure, Nothing}
use Rattle.sim_machine.specs.Shown.{ShowsCode, entry_at, entry_call, entry_left, fetch_call, fetch_left, kind_call, kind_left}
use Rattle.sim_machine.specs.steps.Sites.{instruction_in, fetch_instruction, kind_instruction, TransfersSo}

-- an entry's bytes
four_or_eight : (b : Bool) → 4 ≤ cond b 8 4
four_or_eight true = omega arith
four_or_eight false = omega arith

-- the entry of an index begins nowhere before the first
pub stand_above : (a : ℕ) (es : List EncodedInstruction) (end : ℕ) → StandFrom a es end → (i : ℕ) (d : EncodedInstruction) → i < length es →
    a ≤ (get_or es i d).address
stand_above a [] end s i d l = absurd (omega arith)
stand_above a (e ∷ es) end s zero d l = omega (arith, s.0)
stand_above a (e ∷ es) end s (suc i) d l = let up = stand_above (a + e.size) es end s.2 i d (omega arith) in omega arith

-- the entry of an index is the one at its address
pub entry_here : (a : ℕ) (es : List EncodedInstruction) (end : ℕ) → StandFrom a es end → (i : ℕ) (d : EncodedInstruction) (address : ℕ) → i < length es →
    (get_or es i d).address ≡ address → entry_at es address ≡ Some (get_or es i d)
entry_here a [] end s i d address l e = absurd (omega arith)
entry_here a (x ∷ es) end s zero d address l e = ap (λ (t : Bool). cond t (Some x) (entry_at es address)) (eq-eqb x.address address e)
entry_here a (x ∷ es) end s (suc i) d address l e =
    let up = stand_above (a + x.size) es end s.2 i d (omega arith) in
    let bytes : 4 ≤ x.size = subst (λ (n : ℕ). 4 ≤ n) (sym s.1) (four_or_eight x.call) in
    let other : x.address ≢ address = λ q. omega (arith, q, s.0, up, e, bytes) in
    ap (λ (t : Bool). cond t (Some x) (entry_at es address)) (ne_eqb x.address address other)
    ∙ entry_here (a + x.size) es end s.2 i d address (omega arith) e

-- the same of a list that is these entries
pub entry_found : (a end : ℕ) (es xs ys : List EncodedInstruction) (i : ℕ) (e : EncodedInstruction) (address : ℕ) → StandFrom a es end → xs ≡ es → es ≡ ys →
    i < length xs →
    e ≡ get_or xs i e → e.address ≡ address → entry_at ys address ≡ Some e
entry_found a end es xs ys i e address s p q l is at =
    let stand = subst (λ (zs : List EncodedInstruction). StandFrom a zs end) (sym p) s in
    sym (ap (λ (zs : List EncodedInstruction). entry_at zs address) (p ∙ q))
    ∙ (entry_here a xs end stand i e address l (ap (λ (x : EncodedInstruction). x.address) (sym is) ∙ at) ∙ ap (λ (x : EncodedInstruction). Some x) (sym is))

-- a search goes past an entry
pub search_turn : (es : List EncodedInstruction) (i : ℕ) (e : EncodedInstruction) (address : ℕ) → i < length es → e ≡ get_or es i e → e.address ≢ address →
    entry_at (drop (i + 1) es) address ≡ entry_at (drop i es) address
search_turn es i e address l is other =
    let next : i + 1 ≡ suc i = omega arith in
    let here : drop i es ≡ e ∷ drop (suc i) es = drop-cons es i e l ∙ ap (λ (x : EncodedInstruction). x ∷ drop (suc i) es) (sym is) in
    ap (λ (n : ℕ). entry_at (drop n es) address) next
    ∙ (sym (ap (λ (t : Bool). cond t (Some e) (entry_at (drop (suc i) es) address)) (ne_eqb e.address address other))
    ∙ sym (ap (λ (xs : List EncodedInstruction). entry_at xs address) here))

pub search_here : (es : List EncodedInstruction) (i : ℕ) (e : EncodedInstruction) (address : ℕ) → i < length es → e ≡ get_or es i e → e.address ≡ address →
    entry_at (drop i es) address ≡ Some e
search_here es i e address l is same =
    let here : drop i es ≡ e ∷ drop (suc i) es = drop-cons es i e l ∙ ap (λ (x : EncodedInstruction). x ∷ drop (suc i) es) (sym is) in
    ap (λ (xs : List EncodedInstruction). entry_at xs address) here
    ∙ ap (λ (t : Bool). cond t (Some e) (entry_at (drop (suc i) es) address)) (eq-eqb e.address address same)

pub search_end : (es : List EncodedInstruction) (i address : ℕ) → length es ≤ i → entry_at (drop i es) address ≡ None
search_end es i address l = ap (λ (xs : List EncodedInstruction). entry_at xs address) (drop_all i es l)

-- ---- what stands at an entry

reaches : (b : ℕ) (rest : List EncodedInstruction) (end : ℕ) → StandFrom b rest end → b ≤ end
reaches b [] end q = omega arith
reaches b (y ∷ rest) end q = let r = reaches (b + y.size) rest end q.2 in omega arith

-- a place of so many words behind the first
pub record IsPlace (a end address : ℕ) (e : EncodedInstruction) : Type 0 where
  pub words : ℕ
  pub at : address ≡ a + 4 * words
  pub begins : e.address ≡ address
  pub fits : address + 4 ≤ end

pub entry_place : (a : ℕ) (es : List EncodedInstruction) (end address : ℕ) (e : EncodedInstruction) → StandFrom a es end → entry_at es address ≡ Some e →
    IsPlace a end address e
entry_place a [] end address e h s = absurd cc
entry_place a (x ∷ es) end address e h s = by_test (nat_eq x.address address) refl s (λ r. entry_place (a + x.size) es end address e h.2 r) where
  multiple : (b : Bool) → (n : ℕ) × (cond b 8 4 ≡ 4 * n)
  multiple true = (2, refl)
  multiple false = (1, refl)

  by_test : (t : Bool) → nat_eq x.address address ≡ t → cond t (Some x) (entry_at es address) ≡ Some e →
      (entry_at es address ≡ Some e → IsPlace (a + x.size) end address e) → IsPlace a end address e
  by_test true q r later =
      let same : x ≡ e = cc in
      let here : x.address ≡ address = eqb-true x.address address q in
      let begins : e.address ≡ address = ap (λ (y : EncodedInstruction). y.address) (sym same) ∙ here in
      let bytes : 4 ≤ x.size = subst (λ (n : ℕ). 4 ≤ n) (sym h.1) (four_or_eight x.call) in
      let more = reaches (a + x.size) es end h.2 in
      record { words = 0; at = omega (arith, here, h.0); begins = begins; fits = omega (arith, here, h.0, bytes, more) }
  by_test false q r later =
      let p = later r in
      let m = multiple x.call in
      record { words = m.0 + p.words; at = omega (arith, p.at, m.1, h.1); begins = p.begins; fits = p.fits }

-- ---- words

words_here : (words more : List ℕ) (k w : ℕ) → k < length words → w ≡ get_or words k 0 →
    (rest : List ℕ) × (drop (4 * k) (flat_map (to_le_bytes w32) words ++ more) ≡ to_le_bytes w32 w ++ rest)
words_here [] more k w l e = absurd (omega arith)
words_here (x ∷ words) more zero w l e =
    let rest = flat_map (to_le_bytes w32) words ++ more in
    let bytes : flat_map (to_le_bytes w32) (x ∷ words) ++ more ≡ to_le_bytes w32 x ++ rest =
    ap (λ (xs : List ℕ). xs ++ more) (flat_map-cons (to_le_bytes w32) x words) ∙ append_assoc (to_le_bytes w32 x) (flat_map (to_le_bytes w32) words) more in
    (rest, bytes ∙ ap (λ (y : ℕ). to_le_bytes w32 y ++ rest) (sym e))
words_here (x ∷ words) more (suc k) w l e =
    let rest = flat_map (to_le_bytes w32) words ++ more in
    let bytes : flat_map (to_le_bytes w32) (x ∷ words) ++ more ≡ to_le_bytes w32 x ++ rest =
    ap (λ (xs : List ℕ). xs ++ more) (flat_map-cons (to_le_bytes w32) x words) ∙ append_assoc (to_le_bytes w32 x) (flat_map (to_le_bytes w32) words) more in
    let four : 4 * suc k ≡ suc (suc (suc (suc (4 * k)))) = omega arith in
    let later = words_here words more k w (omega arith) e in
    (later.0, ap (λ (xs : List ℕ). drop (4 * suc k) xs) bytes ∙ (ap (λ (n : ℕ). drop n (to_le_bytes w32 x ++ rest)) four ∙ later.1))

pub word_shown : (c : LaidCode) (image : Image) (k w : ℕ) → ShowsCode c image → k < length c.words → w ≡ get_or c.words k 0 → w < 2 ^ 32 →
    word_at image.text (c.base + 4 * k) ≡ Some w
word_shown c image k w shows l e small =
    let here = words_here c.words shows.more k w l e in
    let at : drop (c.base + 4 * k) image.text ≡ to_le_bytes w32 w ++ here.0 =
    sym (drop-drop (4 * k) c.base image.text) ∙ (ap (drop (4 * k)) shows.text ∙ here.1) in
    word_here image.text here.0 (c.base + 4 * k) w small at

-- ---- callees

-- what an item does by a callee is what its instruction does
kind_calls : (k : ItemKind) (c : Instruction) → kind_instruction k ≡ Some c → kind_call k ≡ call_of (row_of c)
kind_calls (Code i n) c e = let same : i ≡ c = cc in ap (λ (x : Instruction). call_of (row_of x)) same
kind_calls (Mark v m) c e = absurd cc
kind_calls (Phi p n) c e = absurd cc

kind_leaves : (k : ItemKind) (c : Instruction) → kind_instruction k ≡ Some c → kind_left k ≡ left_by (row_of c)
kind_leaves (Code i n) c e = let same : i ≡ c = cc in ap (λ (x : Instruction). left_by (row_of x)) same
kind_leaves (Mark v m) c e = absurd cc
kind_leaves (Phi p n) c e = absurd cc

fetch_calls : (x : Fetch) (c : Instruction) → fetch_instruction x ≡ Some c → fetch_call x ≡ call_of (row_of c)
fetch_calls (Here i) c e = kind_calls i.kind c e
fetch_calls (EndOfBlock k n) c e = absurd cc
fetch_calls Outside c e = absurd cc

fetch_leaves : (x : Fetch) (c : Instruction) → fetch_instruction x ≡ Some c → fetch_left x ≡ left_by (row_of c)
fetch_leaves (Here i) c e = kind_leaves i.kind c e
fetch_leaves (EndOfBlock k n) c e = absurd cc
fetch_leaves Outside c e = absurd cc

-- what is no instruction goes to no callee
kind_none : (k : ItemKind) → kind_instruction k ≡ None → (kind_call k ≡ None) × (kind_left k ≡ None)
kind_none (Code i n) e = absurd cc
kind_none (Mark v m) e = (refl, refl)
kind_none (Phi p n) e = (refl, refl)

fetch_none : (x : Fetch) → fetch_instruction x ≡ None → (fetch_call x ≡ None) × (fetch_left x ≡ None)
fetch_none (Here i) e = kind_none i.kind e
fetch_none (EndOfBlock k n) e = (refl, refl)
fetch_none Outside e = (refl, refl)

-- an entry's call and departure are those of its instruction
pub transfer_found : (f : FramedFunction) (e : EncodedInstruction) (c : Instruction) (t : Transfer) → instruction_in f e.point ≡ Some c →
    TransfersSo t (call_of (row_of c)) (left_by (row_of c)) → TransfersSo t (entry_call f e) (entry_left f e)
transfer_found f e c t at is =
    let x = fetch_in (drop e.point.block f.blocks) e.point.item in
    subst (λ (o : Option Call). TransfersSo t o (entry_left f e)) (sym (fetch_calls x c at))
    (subst (λ (o : Option (Ending Callee)). TransfersSo t (call_of (row_of c)) o) (sym (fetch_leaves x c at)) is)

pub leaves_found : (f : FramedFunction) (e : EncodedInstruction) (c : Instruction) → instruction_in f e.point ≡ Some c → entry_left f e ≡ left_by (row_of c)
leaves_found f e c at = fetch_leaves (fetch_in (drop e.point.block f.blocks) e.point.item) c at

-- what an ending does for a callee
pub transfer_back : (ending : Ending Callee) → ShowsWay Back ending.way → TransfersSo Nothing None (left_by (Returns ending))
transfer_back ending shows = (refl, ap (elsewhere ending) shows)

pub transfer_tail : (callee : Decoded) (ending : Ending Callee) → ShowsWay (Tail callee) ending.way →
    TransfersSo (Departure (Tail callee)) None (left_by (Returns ending))
transfer_tail callee ending shows = (ending, ap (elsewhere ending) shows.1, refl, shows)

pub transfer_never : (callee : Decoded) (ending : Ending Callee) → ShowsWay (Never callee) ending.way →
    TransfersSo (Departure (Never callee)) None (left_by (Returns ending))
transfer_never callee ending shows = (ending, ap (elsewhere ending) shows.1, refl, shows)

pub nothing_found : (f : FramedFunction) (e : EncodedInstruction) → instruction_in f e.point ≡ None → (entry_call f e ≡ None) × (entry_left f e ≡ None)
nothing_found f e none = fetch_none (fetch_in (drop e.point.block f.blocks) e.point.item) none

call_row : (r : Row) → is_call r ≡ is_some (call_of r)
call_row (Calls call) = refl
call_row _ = refl

pub calls_found : (f : FramedFunction) (e : EncodedInstruction) (c : Instruction) → instruction_in f e.point ≡ Some c →
    is_call (row_of c) ≡ is_some (entry_call f e)
calls_found f e c at = call_row (row_of c) ∙ ap is_some (sym (fetch_calls (fetch_in (drop e.point.block f.blocks) e.point.item) c at))

-- the bytes of a call
pub call_bytes : (r : Row) (call : Call) → call_of r ≡ Some call → cond (has_site r) 8 4 ≡ callee_size call.callee
call_bytes (Calls made) call e = let same : made ≡ call = cc in by_callee made.callee ∙ ap (λ (x : Call). callee_size x.callee) same where
  by_callee : (c : Callee) → cond (is_named c) 8 4 ≡ callee_size c
  by_callee (Named name) = refl
  by_callee (Held r) = refl
call_bytes _ call e = absurd cc

-- the code of an entry that calls
pub record CallSite (f : FramedFunction) (e : EncodedInstruction) : Type 0 where
  pub code : Instruction
  pub at : instruction_in f e.point ≡ Some code
  pub calls : is_call (row_of code) ≡ true
  pub same : entry_call f e ≡ call_of (row_of code)

some_call : (r : Row) → IsSome (call_of r) → is_call r ≡ true
some_call (Calls call) is = refl
some_call _ is = absurd cc

no_call : (o : Option Call) → o ≡ None → IsSome o → ⊥
no_call o none is = let some : IsSome {T = Call} None = subst (λ (x : Option Call). IsSome x) none is in cc

pub call_site : (f : FramedFunction) (e : EncodedInstruction) → IsSome (entry_call f e) → CallSite f e
call_site f e is = by_fetch (fetch_in (drop e.point.block f.blocks) e.point.item) refl where
  by_kind : (k : ItemKind) → fetch_instruction (fetch_in (drop e.point.block f.blocks) e.point.item) ≡ kind_instruction k → entry_call f e ≡ kind_call k →
      CallSite f e
  by_kind (Code c n) at call =
      record { code = c; at = at; calls = some_call (row_of c) (subst (λ (o : Option Call). IsSome o) call is); same = call }
  by_kind (Mark v m) at call = absurd (no_call (entry_call f e) call is)
  by_kind (Phi p n) at call = absurd (no_call (entry_call f e) call is)

  by_fetch : (x : Fetch) → fetch_in (drop e.point.block f.blocks) e.point.item ≡ x → CallSite f e
  by_fetch (Here i) q = by_kind i.kind (ap fetch_instruction q) (ap fetch_call q)
  by_fetch (EndOfBlock k n) q = absurd (no_call (entry_call f e) (ap fetch_call q) is)
  by_fetch Outside q = absurd (no_call (entry_call f e) (ap fetch_call q) is)

-- what holds of all items holds of one that is fetched
first_holds : (P : Item → Type 0) (bs : List Block) (n : ℕ) (i : Item) → All (λ (b : Block). All P b.items) bs → fetch_in bs n ≡ Here i → P i
first_holds P [] n i h e = cc
first_holds P (b ∷ bs) n i h e = by_items (drop n b.items) (All-drop P n b.items (All-head (λ (c : Block). All P c.items) b bs h)) e where
  ends : (cs : List Block) → end_of b.source_end cs ≡ Here i → ⊥
  ends [] e = cc
  ends (c ∷ cs) e = cc

  by_items : (xs : List Item) → All P xs → front xs b.source_end bs ≡ Here i → P i
  by_items [] all e = absurd (ends bs e)
  by_items (x ∷ xs) all e = let same : x ≡ i = cc in subst P same (All-head P x xs all)

-- the operands of an instruction at a point are physical, where those of all items are
pub physical_at : (f : FramedFunction) (p : ProgramPoint) (c : Instruction) → AllItems (λ i. HasPhysical i.kind) f.blocks → instruction_in f p ≡ Some c →
    All IsPhysical c.operands
physical_at f p c h e = by_fetch (fetch_in (drop p.block f.blocks) p.item) refl e where
  by_kind : (k : ItemKind) → HasPhysical k → kind_instruction k ≡ Some c → All IsPhysical c.operands
  by_kind (Code i n) has e = let same : i ≡ c = cc in subst (λ (x : Instruction). All IsPhysical x.operands) same has
  by_kind (Mark v m) has e = cc
  by_kind (Phi q n) has e = cc

  by_fetch : (x : Fetch) → fetch_in (drop p.block f.blocks) p.item ≡ x → fetch_instruction x ≡ Some c → All IsPhysical c.operands
  by_fetch (Here i) q e = by_kind i.kind (first_holds (λ (j : Item). HasPhysical j.kind) (drop p.block f.blocks) p.item i
      (All-drop (λ (b : Block). All (λ (j : Item). HasPhysical j.kind) b.items) p.block f.blocks h) q) e
  by_fetch (EndOfBlock k n) q e = cc
  by_fetch Outside q e = cc

pub none_behind : (blocks : List Block) (b n : ℕ) (block : Block) → b < length blocks → block ≡ get_or blocks b block → length block.items ≤ n →
    fetch_instruction (fetch_in (drop b blocks) n) ≡ None
none_behind blocks b n block l e le =
    let here : drop b blocks ≡ block ∷ drop (suc b) blocks = drop-cons blocks b block l ∙ ap (λ (x : Block). x ∷ drop (suc b) blocks) (sym e) in
    ap (λ (bs : List Block). fetch_instruction (fetch_in bs n)) here
    ∙ (ap (λ (is : List Item). fetch_instruction (front is block.source_end (drop (suc b) blocks))) (drop_all n block.items le) ∙ ends (drop
    (suc b) blocks)) where
      ends : (bs : List Block) → fetch_instruction (end_of block.source_end bs) ≡ None
      ends [] = refl
      ends (x ∷ bs) = refl

-- the word of an entry
pub record IsWordPlace (c : LaidCode) (address : ℕ) : Type 0 where
  pub index : ℕ
  pub at : address ≡ c.base + 4 * index
  pub within : index < length c.words
  pub low : address < 2 ^ 63

pub word_place : (c : LaidCode) (e : EncodedInstruction) (address : ℕ) → IsCode c → entry_at c.entries address ≡ Some e → IsWordPlace c address
word_place c e address code found =
    let p = entry_place c.base c.entries (c.base + 4 * length c.words) address e code.stand found in
    record { index = p.words; at = p.at; within = omega (arith, p.at, p.fits); low = omega (arith, p.fits, code.low, code.few) }

-- the entry at an address begins there
pub begins_at : (c : LaidCode) (e : EncodedInstruction) (address : ℕ) → IsCode c → entry_at c.entries address ≡ Some e → e.address ≡ address
begins_at c e address code found = (entry_place c.base c.entries (c.base + 4 * length c.words) address e code.stand found).begins

-- and within the code
pub begins_within : (c : LaidCode) (o : Option EncodedInstruction) (address : ℕ) → IsCode c → o ≡ entry_at c.entries address →
    IfSome o (λ e. e.address < c.base + 4 * length c.words)
begins_within c None address code found = tt
begins_within c (Some e) address code found =
    let p = word_place c e address code (sym found) in
    let b = begins_at c e address code (sym found) in
    omega (arith, p.at, p.within, b)
