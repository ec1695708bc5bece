-- The image of a function that follows a source, with its frame and laid out, meets the headline.
use Rattle.std.proofs.Common.{◌≡◌, ℕ, zero, suc, ◌<◌, pos, Option, Some, None, IsSome, IfSome, refl, sym, ap, ◌∙◌, subst}
use Rattle.std.proofs.Common.{arith}
use Rattle.rv64_instr.specs.declared.op.ImmediateOp.{ImmediateOp}
use Rattle.rv64_instr.specs.declared.op.ImmediateOp.TheVariants.{Addi}
use Rattle.rv64_instr.specs.declared.place.Place.{Place}
use Rattle.rv64_instr.specs.Arithmetic.{word}
use Rattle.rv64_instr.specs.Instruction.{Instruction}
use Rattle.rv64_instr.specs.Row.{Row, Unfit, immediate_row, row_of}
use Rattle.rv64_word.specs.declared.machine_op.MachineOp.{MachineOp}
use Rattle.rv64_word.specs.declared.word_op.WordOp.{WordOp}
use Rattle.rv64_word.specs.declared.word_op.WordOp.TheVariants.{Registers, Immediate, Lui, Branch, Load, Store, Jal, Jalr}
use Rattle.rv64_word.specs.MachineRow.{Does, row_as, link_row, machine_row, placed, at_offset}
use Rattle.rv64_instr.specs.LocationEffects.{object_named}
use Rattle.rv64_word.proofs.Words.{lowered_acts}
use Rattle.mir_func.specs.declared.position.Pos.{Pos}
use Rattle.mir_func.specs.declared.variable.VarId.{VarId}
use Rattle.mir_func.specs.Exits.{row_exit}
use Rattle.mir_func.specs.Function.{FramedFunction}
use Rattle.sem_mir.specs.State.{State}
use Rattle.sem_mir.proofs.Reading.{follows_itself}
use Rattle.sem_machine.specs.Headline.{StartsAt}
use Rattle.sem_machine.specs.Image.{Image}
use Rattle.emit_code.specs.Counts.{MAX_WORDS, MAX_BASE, count_of}
use Rattle.emit_code.specs.Laid.{IsWorded, FormWorded}
use Rattle.emit_code.specs.Rule.{Layout, row_form, address_in, offset_to, object_offset, operation_at}
use Rattle.emit_code.proofs.Bounds.{bytes_small}
use Rattle.frame_rule.proofs.Framed.{is_framed}
use Rattle.frame_rule.proofs.Reach.{size_fits}
use Rattle.frame_proof.specs.Stands.{IsEntered}
use Rattle.frame_proof.proofs.FrameStands.{frame_gives_back}
use Rattle.machine_steps_proof.specs.Laid.{IsLaidAt}
use Rattle.machine_proof.proofs.Followers.{followers_meet_the_headline}
use Rattle.machine_steps_proof.specs.Images.{HasAllWords, IsImageOf}
use Rattle.machine_steps_proof.proofs.Laid.{images_are_laid, images_addresses}
use Rattle.machine_proof.specs.Lists.{IsPointAt}
use Rattle.machine_proof.specs.Entries.{IsEntryAt}
use Rattle.machine_proof.specs.LaidOut.{ImagesMeetTheHeadline, SourcesMeetTheHeadline}
use Rattle.machine_proof.proofs.Entries.{entries_are_points}

-- a word does the row of some instruction
immediate_fit : (op : ImmediateOp) (rd a n : ℕ) → immediate_row op rd a n ≡ Unfit → ⊥
immediate_fit Addi rd zero n e = cc
immediate_fit Addi rd (suc r) zero e = cc
immediate_fit Addi rd (suc r) (suc n) e = cc
immediate_fit _ rd a n e = cc

does_one : (x y : Row) → Does x ≡ Does y → x ≡ y
does_one x y e = cc

link_fit : (rd t : ℕ) → link_row rd t ≡ Does Unfit → ⊥
link_fit zero t e = cc
link_fit (suc rd) t e = cc

word_fit : (o : WordOp) (a : ℕ) (m : MachineOp) → row_as o a m ≡ Does Unfit → ⊥
word_fit (Registers op) a m e = cc
word_fit (Immediate op) a m e = immediate_fit op m.rd m.rs1 (word m.imm) (does_one _ _ e)
word_fit Lui a m e = cc
word_fit (Branch op) a m e = cc
word_fit (Load op) a m e = cc
word_fit (Store op) a m e = cc
word_fit Jal a m e = link_fit m.rd (at_offset a m.imm) e
word_fit Jalr a m e = cc

if_some : (P : MachineOp → Type 0) (o : Option MachineOp) → IsSome o → IfSome o P → (m : MachineOp) × P m
if_some P None h k = cc
if_some P (Some m) h k = (m, k)

module _ (l : Layout) (low : l.base < MAX_BASE) (few : count_of l.framed.blocks < MAX_WORDS) (worded : IsWorded l) where
  one_fit : (a : ℕ) (c : Instruction) → IsSome (operation_at l a c) → row_of c ≡ Unfit → ⊥
  one_fit a c h e =
      let offset = offset_to l a (row_exit (row_of c)) in
      let object = object_offset l.framed (object_named (row_of c)) in
      let m = if_some (λ (m : MachineOp). (x : ℕ) →
      machine_row x m ≡ placed (at_offset x (offset_to l a (row_exit (row_of c)))) (object_offset l.framed (object_named (row_of c))) (pos 0) (row_of c))
      (operation_at l a c) h (lowered_acts offset object c) in
      word_fit m.0.op a m.0 (m.1 a ∙ ap (placed (at_offset a (offset_to l a (row_exit (row_of c)))) (object_offset l.framed (object_named (row_of c)))
      (pos 0)) e)

  pub has_all : HasAllWords l
  has_all = record {
    words = λ p i c k e kind. worded p i c k e kind;
    fits = λ p i c k e kind u. one_fit (address_in l p) c (subst (FormWorded l (address_in l p) c) (ap (row_form (l.long p)) u)
        (worded p i c k e kind)) u;
    small = λ p. (let b = bytes_small l.long l.framed.blocks p in omega (arith, b, low, few));
  }

-- where the function lies in its image, an entry of the layout begins at each address of a point
pub record IsLaidBy (l : Layout) (f : FramedFunction) (image : Image) : Type 0 where
  pub laid : IsLaidAt f image
  pub entries : (a : ℕ) (p : Pos) → IsPointAt f laid.address a p → IsEntryAt l a p

pub laid_by : (l : Layout) (image : Image) → HasAllWords l → IsImageOf l image → IsLaidBy l l.framed image
laid_by l image has is = record {
  laid = images_are_laid l image has is;
  entries = λ a p at. (entries_are_points l a p).1
      (subst (λ (address : Pos → ℕ). IsPointAt l.framed address a p) (λ t q. images_addresses l image has is q t) at);
}

pub images_meet_the_headline : (lists : VarId → (address : ℕ) → Place → Type 0) → ImagesMeetTheHeadline lists
images_meet_the_headline lists source f resolve fresolve image h physical small is wanted =
    let framed = is_framed f h.sound small physical in
    let by = subst (λ (x : FramedFunction). IsLaidBy is.layout x image) is.framed
    (laid_by is.layout image (has_all is.layout is.low is.few is.worded) is.laid) in
    followers_meet_the_headline lists source f resolve fresolve image h framed
    (λ s start n t results run ret leads. frame_gives_back f fresolve h.sound (size_fits f 2032 small) s.core (entered s start) n t results run ret leads)
    by.laid (λ v a place given p at. wanted v a place given p (by.entries a p at)) where
      entered : (s : State) → StartsAt source s → IsEntered s.core
      entered s start = record {
        pointer = start.pointer;
        room = start.room;
        top = (let w = start.regs 2 (omega arith) in let e : Some w.0 ≡ Some s.core.entry = sym w.1 ∙ start.pointer in let q : w.0 ≡ s.core.entry = cc in
            let k = w.2 in omega (arith, q, k));
      }

pub sources_meet_the_headline : (lists : VarId → (address : ℕ) → Place → Type 0) → SourcesMeetTheHeadline lists
sources_meet_the_headline lists source resolve image read form physical sound small is wanted =
    images_meet_the_headline lists source source resolve resolve image (record {
      read = read;
      source_form = form;
      form = form;
      sound = sound;
      objects = refl;
      follows = follows_itself source.blocks read resolve source.objects;
    }) physical small is wanted
