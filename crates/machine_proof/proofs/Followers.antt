-- The image in which a function that follows the source lies, with its frame, meets the headline.
use Rattle.std.proofs.Common.{◌≡◌, ℕ, zero, suc, ◌<◌, ◌≤◌, List, [], ◌∷◌, All, Option, Bool, true, false, cond, IsTrue, nat_eq, nat_le}
use Rattle.std.proofs.Common.{sym}
use Rattle.std.proofs.Common.{subst, arith, leb-true}
use Rattle.std.specs.List.{list_all}
use Rattle.std.proofs.lemmas.Bool.{and_parts}
use Rattle.std.proofs.lemmas.List.Elements.{All-nil, All-cons, All-weaker}
use Rattle.rv64_instr.specs.declared.op.Op.{Op}
use Rattle.rv64_instr.specs.declared.op.Op.TheVariants.{Registers, Immediate, Lui, Branch, Load, Store, Copy}
use Rattle.rv64_instr.specs.declared.op.Op.TheVariants.{PseudoBr, PseudoCall, PseudoRet, PseudoCallIndirect}
use Rattle.rv64_instr.specs.declared.op.Op.TheVariants.{PseudoTail, PseudoTailIndirect, NoReturnCall, NoReturnCallIndirect}
use Rattle.rv64_instr.specs.declared.op.ImmediateOp.{ImmediateOp}
use Rattle.rv64_instr.specs.declared.op.ImmediateOp.TheVariants.{Addi}
use Rattle.rv64_instr.specs.declared.operand.Operand.{Operand}
use Rattle.rv64_instr.specs.declared.operand.Operand.TheVariants.{Def, Use, ImplicitUse, Imm, Slot, Object, Block as BlockOperand, Symbol, Mask}
use Rattle.rv64_instr.specs.declared.operand.Operand.TheVariants.{GlobalRegisters}
use Rattle.rv64_instr.specs.declared.place.Place.{Place}
use Rattle.rv64_instr.specs.Arithmetic.{word}
use Rattle.rv64_instr.specs.Form.{has_form, is_result}
use Rattle.rv64_instr.specs.Row.{row_by, move_row, immediate_row, object_row, implicit_uses, held_tail, held_gone}
use Rattle.rv64_instr.proofs.Tails.{tails_low, held_low, arguments_low, held_gone_low, last_arguments}
use Rattle.mir_func.specs.declared.block.Block.{Block}
use Rattle.mir_func.specs.declared.debug_substitution.OperandPair.{OperandPair}
use Rattle.mir_func.specs.declared.item.Item.{Item}
use Rattle.mir_func.specs.declared.item.ItemKind.{ItemKind}
use Rattle.mir_func.specs.declared.item.ItemKind.TheVariants.{Code, Mark, Phi}
use Rattle.mir_func.specs.declared.object.Object.{Object as StackObject}
use Rattle.mir_func.specs.declared.variable.VarId.{VarId}
use Rattle.mir_func.specs.Function.{Function}
use Rattle.mir_func.specs.Graph.{program_of, framed_program}
use Rattle.mir_func.specs.Sound.{HasForm}
use Rattle.sem_mir.specs.InitialState.{IsInitialState, first_of}
use Rattle.sem_mir.specs.Follow.{Follows}
use Rattle.sem_simulation.proofs.Words.{words_follow}
use Rattle.frame_rule.specs.Rule.{framed_of}
use Rattle.frame_proof.proofs.FrameFollows.{frame_follows}
use Rattle.machine_proof.specs.Runs.{start_beside}
use Rattle.machine_proof.proofs.Headline.{laid_code_meets_the_headline}
use Rattle.machine_proof.specs.Framing.{ResultsArePhysical, KindReturnsPhysical, IsMadeFrom, IsInner}
use Rattle.machine_proof.specs.Followers.{IsFollower, FollowersMeetTheHeadline}
use Rattle.machine_proof.proofs.Quiet.{comes_from}
use Rattle.machine_proof.proofs.Turns.{plain_turns}

-- ---- what is passed where control leaves the function is in registers

results_low : (os : List Operand) → list_all is_result os ≡ true → All (λ r. r < 32) (implicit_uses os)
results_low [] e = All-nil (λ (r : ℕ). r < 32)
results_low (ImplicitUse r ∷ rest) e =
    let k = and_parts (is_result (ImplicitUse r)) (list_all is_result rest) e in
    let low = and_parts (nat_le 10 r) (nat_le r 17) k.0 in
    let le : r ≤ 17 = leb-true r 17 low.1 in
    by_test (nat_eq r 2) (omega (arith, le)) (results_low rest k.1) where
      by_test : (b : Bool) → r < 32 → All (λ r. r < 32) (implicit_uses rest) → All (λ r. r < 32) (cond b (implicit_uses rest) (r ∷ implicit_uses rest))
      by_test true here more = more
      by_test false here more = All-cons (λ (q : ℕ). q < 32) r (implicit_uses rest) here more
results_low (GlobalRegisters ∷ rest) e = results_low rest e
results_low (_ ∷ rest) e = cc

held_tail_low : (xs : List ℕ) → All (λ r. r < 32) xs → ResultsArePhysical (held_tail xs)
held_tail_low [] h = tt
held_tail_low (r ∷ xs) h = h

held_gone_results : (xs : List ℕ) → All (λ r. r < 32) xs → ResultsArePhysical (held_gone xs)
held_gone_results [] h = tt
held_gone_results (r ∷ xs) h = h

immediate_plain : (op : ImmediateOp) (rd a n : ℕ) → ResultsArePhysical (immediate_row op rd a n)
immediate_plain Addi rd zero n = tt
immediate_plain Addi rd (suc r) zero = tt
immediate_plain Addi rd (suc r) (suc n) = tt
immediate_plain _ rd a n = tt

object_plain : (op : ImmediateOp) (rd n offset : ℕ) → ResultsArePhysical (object_row op rd n offset)
object_plain Addi rd n offset = tt
object_plain _ rd n offset = tt

move_plain : (rd rs : ℕ) → ResultsArePhysical (move_row rd rs)
move_plain rd zero = tt
move_plain rd (suc r) = tt

by_op : (op : Op) (os : List Operand) → IsTrue (has_form op os) → ResultsArePhysical (row_by op os)
by_op PseudoRet os h = results_low os h
by_op PseudoCallIndirect (Use r ∷ rest) h = tt
by_op PseudoCallIndirect _ h = tt
by_op PseudoTail (Symbol name ∷ rest) h = tails_low rest h
by_op PseudoTailIndirect (ImplicitUse r ∷ rest) h = held_tail_low (implicit_uses (ImplicitUse r ∷ rest)) (held_low r rest h)
by_op PseudoTailIndirect _ h = absurd cc
by_op NoReturnCall (Symbol name ∷ Mask ∷ rest) h = arguments_low rest (last_arguments rest h)
by_op NoReturnCall _ h = absurd cc
by_op NoReturnCallIndirect (ImplicitUse r ∷ Mask ∷ rest) h =
    held_gone_results (implicit_uses (ImplicitUse r ∷ Mask ∷ rest)) (held_gone_low r rest h)
by_op NoReturnCallIndirect _ h = absurd cc
by_op (Registers op) (Def rd ∷ Use a ∷ Use b ∷ rest) h = tt
by_op (Immediate op) (Def rd ∷ Use a ∷ Imm i ∷ rest) h = immediate_plain op rd a (word i)
by_op (Immediate op) (Def rd ∷ Object n ∷ Imm i ∷ rest) h = object_plain op rd n (word i)
by_op Lui (Def rd ∷ Imm i ∷ rest) h = tt
by_op (Branch op) (Use a ∷ Use b ∷ BlockOperand target ∷ rest) h = tt
by_op (Load op) (Def rd ∷ Use base ∷ Imm i ∷ rest) h = tt
by_op (Load op) (Def rd ∷ Slot n ∷ rest) h = tt
by_op (Load op) (Def rd ∷ Object n ∷ Imm i ∷ rest) h = tt
by_op (Store op) (Use rs ∷ Use base ∷ Imm i ∷ rest) h = tt
by_op (Store op) (Use rs ∷ Slot n ∷ rest) h = tt
by_op (Store op) (Use rs ∷ Object n ∷ Imm i ∷ rest) h = tt
by_op Copy (Def rd ∷ Use rs ∷ rest) h = move_plain rd rs
by_op PseudoBr (BlockOperand target ∷ rest) h = tt
by_op PseudoCall (Symbol name ∷ rest) h = tt
by_op _ _ h = tt

kind_returns : (k : ItemKind) → HasForm k → KindReturnsPhysical k
kind_returns (Code c n) h = by_op c.op c.operands h
kind_returns (Mark v m) h = tt
kind_returns (Phi p n) h = tt

pub made_from : (source f : Function) (resolve fresolve : OperandPair → Option OperandPair) → IsFollower source f resolve fresolve →
    IsMadeFrom source f resolve fresolve
made_from source f resolve fresolve h = record {
  read = h.read;
  returns = All-weaker (λ (b : Block). All (λ (i : Item). HasForm i.kind) b.items) (λ (b : Block). All (λ (i : Item). KindReturnsPhysical i.kind) b.items)
      (λ b a. All-weaker (λ (i : Item). HasForm i.kind) (λ (i : Item). KindReturnsPhysical i.kind) (λ i x. kind_returns i.kind x) b.items a) source.blocks
      h.source_form;
  sound = h.sound;
  shape = h.follows.shape;
}

pub followers_meet_the_headline : (lists : VarId → (address : ℕ) → Place → Type 0) → FollowersMeetTheHeadline lists
followers_meet_the_headline lists source f resolve fresolve image h framed gives_back laid wanted =
    let made = made_from source f resolve fresolve h in
    laid_code_meets_the_headline lists source (framed_of f) resolve fresolve image framed h.objects (comes_from source f resolve fresolve made framed)
    (record {
      follows = λ s start. words_follow IsInner (program_of true source.blocks resolve) (framed_program (framed_of f).blocks fresolve) s (start_beside s)
          (frame_follows source.blocks f resolve fresolve h.sound h.form
          (subst (λ (os : List StackObject). Follows os source.blocks f.blocks resolve fresolve) (sym h.objects) h.follows) s
          (subst (λ (os : List StackObject). IsInitialState os (first_of source.blocks) s) (sym h.objects) start))
          (plain_turns source f resolve fresolve made framed);
      keeps = gives_back;
    }) laid wanted
