-- At each line that the machine comes to, the rules there unwind to the start.
use Rattle.std.proofs.Common.{◌≡◌, ◌⊎◌, ℕ, zero, suc, List, true, refl, ap, subst, is_some, inl, inr}
use Rattle.mir_func.specs.declared.position.Pos.{Pos}
use Rattle.mir_func.specs.Function.{Function, FramedFunction}
use Rattle.mir_func.specs.Graph.{program_of}
use Rattle.sem_mir.specs.State.{State}
use Rattle.sem_mir.specs.Step.{read}
use Rattle.sem_machine.specs.Headline.{StartsAt, FailsBeforeLine}
use Rattle.sem_machine.specs.Image.{Image}
use Rattle.sem_machine.specs.Machine.{register, machine_start}
use Rattle.emit_code.specs.Rule.{Layout}
use Rattle.frame_rule.specs.Rule.{framed_of}
use Rattle.frame_proof.specs.Stands.{frame_state}
use Rattle.machine_proof.specs.Entries.{IsEntryAt}
use Rattle.dwarf_frame.specs.Rows.{RulesAt, unwinding}
use Rattle.frame_table.specs.Table.{frame_row, entry_row}
use Rattle.frame_theorem.specs.Laws.{BeginsWith, ShowsFrames, FollowersUnwind}
use Rattle.frame_theorem.specs.Unwinding.{Unwinds}
use Rattle.frame_theorem.proofs.Finds.{below_32, standing_unwinds}
use Rattle.frame_theorem.proofs.Lines.{entered, framed, frames_stand}

begins : (source : Function) (image : Image) (s0 : State) → StartsAt source s0 → BeginsWith s0.core (machine_start image s0)
begins source image s0 starts = record {
  entered = entered source s0 starts;
  written = λ r among. (let w = starts.regs r (below_32 r among) in ap is_some w.1);
  registers = read_is;
} where
  read_is : (r : ℕ) → register (machine_start image s0) r ≡ read s0.core r
  read_is zero = refl
  read_is (suc r) = refl

-- the rules of a point's entry
rules_at : (undefined section : List ℕ) (l : Layout) (f : FramedFunction) → l.framed ≡ f → ShowsFrames undefined section l → (a : ℕ) (p : Pos) →
    IsEntryAt l a p → RulesAt undefined section a (unwinding undefined (frame_row f (frame_state f p)))
rules_at undefined section l f framed shows a p at =
    let shown = subst (λ (x : FramedFunction). RulesAt undefined section at.entry.address (unwinding undefined (entry_row x at.entry).rules)) framed
    (shows at.entry at.among) in
    subst (λ (n : ℕ). RulesAt undefined section n (unwinding undefined (frame_row f (frame_state f p)))) at.begins
    (subst (λ (q : Pos). RulesAt undefined section at.entry.address (unwinding undefined (frame_row f (frame_state f q)))) at.point shown)

pub followers_unwind : FollowersUnwind
followers_unwind undefined section spares source f resolve fresolve image h physical small is shows s0 starts m s since l along line =
    elim (frames_stand source f resolve fresolve image h physical small is s0 starts m s since l along line)
    as (λ _. Unwinds undefined section (machine_start image s0) m ⊎ FailsBeforeLine (program_of true source.blocks resolve) l since s) [
      | inl at ↦ inl (record {
        rules = unwinding undefined (frame_row (framed_of f) (frame_state (framed_of f) at.point));
        has = rules_at undefined section is.layout (framed_of f) is.framed shows m.counter at.point at.entry;
        values = standing_unwinds undefined spares (framed_of f) (framed source f resolve fresolve image h physical small is) s0.core
            (machine_start image s0) (begins source image s0 starts) at.point m at.stands;
      })
      | inr fails ↦ inr fails
    ]
