-- Both runs at their start.
use Rattle.std.proofs.Common.{◌≡◌, ℕ, zero, suc, ◌<◌, List, [], Some, None, Bool, true, false, cond, nat_lt, refl, sym, ap, ◌∙◌, subst}
use Rattle.std.proofs.Common.{get_or, arith}
use Rattle.std.proofs.lemmas.Bool.{ltb-true, ltb-false}
use Rattle.rv64_instr.specs.Linked.{addresses_in}
use Rattle.rv64_instr.specs.declared.start.Start.{Start}
use Rattle.mir_func.specs.Function.{Function}
use Rattle.mir_func.specs.Graph.{Program}
use Rattle.mir_func.specs.declared.variable.VarId.{VarId}
use Rattle.sem_mir.specs.Align.{Start as SinceStart, After}
use Rattle.sem_mir.specs.State.{State, content, written}
use Rattle.sem_interpreter.specs.Places.{starting_registers}
use Rattle.sem_interpreter.specs.StandsFor.{Concrete, Starts, StandsFor as StandsForSource}
use Rattle.dwarf_loclists.specs.declared.range.Range.{Range}
use Rattle.sem_machine.specs.Image.{Image}
use Rattle.sem_machine.specs.Machine.{Machine}
use Rattle.emit_code.specs.Laid.{LaidCode}
use Rattle.sim_machine.specs.declared.hart.Hart.{Hart}
use Rattle.sim_machine.specs.Kept.{StandsFor}
use Rattle.sim_machine.specs.Machines.{StartsCode}
use Rattle.sim_start.specs.InitialMachine.{start_register, BeginsRun}
use Rattle.sim_start.proofs.Asked.{starts}
use Rattle.selftest_count.specs.declared.counts.Counts.{Counts}
use Rattle.selftest_count.specs.Counts.{no_counts, Counted, at_start}
use Rattle.selftest_count.specs.Runs.{BeginsSource}
use Rattle.selftest_count.specs.steps.Beside.{Beside}

module _ (start : Start) (regs : (r : ℕ) → r < 32 → get_or start.regs r 0 ≡ start_register [] r) (memory : start.memory ≡ [])
    (symbols : start.symbols ≡ []) where
  source_starts : (source : Function) (s : State) → BeginsSource source s → Starts source.objects source.blocks start s
  source_starts source s b = record {
    pos = b.pos;
    entry = b.entry ∙ sym (regs 2 (omega arith));
    area = b.area;
    objects = b.objects;
    symbols = b.symbols ∙ ap addresses_in (sym symbols);
    registers = at_register;
    slots = b.slots;
    memory = λ a. b.memory a ∙ ap (λ (cells : List (ℕ × ℕ)). written (λ _. 0) cells a) (sym memory);
    pairs = b.pairs;
    marks = b.marks;
  } where
    by_test : (r : ℕ) (t : Bool) → nat_lt (suc r) 32 ≡ t → content s.core.regs (suc r) ≡ cond t (Some (get_or start.regs (suc r) 0)) None
    by_test r true e =
        let low : suc r < 32 = ltb-true (suc r) 32 e in
        b.regs (suc r) low ∙ ap Some (sym (regs (suc r) low))
    by_test r false e = b.virtual (suc r) (ltb-false (suc r) 32 e)

    at_register : (r : ℕ) → content s.core.regs r ≡ content (starting_registers start.regs) r
    at_register zero = refl
    at_register (suc r) = by_test r (nat_lt (suc r) 32) refl

  no_after : SinceStart ≡ After → ⊥
  no_after e = cc

  pub both_start : (source : Function) (src : Program) (c : LaidCode) (lists : List (List Range)) (parts : List VarId) (n : Counts) (h : Hart) (k : Concrete) →
      n ≡ no_counts → ((s : Machine) → StartsCode c start s → StandsFor h s) →
      ((s : State) → Starts source.objects source.blocks start s → StandsForSource k s) → (image : Image) (m : Machine) (s : State) → BeginsRun c [] [] m →
      BeginsSource source s → Beside src image lists parts m s n h k false
  both_start source src c lists parts n h k none stands stands_source image m s begins begins_source = record {
    machine = m;
    state = s;
    since = SinceStart;
    counted = subst (λ (q : Counts). Counted src image lists parts m s q m s SinceStart) (sym none) at_start;
    stands = stands m (starts c [] [] start m regs memory symbols begins);
    at = record { stands = stands_source s (source_starts source s begins_source); script = begins_source.script };
    moves = no_after;
  }
