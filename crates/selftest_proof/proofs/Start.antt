-- The start of a self-test is one of the headline's.
use Rattle.std.proofs.Common.{◌≡◌, ℕ, zero, suc, ◌+◌, ◌-◌, ◌^◌, ◌<◌, ◌≤◌, [], Option, Some, None, Bool, true, false, cond, ◌&&◌}
use Rattle.std.proofs.Common.{nat_le, nat_lt}
use Rattle.std.proofs.Common.{refl, sym, ap, ◌∙◌, subst, arith}
use Rattle.std.specs.List.{All}
use Rattle.std.proofs.lemmas.Bool.{lt-ltb, ltb-true}
use Rattle.std.proofs.lemmas.List.Elements.{All-nil}
use Rattle.rv64_instr.specs.Linked.{addresses_in}
use Rattle.mir_func.specs.Function.{Function}
use Rattle.mir_func.specs.Graph.{block_start}
use Rattle.mir_func.specs.Objects.{area_of, offset_of}
use Rattle.sem_mir.specs.InitialState.{first_of}
use Rattle.sem_mir.specs.State.{State, IsReply, content}
use Rattle.sem_mir.specs.Step.{or_zero}
use Rattle.sem_machine.specs.Headline.{StartsAt}
use Rattle.sem_machine.specs.Image.{Image}
use Rattle.sem_machine.specs.Machine.{register, machine_start}
use Rattle.emit_code.specs.Laid.{LaidCode}
use Rattle.selftest_count.specs.sim_machine.Shown.{ShowsCode}
use Rattle.selftest_count.specs.sim_start.InitialMachine.{start_register, BeginsRun}
use Rattle.selftest_count.specs.Runs.{BeginsSource}

abbrev pub start_regs : ℕ → Option ℕ
start_regs r = cond (nat_lt r 32) (Some (start_register [] r)) None

abbrev pub start_state : Function → State
start_state source = record {
  pos = block_start (first_of source.blocks);
  core = record {
    entry = 1048576;
    area = area_of source.objects;
    objects = offset_of source.objects;
    symbols = addresses_in [];
    regs = start_regs;
    slots = λ _. None;
    memory = λ _. 0;
    script = [];
    events = [];
    pairs = λ _ _. None;
    marks = [];
  };
}

regs_written : (r : ℕ) → r < 32 → content start_regs r ≡ Some (start_register [] r)
regs_written zero l = refl
regs_written (suc r) l = ap (λ (b : Bool). cond b (Some (start_register [] (suc r))) None) (lt-ltb (suc r) 32 l)

regs_unwritten : (r : ℕ) → 32 ≤ r → content start_regs r ≡ None
regs_unwritten zero l = absurd (omega (arith, l))
regs_unwritten (suc r) l = by_test (nat_lt (suc r) 32) refl where
  by_test : (b : Bool) → nat_lt (suc r) 32 ≡ b → content start_regs (suc r) ≡ None
  by_test true e = absurd (omega (arith, l, ltb-true (suc r) 32 e))
  by_test false e = ap (λ (b : Bool). cond b (Some (start_register [] (suc r))) None) e

pub begins_source : (source : Function) → BeginsSource source (start_state source)
begins_source source = record {
  pos = refl;
  entry = refl;
  area = refl;
  objects = λ n. refl;
  symbols = refl;
  regs = regs_written;
  virtual = regs_unwritten;
  slots = λ n. refl;
  memory = λ a. refl;
  script = refl;
  events = refl;
  pairs = λ k o. refl;
  marks = refl;
}

other_small : (x : ℕ) (b : Bool) (r : ℕ) → x < 2 ^ 64 → r < 32 → cond b x (1000 + r) < 2 ^ 64
other_small x true r l m = l
other_small x false r l m = omega (arith, m)

start_small : (r : ℕ) → r < 32 → start_register [] r < 2 ^ 64
start_small zero l = omega arith
start_small (suc zero) l = omega arith
start_small (suc (suc zero)) l = omega arith
start_small (suc (suc (suc r))) l = other_small 0 (nat_le 10 (suc (suc (suc r))) && nat_lt (suc (suc (suc r)) - 10) 0) (suc (suc (suc r))) (omega arith) l

pub starts_at : (source : Function) (s : State) → BeginsSource source s → StartsAt source s
starts_at source s b = record {
  pos = b.pos;
  regs = λ r l. (start_register [] r, b.regs r l, start_small r l);
  virtual = b.virtual;
  pointer = b.regs 2 two_low ∙ ap Some (sym b.entry);
  room = let e = b.entry in omega (arith, e);
  area = b.area;
  objects = b.objects;
  slots = b.slots;
  memory = λ a. (let e = b.memory a in omega (arith, e));
  script = subst (All IsReply) (sym b.script) (All-nil IsReply);
  events = b.events;
  pairs = b.pairs;
  marks = b.marks;
} where
  two_low : 2 < 32
  two_low = omega arith

pub begins_run : (source : Function) (s : State) (c : LaidCode) (image : Image) → BeginsSource source s → ShowsCode c image →
    BeginsRun c [] [] (machine_start image s)
begins_run source s c image b shows = record {
  entry = b.entry;
  area = shows.area;
  symbols = b.symbols;
  counter = shows.low;
  regs = at_register;
  memory = b.memory;
  events = refl;
} where
  at_register : (r : ℕ) → r < 32 → register (machine_start image s) r ≡ start_register [] r
  at_register zero l = refl
  at_register (suc r) l = ap or_zero (b.regs (suc r) l)
