-- A start as it is asked for.
use Rattle.std.proofs.Common.{◌≡◌, ℕ, zero, suc, ◌+◌, ◌-◌, ◌^◌, ◌<◌, ◌≤◌, List, [], length, Option, Some, None, Bool, true, false, cond, ◌&&◌, nat_le, nat_lt}
use Rattle.std.proofs.Common.{All, slice_index, refl, ap, arith}
use Rattle.std.proofs.lemmas.Bool.{lt-ltb, ltb-true}
use Rattle.sem_machine.specs.Headline.{StartsAt}
use Rattle.sem_machine.specs.Image.{Image}
use Rattle.sem_machine.specs.Machine.{machine_start, register}
use Rattle.run_command.specs.Source.{BeginsAsked}
use Rattle.mir_func.specs.Function.{Function}
use Rattle.mir_func.specs.Graph.{block_start}
use Rattle.mir_func.specs.Objects.{area_of, offset_of}
use Rattle.rv64_instr.specs.Linked.{addresses_in}
use Rattle.rv64_instr.specs.declared.symbol.Symbol.{Symbol}
use Rattle.sem_mir.specs.InitialState.{first_of}
use Rattle.sem_mir.specs.State.{State, content}
use Rattle.sem_mir.specs.Step.{or_zero}
use Rattle.run_command.specs.sim_start.InitialMachine.{start_register, other_register, replies}
use Rattle.theorem_marks.specs.Starts.{RunsCanStart}
use Rattle.theorem_marks.proofs.Replies.{all_replies}

module _ (source : Function) (image : Image) (addresses : List (Symbol × ℕ)) (arguments values : List ℕ) (limit : ℕ)
    (low : All (λ a. a < 2 ^ 64) arguments) (small : All (λ v. v < 2 ^ 64) values) (few : limit < 2 ^ 64) where
  abbrev regs : ℕ → Option ℕ
  regs r = cond (nat_lt r 32) (Some (start_register arguments r)) None

  abbrev start : State
  start = record {
    pos = block_start (first_of source.blocks);
    core = record {
      entry = 1048576;
      area = area_of source.objects;
      objects = offset_of source.objects;
      symbols = addresses_in addresses;
      regs = regs;
      slots = λ n. None;
      memory = λ a. 0;
      script = replies values 1 limit;
      events = [];
      pairs = λ k o. None;
      marks = [];
    };
  }

  written : (r : ℕ) → r < 32 → content regs r ≡ Some (start_register arguments r)
  written zero lt = refl
  written (suc r) lt = ap (λ (z : Bool). cond z (Some (start_register arguments (suc r))) None) (lt-ltb (suc r) 32 lt)

  unwritten : (r : ℕ) → 32 ≤ r → content regs r ≡ None
  unwritten zero le = absurd (omega (arith, le))
  unwritten (suc r) le = by_test (nat_lt (suc r) 32) refl where
    by_test : (z : Bool) → nat_lt (suc r) 32 ≡ z → content regs (suc r) ≡ None
    by_test true e = (let lt = ltb-true (suc r) 32 e in absurd (omega (arith, le, lt)))
    by_test false e = ap (λ (z : Bool). cond z (Some (start_register arguments (suc r))) None) e

  other_small : (r : ℕ) → r < 32 → other_register arguments r < 2 ^ 64
  other_small r lt = by_test (nat_le 10 r && nat_lt (r - 10) (length arguments)) refl where
    inside : (a b : Bool) → (a && b) ≡ true → b ≡ true
    inside true b e = e
    inside false b e = cc

    by_test : (z : Bool) → (nat_le 10 r && nat_lt (r - 10) (length arguments)) ≡ z → cond z (slice_index arguments (r - 10)) (1000 + r) < 2 ^ 64
    by_test true e = low (r - 10) 0 (ltb-true (r - 10) (length arguments) (inside (nat_le 10 r) (nat_lt (r - 10) (length arguments)) e))
    by_test false e = omega (arith, lt)

  register_small : (r : ℕ) → r < 32 → start_register arguments r < 2 ^ 64
  register_small zero lt = omega arith
  register_small (suc zero) lt = omega arith
  register_small (suc (suc zero)) lt = omega arith
  register_small (suc (suc (suc r))) lt = other_small (suc (suc (suc r))) lt

  starts : StartsAt source start
  starts = record {
    pos = refl;
    regs = λ r lt. (start_register arguments r, written r lt, register_small r lt);
    virtual = unwritten;
    pointer = refl;
    room = omega arith;
    area = refl;
    objects = λ n. refl;
    slots = λ n. refl;
    memory = λ a. omega arith;
    script = all_replies values small 1 limit (omega (arith, few));
    events = refl;
    pairs = λ k o. refl;
    marks = refl;
  }

  at_register : (r : ℕ) → r < 32 → register (machine_start image start) r ≡ start_register arguments r
  at_register zero lt = refl
  at_register (suc r) lt = ap or_zero (written (suc r) lt)

  pub begins : BeginsAsked source image addresses arguments values limit start
  begins = record { starts = starts; entry = refl; symbols = refl; regs = at_register; memory = λ a. refl; script = refl }

pub runs_can_start : RunsCanStart
runs_can_start source image addresses arguments values limit low small few =
    (start source image addresses arguments values limit low small few, begins source image addresses arguments values limit low small few)
