-- What a run knows at each of its states: a path leads there, and whatever has a token on it holds the value that the token names. A step
-- takes it along.
use Rattle.std.proofs.Common.{◌≡◌, ℕ, zero, suc, Option, Some, None, refl}
use Rattle.mir_func.specs.declared.position.Pos.{Pos}
use Rattle.mir_func.specs.Graph.{Program}
use Rattle.sem_mir.specs.State.{State, IsInRange, content}
use Rattle.sem_mir.specs.Step.{Went, step}
use Rattle.sem_mir.specs.ValueId.{Token, Tokens, register_token, after_fetch, entry_tokens, Path}
use Rattle.sem_mir.specs.ValueId as token
use Rattle.sem_mir.proofs.Edges.{step_edge}
use Rattle.sem_mir.proofs.InRange.{step_in_range}
use Rattle.sem_value_ids.specs.Pullback.{InRegister}
use Rattle.sem_value_ids.specs.Trace.{Names, HasRegisters}
use Rattle.sem_value_ids.specs.Trace as trace
use Rattle.sem_value_ids.proofs.Along.{step_names, tokens_name_values}
use Rattle.sem_value_ids.proofs.Made.{path_is_old}
use Rattle.sem_value_ids.proofs.Naming.{Holds, Good, AreOld}

pub record Known (g : Program) (start : Pos) (t : State) : Type 0 where
  pub count : ℕ
  pub tokens : Tokens
  pub value : Token → ℕ
  pub path : Path g start count t.pos tokens
  pub good : Good value tokens t.core
  pub old : AreOld count tokens
  pub range : IsInRange t.core

holds_of : (V : Token → ℕ) (x : Option Token) (y : Option ℕ) → ((k : Token) → x ≡ Some k → y ≡ Some (V k)) → Holds V x y
holds_of V None y h = tt
holds_of V (Some k) y h = h k refl

pub known_start : (g : Program) (s : State) → HasRegisters s → IsInRange s.core → Known g s.pos s
known_start g s written range =
    let named = tokens_name_values g s written zero s entry_tokens trace.begin in
    let names : Names named.0 entry_tokens s.core = named.1 in
    let path : Path g s.pos zero s.pos entry_tokens = token.begin in
    record {
      count = zero;
      tokens = entry_tokens;
      value = named.0;
      path = path;
      good = record {
        numbers = names.numbers;
        regs = λ r. holds_of named.0 (register_token entry_tokens.regs r) (content s.core.regs r) (names.regs r);
        slots = λ n. tt;
        pairs = λ n o. tt;
        variables = λ v. tt;
      };
      old = record {
        regs = λ r. path_is_old path (InRegister r);
        slots = λ n. tt;
        pairs = λ n o. tt;
        variables = λ v. tt;
        pointer = refl;
      };
      range = range;
    }

pub known_step : (g : Program) (start : Pos) (s u : State) → Known g start s → step g s ≡ Went u → Known g start u
known_step g start s u k went =
    let r = step_names k.value k.count g s u k.tokens k.old k.good went in
    record {
      count = suc k.count;
      tokens = after_fetch g.resolve k.count (g.fetch s.pos) k.tokens;
      value = r.value;
      path = token.onward k.path (step_edge g s u went);
      good = r.good;
      old = r.old;
      range = step_in_range g s u k.range went;
    }
