-- Tokens along the path of a run, and the values of these tokens.
use Rattle.std.specs.Prelude.{◌≡◌, ℕ, suc, ◌<◌, Some, IsSome}
use Rattle.mir_func.specs.declared.variable.VarId.{VarId}
use Rattle.sem_mir.specs.State.{Core, State, content, assigned}
use Rattle.sem_mir.specs.Step.{Went, step}
use Rattle.mir_func.specs.Variables.{part_value}
use Rattle.mir_func.specs.Graph.{Program}
use Rattle.sem_mir.specs.ValueId.{Token, Fixed, Tokens, register_token, after_fetch, entry_tokens, Path}

-- the run from start is at a state after so many steps, with these tokens
pub data Trace (g : Program) (start : State) : ℕ → State → Tokens → Type 0 where
  begin : Trace g start 0 start entry_tokens
  onward : {n : ℕ} {s u : State} {t : Tokens} → Trace g start n s t → step g s ≡ Went u → Trace g start (suc n) u (after_fetch g.resolve n (g.fetch s.pos) t)

-- whatever has a token holds the token's value, a part of a variable its low bytes; the value of a constant's token is the
-- constant
pub record Names (value : Token → ℕ) (t : Tokens) (s : Core) : Type 0 where
  pub numbers : (n : ℕ) → value (Fixed n) ≡ n
  pub regs : (r : ℕ) (k : Token) → register_token t.regs r ≡ Some k → content s.regs r ≡ Some (value k)
  pub slots : (n : ℕ) (k : Token) → t.slots n ≡ Some k → s.slots n ≡ Some (value k)
  pub pairs : (n o : ℕ) (k : Token) → t.pairs n o ≡ Some k → s.pairs n o ≡ Some (value k)
  pub variables : (v : VarId) (k : Token) → assigned v t.marks ≡ Some k → assigned v s.marks ≡ Some (part_value v (value k))

-- this is so at each state of the run so far
abbrev pub NamesAlong : {g : Program} {start : State} {n : ℕ} {s : State} {t : Tokens} → (Token → ℕ) → Trace g start n s t → Type 0
NamesAlong {start = start} value begin = Names value entry_tokens start.core
NamesAlong {g = g} value (onward {n} {s} {u} {t} trace went) = NamesAlong value trace × Names value (after_fetch g.resolve n (g.fetch s.pos) t) u.core

-- the physical registers are written
abbrev pub HasRegisters : State → Type 0
HasRegisters s = (r : ℕ) → r < 32 → IsSome (content s.core.regs r)

-- Each token has one value all along a run: if two locations, pairs or variables have the same token, at the same or at
-- different steps, they hold the same value, parts of variables its low bytes.
abbrev pub TokensNameValues : Type 0
TokensNameValues = (g : Program) (start : State) → HasRegisters start → (n : ℕ) (s : State) (t : Tokens) → (trace : Trace g start n s t) →
    (value : Token → ℕ) × NamesAlong value trace

-- the tokens of a run are those of a path through the function
abbrev pub RunsTakePaths : Type 0
RunsTakePaths = (g : Program) (start : State) (n : ℕ) (s : State) (t : Tokens) → Trace g start n s t → Path g start.pos n s.pos t
