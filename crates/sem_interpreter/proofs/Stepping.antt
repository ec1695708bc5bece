-- What items do, and where steps lead.
use Rattle.std.proofs.Common.{◌≡◌, ℕ, ◌<◌, ◌≤◌, List, [], ◌∷◌, length, Option, Some, Bool, true, refl, sym, ap, ◌∙◌, subst, drop, get_or, arith}
use Rattle.std.specs.Prelude.{Result, Ok, Err, IfOk, nat_eq}
use Rattle.std.specs.Map.{lookup}
use Rattle.std.proofs.lemmas.List.{drop_all}
use Rattle.std.specs.declared.alloc.AllocError.{AllocError}
use Rattle.rv64_instr.specs.Linked.{addresses_in}
use Rattle.rv64_instr.specs.Row.{row_of}
use Rattle.rv64_instr.specs.Instruction.{Instruction}
use Rattle.rv64_instr.specs.declared.operand.Operand.{Operand}
use Rattle.rv64_instr.specs.declared.start.CallResult.{CallResult}
use Rattle.rv64_instr.specs.declared.start.Start.{Start}
use Rattle.mir_func.specs.declared.block.Block.{Block}
use Rattle.mir_func.specs.declared.object.Object.{Object}
use Rattle.mir_func.specs.Parts.{Bytes}
use Rattle.mir_func.specs.declared.debug_substitution.DebugSubstitution.{DebugSubstitution}
use Rattle.mir_func.specs.declared.item.ItemKind.{ItemKind}
use Rattle.mir_func.specs.declared.item.ItemKind.TheVariants.{Code, Mark, Phi}
use Rattle.mir_func.specs.Sound.{LastCloses, ids_of}
use Rattle.sem_mir.proofs.Places.{contains_head}
use Rattle.sem_interpreter.proofs.Inside.{block_inside}
use Rattle.sem_mir.specs.State.{Core, State}
use Rattle.sem_mir.specs.Step as step
use Rattle.sem_mir.specs.Step.{numbered, with_core}
use Rattle.rv64_instr.specs.LocationEffects.{is_call}
use Rattle.mir_func.specs.Graph.{Fetch, Here, EndOfBlock, Outside, block_start, fetch_in, front, from_block}
use Rattle.sem_mir.specs.InitialState.{first_of}
use Rattle.sem_interpreter.specs.declared.machine.InterpreterState.{InterpreterState}
use Rattle.sem_interpreter.specs.declared.machine.Outcome.{Outcome}
use Rattle.sem_interpreter.specs.declared.machine.Outcome.TheVariants.{Falls, Goes}
use Rattle.sem_interpreter.specs.declared.state.SourceStep.TheVariants.{Went}
use Rattle.sem_interpreter.specs.Places.{RegistersHold}
use Rattle.sem_interpreter.specs.Acts.{Acts, Moved, StartsMachine}
use Rattle.sem_interpreter.specs.Assigned.{MarksHold}
use Rattle.sem_interpreter.specs.StandsFor.{Concrete, PairsHold, Holds, StandsFor, Starts, DoesItem, IsPosition, IsStepAnswered}
use Rattle.sem_interpreter.specs.declared.state.SourceStep.{SourceStep}
use Rattle.mir_func.specs.declared.variable.MarkValue.TheVariants.{Nothing, Constant, At, Pair}
use Rattle.sem_interpreter.specs.Steps.{IsStep, Steps, StepsFrom, source_of}

-- what `number` gives, at the instruction's own operands
given_at : (i : Instruction) (k : ℕ) (m : InterpreterState) (kept old fs : List ((ℕ × ℕ) × Option ℕ)) (call : Bool) (operands : List Operand) →
    operands ≡ i.operands →
    call ≡ is_call (row_of i) → kept ≡ old →
    ((t : Core) → RegistersHold m.registers t.regs → PairsHold kept t.pairs → PairsHold fs (numbered true call (Some k) operands t).pairs) →
    (t : Core) → RegistersHold m.registers t.regs → PairsHold old t.pairs → PairsHold fs (numbered true (is_call (row_of i)) (Some k) i.operands t).pairs
given_at i k m kept old fs call operands eo ec ek given t registers holds =
    subst (λ (b : Bool). PairsHold fs (numbered true b (Some k) i.operands t).pairs) ec
    (subst (λ (xs : List Operand). PairsHold fs (numbered true call (Some k) xs t).pairs) eo
    (given t registers (subst (λ (es : List ((ℕ × ℕ) × Option ℕ)). PairsHold es t.pairs) (sym ek) holds)))

numbered_holds : (old : Concrete) (m : InterpreterState) (fs : List ((ℕ × ℕ) × Option ℕ)) (call : Bool) (k : ℕ) (operands : List Operand) (s c : Core) →
    Moved m s c →
    Holds old s →
    ((t : Core) → RegistersHold m.registers t.regs → PairsHold old.pairs t.pairs → PairsHold fs (numbered true call (Some k) operands t).pairs) →
    Holds (record old { machine = m; pairs = fs }) (numbered true call (Some k) operands c)
numbered_holds old m fs call k operands s c moved holds given = record {
  machine = record {
    entry = moved.machine.entry;
    area = moved.machine.area;
    symbols = moved.machine.symbols;
    objects = moved.machine.objects;
    registers = moved.machine.registers;
    slots = moved.machine.slots;
    memory = moved.machine.memory;
  };
  pairs = given c moved.machine.registers (λ q o. ap (λ f. f q o) moved.pairs ∙ holds.pairs q o);
  marks = λ v. ap (Rattle.sem_mir.specs.State.assigned v) moved.marks ∙ holds.marks v;
}

pub code_falls : (subs : List DebugSubstitution) (i : Instruction) (k : ℕ) (answer : Option CallResult) (old : Concrete) (m : InterpreterState)
    (kept fs : List ((ℕ × ℕ) × Option ℕ))
    (call : Bool) (operands : List Operand) (o : Outcome) →
    operands ≡ i.operands → call ≡ is_call (row_of i) → kept ≡ old.pairs → o ≡ Falls → Acts (row_of i) answer o old.machine m →
    ((t : Core) → RegistersHold m.registers t.regs → PairsHold kept t.pairs → PairsHold fs (numbered true call (Some k) operands t).pairs) →
    DoesItem subs (Code i (Some k)) answer Falls old (record old { machine = m; pairs = fs })
code_falls subs i k answer old m kept fs call operands o eo ec ek is acts given =
    let falls : Acts (row_of i) answer Falls old.machine m = subst (λ (x : Outcome). Acts (row_of i) answer x old.machine m) is acts in
    record {
      ends = λ s holds script.
          let a = falls.ends s holds.machine script in (
            numbered true (is_call (row_of i)) (Some k) i.operands a.0,
            ap (with_core (numbered true (is_call (row_of i)) (Some k) i.operands)) a.1,
            numbered_holds old m fs (is_call (row_of i)) k i.operands s a.0 a.2 holds (given_at i k m kept old.pairs fs call operands eo ec ek given),
          );
      stays = tt;
      leads = falls.leads;
      pos = refl;
    }

pub code_goes : (subs : List DebugSubstitution) (i : Instruction) (k : ℕ) (answer : Option CallResult) (old : Concrete) (m : InterpreterState) (kept fs : List
    ((ℕ × ℕ) × Option ℕ))
    (call : Bool) (operands : List Operand) (o : Outcome) (n : ℕ) →
    operands ≡ i.operands → call ≡ is_call (row_of i) → kept ≡ old.pairs → o ≡ Goes n → Acts (row_of i) answer o old.machine m →
    ((t : Core) → RegistersHold m.registers t.regs → PairsHold kept t.pairs → PairsHold fs (numbered true call (Some k) operands t).pairs) →
    DoesItem subs (Code i (Some k)) answer (Goes n) old (record old { machine = m; pairs = fs })
code_goes subs i k answer old m kept fs call operands o n eo ec ek is acts given =
    let goes : Acts (row_of i) answer (Goes n) old.machine m = subst (λ (x : Outcome). Acts (row_of i) answer x old.machine m) is acts in
    record {
      ends = λ s holds script.
          let a = goes.ends s holds.machine script in (
            numbered true (is_call (row_of i)) (Some k) i.operands a.0,
            ap (with_core (numbered true (is_call (row_of i)) (Some k) i.operands)) a.1,
            numbered_holds old m fs (is_call (row_of i)) k i.operands s a.0 a.2 holds (given_at i k m kept old.pairs fs call operands eo ec ek given),
          );
      stays = tt;
      leads = goes.leads;
      pos = refl;
    }

-- ---- under a result that may lack memory
at_kind : (subs : List DebugSubstitution) (kind other : ItemKind) (answer : Option CallResult) (o : Outcome) (old new : Concrete) → kind ≡ other →
    DoesItem subs other answer o old new → DoesItem subs kind answer o old new
at_kind subs kind other answer o old new e h = subst (λ (x : ItemKind). DoesItem subs x answer o old new) (sym e) h

pub code_ok : (subs : List DebugSubstitution) (kind other : ItemKind) (answer : Option CallResult) (old new : Concrete) → kind ≡ other →
    (r : Result Outcome AllocError) →
    IfOk r (λ o. (xs : List DebugSubstitution) → DoesItem xs other answer o old new) → IfOk r (λ o. DoesItem subs kind answer o old new)
code_ok subs kind other answer old new e (Ok o) h = at_kind subs kind other answer o old new e (h subs)
code_ok subs kind other answer old new e (Err x) h = h

pub code_like : (i : Instruction) (k l : Option ℕ) (answer : Option CallResult) (old new : Concrete) → k ≡ l → (r : Result Outcome AllocError) →
    IfOk r (λ o. (xs : List DebugSubstitution) → DoesItem xs (Code i l) answer o old new) →
    IfOk r (λ o. (xs : List DebugSubstitution) → DoesItem xs (Code i k) answer o old new)
code_like i k l answer old new e (Ok o) h = λ xs. at_kind xs (Code i k) (Code i l) answer o old new (ap (λ (x : Option ℕ). Code i x) e) (h xs)
code_like i k l answer old new e (Err x) h = h

pub mark_ok : (subs : List DebugSubstitution) (kind other : ItemKind) (answer : Option CallResult) (old new : Concrete) → kind ≡ other →
    (r : Result Outcome AllocError) →
    IfOk r (λ o. (a : Option CallResult) → DoesItem subs other a o old new) → IfOk r (λ o. DoesItem subs kind answer o old new)
mark_ok subs kind other answer old new e (Ok o) h = at_kind subs kind other answer o old new e (h answer)
mark_ok subs kind other answer old new e (Err x) h = h

pub phi_ok : (subs : List DebugSubstitution) (kind other : ItemKind) (answer : Option CallResult) (old new : Concrete) → kind ≡ other →
    (r : Result Outcome AllocError) →
    IfOk r (λ o. (xs : List DebugSubstitution) (a : Option CallResult) → DoesItem xs other a o old new) → IfOk r (λ o. DoesItem subs kind answer o old new)
phi_ok subs kind other answer old new e (Ok o) h = at_kind subs kind other answer o old new e (h subs answer)
phi_ok subs kind other answer old new e (Err x) h = h

-- ---- the end of a block
pub silent_steps : (blocks : List Block) (d e : Block) (n : ℕ) (subs : List DebugSubstitution) (answer : Option CallResult) (old : Concrete) →
    1 < length blocks →
    length (get_or blocks 0 d).items ≤ old.pos.item →
    (get_or blocks 1 e).id ≡ n → StepsFrom (fetch_in blocks old.pos.item) subs answer Went old (record old { pos = record { block = n; item = 0 } })
silent_steps [] d e n subs answer old lt past is = absurd (omega arith)
silent_steps (b ∷ []) d e n subs answer old lt past is = absurd (omega arith)
silent_steps (b ∷ c ∷ cs) d e n subs answer old lt past is = λ s stands script.
    let here : fetch_in (b ∷ c ∷ cs) old.pos.item ≡ EndOfBlock b.source_end c.id = ap (λ xs. front xs b.source_end (c ∷ cs))
    (drop_all old.pos.item b.items past) in (
      record { pos = record { block = n; item = 0 }; core = s.core },
      ap (λ f. step.moved (λ x. x) s.pos (step.do_fetch (source_of [] subs) f s.core)) here
          ∙ ap (λ (x : ℕ). step.Went (record { pos = record { block = x; item = 0 }; core = s.core })) is,
      record { pos = refl; core = record { machine = stands.core.machine; pairs = stands.core.pairs; marks = stands.core.marks } },
    )

pub more_blocks : (blocks : List Block) (d : Block) (n : ℕ) → 0 < length blocks → length (get_or blocks 0 d).items ≤ n → (fetch_in blocks n ≡ Outside → ⊥) →
    1 < length blocks
more_blocks [] d n some past at = absurd (omega arith)
more_blocks (b ∷ []) d n some past at = absurd (at (ap (λ xs. front xs b.source_end []) (drop_all n b.items past)))
more_blocks (b ∷ c ∷ cs) d n some past at = omega arith

-- ---- the whole function
same_item : (blocks : List Block) (subs : List DebugSubstitution) (kind : ItemKind) (s : Core) →
    step.do_item (source_of blocks subs) kind s ≡ step.do_item (source_of [] subs) kind s
same_item blocks subs (Code i k) s = refl
same_item blocks subs (Mark v Nothing) s = refl
same_item blocks subs (Mark v (Constant n)) s = refl
same_item blocks subs (Mark v (At r)) s = refl
same_item blocks subs (Mark v (Pair q)) s = refl
same_item blocks subs (Phi p k) s = refl

same_fetch : (blocks : List Block) (subs : List DebugSubstitution) (f : Fetch) (s : Core) →
    step.do_fetch (source_of blocks subs) f s ≡ step.do_fetch (source_of [] subs) f s
same_fetch blocks subs (Here i) s = same_item blocks subs i.kind s
same_fetch blocks subs (EndOfBlock k n) s = refl
same_fetch blocks subs Outside s = refl

pub steps_whole : (blocks : List Block) (i : ℕ) (subs : List DebugSubstitution) (answer : Option CallResult) (r : SourceStep) (old new : Concrete) →
    from_block blocks old.pos.block ≡ drop i blocks →
    StepsFrom (fetch_in (drop i blocks) old.pos.item) subs answer r old new → Steps (source_of blocks subs) answer r old new
steps_whole blocks i subs answer r old new e h = λ s stands script.
    let here : fetch_in (from_block blocks s.pos.block) s.pos.item ≡ fetch_in (drop i blocks) old.pos.item =
    (λ j. fetch_in (from_block blocks (stands.pos j).block) (stands.pos j).item) ∙ ap (λ bs. fetch_in bs old.pos.item) e in
    let done = h s stands (subst (λ (f : Fetch). IsStepAnswered f answer s.core.script) here script) in
    subst (λ (x : step.Outcome). IsStep r new (step.moved (λ n. n) s.pos x))
    (sym (ap (λ f. step.do_fetch (source_of blocks subs) f s.core) here ∙ same_fetch blocks subs (fetch_in (drop i blocks) old.pos.item) s.core)) done

pub steps_whole_ok : (blocks : List Block) (i : ℕ) (subs : List DebugSubstitution) (answer : Option CallResult) (old new : Concrete) →
    from_block blocks old.pos.block ≡ drop i blocks → (r : Result SourceStep AllocError) →
    IfOk r (λ o. StepsFrom (fetch_in (drop i blocks) old.pos.item) subs answer o old new) → IfOk r (λ o. Steps (source_of blocks subs) answer o old new)
steps_whole_ok blocks i subs answer old new e (Ok o) h = steps_whole blocks i subs answer o old new e h
steps_whole_ok blocks i subs answer old new e (Err x) h = h

-- ---- the start
pub starts_stands : (stack : List Object) (blocks : List Block) (start : Start) (m : InterpreterState) (es : List ((ℕ × ℕ) × Option ℕ))
    (fs : List ((ℕ × Option ℕ) × List (Option Bytes × Option ℕ))) (n : ℕ) (s : State) → Starts stack blocks start s → StartsMachine stack start m → es ≡ [] →
    fs ≡ [] → n ≡ first_of blocks →
    StandsFor (record { pos = record { block = n; item = 0 }; machine = m; pairs = es; assigned = fs }) s
starts_stands stack blocks start m es fs n s starts made e f first = record {
  pos = starts.pos ∙ sym (ap (λ (x : ℕ). block_start x) first);
  core = record {
    machine = record {
      entry = starts.entry ∙ sym made.entry;
      area = starts.area ∙ sym made.area;
      symbols = starts.symbols ∙ ap addresses_in (sym made.symbols);
      objects = λ k. starts.objects k ∙ made.objects k;
      registers = λ r. starts.registers r ∙ made.registers r;
      slots = λ k. starts.slots k ∙ sym (ap (lookup (nat_eq k)) made.slots);
      memory = λ a. starts.memory a ∙ made.memory a;
    };
    pairs = subst (λ (xs : List ((ℕ × ℕ) × Option ℕ)). PairsHold xs s.core.pairs) (sym e) (λ k o. starts.pairs k o);
    marks = subst (λ (xs : List ((ℕ × Option ℕ) × List (Option Bytes × Option ℕ))). MarksHold xs s.core.marks) (sym f)
        (λ v. ap (Rattle.sem_mir.specs.State.assigned v) starts.marks);
  };
}

pub first_position : (blocks : List Block) (n : ℕ) → LastCloses blocks → n ≡ first_of blocks → IsPosition blocks (record { block = n; item = 0 })
first_position [] n closes e = absurd closes
first_position (b ∷ bs) n closes e =
    subst (λ (x : ℕ). IsPosition (b ∷ bs) (block_start x)) (sym e) (block_inside (b ∷ bs) b.id closes (contains_head b.id (ids_of bs)))
