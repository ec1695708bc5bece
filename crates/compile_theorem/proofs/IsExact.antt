-- The lists of an output that is compiled are exact for what its lines show: its lines' bytes are those of the entries, and the function that the
-- lines show wants what the function with its frame wants.
use Rattle.std.proofs.Common.{◌≡◌, ℕ, zero, suc, List, [], ◌∷◌, length, map, Some, refl, sym, ap, subst, arith}
use Rattle.std.specs.Prelude.{slice_get, All}
use Rattle.std.proofs.lemmas.List.Elements.{All-head, All-tail, All-cons, All-nil}
use Rattle.rv64_instr.specs.declared.place.Place.{Place}
use Rattle.mir_func.specs.declared.block.Block.{Block}
use Rattle.mir_func.specs.declared.debug_substitution.DebugSubstitution.{DebugSubstitution}
use Rattle.mir_func.specs.declared.item.Item.{Item}
use Rattle.mir_func.specs.declared.position.ProgramPoint.{ProgramPoint}
use Rattle.mir_func.specs.declared.position.Pos.{Pos}
use Rattle.mir_func.specs.declared.variable.VarId.{VarId}
use Rattle.mir_func.specs.Function.{FramedFunction}
use Rattle.mir_func.specs.Graph.{Program, block_start, framed_program}
use Rattle.mir_func.specs.Resolve.{resolve}
use Rattle.mir_func.specs.Sound.{AllItems, ObjectsIn, contents_of}
use Rattle.mir_func.specs.Successors.{pos_in}
use Rattle.sem_mir.specs.PreferredLocation.{IsPreferredLocation, NoneIsPreferred}
use Rattle.listing_meaning.specs.sem_machine.Exact.{AreExact}
use Rattle.emit_code.specs.Rule.{entries_of}
use Rattle.emit_code.specs.steps.Emitted.{IsFormed, point_of as as_point}
use Rattle.dwarf_loclists.specs.declared.range.Range.{Range}
use Rattle.dwarf_loclists.specs.Grammar.{IsSection}
use Rattle.listing_text.specs.declared.output.ListedFunction.{ListedFunction}
use Rattle.listing_text.specs.declared.output.Output.{Output}
use Rattle.listing_meaning.specs.Program.{IsListedAt, blocks_shown}
use Rattle.listing_meaning.specs.Settled.{settled}
use Rattle.listing_meaning.proofs.Places.{places_are_points}
use Rattle.compile_theorem.specs.Laws.{AreCompiledTo, CompiledIsExact}
use Rattle.compile_theorem.specs.OutputProperties.{Gives, IsExactFor, variable_lines}
use Rattle.compile_theorem.specs.Source.{PassedFunction, IsPassedFunction}
use Rattle.dwarf_unit.specs.Variables.{variables_of_function}
use Rattle.compile_theorem.proofs.Alike.{IsGood, wanted_to, wanted_from, none_to, none_from}
use Rattle.compile_theorem.proofs.Exact.{IsByteOf}
use Rattle.compile_theorem.proofs.Functions.{IsCompiledIn, compiled_in, as_many}
use Rattle.compile_theorem.proofs.Telling.{all_at}
use Rattle.compile_theorem.proofs.Headline.{formed, exact}
use Rattle.compile_theorem.proofs.LaidOut.{framed, shown}

-- ---- exact lists stay so where points and wants are the same

carried : (g h : Program) (start : Pos) (points others : (address : ℕ) → Pos → Type 0) (lists : VarId → (address : ℕ) → Place → Type 0) →
    ((a : ℕ) (p : Pos) → others a p → points a p) → ((a : ℕ) (p : Pos) → points a p → others a p) →
    ((v : VarId) (p : Pos) (place : Place) → IsPreferredLocation g start v p place → IsPreferredLocation h start v p place) →
    ((v : VarId) (p : Pos) (place : Place) → IsPreferredLocation h start v p place → IsPreferredLocation g start v p place) →
    ((v : VarId) (p : Pos) → NoneIsPreferred g start v p → NoneIsPreferred h start v p) →
    ((v : VarId) (p : Pos) → NoneIsPreferred h start v p → NoneIsPreferred g start v p) → AreExact g start points lists → AreExact h start others lists
carried g h start points others lists to from wanted wants none nothing is = record {
  gives = λ v a p at place. (
    λ given. wanted v p place ((is.gives v a p (to a p at) place).0 given),
    λ want. (is.gives v a p (to a p at) place).1 (wants v p place want),
  );
  gives_none = λ v a p at. (
    λ source_end. none v p ((is.gives_none v a p (to a p at)).0 source_end),
    λ want. (is.gives_none v a p (to a p at)).1 (nothing v p want),
  );
  outside = λ v a off. is.outside v a (λ p at. off p (from a p at));
}

both_good : (f : FramedFunction) (items : List Item) → All IsFormed items → All (λ i. ObjectsIn f.objects i.kind) items → All (IsGood f) items
both_good f [] forms objects = All-nil (IsGood f)
both_good f (i ∷ items) forms objects =
    All-cons (IsGood f) i items (All-head IsFormed i items forms, All-head (λ x. ObjectsIn f.objects x.kind) i items objects)
    (both_good f items (All-tail IsFormed i items forms) (All-tail (λ x. ObjectsIn f.objects x.kind) i items objects))

all_good : (f : FramedFunction) (blocks : List Block) → AllItems IsFormed blocks → AllItems (λ i. ObjectsIn f.objects i.kind) blocks → AllItems (IsGood f)
    blocks
all_good f [] forms objects = All-nil (λ (b : Block). All (IsGood f) b.items)
all_good f (b ∷ blocks) forms objects =
    All-cons (λ (x : Block). All (IsGood f) x.items) b blocks
    (both_good f b.items (All-head (λ (x : Block). All IsFormed x.items) b blocks forms)
    (All-head (λ (x : Block). All (λ i. ObjectsIn f.objects i.kind) x.items) b blocks objects))
    (all_good f blocks (All-tail (λ (x : Block). All IsFormed x.items) b blocks forms)
    (All-tail (λ (x : Block). All (λ i. ObjectsIn f.objects i.kind) x.items) b blocks objects))

-- ---- one function

module _ (names : ℕ → List ℕ) (o : Output) (lists : List (List Range)) (section : IsSection o.loclists lists) (passed : PassedFunction) (f : ListedFunction)
    (is : IsPassedFunction passed) (c : IsCompiledIn names o.text lists passed f) where
  abbrev g : Program
  g = framed_program c.compiled.layout.framed.blocks (resolve passed.substitutions)

  good : AllItems (IsGood c.compiled.layout.framed) c.compiled.layout.framed.blocks
  good = all_good c.compiled.layout.framed c.compiled.layout.framed.blocks (formed names o lists section passed f is c)
      (framed names o lists section passed f is c).objects

  same : map contents_of (blocks_shown f) ≡ map contents_of (map (settled c.compiled.layout.framed) c.compiled.layout.framed.blocks)
  same = shown names o lists section passed f is c

  points_to : (a : ℕ) (p : Pos) → IsListedAt f a p → IsByteOf (entries_of c.compiled.layout) a p
  points_to a p at =
      let here = (places_are_points c.compiled.layout (variable_lines names c.first (variables_of_function passed.source.function.blocks)) passed.substitutions
      (framed names o lists section passed f is c) (formed names o lists section passed f is c) a p).0
      (subst (λ (x : ListedFunction). IsListedAt x a p) c.compiled.listed at) in
      record {
        entry = here.entry;
        among = here.among;
        byte = (here.from, here.within);
        point = ap (λ (q : ProgramPoint). pos_in q.block q.item) here.point;
      }

  points_from : (a : ℕ) (p : Pos) → IsByteOf (entries_of c.compiled.layout) a p → IsListedAt f a p
  points_from a p at =
      subst (λ (x : ListedFunction). IsListedAt x a p) (sym c.compiled.listed)
      ((places_are_points c.compiled.layout (variable_lines names c.first (variables_of_function passed.source.function.blocks)) passed.substitutions
      (framed names o lists section passed f is c) (formed names o lists section passed f is c) a p).1 (record {
        entry = at.entry;
        among = at.among;
        point = ap as_point at.point;
        from = at.byte.0;
        within = at.byte.1;
      }))

  pub exact_for : IsExactFor o f
  exact_for =
      let fr = c.compiled.layout.framed in
      let re = resolve passed.substitutions in
      subst (λ (es : List DebugSubstitution). AreExact (framed_program (blocks_shown f) (resolve es)) (block_start 0) (IsListedAt f) (Gives o f))
      (sym (ap (λ (x : ListedFunction). x.substitutions) c.compiled.listed))
      (carried g (framed_program (blocks_shown f) re) (block_start 0) (IsByteOf (entries_of c.compiled.layout)) (IsListedAt f) (Gives o f) points_to points_from
      (wanted_to fr (blocks_shown f) re good same) (wanted_from fr (blocks_shown f) re good same) (none_to fr (blocks_shown f) re good same)
      (none_from fr (blocks_shown f) re good same) (exact names o lists section passed f is c))

-- ---- all functions

-- each that is listed is of a function
of_source : (functions : List PassedFunction) (fs : List ListedFunction) (n : ℕ) (f : ListedFunction) → length fs ≡ length functions → slice_get fs n ≡ Some f →
    (passed : PassedFunction) × (slice_get functions n ≡ Some passed)
of_source functions [] n f same at = absurd cc
of_source [] (x ∷ fs) n f same at = absurd (omega (arith, same))
of_source (s ∷ functions) (x ∷ fs) zero f same at = (s, refl)
of_source (s ∷ functions) (x ∷ fs) (suc n) f same at = of_source functions fs n f (omega (arith, same)) at

all_by : (P : ListedFunction → Type 0) (fs : List ListedFunction) → ((n : ℕ) (f : ListedFunction) → slice_get fs n ≡ Some f → P f) → All P fs
all_by P [] each = All-nil P
all_by P (f ∷ fs) each = All-cons P f fs (each 0 f refl) (all_by P fs (λ n x at. each (suc n) x at))

pub for_each : (P : ListedFunction → Type 0) (names : ℕ → List ℕ) (functions : List PassedFunction) (o : Output) (are : AreCompiledTo names functions o) →
    ((passed : PassedFunction) (f : ListedFunction) → IsPassedFunction passed → IsCompiledIn names o.text are.compiled.lists passed f → P f) → All P o.functions
for_each P names functions o are each = all_by P o.functions (λ n f at.
    let many = as_many names o.text are.compiled.lists 0 0 o.text are.compiled.lists functions o.functions are.compiled.functions in
    let passed = of_source functions o.functions n f many at in
    each passed.0 f (all_at IsPassedFunction functions n passed.0 passed.1 are.passed) (compiled_in names functions o are.compiled n passed.0 f passed.1 at))

pub compiled_is_exact : CompiledIsExact
compiled_is_exact names functions o are =
    for_each (IsExactFor o) names functions o are (λ passed f is c. exact_for names o are.compiled.lists are.compiled.section passed f is c)
