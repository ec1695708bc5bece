-- The self-test of a generated function, by the headline of what is compiled.
use Rattle.std.proofs.Common.{◌≡◌, ℕ, zero, suc, ◌+◌, ◌*◌, ◌<◌, ◌≤◌, ◌^◌, List, [], ◌∷◌, length, All, Contains, Option, Some, None, refl, sym, ap}
use Rattle.std.proofs.Common.{◌∙◌, subst, arith, append-nil}
use Rattle.std.specs.Prelude.{slice_get, true, false, IfSome, IfNone}
use Rattle.std.proofs.lemmas.List.Elements.{All-nil, All-cons, All-head, All-tail, All-weaker}
use Rattle.mir_exposure.specs.declared.exposure.Exposure.TheVariants.{Nothing}
use Rattle.rv64_instr.specs.declared.place.Place.{Place}
use Rattle.std.specs.List.{flat_map}
use Rattle.std.specs.Int.{w32, to_le_bytes}
use Rattle.emit_code.specs.Laid.{LaidCode}
use Rattle.run_command.proofs.Passed.{all_passed, passed_sources}
use Rattle.run_command.proofs.Runs.{compilation_can_run}
use Rattle.run_command.proofs.Shown.{compiled_whole, compilation_shows_code}
use Rattle.run_command.specs.Program.{ExposedSteps, CompiledFunction, HasLargeFrame, HasLargeSection}
use Rattle.run_command.specs.Runs.{Compilation}
use Rattle.run_command.specs.Program.{ArePassed, IsCompiledAs, AreCompiledAs, sources_of, IsCompilationOf, IsOutputOf, HasVirtualRegister}
use Rattle.run_command.specs.Program.{names_of, source_of, text_of, lists_of, IsCompilable, steps_of}
use Rattle.listing_text.specs.declared.output.ListedFunction.{ListedFunction}
use Rattle.listing_text.specs.declared.output.ListedVariable.{ListedVariable}
use Rattle.selftest_proof.specs.selftest_count.Runs.{GoApart}
use Rattle.selftest_proof.specs.selftest_count.Text.{MAX_STEPS, IsSelfTest}
use Rattle.dwarf_loclists.specs.declared.range.Location.{Location}
use Rattle.dwarf_loclists.specs.declared.range.Location.TheVariants.{Whole, Parts}
use Rattle.dwarf_loclists.specs.declared.range.Part.{Part}
use Rattle.dwarf_loclists.specs.declared.range.Range.{Range}
use Rattle.dwarf_loclists.specs.Grammar.{IsSection, LocationAt}
use Rattle.dwarf_loclists.specs.Ranges.{Ascend, ArePlaces, location_in}
use Rattle.gen_program.specs.Program.{generated_program}
use Rattle.gen_program.specs.Laws.{MarksWhole}
use Rattle.gen_program.proofs.Made.{IsMadeBlock}
use Rattle.gen_program.proofs.Steps.{TOP, IsMild, made_mild, generated_made, of_made, generated_runs_dont_fault, generated_functions_mark_wholes}
use Rattle.selftest_proof.specs.Known.{IsGiven, MarksPartOf, AreGiven}
use Rattle.selftest_proof.specs.Together.{HasNoFault, HasNoCall, RunsLong}
use Rattle.selftest_proof.proofs.Known.{reads_are_known}
use Rattle.selftest_proof.proofs.Start.{starts_at}
use Rattle.selftest_proof.proofs.Together.{runs_go_together}
use Rattle.read_metadata.specs.Maps.{Maps}
use Rattle.mir_func.specs.declared.block.Block.{Block}
use Rattle.mir_func.specs.declared.item.ItemKind.{ItemKind}
use Rattle.mir_func.specs.declared.item.ItemKind.TheVariants.{Code, Mark, Phi}
use Rattle.mir_func.specs.declared.variable.VarId.{VarId}
use Rattle.mir_func.specs.Function.{Function}
use Rattle.mir_func.specs.Graph.{Program as Graph, program_of}
use Rattle.mir_func.specs.Resolve.{resolve}
use Rattle.mir_func.specs.Sound.{AllItems}
use Rattle.gen_function.specs.Generator.{generated}
use Rattle.sem_mir.specs.Follow.{Shape}
use Rattle.gen_program.specs.read_program.declared.closing.Parsed.{Parsed}
use Rattle.gen_program.specs.read_program.declared.program.Program.{Program}
use Rattle.sem_interpreter.specs.StandsFor.{AreCounted}
use Rattle.run_command.proofs.compile_theorem.Functions.{words_length}
use Rattle.run_command.proofs.compile_theorem.Headline.{compiled_promises}
use Rattle.run_command.proofs.compile_theorem.Variables.{own_marks}
use Rattle.run_command.specs.compile_theorem.OutputProperties.{Gives, MeetsHeadline, Promises, variable_lines, variable_listed}
use Rattle.run_command.specs.compile_theorem.Source.{SourceFunction, PassedFunction, MarksOneOf}
use Rattle.pass_list.specs.declared.kind.PassKind.{PassKind}
use Rattle.selftest_proof.specs.sim_machine.Shown.{ShowsCode}
use Rattle.run_command.specs.listing_meaning.Program.{image_of}
use Rattle.run_command.specs.dwarf_unit.Variables.{whole, variables_of_function}
use Rattle.location_of_variable.specs.Groups.{part_of}
use Rattle.location_of_variable.specs.VariableLocation.{bytes_of as piece_bytes}
use Rattle.selftest_command.specs.steps.First.{TestsFirst, FirstGoesApart}
use Rattle.selftest_command.specs.Tested.{IsSelfTestOf}
use Rattle.selftest_command.proofs.NoCalls.{code_calls_nothing}
use Rattle.selftest_command.proofs.Uses.{variables_apart, variables_whole}

-- ---- the compilation of a program of one function

-- the location lists of a function can be read
abbrev ReadsLists : CompiledFunction → Type 0
ReadsLists f = All (λ (ranges : List Range). Ascend ranges × ArePlaces ranges) f.lists

record IsOne (names : ℕ → List ℕ) (reserve : List ℕ) (passes : List PassKind) (meta : Maps) (q : Parsed) (ps : List PassedFunction) (fs : List ListedFunction)
    (cs : List CompiledFunction) : Type 0 where
  passed : PassedFunction
  listed : ListedFunction
  function : CompiledFunction
  listed_is : fs ≡ listed ∷ []
  function_is : cs ≡ function ∷ []
  source : passed.source ≡ source_of q
  compilable : IsCompilable meta passed
  is : IsCompiledAs names reserve passes passed 0 0 listed function

is_one : (names : ℕ → List ℕ) (reserve : List ℕ) (passes : List PassKind) (meta : Maps) (q : Parsed) (ps : List PassedFunction) (fs : List ListedFunction)
    (cs : List CompiledFunction) → ArePassed meta (q ∷ []) ps → AreCompiledAs names reserve passes 0 0 ps fs cs →
    IsOne names reserve passes meta q ps fs cs
is_one names reserve passes meta q [] fs cs are compiled = absurd are
is_one names reserve passes meta q (p ∷ r ∷ ps) fs cs are compiled = absurd are.2
is_one names reserve passes meta q (p ∷ []) [] cs are compiled = absurd compiled
is_one names reserve passes meta q (p ∷ []) (f ∷ fs) [] are compiled = absurd compiled
is_one names reserve passes meta q (p ∷ []) (f ∷ g ∷ fs) (c ∷ cs) are compiled = absurd compiled.1
is_one names reserve passes meta q (p ∷ []) (f ∷ []) (c ∷ d ∷ cs) are compiled = absurd compiled.1
is_one names reserve passes meta q (p ∷ []) (f ∷ []) (c ∷ []) are compiled = record {
  passed = p;
  listed = f;
  function = c;
  listed_is = refl;
  function_is = refl;
  source = are.0;
  compilable = are.1;
  is = compiled.0;
}

-- ---- lines of variables

lines_at : (names : ℕ → List ℕ) (k : ℕ) (vs : List VarId) (n : ℕ) (v : VarId) → slice_get vs n ≡ Some v →
    slice_get (variable_lines names k vs) n ≡ Some (variable_listed names (k + n) v)
lines_at names k [] n v e = absurd cc
lines_at names k (w ∷ vs) zero v e =
    let same : w ≡ v = cc in
    ap (λ (x : VarId). Some (variable_listed names k x)) same ∙ ap (λ (j : ℕ). Some (variable_listed names j v)) plus_zero where
      plus_zero : k ≡ k + 0
      plus_zero = omega arith
lines_at names k (w ∷ vs) (suc n) v e =
    lines_at names (suc k) vs n v e ∙ ap (λ (j : ℕ). Some (variable_listed names j v)) onward where
      onward : suc k + n ≡ k + suc n
      onward = omega arith

holds_at : {X : Type 0} (P : X → Type 0) (xs : List X) (n : ℕ) (x : X) → slice_get xs n ≡ Some x → All P xs → P x
holds_at P [] n x e h = absurd cc
holds_at P (y ∷ xs) zero x e h = let same : y ≡ x = cc in subst P same (All-head P y xs h)
holds_at P (y ∷ xs) (suc n) x e h = holds_at P xs n x e (All-tail P y xs h)

all_from : {X : Type 0} (P : X → Type 0) (xs : List X) → ((k : ℕ) (x : X) → slice_get xs k ≡ Some x → P x) → All P xs
all_from P [] each = All-nil P
all_from P (x ∷ xs) each = All-cons P x xs (each 0 x refl) (all_from P xs (λ k y y_is. each (suc k) y y_is))

-- a mark of a whole variable is one of a part among them
mark_part : (vs : List VarId) (kind : ItemKind) → MarksOneOf vs kind → MarksWhole kind → MarksPartOf vs kind
mark_part vs (Mark v m) one wholly =
    let same : whole v ≡ v = λ i. record { node = v.node; inlined_at = v.inlined_at; fragment = sym wholly i } in subst (Contains vs) same one
mark_part vs (Code i k) one wholly = tt
mark_part vs (Phi p k) one wholly = tt

module _ (number count : ℕ) (some : 1 ≤ count) (few : count ≤ 512) (reserve : List ℕ) (passes : List PassKind) (c : Compilation)
    (is : IsCompilationOf reserve passes (generated_program number count) c) where
  abbrev program : Program
  program = generated_program number count

  abbrev source : Function
  source = generated number count

  abbrev parsed : Parsed
  parsed = record { func = source; subs = []; pool = []; exposure = Nothing }

  abbrev names : ℕ → List ℕ
  names = names_of program.meta

  abbrev vs : List VarId
  vs = variables_of_function source.blocks

  one : IsOne names reserve passes program.meta parsed is.functions c.output.functions c.functions
  one = is_one names reserve passes program.meta parsed is.functions c.output.functions c.functions is.passed is.compiled

  abbrev code : LaidCode
  code = one.function.code

  abbrev lists : List (List Range)
  lists = one.function.lists

  listed_first : slice_get c.output.functions 0 ≡ Some one.listed
  listed_first = ap (λ (fs : List ListedFunction). slice_get fs 0) one.listed_is

  function_first : slice_get c.functions 0 ≡ Some one.function
  function_first = ap (λ (cs : List CompiledFunction). slice_get cs 0) one.function_is

  lists_are : lists_of c.functions ≡ lists
  lists_are = ap lists_of one.function_is ∙ append-nil lists

  section : IsSection c.output.loclists lists
  section = subst (IsSection c.output.loclists) lists_are is.section

  abbrev gives : VarId → (address : ℕ) → Place → Type 0
  gives = Gives c.output one.listed

  promised : Promises (sources_of program.functions) c.output
  promised =
      subst (λ (ss : List SourceFunction). Promises ss c.output) (sym (passed_sources program.meta program.functions is.functions is.passed))
      (compiled_promises names is.functions c.output (record {
        passed = all_passed program.meta program.functions is.functions is.passed;
        compiled = compiled_whole reserve passes program c is;
      }))

  headline : MeetsHeadline c.output (source_of parsed) one.listed
  headline = promised.each 0 (source_of parsed) one.listed refl listed_first

  shows : ShowsCode code (image_of c.output one.listed)
  shows = compilation_shows_code reserve passes program c is 0 one.listed one.function listed_first function_first

  words : length c.output.text ≡ 4 * length code.words
  words =
      ap length is.text ∙ ap (λ (cs : List CompiledFunction). length (text_of cs)) one.function_is
      ∙ ap length (append-nil (flat_map (to_le_bytes w32) code.words)) ∙ words_length code.words

  -- ---- what the lists tell

  listed_lines : one.listed.variables ≡ variable_lines names 0 vs
  listed_lines =
      ap (λ (g : ListedFunction). g.variables) one.is.compiled.listed
      ∙ ap (λ (s : SourceFunction). variable_lines names 0 (variables_of_function s.function.blocks)) one.source

  as_many : length lists ≡ length vs
  as_many =
      ap length one.is.lists ∙ one.is.compiled.located.for_all ∙ ap (λ (s : SourceFunction). length (variables_of_function s.function.blocks)) one.source

  line_at : (k : ℕ) (v : VarId) → slice_get vs k ≡ Some v → slice_get one.listed.variables k ≡ Some (variable_listed names k v)
  line_at k v e =
      ap (λ (lines : List ListedVariable). slice_get lines k) listed_lines
      ∙ lines_at names 0 vs k v e ∙ ap (λ (j : ℕ). Some (variable_listed names j v)) zero_plus where
        zero_plus : 0 + k ≡ k
        zero_plus = omega arith

  module _ (k : ℕ) (v : VarId) (ranges : List Range) (a : ℕ) (v_is : slice_get vs k ≡ Some v) (ranges_are : slice_get lists k ≡ Some ranges) where
    located : (l : Location) → location_in ranges a ≡ Some l → LocationAt c.output.loclists k a (Some l)
    located l at = record { lists = lists; ranges = ranges; section = section; list = ranges_are; found = sym at }

    named : v ≡ whole v
    named = holds_at (λ (w : VarId). w ≡ whole w) vs k v v_is (variables_whole source.blocks)

    given : (l : Location) → location_in ranges a ≡ Some l → IsGiven gives v a l
    given (Whole p) at = record {
      number = k;
      line = variable_listed names k v;
      stands = line_at k v v_is;
      named = named;
      given = record { location = Some (Whole p); located = located (Whole p) at; whole = refl };
    }
    given (Parts pieces) at =
        all_from (λ (x : Part). gives (part_of v (Some (piece_bytes x))) a x.place) pieces (λ n x x_is. record {
          number = k;
          line = variable_listed names k v;
          stands = line_at k v v_is;
          named = named;
          given = (n, record { location = Some (Parts pieces); located = located (Parts pieces) at; nth = sym x_is });
        })

  marked : AllItems (λ i. MarksPartOf vs i.kind) source.blocks
  marked = λ k d l k' d' l'.
      mark_part vs _ (own_marks source.blocks k d l k' d' l') (generated_functions_mark_wholes number count some few k d l k' d' l')

  are_given : AreGiven gives source vs vs lists
  are_given = record {
    for_all = as_many;
    apart = variables_apart source.blocks;
    places = one.is.writable.places;
    each = λ k v ranges a l v_is ranges_are at. given k v ranges a v_is ranges_are l at;
    marked = marked;
  }

  -- ---- no fault and no call

  no_fault : HasNoFault source (resolve [])
  no_fault s begins n e = generated_runs_dont_fault number count some few (resolve []) s (starts_at source s begins) n e

  no_call : HasNoCall code
  no_call =
      let p = one.passed in
      let fp : Graph = program_of false p.function.blocks (resolve p.substitutions) in
      let shape : Shape source.blocks p.function.blocks (program_of true source.blocks (resolve [])) fp =
      subst (λ (s : SourceFunction). Shape s.function.blocks p.function.blocks
      (program_of true s.function.blocks (resolve s.substitutions)) fp) one.source
      one.compilable.passed.follower.follows.shape in
      code_calls_nothing source p.function (resolve []) fp (of_made (λ i. IsMild i.kind) (λ i m. made_mild m.made) number count few) shape 0 code one.is.code

  -- ---- the test

  same_source : (p : Parsed) → slice_get program.functions 0 ≡ Some p → parsed ≡ p
  same_source p e = cc

  same_function : (k : CompiledFunction) → slice_get c.functions 0 ≡ Some k → one.function ≡ k
  same_function k e = let both : Some one.function ≡ Some k = sym function_first ∙ e in cc

  pub tested : (output : IsOutputOf (steps_of reserve passes) (generated_program number count) c.output) (text : List ℕ) →
      TestsFirst (generated_program number count) c text → IsSelfTestOf reserve passes number count text
  tested output text t =
      let tests : IsSelfTest source (resolve []) code lists vs text =
      subst (λ (k : CompiledFunction). IsSelfTest source (resolve []) k.code k.lists vs text) (sym (same_function t.function t.first.compiled))
      (subst (λ (p : Parsed). IsSelfTest p.func (resolve p.subs) t.function.code t.function.lists (variables_of_function p.func.blocks) text)
      (sym (same_source t.source t.first.read)) t.tests) in
      record {
        compilation = c;
        output = output;
        compiled = is;
        function = one.function;
        functions = one.function_is;
        listed = one.listed;
        listings = one.listed_is;
        shows = shows;
        words = words;
        tests = tests;
        known = reads_are_known gives source (resolve []) (image_of c.output one.listed) code lists vs vs MAX_STEPS tests.counts headline shows are_given
            tests.counted;
      }

  pub runs_long : FirstGoesApart (generated_program number count) c → RunsLong (generated number count) (resolve [])
  runs_long t =
      let apart =
      subst (λ (k : CompiledFunction). GoApart source (resolve []) k.code k.lists vs MAX_STEPS) (sym (same_function t.function t.first.compiled))
      (subst (λ (p : Parsed). GoApart p.func (resolve p.subs) t.function.code t.function.lists (variables_of_function p.func.blocks) MAX_STEPS)
      (sym (same_source t.source t.first.read)) t.apart) in
      runs_go_together gives source (resolve []) (image_of c.output one.listed) code lists vs MAX_STEPS headline shows no_fault no_call apart

  pub has_function_compiled : 0 < length c.functions
  has_function_compiled = let e = ap length one.function_is in omega (arith, e)

  pub can_be_read_one : All ReadsLists c.functions
  can_be_read_one =
      subst (All ReadsLists) (sym one.function_is)
      (All-cons ReadsLists one.function []
      (subst (All (λ (ranges : List Range). Ascend ranges × ArePlaces ranges)) lists_are (compilation_can_run reserve passes program c is).readable)
      (All-nil ReadsLists))

-- ---- what the test needs

block_counted : (b : Block) → IsMadeBlock TOP b → length b.items < 2 ^ 32
block_counted b m = let few = m.few in omega (arith, few)

pub is_counted : (number count : ℕ) → count ≤ 512 → All (λ (p : Parsed). AreCounted p.func.blocks) (generated_program number count).functions
is_counted number count few =
    let P : Parsed → Type 0 = λ p. AreCounted p.func.blocks in
    let parsed : Parsed = record { func = generated number count; subs = []; pool = []; exposure = Nothing } in
    All-cons P parsed [] (All-weaker (IsMadeBlock TOP) (λ (b : Block). length b.items < 2 ^ 32) block_counted (generated number count).blocks
    (generated_made number count few)) (All-nil P)

-- ---- the same of a program that is the generated one

module _ (number count : ℕ) (p : Program) (same : p ≡ generated_program number count) where
  pub has_function : 0 < length p.functions
  has_function = let e = ap (λ (x : Program). length x.functions) same in omega (arith, e)

  pub all_counted : count ≤ 512 → All (λ (f : Parsed). AreCounted f.func.blocks) p.functions
  all_counted few = subst (λ (x : Program). All (λ (f : Parsed). AreCounted f.func.blocks) x.functions) (sym same) (is_counted number count few)

  pub virtual_of : (reserve : List ℕ) → HasVirtualRegister reserve p.functions → HasVirtualRegister reserve (generated_program number count).functions
  virtual_of reserve has = subst (λ (x : Program). HasVirtualRegister reserve x.functions) same has

  pub frame_of : (steps : ExposedSteps) → HasLargeFrame steps p.functions → HasLargeFrame steps (generated_program number count).functions
  frame_of steps large = subst (λ (x : Program). HasLargeFrame steps x.functions) same large

  pub section_of : (steps : ExposedSteps) → HasLargeSection steps p → HasLargeSection steps (generated_program number count)
  section_of steps large = subst (λ (x : Program). HasLargeSection steps x) same large

  module _ (some : 1 ≤ count) (few : count ≤ 512) (reserve : List ℕ) (passes : List PassKind) (c : Compilation) (is : IsCompilationOf reserve passes p c) where
    compiled : IsCompilationOf reserve passes (generated_program number count) c
    compiled = subst (λ (x : Program). IsCompilationOf reserve passes x c) same is

    pub function_compiled : 0 < length c.functions
    function_compiled = has_function_compiled number count some few reserve passes c compiled

    pub can_be_read : All ReadsLists c.functions
    can_be_read = can_be_read_one number count some few reserve passes c compiled

    one_text_of : (text : List ℕ) → IsOutputOf (steps_of reserve passes) p c.output → TestsFirst p c text → IsSelfTestOf reserve passes number count text
    one_text_of text output t =
        tested number count some few reserve passes c compiled (subst (λ (x : Program). IsOutputOf (steps_of reserve passes) x c.output) same output) text
        (subst (λ (x : Program). TestsFirst x c text) same t)

    long_of : FirstGoesApart p c → RunsLong (generated number count) (resolve [])
    long_of t = runs_long number count some few reserve passes c compiled (subst (λ (x : Program). FirstGoesApart x c) same t)

    pub texts_of : (o : Option (List ℕ)) → IsOutputOf (steps_of reserve passes) p c.output → IfSome o (TestsFirst p c) →
        IfSome o (IsSelfTestOf reserve passes number count)
    texts_of (Some text) output t = one_text_of text output t
    texts_of None output t = tt

    pub longs_of : (o : Option (List ℕ)) → IfNone o (FirstGoesApart p c) → IfNone o (RunsLong (generated number count) (resolve []))
    longs_of (Some text) t = tt
    longs_of None t = long_of t

-- what the self-test of a compilation rests on
pub ruleset joined = (has_function, all_counted, function_compiled, can_be_read, texts_of, longs_of, virtual_of, frame_of, section_of)
