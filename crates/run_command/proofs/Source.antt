-- The run of a compilation is that of the function that was read: names stay as they were read, and the headline speaks of what lists tell.
use Rattle.std.proofs.Common.{◌≡◌, ◌≢◌, ℕ, zero, suc, ◌*◌, ◌%◌, ◌^◌, ◌<◌, List, [], ◌∷◌, map, take, length, All, Some}
use Rattle.std.proofs.Common.{refl, sym, ap, ◌∙◌, subst, inl, inr, arith}
use Rattle.std.specs.Prelude.{slice_get, slice_index_or}
use Rattle.std.proofs.lemmas.List.Elements.{All-nil, All-cons, All-head, All-tail}
use Rattle.std.proofs.lemmas.Option.{slice_get-map, slice_get-get_or}
use Rattle.rv64_instr.specs.declared.place.Place.{Place}
use Rattle.rv64_instr.specs.declared.symbol.Symbol.{Symbol}
use Rattle.mir_func.specs.Variables.{part_value}
use Rattle.std.specs.Prelude.{option_map}
use Rattle.sem_machine.specs.Machine.{Machine, machine_start, place_content}
use Rattle.listing_text.specs.declared.output.ListedFunction.{ListedFunction}
use Rattle.listing_text.specs.declared.output.ListedVariable.{ListedVariable}
use Rattle.listing_text.specs.declared.output.Output.{Output}
use Rattle.dwarf_loclists.specs.declared.range.Location.{Location}
use Rattle.dwarf_loclists.specs.declared.range.Location.TheVariants.{Whole, Parts}
use Rattle.dwarf_loclists.specs.declared.range.Part.{Part}
use Rattle.dwarf_loclists.specs.declared.range.Range.{Range}
use Rattle.dwarf_loclists.specs.Grammar.{IsSection, LocationAt}
use Rattle.dwarf_loclists.specs.Ranges.{location_in}
use Rattle.mir_func.specs.declared.variable.VarId.{VarId}
use Rattle.sem_mir.specs.Align.{Tells}
use Rattle.sem_mir.specs.State.{State}
use Rattle.compile_program.specs.read_program.declared.closing.Parsed.{Parsed}
use Rattle.compile_program.specs.read_program.declared.program.Program.{Program}
use Rattle.compile_program.proofs.compile_theorem.Headline.{compiled_promises}
use Rattle.compile_program.proofs.compile_theorem.LaidOut.{compiled_is_laid_out}
use Rattle.compile_program.proofs.compile_theorem.Telling.{all_at}
use Rattle.compile_program.specs.compile_theorem.Laws.{AreCompiledTo}
use Rattle.compile_program.specs.compile_theorem.OutputProperties.{Gives, IsLaidOut, AreLaidOut, MeetsHeadline, Promises}
use Rattle.compile_program.specs.compile_theorem.Source.{SourceFunction, OfEach, sources_among}
use Rattle.pass_list.specs.declared.kind.PassKind.{PassKind}
use Rattle.compile_program.proofs.Passed.{all_passed, passed_sources}
use Rattle.compile_program.specs.declared.compile.Compilation.{Compilation}
use Rattle.compile_program.specs.Program.{sources_of, IsCompilationOf, IsOutputOf, steps_of, source_of, names_of, lists_of}
use Rattle.sim_start.specs.sim_trace.Variables.{variable_of}
use Rattle.sim_start.specs.sim_machine.Shown.{ShowsCode}
use Rattle.compile_program.specs.listing_meaning.Program.{image_of}
use Rattle.compile_program.specs.dwarf_unit.Variables.{whole}
use Rattle.location_of_variable.specs.Groups.{part_of}
use Rattle.location_of_variable.specs.VariableLocation.{bytes_of}
use Rattle.run_command.proofs.Runs.{compilation_can_run}
use Rattle.run_command.proofs.Shown.{compilation_shows_code}
use Rattle.run_command.specs.Runs.{HasNone, IsFirstNamed, IsRunOf}
use Rattle.run_command.specs.Source.{IsUnknown, IsFirstRead, AreSourceValues, TellsSource, IsRunOfProgram}
use Rattle.run_command.specs.Source.{RunsAreOfPrograms, NamesAreRead}

-- ---- names

abbrev read_names : List Parsed → List (List ℕ)
read_names ps = map (λ (p : Parsed). p.func.name) ps

abbrev listed_names : List ListedFunction → List (List ℕ)
listed_names fs = map (λ (f : ListedFunction). f.name) fs

same_names : (ps : List Parsed) (fs : List ListedFunction) → length fs ≡ length (sources_of ps) →
    ((n : ℕ) (s : SourceFunction) (f : ListedFunction) → slice_get (sources_of ps) n ≡ Some s → slice_get fs n ≡ Some f → IsLaidOut s f) →
    listed_names fs ≡ read_names ps
same_names [] [] many each = refl
same_names [] (f ∷ fs) many each = absurd (omega (arith, many))
same_names (p ∷ ps) [] many each = absurd (omega (arith, many))
same_names (p ∷ ps) (f ∷ fs) many each =
    let here : f.name ≡ p.func.name = (each 0 (source_of p) f refl refl).named in
    let rest : listed_names fs ≡ read_names ps =
    same_names ps fs (omega (arith, many)) (λ n s g s_is g_is. each (suc n) s g s_is g_is) in
    λ i. here i ∷ rest i

unknown : (name : List ℕ) (fs : List ListedFunction) (ps : List Parsed) → listed_names fs ≡ read_names ps → HasNone name fs → IsUnknown name ps
unknown name [] [] same none = All-nil (λ (p : Parsed). p.func.name ≢ name)
unknown name [] (p ∷ ps) same none = absurd cc
unknown name (f ∷ fs) [] same none = absurd cc
unknown name (f ∷ fs) (p ∷ ps) same none =
    let P : ListedFunction → Type 0 = λ g. g.name ≢ name in
    let here : f.name ≡ p.func.name = cc in
    let rest : listed_names fs ≡ read_names ps = cc in
    All-cons (λ (q : Parsed). q.func.name ≢ name) p ps (λ named. All-head P f fs none (here ∙ named)) (unknown name fs ps rest (All-tail P f fs none))

first_read : (name : List ℕ) (fs : List ListedFunction) (ps : List Parsed) → listed_names fs ≡ read_names ps → (n : ℕ) → IsFirstNamed name fs n →
    IsFirstRead name ps n
first_read name [] ps same n found = absurd (let stands = found.stands in cc)
first_read name (f ∷ fs) [] same n found = absurd cc
first_read name (f ∷ fs) (p ∷ ps) same zero found =
    let here : f.name ≡ p.func.name = cc in
    let one : f ≡ found.function = let stands = found.stands in cc in
    record {
      function = p;
      stands = refl;
      named = sym here ∙ ap (λ (g : ListedFunction). g.name) one ∙ found.named;
      first = All-nil (λ (q : Parsed). q.func.name ≢ name);
    }
first_read name (f ∷ fs) (p ∷ ps) same (suc n) found =
    let P : ListedFunction → Type 0 = λ g. g.name ≢ name in
    let here : f.name ≡ p.func.name = cc in
    let rest : listed_names fs ≡ read_names ps = cc in
    let later : IsFirstRead name ps n = first_read name fs ps rest n (record {
      function = found.function;
      stands = found.stands;
      named = found.named;
      first = All-tail P f (take n fs) found.first;
    }) in
    record {
      function = later.function;
      stands = later.stands;
      named = later.named;
      first = All-cons (λ (q : Parsed). q.func.name ≢ name) p (take n ps) (λ named. All-head P f (take n fs) found.first (here ∙ named)) later.first;
    }

-- ---- values

all_from : (P : Part → Type 0) (xs : List Part) → ((k : ℕ) (x : Part) → slice_get xs k ≡ Some x → P x) → All P xs
all_from P [] each = All-nil P
all_from P (x ∷ xs) each = All-cons P x xs (each 0 x refl) (all_from P xs (λ k y y_is. each (suc k) y y_is))

module _ (o : Output) (f : ListedFunction) (lists : List (List Range)) (section : IsSection o.loclists lists)
    (below : All (λ (v : ListedVariable). v.list < length lists) f.variables) where
  located : (n : ℕ) (line : ListedVariable) (address : ℕ) (l : Location) → slice_get f.variables n ≡ Some line →
      location_in (variable_of lists line).ranges address ≡ Some l → LocationAt o.loclists line.list address (Some l)
  located n line address l stands at = record {
    lists = lists;
    ranges = slice_index_or lists line.list [];
    section = section;
    list = slice_get-get_or lists line.list [] (all_at (λ (x : ListedVariable). x.list < length lists) f.variables n line stands below);
    found = sym at;
  }

  gives_whole : (n : ℕ) (line : ListedVariable) (v : VarId) (address : ℕ) (place : Place) → slice_get f.variables n ≡ Some line →
      line.variable ≡ whole v → location_in (variable_of lists line).ranges address ≡ Some (Whole place) → Gives o f (whole v) address place
  gives_whole n line v address place stands named at = record {
    number = n;
    line = line;
    stands = stands;
    named = named;
    given = record { location = Some (Whole place); located = located n line address (Whole place) stands at; whole = refl };
  }

  gives_part : (n : ℕ) (line : ListedVariable) (v : VarId) (address : ℕ) (pieces : List Part) → slice_get f.variables n ≡ Some line →
      line.variable ≡ whole v → location_in (variable_of lists line).ranges address ≡ Some (Parts pieces) → (k : ℕ) (x : Part) →
      slice_get pieces k ≡ Some x → Gives o f (part_of v (Some (bytes_of x))) address x.place
  gives_part n line v address pieces stands named at k x x_is = record {
    number = n;
    line = line;
    stands = stands;
    named = named;
    given = (k, record { location = Some (Parts pieces); located = located n line address (Parts pieces) stands at; nth = sym x_is });
  }

  -- what the lists tell is what agrees with the source
  source_values : (s : State) (m : Machine) → ((v : VarId) (place : Place) → Gives o f v m.counter place → Tells s v (part_value v (place_content place m))) →
      AreSourceValues f lists s m
  source_values s m places n line v (Whole place) stands named at = places (whole v) place (gives_whole n line v m.counter place stands named at)
  source_values s m places n line v (Parts pieces) stands named at =
      let P : Part → Type 0 = λ x. Tells s (part_of v (Some (bytes_of x))) (place_content x.place m % 2 ^ (8 * x.length)) in
      all_from P pieces (λ k x x_is. places (part_of v (Some (bytes_of x))) x.place (gives_part n line v m.counter pieces stands named at k x x_is))

  tells_source : (source : SourceFunction) → MeetsHeadline o source f → TellsSource source (image_of o f) f lists
  tells_source source headline s0 starts m s since l along stands =
      elim (headline.agrees s0 starts m s since l along stands) [
        | inl agrees ↦ inl (agrees.0, agrees.1, source_values agrees.0 m agrees.2.places)
        | inr fails ↦ inr fails
      ]

-- ---- the run

module _ (reserve : List ℕ) (passes : List PassKind) (p : Program) (c : Compilation) (output : IsOutputOf (steps_of reserve passes) p c.output) where
  to : AreCompiledTo (names_of p.meta) output.functions c.output
  to = record { passed = all_passed p.meta p.functions output.functions output.passed; compiled = output.compiled }

  -- what holds of the sources of what passes made holds of the functions that were read
  of_read : (P : List SourceFunction → Type 0) → P (sources_among output.functions) → P (sources_of p.functions)
  of_read P holds = subst P (sym (passed_sources p.meta p.functions output.functions output.passed)) holds

  laid_out : OfEach IsLaidOut (sources_of p.functions) c.output.functions
  laid_out = (of_read (λ ss. AreLaidOut (names_of p.meta) ss c.output) (compiled_is_laid_out (names_of p.meta) output.functions c.output to)).each

  names_stay : listed_names c.output.functions ≡ read_names p.functions
  names_stay = same_names p.functions c.output.functions laid_out.as_many laid_out.each

  pub names_are_read : (name : List ℕ) → HasNone name c.output.functions → IsUnknown name p.functions
  names_are_read name none = unknown name c.output.functions p.functions names_stay none

  promised : Promises (sources_of p.functions) c.output
  promised = of_read (λ ss. Promises ss c.output) (compiled_promises (names_of p.meta) output.functions c.output to)

  pub run_of_program : (is : IsCompilationOf reserve passes p c) (name : List ℕ) (limit : ℕ) (addresses : List (Symbol × ℕ))
      (arguments values text : List ℕ) → IsRunOf c name limit addresses arguments values text →
      IsRunOfProgram (steps_of reserve passes) p name limit addresses arguments values text
  run_of_program is name limit addresses arguments values text run =
      let f = run.named.function in
      let read : IsFirstRead name p.functions run.number = first_read name c.output.functions p.functions names_stay run.number run.named in
      let source : slice_get (sources_of p.functions) run.number ≡ Some (source_of read.function) =
      slice_get-map source_of p.functions run.number ∙ ap (option_map source_of) read.stands in
      let shows : ShowsCode run.compiled.code (image_of c.output f) =
      compilation_shows_code reserve passes p c is run.number f run.compiled run.named.stands run.stands in
      let can = compilation_can_run reserve passes p c is in
      let lists = lists_of c.functions in
      let below : All (λ (v : ListedVariable). v.list < length lists) f.variables =
      all_at (λ (g : ListedFunction). All (λ (v : ListedVariable). v.list < length lists) g.variables) c.output.functions run.number f
      run.named.stands can.listed in
      let headline : MeetsHeadline c.output (source_of read.function) f =
      promised.each run.number (source_of read.function) f source run.named.stands in
      record {
        number = run.number;
        read = read;
        output = c.output;
        is = output;
        listed = f;
        stands = run.named.stands;
        lists = lists;
        section = is.section;
        runs = λ s begins. run.runs (image_of c.output f) (machine_start (image_of c.output f) s) shows
            (record {
              entry = begins.entry;
              area = shows.area;
              symbols = begins.symbols;
              counter = shows.low;
              regs = begins.regs;
              memory = begins.memory;
              events = refl;
            }) begins.script;
        source = tells_source c.output f lists is.section below (source_of read.function) headline;
      }

pub runs_are_of_programs : RunsAreOfPrograms
runs_are_of_programs reserve passes p c name limit addresses arguments values text output is run =
    run_of_program reserve passes p c output is name limit addresses arguments values text run

pub all_names_are_read : NamesAreRead
all_names_are_read reserve passes p c name output none = names_are_read reserve passes p c output name none
