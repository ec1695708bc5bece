-- The commands, and the words of a command line that are each of them.
use Rattle.std.specs.Prelude.{◌≡◌, ℕ, ◌≤◌, Bool, true, false, not, ◌&&◌, ◌||◌, cond, is_some, List, [], ◌∷◌, codes, Option, Some, None}
use Rattle.std.specs.Fmt.{decimal}
use Rattle.rv64_instr.specs.declared.symbol.Symbol.{Symbol}
use Rattle.cli_numbers.specs.declared.generation.Generation.{Generation}
use Rattle.cli_numbers.specs.Numbers.{IsGeneration}
use Rattle.cli.specs.declared.options.Options.{Options}
use Rattle.cli.specs.Options.{none_given, GiveOptions}
use Rattle.cli.specs.declared.command.Command.{Command}
use Rattle.cli.specs.declared.command.Command.TheVariants.{Compile, Listing, Report, Object, Run, Strip, Gen, SelfTest}
use Rattle.cli.specs.declared.command.PassPipeline.{PassPipeline}
use Rattle.cli.specs.declared.command.CompilePlan.{CompilePlan}
use Rattle.cli.specs.declared.command.LinkableForm.{LinkableForm}
use Rattle.cli.specs.declared.command.ObjectPlan.{ObjectPlan}
use Rattle.cli.specs.declared.command.RunPlan.{RunPlan}
use Rattle.cli.specs.declared.command.TestPlan.{TestPlan}
use Rattle.pass_list.specs.declared.kind.PassKind.{PassKind}
use Rattle.pass_list.specs.Names.{STANDARD}

-- the registers of `--reserve`: none by default
abbrev pub reserve_in : Option (List ℕ) → List ℕ
reserve_in None = []
reserve_in (Some registers) = registers

-- the numbers of an option: none by default
abbrev pub numbers_in : Option (List ℕ) → List ℕ
numbers_in None = []
numbers_in (Some numbers) = numbers

-- the addresses of `--symbols`: none by default
abbrev pub addresses_given : Option (List (Symbol × ℕ)) → List (Symbol × ℕ)
addresses_given None = []
addresses_given (Some pairs) = pairs

-- the passes of `--passes`: all by default
abbrev pub passes_in : Option (List PassKind) → List PassKind
passes_in None = STANDARD
passes_in (Some passes) = passes

-- there is an option that is of objects alone
abbrev pub has_object_words : Options → Bool
has_object_words given = given.linkable || given.float_abi

-- the plan of these options, which may include `--passes`, `--reserve` and `--linked` but no other
pub record IsPlanOf (given : Options) (plan : PassPipeline) : Type 0 where
  pub passes : plan.passes ≡ passes_in given.passes
  pub reserve : plan.reserve ≡ reserve_in given.reserve
  pub linked : plan.linked ≡ given.linked
  pub no_arguments : given.arguments ≡ None
  pub no_answers : given.answers ≡ None
  pub no_frame : given.frame ≡ false
  pub no_inline : given.inline ≡ false
  pub no_symbols : given.symbols ≡ None
  pub no_object_words : has_object_words given ≡ false

-- what `compile` writes with these options, which may be any but those of numbers and addresses
pub record IsCompileOf (given : Options) (c : CompilePlan) : Type 0 where
  pub passes : c.plan.passes ≡ passes_in given.passes
  pub reserve : c.plan.reserve ≡ reserve_in given.reserve
  pub linked : c.plan.linked ≡ given.linked
  pub frame : c.frame ≡ given.frame
  pub inline : c.inline ≡ given.inline
  pub no_arguments : given.arguments ≡ None
  pub no_answers : given.answers ≡ None
  pub no_symbols : given.symbols ≡ None
  pub no_object_words : has_object_words given ≡ false

-- the form of an object that a linker places; none of one that isn't asked for
abbrev pub form_in : Options → Option LinkableForm
form_in given = cond given.linkable (Some (record { frame = given.frame; float_abi = given.float_abi })) None

-- options that are of objects that a linker places alone are given for one that isn't
abbrev pub has_idle_form : Options → Bool
has_idle_form given = not given.linkable && (given.frame || given.float_abi || given.linked)

-- the object that these options ask for, which may be any but `--inline` and those of numbers and addresses, and those of an object that a linker places only
-- beside `--linkable`
pub record IsObjectPlanOf (given : Options) (asked : ObjectPlan) : Type 0 where
  pub passes : asked.plan.passes ≡ passes_in given.passes
  pub reserve : asked.plan.reserve ≡ reserve_in given.reserve
  pub linked : asked.plan.linked ≡ given.linked
  pub form : asked.form ≡ form_in given
  pub no_idle_form : has_idle_form given ≡ false
  pub no_inline : given.inline ≡ false
  pub no_arguments : given.arguments ≡ None
  pub no_answers : given.answers ≡ None
  pub no_symbols : given.symbols ≡ None

-- the words are options, in any order and each at most once, and this is what `compile` writes with them
abbrev pub GivesCompile : (words : List (List ℕ)) → CompilePlan → Type 0
GivesCompile words c = (given : Options) × GiveOptions none_given words given × IsCompileOf given c

-- the words are options, in any order and each at most once, and this is the object that they ask for
abbrev pub GivesObject : (words : List (List ℕ)) → ObjectPlan → Type 0
GivesObject words asked = (given : Options) × GiveOptions none_given words given × IsObjectPlanOf given asked

-- the words are options, in any order and each at most once, with this plan
abbrev pub GivesPlan : (words : List (List ℕ)) → PassPipeline → Type 0
GivesPlan words plan = (given : Options) × GiveOptions none_given words given × IsPlanOf given plan

-- a plan is another one, which is read in the language that isn't linked
abbrev pub IsPlainPlan : (plan other : PassPipeline) → Type 0
IsPlainPlan plan other = (plan ≡ other) × (other.linked ≡ false)

-- the same without `--linked`
abbrev pub GivesPlainPlan : (words : List (List ℕ)) → PassPipeline → Type 0
GivesPlainPlan words plan = GivesPlan words plan × (plan.linked ≡ false)

-- addresses of symbols are given for the language that isn't linked
abbrev pub has_idle_symbols : Options → Bool
has_idle_symbols given = not given.linked && is_some given.symbols

-- the run of the function with this name, for at most `count` steps, with these options, which may be any but `--frame` and `--inline`, and `--symbols` only
-- beside `--linked`
pub record IsRunPlanOf (name : List ℕ) (count : ℕ) (given : Options) (run : RunPlan) : Type 0 where
  pub named : run.name ≡ name
  pub steps : run.steps ≡ count
  pub passes : run.plan.passes ≡ passes_in given.passes
  pub reserve : run.plan.reserve ≡ reserve_in given.reserve
  pub linked : run.plan.linked ≡ given.linked
  pub arguments : run.arguments ≡ numbers_in given.arguments
  pub answers : run.answers ≡ numbers_in given.answers
  pub symbols : run.symbols ≡ addresses_given given.symbols
  pub no_frame : given.frame ≡ false
  pub no_inline : given.inline ≡ false
  pub no_idle_symbols : has_idle_symbols given ≡ false
  pub no_object_words : has_object_words given ≡ false

-- the greatest number of steps of a run
abbrev pub MAX_STEPS : ℕ
MAX_STEPS = 1000000

-- a run: a function's name, a number of steps from 0 to 1,000,000, and options, in any order and each at most once
pub record GivesSteps (name word : List ℕ) (words : List (List ℕ)) (run : RunPlan) : Type 0 where
  pub count : ℕ
  pub spelled : word ≡ decimal count
  pub few : count ≤ MAX_STEPS
  pub given : Options
  pub give : GiveOptions none_given words given
  pub is : IsRunPlanOf name count given run

-- the same, for the words of a run
abbrev pub GivesRun : (words : List (List ℕ)) → RunPlan → Type 0
GivesRun [] run = ⊥
GivesRun (name ∷ []) run = ⊥
GivesRun (name ∷ steps ∷ words) run = GivesSteps name steps words run

-- a generated function has a number up to 65,536, and 1 to 512 blocks
pub record IsWithin (g : Generation) : Type 0 where
  pub small : g.number ≤ 65536
  pub some : 1 ≤ g.blocks
  pub few : g.blocks ≤ 512

-- a self-test: the number of a generated function, its number of blocks, and options with a plan without `--linked`, in any order and each at most once
pub record GivesTestOf (number blocks : List ℕ) (words : List (List ℕ)) (test : TestPlan) : Type 0 where
  pub function : IsGeneration number blocks test.function
  pub plan : GivesPlainPlan words test.plan

-- the same, for the words of a self-test
abbrev pub GivesTest : (words : List (List ℕ)) → TestPlan → Type 0
GivesTest [] test = ⊥
GivesTest (number ∷ []) test = ⊥
GivesTest (number ∷ blocks ∷ words) test = GivesTestOf number blocks words test

-- the words of `strip` behind its name: `--linked`, if functions are read in the linked language
abbrev pub strip_words : (linked : Bool) → List (List ℕ)
strip_words true = codes "--linked" ∷ []
strip_words false = []

-- the words are a command: its name, and then what it needs
abbrev pub IsCommand : (words : List (List ℕ)) → Command → Type 0
IsCommand [] command = ⊥
IsCommand (name ∷ words) (Compile c) = (name ≡ codes "compile") × GivesCompile words c
IsCommand (name ∷ words) (Listing plan) = (name ≡ codes "listing") × GivesPlan words plan
IsCommand (name ∷ words) (Report plan) = (name ≡ codes "report") × GivesPlan words plan
IsCommand (name ∷ words) (Object asked) = (name ≡ codes "object") × GivesObject words asked
IsCommand (name ∷ words) (Run run) = (name ≡ codes "run") × GivesRun words run
IsCommand (name ∷ words) (Strip linked) = (name ≡ codes "strip") × (words ≡ strip_words linked)
IsCommand (name ∷ words) (Gen g) = (name ≡ codes "gen") × (words ≡ decimal g.number ∷ decimal g.blocks ∷ []) × IsWithin g
IsCommand (name ∷ words) (SelfTest test) = (name ≡ codes "selftest") × GivesTest words test

-- the numbers of a generated function in the command are within their limits
abbrev pub AreWithin : Command → Type 0
AreWithin (Compile plan) = Unit {0}
AreWithin (Listing plan) = Unit {0}
AreWithin (Report plan) = Unit {0}
AreWithin (Object asked) = Unit {0}
AreWithin (Run run) = Unit {0}
AreWithin (Strip linked) = Unit {0}
AreWithin (Gen g) = IsWithin g
AreWithin (SelfTest test) = IsWithin test.function

-- the name is none of the commands with options
pub record IsPlain (name : List ℕ) : Type 0 where
  pub compile : name ≡ codes "compile" → ⊥
  pub listing : name ≡ codes "listing" → ⊥
  pub report : name ≡ codes "report" → ⊥
  pub object : name ≡ codes "object" → ⊥
  pub run : name ≡ codes "run" → ⊥
  pub self_test : name ≡ codes "selftest" → ⊥
  pub strip : name ≡ codes "strip" → ⊥
