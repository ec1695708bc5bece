-- Words tell their command.
use Rattle.std.proofs.Common.{◌≡◌, ◌↔◌, ℕ, ◌+◌, ◌-◌, ◌*◌, ◌≤◌, Bool, true, false, List, [], ◌∷◌}
use Rattle.std.proofs.Common.{length, get_or, take, drop, Option, Some, None, sym, ap, ◌∙◌, subst, refl, arith}
use Rattle.std.proofs.Math.Seq.{take-length}
use Rattle.std.proofs.lemmas.List.{drop_more, length-drop}
use Rattle.std.specs.Prelude.{codes}
use Rattle.std.specs.Fmt.{decimal}
use Rattle.std.proofs.lemmas.Fmt.{decimal_injective}
use Rattle.cli_numbers.specs.declared.generation.Generation.{Generation}
use Rattle.cli_numbers.specs.Numbers.{IsGeneration}
use Rattle.cli.specs.declared.options.Options.{Options}
use Rattle.cli.specs.declared.option.CommandOption.{CommandOption}
use Rattle.cli.specs.declared.option.CommandOption.TheVariants.{Passes, Reserve, Arguments, Answers, Frame, Inline, Linked, Linkable, FloatAbi, Symbols}
use Rattle.cli.specs.Options.{none_given, IsWith, GivesOption, GiveOptions}
use Rattle.cli.proofs.OptionWords.{the_option}
use Rattle.cli.specs.declared.command.Command.{Command}
use Rattle.cli.specs.declared.command.Command.TheVariants.{Compile, Listing, Report, Object, Run, Strip, Gen, SelfTest}
use Rattle.cli.specs.declared.command.PassPipeline.{PassPipeline}
use Rattle.cli.specs.declared.command.CompilePlan.{CompilePlan}
use Rattle.cli.specs.declared.command.ObjectPlan.{ObjectPlan}
use Rattle.cli.specs.declared.command.RunPlan.{RunPlan}
use Rattle.cli.specs.declared.command.TestPlan.{TestPlan}
use Rattle.cli.specs.Command.{MAX_STEPS, IsPlanOf, GivesPlan, IsPlainPlan, GivesPlainPlan, IsCompileOf}
use Rattle.cli.specs.Command.{GivesCompile, IsRunPlanOf, GivesSteps, GivesRun, GivesTestOf, GivesTest}
use Rattle.cli.specs.Command.{IsWithin, IsCommand, AreWithin, strip_words, has_idle_symbols, has_object_words, IsObjectPlanOf, GivesObject}

-- ---- one plan for words

pub one_of : {A : Type 0} (a b : A) → ◌≡◌ {A = Option A} (Some a) (Some b) → a ≡ b
one_of a b e = cc

one_next : (given : Options) (option : CommandOption) (a b : Options) → IsWith given option a → IsWith given option b → a ≡ b
one_next given (Passes list) a b ha hb = ha.1 ∙ sym hb.1
one_next given (Reserve registers) a b ha hb = ha.1 ∙ sym hb.1
one_next given (Arguments values) a b ha hb = ha.1 ∙ sym hb.1
one_next given (Answers values) a b ha hb = ha.1 ∙ sym hb.1
one_next given Frame a b ha hb = ha.1 ∙ sym hb.1
one_next given Inline a b ha hb = ha.1 ∙ sym hb.1
one_next given Linked a b ha hb = ha.1 ∙ sym hb.1
one_next given Linkable a b ha hb = ha.1 ∙ sym hb.1
one_next given FloatAbi a b ha hb = ha.1 ∙ sym hb.1
one_next given (Symbols pairs) a b ha hb = ha.1 ∙ sym hb.1

one_more : (given : Options) (word : List ℕ) (a b : Options) → GivesOption given word a → GivesOption given word b → a ≡ b
one_more given word a b ha hb =
    let same : ha.option ≡ hb.option =
    one_of ha.option hb.option ((the_option word ha.option (ha.spelled, ha.allowed) hb.option).1 (hb.spelled, hb.allowed)) in
    one_next given hb.option a b (subst (λ (o : CommandOption). IsWith given o a) same ha.with) hb.with

one_given : (words : List (List ℕ)) (given a b : Options) → GiveOptions given words a → GiveOptions given words b → a ≡ b
one_given [] given a b ha hb = ha ∙ sym hb
one_given (word ∷ words) given a b ha hb =
    let same : ha.0 ≡ hb.0 = one_more given word ha.0 hb.0 ha.1 hb.1 in
    one_given words hb.0 a b (subst (λ (o : Options). GiveOptions o words a) same ha.2) hb.2

plan_by : (given : Options) (p q : PassPipeline) → IsPlanOf given p → IsPlanOf given q → p ≡ q
plan_by given p q hp hq =
    let passes : p.passes ≡ q.passes = hp.passes ∙ sym hq.passes in
    let reserve : p.reserve ≡ q.reserve = hp.reserve ∙ sym hq.reserve in
    let linked : p.linked ≡ q.linked = hp.linked ∙ sym hq.linked in
    λ i. record { passes = passes i; reserve = reserve i; linked = linked i }

pub one_plan : (words : List (List ℕ)) (p q : PassPipeline) → GivesPlan words p → GivesPlan words q → p ≡ q
one_plan words p q hp hq =
    let same : hp.0 ≡ hq.0 = one_given words none_given hp.0 hq.0 hp.1 hq.1 in
    plan_by hq.0 p q (subst (λ (o : Options). IsPlanOf o p) same hp.2) hq.2

compile_by : (given : Options) (c d : CompilePlan) → IsCompileOf given c → IsCompileOf given d → c ≡ d
compile_by given c d hc hd =
    let passes : c.plan.passes ≡ d.plan.passes = hc.passes ∙ sym hd.passes in
    let reserve : c.plan.reserve ≡ d.plan.reserve = hc.reserve ∙ sym hd.reserve in
    let linked : c.plan.linked ≡ d.plan.linked = hc.linked ∙ sym hd.linked in
    let frame : c.frame ≡ d.frame = hc.frame ∙ sym hd.frame in
    let inline : c.inline ≡ d.inline = hc.inline ∙ sym hd.inline in
    λ i. record { plan = record { passes = passes i; reserve = reserve i; linked = linked i }; frame = frame i; inline = inline i }

one_compile : (words : List (List ℕ)) (c d : CompilePlan) → GivesCompile words c → GivesCompile words d → c ≡ d
one_compile words c d hc hd =
    let same : hc.0 ≡ hd.0 = one_given words none_given hc.0 hd.0 hc.1 hd.1 in
    compile_by hd.0 c d (subst (λ (o : Options). IsCompileOf o c) same hc.2) hd.2

object_by : (given : Options) (a b : ObjectPlan) → IsObjectPlanOf given a → IsObjectPlanOf given b → a ≡ b
object_by given a b ha hb =
    let passes : a.plan.passes ≡ b.plan.passes = ha.passes ∙ sym hb.passes in
    let reserve : a.plan.reserve ≡ b.plan.reserve = ha.reserve ∙ sym hb.reserve in
    let linked : a.plan.linked ≡ b.plan.linked = ha.linked ∙ sym hb.linked in
    let form : a.form ≡ b.form = ha.form ∙ sym hb.form in
    λ i. record { plan = record { passes = passes i; reserve = reserve i; linked = linked i }; form = form i }

one_object : (words : List (List ℕ)) (a b : ObjectPlan) → GivesObject words a → GivesObject words b → a ≡ b
one_object words a b ha hb =
    let same : ha.0 ≡ hb.0 = one_given words none_given ha.0 hb.0 ha.1 hb.1 in
    object_by hb.0 a b (subst (λ (o : Options). IsObjectPlanOf o a) same ha.2) hb.2

run_by : (name : List ℕ) (count : ℕ) (given : Options) (r s : RunPlan) → IsRunPlanOf name count given r → IsRunPlanOf name count given s → r ≡ s
run_by name count given r s hr hs =
    let named : r.name ≡ s.name = hr.named ∙ sym hs.named in
    let steps : r.steps ≡ s.steps = hr.steps ∙ sym hs.steps in
    let passes : r.plan.passes ≡ s.plan.passes = hr.passes ∙ sym hs.passes in
    let reserve : r.plan.reserve ≡ s.plan.reserve = hr.reserve ∙ sym hs.reserve in
    let linked : r.plan.linked ≡ s.plan.linked = hr.linked ∙ sym hs.linked in
    let arguments : r.arguments ≡ s.arguments = hr.arguments ∙ sym hs.arguments in
    let answers : r.answers ≡ s.answers = hr.answers ∙ sym hs.answers in
    let symbols : r.symbols ≡ s.symbols = hr.symbols ∙ sym hs.symbols in
    λ i. record {
      name = named i;
      steps = steps i;
      plan = record { passes = passes i; reserve = reserve i; linked = linked i };
      arguments = arguments i;
      answers = answers i;
      symbols = symbols i;
    }

pub one_number : (m n : ℕ) → m ≤ MAX_STEPS → n ≤ MAX_STEPS → decimal m ≡ decimal n → m ≡ n
one_number m n small also e = decimal_injective m n (omega (arith, small)) (omega (arith, also)) e

one_steps : (name word : List ℕ) (words : List (List ℕ)) (r s : RunPlan) → GivesSteps name word words r → GivesSteps name word words s → r ≡ s
one_steps name word words r s hr hs =
    let count : hr.count ≡ hs.count = one_number hr.count hs.count hr.few hs.few (sym hr.spelled ∙ hs.spelled) in
    let given : hr.given ≡ hs.given = one_given words none_given hr.given hs.given hr.give hs.give in
    run_by name hs.count hs.given r s
    (subst (λ (n : ℕ). IsRunPlanOf name n hs.given r) count (subst (λ (o : Options). IsRunPlanOf name hr.count o r) given hr.is)) hs.is

one_run : (words : List (List ℕ)) (r s : RunPlan) → GivesRun words r → GivesRun words s → r ≡ s
one_run [] r s hr hs = absurd hr
one_run (name ∷ []) r s hr hs = absurd hr
one_run (name ∷ word ∷ words) r s hr hs = one_steps name word words r s hr hs

one_function : (number blocks : List ℕ) (g h : Generation) → IsGeneration number blocks g → IsGeneration number blocks h → g ≡ h
one_function number blocks g h hg hh =
    let first : g.number ≡ h.number =
    one_number g.number h.number (omega (arith, hg.small)) (omega (arith, hh.small)) (sym hg.number ∙ hh.number) in
    let second : g.blocks ≡ h.blocks =
    one_number g.blocks h.blocks (omega (arith, hg.few)) (omega (arith, hh.few)) (sym hg.blocks ∙ hh.blocks) in
    λ i. record { number = first i; blocks = second i }

one_test_of : (number blocks : List ℕ) (words : List (List ℕ)) (t u : TestPlan) → GivesTestOf number blocks words t → GivesTestOf number blocks words u → t ≡ u
one_test_of number blocks words t u ht hu =
    let function : t.function ≡ u.function = one_function number blocks t.function u.function ht.function hu.function in
    let plan : t.plan ≡ u.plan = one_plan words t.plan u.plan ht.plan.0 hu.plan.0 in
    λ i. record { function = function i; plan = plan i }

one_test : (words : List (List ℕ)) (t u : TestPlan) → GivesTest words t → GivesTest words u → t ≡ u
one_test [] t u ht hu = absurd ht
one_test (number ∷ []) t u ht hu = absurd ht
one_test (number ∷ blocks ∷ words) t u ht hu = one_test_of number blocks words t u ht hu

-- ---- one command for words

-- the first two bytes of a name in one number, which tells each command's name from the others'
abbrev pub sign : List ℕ → ℕ
sign [] = 0
sign (b ∷ []) = b
sign (b ∷ c ∷ bs) = b + 2 * c

one_word : (a b : List ℕ) (xs ys : List (List ℕ)) → ◌≡◌ {A = List (List ℕ)} (a ∷ xs) (b ∷ ys) → (a ≡ b) × (xs ≡ ys)
one_word a b xs ys e = (cc, cc)

one_generation : (words : List (List ℕ)) (g h : Generation) → IsWithin g → IsWithin h → words ≡ decimal g.number ∷ decimal g.blocks ∷ [] →
    words ≡ decimal h.number ∷ decimal h.blocks ∷ [] → g ≡ h
one_generation words g h within also eg eh =
    let first = one_word (decimal g.number) (decimal h.number) (decimal g.blocks ∷ []) (decimal h.blocks ∷ []) (sym eg ∙ eh) in
    let second = one_word (decimal g.blocks) (decimal h.blocks) [] [] first.1 in
    let number : g.number ≡ h.number = one_number g.number h.number (omega (arith, within.small)) (omega (arith, also.small)) first.0 in
    let blocks : g.blocks ≡ h.blocks =
    one_number g.blocks h.blocks (omega (arith, within.few)) (omega (arith, also.few)) second.0 in
    λ i. record { number = number i; blocks = blocks i }

one_strip : (words : List (List ℕ)) (l m : Bool) → words ≡ strip_words l → words ≡ strip_words m → l ≡ m
one_strip words true true a b = refl
one_strip words false false a b = refl
one_strip words true false a b = let both : codes "--linked" ∷ [] ≡ [] = sym a ∙ b in absurd cc
one_strip words false true a b = let both : codes "--linked" ∷ [] ≡ [] = sym b ∙ a in absurd cc

-- the sign of the name of a command
abbrev pub sign_of : Command → ℕ
sign_of (Compile p) = 321
sign_of (Listing p) = 318
sign_of (Report p) = 316
sign_of (Object p) = 307
sign_of (Run r) = 348
sign_of (Strip l) = 347
sign_of (Gen g) = 305
sign_of (SelfTest t) = 317

named_by : (name : List ℕ) (words : List (List ℕ)) (c : Command) → IsCommand (name ∷ words) c → sign name ≡ sign_of c
named_by name words (Compile p) is = ap sign is.0
named_by name words (Listing p) is = ap sign is.0
named_by name words (Report p) is = ap sign is.0
named_by name words (Object p) is = ap sign is.0
named_by name words (Run r) is = ap sign is.0
named_by name words (Strip l) is = ap sign is.0
named_by name words (Gen g) is = ap sign is.0
named_by name words (SelfTest t) is = ap sign is.0

other : (name : List ℕ) (words : List (List ℕ)) (a b : Command) → IsCommand (name ∷ words) a → IsCommand (name ∷ words) b → sign_of a ≡ sign_of b
other name words a b ha hb = sym (named_by name words a ha) ∙ named_by name words b hb

by_name : (name : List ℕ) (words : List (List ℕ)) (a b : Command) → sign_of a ≡ sign_of b → IsCommand (name ∷ words) a → IsCommand (name ∷ words) b → a ≡ b
by_name name words (Compile p) (Compile q) e ha hb = ap (λ (x : CompilePlan). Compile x) (one_compile words p q ha.1 hb.1)
by_name name words (Compile p) (Listing q) e ha hb = absurd (omega (arith, e))
by_name name words (Compile p) (Report q) e ha hb = absurd (omega (arith, e))
by_name name words (Compile p) (Object q) e ha hb = absurd (omega (arith, e))
by_name name words (Compile p) (Run s) e ha hb = absurd (omega (arith, e))
by_name name words (Compile p) (Strip m) e ha hb = absurd (omega (arith, e))
by_name name words (Compile p) (Gen h) e ha hb = absurd (omega (arith, e))
by_name name words (Compile p) (SelfTest u) e ha hb = absurd (omega (arith, e))
by_name name words (Listing p) (Compile q) e ha hb = absurd (omega (arith, e))
by_name name words (Listing p) (Listing q) e ha hb = ap (λ (x : PassPipeline). Listing x) (one_plan words p q ha.1 hb.1)
by_name name words (Listing p) (Report q) e ha hb = absurd (omega (arith, e))
by_name name words (Listing p) (Object q) e ha hb = absurd (omega (arith, e))
by_name name words (Listing p) (Run s) e ha hb = absurd (omega (arith, e))
by_name name words (Listing p) (Strip m) e ha hb = absurd (omega (arith, e))
by_name name words (Listing p) (Gen h) e ha hb = absurd (omega (arith, e))
by_name name words (Listing p) (SelfTest u) e ha hb = absurd (omega (arith, e))
by_name name words (Report p) (Compile q) e ha hb = absurd (omega (arith, e))
by_name name words (Report p) (Listing q) e ha hb = absurd (omega (arith, e))
by_name name words (Report p) (Report q) e ha hb = ap (λ (x : PassPipeline). Report x) (one_plan words p q ha.1 hb.1)
by_name name words (Report p) (Object q) e ha hb = absurd (omega (arith, e))
by_name name words (Report p) (Run s) e ha hb = absurd (omega (arith, e))
by_name name words (Report p) (Strip m) e ha hb = absurd (omega (arith, e))
by_name name words (Report p) (Gen h) e ha hb = absurd (omega (arith, e))
by_name name words (Report p) (SelfTest u) e ha hb = absurd (omega (arith, e))
by_name name words (Object p) (Compile q) e ha hb = absurd (omega (arith, e))
by_name name words (Object p) (Listing q) e ha hb = absurd (omega (arith, e))
by_name name words (Object p) (Report q) e ha hb = absurd (omega (arith, e))
by_name name words (Object p) (Object q) e ha hb = ap (λ (x : ObjectPlan). Object x) (one_object words p q ha.1 hb.1)
by_name name words (Object p) (Run s) e ha hb = absurd (omega (arith, e))
by_name name words (Object p) (Strip m) e ha hb = absurd (omega (arith, e))
by_name name words (Object p) (Gen h) e ha hb = absurd (omega (arith, e))
by_name name words (Object p) (SelfTest u) e ha hb = absurd (omega (arith, e))
by_name name words (Run r) (Compile q) e ha hb = absurd (omega (arith, e))
by_name name words (Run r) (Listing q) e ha hb = absurd (omega (arith, e))
by_name name words (Run r) (Report q) e ha hb = absurd (omega (arith, e))
by_name name words (Run r) (Object q) e ha hb = absurd (omega (arith, e))
by_name name words (Run r) (Run s) e ha hb = ap (λ (x : RunPlan). Run x) (one_run words r s ha.1 hb.1)
by_name name words (Run r) (Strip m) e ha hb = absurd (omega (arith, e))
by_name name words (Run r) (Gen h) e ha hb = absurd (omega (arith, e))
by_name name words (Run r) (SelfTest u) e ha hb = absurd (omega (arith, e))
by_name name words (Strip l) (Compile q) e ha hb = absurd (omega (arith, e))
by_name name words (Strip l) (Listing q) e ha hb = absurd (omega (arith, e))
by_name name words (Strip l) (Report q) e ha hb = absurd (omega (arith, e))
by_name name words (Strip l) (Object q) e ha hb = absurd (omega (arith, e))
by_name name words (Strip l) (Run s) e ha hb = absurd (omega (arith, e))
by_name name words (Strip l) (Strip m) e ha hb = ap (λ (x : Bool). Strip x) (one_strip words l m ha.1 hb.1)
by_name name words (Strip l) (Gen h) e ha hb = absurd (omega (arith, e))
by_name name words (Strip l) (SelfTest u) e ha hb = absurd (omega (arith, e))
by_name name words (Gen g) (Compile q) e ha hb = absurd (omega (arith, e))
by_name name words (Gen g) (Listing q) e ha hb = absurd (omega (arith, e))
by_name name words (Gen g) (Report q) e ha hb = absurd (omega (arith, e))
by_name name words (Gen g) (Object q) e ha hb = absurd (omega (arith, e))
by_name name words (Gen g) (Run s) e ha hb = absurd (omega (arith, e))
by_name name words (Gen g) (Strip m) e ha hb = absurd (omega (arith, e))
by_name name words (Gen g) (Gen h) e ha hb = ap (λ (x : Generation). Gen x) (one_generation words g h ha.2 hb.2 ha.1 hb.1)
by_name name words (Gen g) (SelfTest u) e ha hb = absurd (omega (arith, e))
by_name name words (SelfTest t) (Compile q) e ha hb = absurd (omega (arith, e))
by_name name words (SelfTest t) (Listing q) e ha hb = absurd (omega (arith, e))
by_name name words (SelfTest t) (Report q) e ha hb = absurd (omega (arith, e))
by_name name words (SelfTest t) (Object q) e ha hb = absurd (omega (arith, e))
by_name name words (SelfTest t) (Run s) e ha hb = absurd (omega (arith, e))
by_name name words (SelfTest t) (Strip m) e ha hb = absurd (omega (arith, e))
by_name name words (SelfTest t) (Gen h) e ha hb = absurd (omega (arith, e))
by_name name words (SelfTest t) (SelfTest u) e ha hb = ap (λ (x : TestPlan). SelfTest x) (one_test words t u ha.1 hb.1)

-- no words are two commands
pub one_command : (words : List (List ℕ)) (a b : Command) → IsCommand words a → IsCommand words b → a ≡ b
one_command [] a b ha hb = absurd ha
one_command (name ∷ words) a b ha hb = by_name name words a b (other name words a b ha hb) ha hb

-- ---- names whose options aren't given

pub no_compile : (name : List ℕ) (words : List (List ℕ)) → name ≡ codes "compile" → ((p : CompilePlan) → GivesCompile words p → ⊥) →
    (c : Command) → IsCommand (name ∷ words) c → ⊥
no_compile name words is none (Compile p) h = none p h.1
no_compile name words is none (Listing p) h = let e : 321 ≡ 318 = sym (ap sign is) ∙ ap sign h.0 in omega (arith, e)
no_compile name words is none (Report p) h = let e : 321 ≡ 316 = sym (ap sign is) ∙ ap sign h.0 in omega (arith, e)
no_compile name words is none (Object p) h = let e : 321 ≡ 307 = sym (ap sign is) ∙ ap sign h.0 in omega (arith, e)
no_compile name words is none (Run r) h = let e : 321 ≡ 348 = sym (ap sign is) ∙ ap sign h.0 in omega (arith, e)
no_compile name words is none (Strip l) h = let e : 321 ≡ 347 = sym (ap sign is) ∙ ap sign h.0 in omega (arith, e)
no_compile name words is none (Gen g) h = let e : 321 ≡ 305 = sym (ap sign is) ∙ ap sign h.0 in omega (arith, e)
no_compile name words is none (SelfTest t) h = let e : 321 ≡ 317 = sym (ap sign is) ∙ ap sign h.0 in omega (arith, e)

pub no_listing : (name : List ℕ) (words : List (List ℕ)) → name ≡ codes "listing" → ((p : PassPipeline) → GivesPlan words p → ⊥) →
    (c : Command) → IsCommand (name ∷ words) c → ⊥
no_listing name words is none (Compile p) h = let e : 318 ≡ 321 = sym (ap sign is) ∙ ap sign h.0 in omega (arith, e)
no_listing name words is none (Listing p) h = none p h.1
no_listing name words is none (Report p) h = let e : 318 ≡ 316 = sym (ap sign is) ∙ ap sign h.0 in omega (arith, e)
no_listing name words is none (Object p) h = let e : 318 ≡ 307 = sym (ap sign is) ∙ ap sign h.0 in omega (arith, e)
no_listing name words is none (Run r) h = let e : 318 ≡ 348 = sym (ap sign is) ∙ ap sign h.0 in omega (arith, e)
no_listing name words is none (Strip l) h = let e : 318 ≡ 347 = sym (ap sign is) ∙ ap sign h.0 in omega (arith, e)
no_listing name words is none (Gen g) h = let e : 318 ≡ 305 = sym (ap sign is) ∙ ap sign h.0 in omega (arith, e)
no_listing name words is none (SelfTest t) h = let e : 318 ≡ 317 = sym (ap sign is) ∙ ap sign h.0 in omega (arith, e)

pub no_report : (name : List ℕ) (words : List (List ℕ)) → name ≡ codes "report" → ((p : PassPipeline) → GivesPlan words p → ⊥) →
    (c : Command) → IsCommand (name ∷ words) c → ⊥
no_report name words is none (Compile p) h = let e : 316 ≡ 321 = sym (ap sign is) ∙ ap sign h.0 in omega (arith, e)
no_report name words is none (Listing p) h = let e : 316 ≡ 318 = sym (ap sign is) ∙ ap sign h.0 in omega (arith, e)
no_report name words is none (Report p) h = none p h.1
no_report name words is none (Object p) h = let e : 316 ≡ 307 = sym (ap sign is) ∙ ap sign h.0 in omega (arith, e)
no_report name words is none (Run r) h = let e : 316 ≡ 348 = sym (ap sign is) ∙ ap sign h.0 in omega (arith, e)
no_report name words is none (Strip l) h = let e : 316 ≡ 347 = sym (ap sign is) ∙ ap sign h.0 in omega (arith, e)
no_report name words is none (Gen g) h = let e : 316 ≡ 305 = sym (ap sign is) ∙ ap sign h.0 in omega (arith, e)
no_report name words is none (SelfTest t) h = let e : 316 ≡ 317 = sym (ap sign is) ∙ ap sign h.0 in omega (arith, e)

pub no_object : (name : List ℕ) (words : List (List ℕ)) → name ≡ codes "object" → ((p : ObjectPlan) → GivesObject words p → ⊥) →
    (c : Command) → IsCommand (name ∷ words) c → ⊥
no_object name words is none (Compile p) h = let e : 307 ≡ 321 = sym (ap sign is) ∙ ap sign h.0 in omega (arith, e)
no_object name words is none (Listing p) h = let e : 307 ≡ 318 = sym (ap sign is) ∙ ap sign h.0 in omega (arith, e)
no_object name words is none (Report p) h = let e : 307 ≡ 316 = sym (ap sign is) ∙ ap sign h.0 in omega (arith, e)
no_object name words is none (Object p) h = none p h.1
no_object name words is none (Run r) h = let e : 307 ≡ 348 = sym (ap sign is) ∙ ap sign h.0 in omega (arith, e)
no_object name words is none (Strip l) h = let e : 307 ≡ 347 = sym (ap sign is) ∙ ap sign h.0 in omega (arith, e)
no_object name words is none (Gen g) h = let e : 307 ≡ 305 = sym (ap sign is) ∙ ap sign h.0 in omega (arith, e)
no_object name words is none (SelfTest t) h = let e : 307 ≡ 317 = sym (ap sign is) ∙ ap sign h.0 in omega (arith, e)

pub no_run : (name : List ℕ) (words : List (List ℕ)) → name ≡ codes "run" → ((r : RunPlan) → GivesRun words r → ⊥) →
    (c : Command) → IsCommand (name ∷ words) c → ⊥
no_run name words is none (Compile p) h = let e : 348 ≡ 321 = sym (ap sign is) ∙ ap sign h.0 in omega (arith, e)
no_run name words is none (Listing p) h = let e : 348 ≡ 318 = sym (ap sign is) ∙ ap sign h.0 in omega (arith, e)
no_run name words is none (Report p) h = let e : 348 ≡ 316 = sym (ap sign is) ∙ ap sign h.0 in omega (arith, e)
no_run name words is none (Object p) h = let e : 348 ≡ 307 = sym (ap sign is) ∙ ap sign h.0 in omega (arith, e)
no_run name words is none (Run r) h = none r h.1
no_run name words is none (Strip l) h = let e : 348 ≡ 347 = sym (ap sign is) ∙ ap sign h.0 in omega (arith, e)
no_run name words is none (Gen g) h = let e : 348 ≡ 305 = sym (ap sign is) ∙ ap sign h.0 in omega (arith, e)
no_run name words is none (SelfTest t) h = let e : 348 ≡ 317 = sym (ap sign is) ∙ ap sign h.0 in omega (arith, e)

pub no_test : (name : List ℕ) (words : List (List ℕ)) → name ≡ codes "selftest" → ((t : TestPlan) → GivesTest words t → ⊥) →
    (c : Command) → IsCommand (name ∷ words) c → ⊥
no_test name words is none (Compile p) h = let e : 317 ≡ 321 = sym (ap sign is) ∙ ap sign h.0 in omega (arith, e)
no_test name words is none (Listing p) h = let e : 317 ≡ 318 = sym (ap sign is) ∙ ap sign h.0 in omega (arith, e)
no_test name words is none (Report p) h = let e : 317 ≡ 316 = sym (ap sign is) ∙ ap sign h.0 in omega (arith, e)
no_test name words is none (Object p) h = let e : 317 ≡ 307 = sym (ap sign is) ∙ ap sign h.0 in omega (arith, e)
no_test name words is none (Run r) h = let e : 317 ≡ 348 = sym (ap sign is) ∙ ap sign h.0 in omega (arith, e)
no_test name words is none (Strip l) h = let e : 317 ≡ 347 = sym (ap sign is) ∙ ap sign h.0 in omega (arith, e)
no_test name words is none (Gen g) h = let e : 317 ≡ 305 = sym (ap sign is) ∙ ap sign h.0 in omega (arith, e)
no_test name words is none (SelfTest t) h = none t h.1

pub no_strip : (name : List ℕ) (words : List (List ℕ)) → name ≡ codes "strip" → ((l : Bool) → words ≡ strip_words l → ⊥) →
    (c : Command) → IsCommand (name ∷ words) c → ⊥
no_strip name words is none (Compile p) h = let e : 347 ≡ 321 = sym (ap sign is) ∙ ap sign h.0 in omega (arith, e)
no_strip name words is none (Listing p) h = let e : 347 ≡ 318 = sym (ap sign is) ∙ ap sign h.0 in omega (arith, e)
no_strip name words is none (Report p) h = let e : 347 ≡ 316 = sym (ap sign is) ∙ ap sign h.0 in omega (arith, e)
no_strip name words is none (Object p) h = let e : 347 ≡ 307 = sym (ap sign is) ∙ ap sign h.0 in omega (arith, e)
no_strip name words is none (Run r) h = let e : 347 ≡ 348 = sym (ap sign is) ∙ ap sign h.0 in omega (arith, e)
no_strip name words is none (Strip l) h = none l h.1
no_strip name words is none (Gen g) h = let e : 347 ≡ 305 = sym (ap sign is) ∙ ap sign h.0 in omega (arith, e)
no_strip name words is none (SelfTest t) h = let e : 347 ≡ 317 = sym (ap sign is) ∙ ap sign h.0 in omega (arith, e)

-- ---- what is found

pub no_some : {A : Type 0} (a : A) → ◌≡◌ {A = Option A} None (Some a) → ⊥
no_some a e = cc

-- words that are this command are no other
pub the_command : (words : List (List ℕ)) (a : Command) → IsCommand words a → (b : Command) →
    (◌≡◌ {A = Option Command} (Some a) (Some b)) ↔ IsCommand words b
the_command words a is b = (
  λ e. subst (IsCommand words) (one_of a b e) is,
  λ other. ap (λ (x : Command). Some x) (one_command words a b is other),
)

-- what these options make is what the words ask for
pub the_made : {A : Type 0} (Is : Options → A → Type 0) (words : List (List ℕ)) (o : Option Options) (given : Options) (made : Option A) → o ≡ Some given →
    ((g : Options) → (o ≡ Some g) ↔ GiveOptions none_given words g) → ((a : A) → (made ≡ Some a) ↔ Is given a) → (a : A) →
    (made ≡ Some a) ↔ ((g : Options) × GiveOptions none_given words g × Is g a)
the_made Is words o given made some gives is a = (
  λ e. (given, (gives given).0 some, (is a).0 e),
  λ h. (
      let same : h.0 ≡ given = one_of h.0 given (sym ((gives h.0).1 h.1) ∙ some) in
      (is a).1 (subst (λ (g : Options). Is g a) same h.2)),
)

-- a plan without `--linked` is what the words ask for
pub the_plain : (words : List (List ℕ)) (o : Option PassPipeline) (plan : PassPipeline) (made : Option PassPipeline) → o ≡ Some plan →
    ((p : PassPipeline) → (o ≡ Some p) ↔ GivesPlan words p) → ((q : PassPipeline) → (made ≡ Some q) ↔ IsPlainPlan plan q) → (q : PassPipeline) →
    (made ≡ Some q) ↔ GivesPlainPlan words q
the_plain words o plan made some gives is q = (
  λ e. (let plain = (is q).0 e in ((gives q).0 (some ∙ ap (λ (p : PassPipeline). Some p) plain.0), plain.1)),
  λ h. (is q).1 (one_of plan q (sym some ∙ (gives q).1 h.0), h.1),
)

-- words with `--frame` ask for no run
pub no_steps : (name word : List ℕ) (words : List (List ℕ)) (given : Options) → GiveOptions none_given words given → given.frame ≡ true → (run : RunPlan) →
    GivesSteps name word words run → ⊥
no_steps name word words given give framed run h =
    let one : h.given ≡ given = one_given words none_given h.given given h.give give in
    let none : given.frame ≡ false = ap (λ (g : Options). g.frame) (sym one) ∙ h.is.no_frame in cc

-- nor do words with `--inline`
pub no_steps_inline : (name word : List ℕ) (words : List (List ℕ)) (given : Options) → GiveOptions none_given words given → given.inline ≡ true →
    (run : RunPlan) → GivesSteps name word words run → ⊥
no_steps_inline name word words given give inlined run h =
    let one : h.given ≡ given = one_given words none_given h.given given h.give give in
    let none : given.inline ≡ false = ap (λ (g : Options). g.inline) (sym one) ∙ h.is.no_inline in cc

-- nor do words with addresses of symbols for the language that isn't linked
pub no_steps_idle : (name word : List ℕ) (words : List (List ℕ)) (given : Options) → GiveOptions none_given words given →
    has_idle_symbols given ≡ true → (run : RunPlan) → GivesSteps name word words run → ⊥
no_steps_idle name word words given give idle run h =
    let one : h.given ≡ given = one_given words none_given h.given given h.give give in
    let none : has_idle_symbols given ≡ false = ap has_idle_symbols (sym one) ∙ h.is.no_idle_symbols in cc

-- nor do words with options of objects
pub no_steps_object : (name word : List ℕ) (words : List (List ℕ)) (given : Options) → GiveOptions none_given words given →
    has_object_words given ≡ true → (run : RunPlan) → GivesSteps name word words run → ⊥
no_steps_object name word words given give asked run h =
    let one : h.given ≡ given = one_given words none_given h.given given h.give give in
    let none : has_object_words given ≡ false = ap has_object_words (sym one) ∙ h.is.no_object_words in cc

-- words whose options ask for these runs ask for them too
pub the_steps : (name named word : List ℕ) (words : List (List ℕ)) (count : ℕ) (given : Options) (found : RunPlan) → named ≡ name →
    word ≡ decimal count → count ≤ MAX_STEPS → GiveOptions none_given words given →
    ((run : RunPlan) → (found ≡ run) ↔ IsRunPlanOf named count given run) → (run : RunPlan) →
    (Some found ≡ Some run) ↔ GivesSteps name word words run
the_steps name named word words count given found same spelled few give is run = (
  λ e. record {
    count = count;
    spelled = spelled;
    few = few;
    given = given;
    give = give;
    is = subst (λ (n : List ℕ). IsRunPlanOf n count given run) same ((is run).0 (one_of found run e));
  },
  λ h.
      let counted : h.count ≡ count = one_number h.count count h.few few (sym h.spelled ∙ spelled) in
      let one : h.given ≡ given = one_given words none_given h.given given h.give give in
      let asked : IsRunPlanOf name h.count given run = subst (λ (o : Options). IsRunPlanOf name h.count o run) one h.is in
      let there : IsRunPlanOf name count given run = subst (λ (n : ℕ). IsRunPlanOf name n given run) counted asked in
      ap (λ (r : RunPlan). Some r) ((is run).1 (subst (λ (n : List ℕ). IsRunPlanOf n count given run) (sym same) there)),
)

-- words that ask for this function and this plan ask for no other
pub the_test : (number blocks : List ℕ) (words : List (List ℕ)) (found : TestPlan) → GivesTestOf number blocks words found → (test : TestPlan) →
    (◌≡◌ {A = Option TestPlan} (Some found) (Some test)) ↔ GivesTestOf number blocks words test
the_test number blocks words found is test = (
  λ e. subst (GivesTestOf number blocks words) (one_of found test e) is,
  λ other. ap (λ (x : TestPlan). Some x) (one_test_of number blocks words found test is other),
)

-- ---- numbers

pub test_within : (words : List (List ℕ)) (t : TestPlan) → GivesTest words t → IsWithin t.function
test_within [] t h = absurd h
test_within (number ∷ []) t h = absurd h
test_within (number ∷ blocks ∷ words) t h = let is = h.function in record { small = is.small; some = is.some; few = is.few }

pub within : (words : List (List ℕ)) (c : Command) → IsCommand words c → AreWithin c
within [] c is = absurd is
within (name ∷ words) (Compile p) is = tt
within (name ∷ words) (Listing p) is = tt
within (name ∷ words) (Report p) is = tt
within (name ∷ words) (Object p) is = tt
within (name ∷ words) (Run r) is = tt
within (name ∷ words) (Strip l) is = tt
within (name ∷ words) (Gen g) is = is.2
within (name ∷ words) (SelfTest t) is = test_within words t is.1

-- ---- the name and the words after it

pub first_and_rest : {X : Type 0} (xs : List X) (x : X) → 1 ≤ length xs → x ≡ get_or xs 0 x → x ∷ take (length xs - 1) (drop 1 xs) ≡ xs
first_and_rest {X} xs x some is =
    ap (λ (n : ℕ). x ∷ take n (drop 1 xs)) (sym (length-drop 1 xs)) ∙ ap (λ (t : List X). x ∷ t) (take-length (drop 1 xs))
    ∙ ap (λ (y : X). y ∷ drop 1 xs) is ∙ sym (drop_more xs 0 x (omega (arith, some)))
