-- The headline of each source and what is compiled of the function that passes made of it: its listing is an image of its
-- layout, and its lists give only what is wanted, since they are exact at the entries.
use Rattle.std.proofs.Common.{◌≡◌, ℕ, zero, suc, ◌+◌, ◌<◌, List, [], ◌∷◌, ◌++◌, drop, Bool, true, false, cond, sym, ap, ◌∙◌, subst, arith}
use Rattle.std.specs.Prelude.{Contains}
use Rattle.mir_func.specs.declared.position.Pos.{Pos}
use Rattle.mir_func.specs.Function.{FramedFunction}
use Rattle.mir_func.specs.Graph.{block_start, framed_program}
use Rattle.mir_func.specs.Resolve.{resolve}
use Rattle.mir_func.specs.Sound.{AllItems}
use Rattle.sem_mir.specs.PreferredLocation.{IsPreferredLocation}
use Rattle.listing_meaning.specs.sem_machine.Exact.{AreExact}
use Rattle.emit_code.specs.declared.code.EncodedInstruction.{EncodedInstruction}
use Rattle.emit_code.specs.Laid.{StandFrom}
use Rattle.emit_code.specs.Rule.{Layout, entries_of}
use Rattle.emit_code.specs.steps.Emitted.{IsFormed}
use Rattle.emit_code.proofs.Stand.{stands}
use Rattle.frame_rule.specs.Rule.{framed_of}
use Rattle.frame_rule.proofs.Reach.{size_fits}
use Rattle.listing_meaning.specs.machine_steps_proof.Images.{IsImageOf}
use Rattle.machine_proof.specs.Lists.{GiveSitting}
use Rattle.machine_proof.proofs.Lists.{exact_give_sitting}
use Rattle.machine_proof.specs.Entries.{IsEntryAt}
use Rattle.machine_proof.proofs.LaidOut.{images_meet_the_headline}
use Rattle.dwarf_loclists.specs.declared.range.Range.{Range}
use Rattle.dwarf_loclists.specs.Grammar.{IsSection}
use Rattle.listing_text.specs.declared.output.ListedFunction.{ListedFunction}
use Rattle.listing_text.specs.declared.output.Output.{Output}
use Rattle.listing_meaning.specs.Laws.{AreFormed}
use Rattle.listing_meaning.specs.Program.{image_of}
use Rattle.listing_meaning.proofs.Images.{image_shown}
use Rattle.compile_theorem.specs.Compiled.{bytes_of}
use Rattle.compile_theorem.specs.Laws.{CompiledPromises}
use Rattle.compile_theorem.specs.OutputProperties.{Gives, MeetsHeadline, variable_lines}
use Rattle.dwarf_unit.specs.Variables.{variables_of_function}
use Rattle.compile_theorem.specs.Source.{PassedFunction, IsPassedFunction}
use Rattle.compile_theorem.proofs.Exact.{IsByteOf, exact_at_entries}
use Rattle.compile_theorem.proofs.Framing.{forms_framed}
use Rattle.compile_theorem.proofs.Telling.{all_at}
use Rattle.compile_theorem.proofs.Functions.{IsCompiledIn, compiled_in, as_many, of_sources}

-- ---- entries have bytes

some_bytes : (call : Bool) → 0 < cond call 8 4
some_bytes true = omega arith
some_bytes false = omega arith

sized : (a end : ℕ) (es : List EncodedInstruction) → StandFrom a es end → (e : EncodedInstruction) → Contains es e → 0 < e.size
sized a end [] stand e (n, low, is) = absurd (omega (arith, low))
sized a end (x ∷ es) stand e (zero, low, is) =
    let some = some_bytes x.call in
    let size = stand.1 in
    subst (λ (y : EncodedInstruction). 0 < y.size) is (omega (arith, some, size))
sized a end (x ∷ es) stand e (suc n, low, is) = sized (a + x.size) end es stand.2 e (n, omega (arith, low), is)

first_byte : (l : Layout) (a : ℕ) (p : Pos) → IsEntryAt l a p → IsByteOf (entries_of l) a p
first_byte l a p at =
    let begins = at.begins in
    let size = sized l.base _ (entries_of l) (stands l) at.entry at.among in
    record { entry = at.entry; among = at.among; byte = (omega (arith, begins), omega (arith, begins, size)); point = at.point }

-- ---- one function

module _ (names : ℕ → List ℕ) (o : Output) (lists : List (List Range)) (section : IsSection o.loclists lists) (passed : PassedFunction) (f : ListedFunction)
    (is : IsPassedFunction passed) (c : IsCompiledIn names o.text lists passed f) where
  pub formed : AreFormed c.compiled.layout.framed
  formed = subst (λ (x : FramedFunction). AllItems IsFormed x.blocks) (sym c.compiled.laid.framed)
      (forms_framed passed.function (size_fits passed.function 2032 c.compiled.laid.small) is.follower.form)

  pub exact : AreExact (framed_program c.compiled.layout.framed.blocks (resolve passed.substitutions)) (block_start 0)
      (IsByteOf (entries_of c.compiled.layout)) (Gives o f)
  exact = exact_at_entries names o lists section passed.source.function passed.function passed.substitutions is.marks c.first c.compiled.layout
      c.compiled.laid.framed f
      (ap (λ (x : ListedFunction). x.variables) c.compiled.listed) c.compiled.lists c.compiled.located c.numbers

  shows_image : IsImageOf c.compiled.layout (image_of o f)
  shows_image =
      let l = c.compiled.layout in
      let at : drop l.base o.text ≡ bytes_of l ++ c.more = ap (λ (n : ℕ). drop n o.text) c.compiled.laid.from ∙ c.words in
      subst (λ (x : ListedFunction). IsImageOf l (image_of o x)) (sym c.compiled.listed) (image_shown l (variable_lines names c.first
      (variables_of_function passed.source.function.blocks)) passed.substitutions o c.more formed at)

  give_wanted : GiveSitting (framed_program (framed_of passed.function).blocks (resolve passed.substitutions)) (IsEntryAt c.compiled.layout) (Gives o f)
  give_wanted =
      exact_give_sitting (framed_program c.compiled.layout.framed.blocks (resolve passed.substitutions))
      (framed_program (framed_of passed.function).blocks (resolve passed.substitutions)) (IsByteOf (entries_of c.compiled.layout))
      (IsEntryAt c.compiled.layout) (Gives o f) exact (first_byte c.compiled.layout)
      (λ v p place wanted. subst (λ (x : FramedFunction). IsPreferredLocation (framed_program x.blocks (resolve passed.substitutions)) (block_start 0) v p
      place)
      c.compiled.laid.framed wanted)

  pub meets : MeetsHeadline o passed.source f
  meets = images_meet_the_headline (Gives o f) passed.source.function passed.function (resolve passed.source.substitutions)
      (resolve passed.substitutions) (image_of o f) is.follower is.physical c.compiled.laid.small (record {
        layout = c.compiled.layout;
        framed = c.compiled.laid.framed;
        low = c.compiled.laid.low;
        few = c.compiled.laid.few;
        worded = c.compiled.laid.worded;
        laid = shows_image;
      }) give_wanted

-- ---- all functions

pub compiled_promises : CompiledPromises
compiled_promises names functions o are = of_sources (MeetsHeadline o) functions o.functions (record {
  as_many = as_many names o.text are.compiled.lists 0 0 o.text are.compiled.lists functions o.functions are.compiled.functions;
  each = λ n passed f s_is f_is.
      meets names o are.compiled.lists are.compiled.section passed f (all_at IsPassedFunction functions n passed s_is are.passed)
      (compiled_in names functions o are.compiled n passed f s_is f_is);
})
