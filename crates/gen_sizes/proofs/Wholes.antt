-- Where all debug values of a source are for whole variables, those of what passes make of it are, and its location lists are short.
use Rattle.std.proofs.Common.{◌≡◌, ◌∙◌, ℕ, ◌+◌, ◌*◌, ◌^◌, ◌<◌, ◌≤◌, List, length, All, Contains, Option, Some, ◌&&◌, refl, sym, ap}
use Rattle.std.proofs.Common.{subst, arith}
use Rattle.std.proofs.lemmas.List.Elements.{All-contains}
use Rattle.mir_func.specs.declared.debug_substitution.DebugSubstitution.{DebugSubstitution}
use Rattle.mir_func.specs.declared.item.Item.{Item}
use Rattle.mir_func.specs.declared.item.ItemKind.{ItemKind}
use Rattle.mir_func.specs.declared.item.ItemKind.TheVariants.{Code, Mark, Phi}
use Rattle.mir_func.specs.declared.position.Pos.{Pos}
use Rattle.mir_func.specs.declared.variable.VarId.{VarId}
use Rattle.mir_func.specs.Function.{Function}
use Rattle.mir_func.specs.Graph.{Program, Here, block_start, framed_program}
use Rattle.mir_func.specs.Parts.{Bytes}
use Rattle.mir_func.specs.Resolve.{resolve}
use Rattle.mir_func.specs.Sound.{AllItems, items_of}
use Rattle.mir_func.specs.Variables.{is_same_variable, are_same_bytes}
use Rattle.sem_mir.specs.PreferredLocation.{NoneIsPreferred}
use Rattle.emit_code.specs.Laid.{StandFrom}
use Rattle.emit_code.specs.Rule.{Layout, entries_of, words_of}
use Rattle.emit_code.proofs.Stand.{stands, words_fill, words_few}
use Rattle.frame_rule.specs.Rule.{renamed_kind, framed_of, framed_blocks}
use Rattle.compile_program.proofs.machine_steps_proof.Points.{of_item}
use Rattle.compile_program.specs.pass_manager.Shown.{HasMark}
use Rattle.read_metadata.specs.Maps.{Maps}
use Rattle.location_of_variable.specs.Groups.{part_of}
use Rattle.location_of_variable.proofs.Locating.{and_false}
use Rattle.dwarf_loclists.specs.declared.range.Range.{Range}
use Rattle.dwarf_loclists.specs.Spelling.{spelling}
use Rattle.compile_program.specs.dwarf_unit.Variables.{variables_of_function}
use Rattle.listing_text.specs.declared.output.ListedFunction.{ListedFunction}
use Rattle.compile_program.specs.compile_theorem.Source.{SourceFunction, PassedFunction}
use Rattle.compile_program.specs.compile_theorem.Compiled.{IsCompiledFunction}
use Rattle.compile_program.proofs.compile_theorem.Framing.{framed_all}
use Rattle.compile_program.proofs.compile_theorem.Variables.{MarksOther, nowhere}
use Rattle.compile_program.specs.Program.{IsCompilable}
use Rattle.compile_program.proofs.AfterPasses.{in_order, in_blocks}
use Rattle.compile_program.proofs.Located.{all_each}
use Rattle.gen_program.specs.Laws.{MarksWhole}
use Rattle.gen_sizes.proofs.Lists.{IsShortList, is_short, section_small}

-- each debug value of these blocks is for a whole variable
abbrev pub MarkWholes : Function → Type 0
MarkWholes f = AllItems (λ i. MarksWhole i.kind) f.blocks

-- ---- after passes

module _ (meta : Maps) (p : PassedFunction) (is : IsCompilable meta p) (read : MarkWholes p.source.function) where
  kind_whole : (i : Item) (k : ItemKind) → i.kind ≡ k → Contains (items_of p.function.blocks) i → MarksWhole k
  kind_whole i (Code c n) same among = tt
  kind_whole i (Phi x n) same among = tt
  kind_whole i (Mark v m) same among = of_source (is.shown.marks v i.loc (i, among, (m, same, refl))) where
    of_source : HasMark p.source.function v i.loc → MarksWhole (Mark v m)
    of_source (j, there, (n, kind, at)) =
        let own : MarksWhole j.kind =
        All-contains (λ (x : Item). MarksWhole x.kind) (items_of p.source.function.blocks) j
        (in_order (λ (x : Item). MarksWhole x.kind) p.source.function.blocks read) there in
        let whole : MarksWhole (Mark v n) = subst MarksWhole kind own in
        whole

  pub passed_wholes : MarkWholes p.function
  passed_wholes = in_blocks (λ i. MarksWhole i.kind) p.function.blocks (λ i among. kind_whole i i.kind refl among)

-- ---- with the frame

framed_wholes : (f : Function) → MarkWholes f → AllItems (λ i. MarksWhole i.kind) (framed_blocks f f.blocks)
framed_wholes f marks =
    framed_all f MarksWhole tt tt (λ s. tt) (λ s. tt) keeps f.blocks marks where
      keeps : (k : ItemKind) → MarksWhole k → MarksWhole (renamed_kind f.slots k)
      keeps (Mark v m) is = is
      keeps (Code i k) is = tt
      keeps (Phi p k) is = tt

-- a debug value for a whole variable is for another part than any fragment
other_part : (v : VarId) (b : Bytes) (k : ItemKind) → MarksWhole k → MarksOther (part_of v (Some b)) k
other_part v b (Mark w m) whole =
    ap (λ (o : Option Bytes). is_same_variable (part_of v (Some b)) w && are_same_bytes (Some b) o) whole
    ∙ and_false (is_same_variable (part_of v (Some b)) w)
other_part v b (Code i k) whole = tt
other_part v b (Phi p k) whole = tt

module _ (l : Layout) (f : Function) (framed : l.framed ≡ framed_of f) (subs : List DebugSubstitution) (marks : MarkWholes f) where
  abbrev g : Program
  g = framed_program l.framed.blocks (resolve subs)

  at_item : (p : Pos) (i : Item) → g.fetch p ≡ Here i → MarksWhole i.kind
  at_item p i here =
      of_item l.framed (λ j. MarksWhole j.kind)
      (subst (λ x. AllItems (λ j. MarksWhole j.kind) x.blocks) (sym framed) (framed_wholes f marks)) p i here

  -- no place is wanted for a fragment
  pub no_fragment : (v : VarId) (b : Bytes) (p : Pos) → NoneIsPreferred g (block_start 0) (part_of v (Some b)) p
  no_fragment v b p = nowhere g (part_of v (Some b)) (λ q i here. other_part v b i.kind (at_item q i here)) (block_start 0) p

-- ---- the lists of a compiled function

end_low : (base words : ℕ) → base ≡ 0 → words < 262144 → base + 4 * words ≤ 1048576
end_low base words from few = omega (arith, from, few)

module _ (names : ℕ → List ℕ) (p : PassedFunction) (f : ListedFunction) (c : IsCompiledFunction names p 0 0 f) (marks : MarkWholes p.function)
    (few : length (variables_of_function p.source.function.blocks) ≤ 4) where
  abbrev l : Layout
  l = c.layout

  abbrev end : ℕ
  end = l.base + 4 * length (words_of l)

  stand : StandFrom 0 (entries_of l) end
  stand =
      subst (λ (a : ℕ). StandFrom a (entries_of l) end) c.laid.from
      (subst (λ (n : ℕ). StandFrom l.base (entries_of l) (l.base + n)) (sym (words_fill l c.laid.worded)) (stands l))

  low : end ≤ 1048576
  low = end_low l.base (length (words_of l)) c.laid.from (words_few l c.laid.worded c.laid.few)

  all_short : All IsShortList c.lists
  all_short =
      all_each IsShortList (variables_of_function p.source.function.blocks) c.lists c.located.for_all
      (λ k v ranges at here. is_short (framed_program l.framed.blocks (resolve p.substitutions)) (block_start 0) v
      (no_fragment l p.function c.laid.framed p.substitutions marks v) end low (entries_of l) stand ranges (c.located.each k v ranges at here))

  few_lists : length c.lists ≤ 4
  few_lists = subst (λ (n : ℕ). n ≤ 4) (sym c.located.for_all) few

  pub lists_small : length (spelling c.lists) < 2 ^ 31
  lists_small = section_small c.lists few_lists all_short
