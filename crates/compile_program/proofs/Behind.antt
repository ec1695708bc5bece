-- Functions that are compiled one behind the other. Plan: whatever the functions left are compiled to, from the end of what is made so far,
-- with what is made it is what all of them are compiled to. So one function more is one more at the head of those left.
use Rattle.std.proofs.Common.{◌≡◌, ℕ, suc, ◌+◌, ◌*◌, ◌%◌, ◌≤◌, List, [], ◌∷◌, ◌++◌, length, refl, sym, ap, ◌∙◌, subst, arith}
use Rattle.std.proofs.Common.{append_assoc, append-nil, length-append}
use Rattle.std.specs.List.{flat_map}
use Rattle.std.specs.Int.{w32, to_le_bytes}
use Rattle.std.proofs.lemmas.List.{flat_map_more}
use Rattle.emit_code.specs.Counts.{MAX_WORDS}
use Rattle.listing_text.specs.declared.output.ListedFunction.{ListedFunction}
use Rattle.compile_function.specs.pass_trait.declared.loss.Loss.{Loss}
use Rattle.compile_function.specs.declared.compiled_function.CompiledFunction.{CompiledFunction}
use Rattle.compile_function.specs.declared.emit.EmittedFunctions.{EmittedFunctions}
use Rattle.compile_function.specs.Emitted.{names_of, text_of, IsPushed}
use Rattle.compile_function.specs.Passed.{source_of, IsMadeLosing, IsCompilable}
use Rattle.read_metadata.specs.Maps.{Maps}
use Rattle.compile_function.specs.read_body.Limits.{MAX_ITEMS}
use Rattle.compile_function.specs.read_program.declared.closing.Parsed.{Parsed}
use Rattle.compile_function.proofs.compile_theorem.Functions.{words_length}
use Rattle.compile_function.specs.compile_theorem.Source.{PassedFunction}
use Rattle.pass_list.specs.declared.kind.PassKind.{PassKind}
use Rattle.compile_program.proofs.Compiled.{ends}
use Rattle.compile_program.specs.Program.{ArePassed, IsCompiledAs, AreCompiledAs}
use Rattle.compile_program.specs.steps.CompilationState.{AreMade}

pub record SoFar (meta : Maps) (reserve : List ℕ) (passes : List PassKind) (all rest : List Parsed) (m : EmittedFunctions) : Type 0 where
  pub passed : List PassedFunction
  pub are : (ps : List PassedFunction) → ArePassed meta rest ps → ArePassed meta all (passed ++ ps)
  pub onward : (ps : List PassedFunction) (fs : List ListedFunction) (cs : List CompiledFunction) →
      AreCompiledAs (names_of meta) reserve passes (length m.text) m.list_count ps fs cs →
      AreCompiledAs (names_of meta) reserve passes 0 0 (passed ++ ps) (m.listings ++ fs) (m.functions ++ cs)
  pub text : m.text ≡ text_of m.functions
  pub aligned : length m.text % 4 ≡ 0
  pub few_bytes : length m.text + length rest * (4 * MAX_WORDS) ≤ length all * (4 * MAX_WORDS)
  pub few_lists : m.list_count + length rest * MAX_ITEMS ≤ length all * MAX_ITEMS

pub begins : (meta : Maps) (reserve : List ℕ) (passes : List PassKind) (all : List Parsed) →
    SoFar meta reserve passes all all (record { text = []; list_count = 0; listings = []; functions = [] })
begins meta reserve passes all = record {
  passed = [];
  are = λ ps are. are;
  onward = λ ps fs cs are. are;
  text = refl;
  aligned = refl;
  few_bytes = omega arith;
  few_lists = omega arith;
}

module _ (meta : Maps) (reserve : List ℕ) (passes : List PassKind) (p : PassedFunction) (losses : List Loss) (m n : EmittedFunctions)
    (by : IsMadeLosing reserve passes p losses) (one : IsPushed meta p losses m n) where
  abbrev Onward : ℕ → ℕ → List PassedFunction → List ListedFunction → List CompiledFunction → Type 0
  Onward base first ps fs cs = AreCompiledAs (names_of meta) reserve passes base first ps fs cs

  here : IsCompiledAs (names_of meta) reserve passes p (length m.text) m.list_count one.listed one.made
  here = record {
    compiled = one.compiled;
    code = one.code;
    words = one.words;
    variables = one.variables;
    lists = one.lists;
    writable = one.writable;
    lost = subst (IsMadeLosing reserve passes p) (sym one.losses) by;
  }

  text_length : length n.text ≡ length m.text + 4 * length one.made.code.words
  text_length =
      ap length one.text ∙ length-append m.text (flat_map (to_le_bytes w32) one.made.code.words)
      ∙ ap (λ (k : ℕ). length m.text + k) (words_length one.made.code.words)

  high_is : one.listed.high ≡ length n.text
  high_is = sym (ends (names_of meta) reserve passes p (length m.text) m.list_count one.listed one.made here) ∙ sym text_length

  pub more : (all rest : List Parsed) (f : Parsed) → p.source ≡ source_of f → IsCompilable meta p → SoFar meta reserve passes all (f ∷ rest) m →
      SoFar meta reserve passes all rest n
  more all rest f of is so = record {
    passed = so.passed ++ p ∷ [];
    are = λ ps are. subst (ArePassed meta all) (sym (append_assoc so.passed (p ∷ []) ps)) (so.are (p ∷ ps) (of, is, are));
    onward = λ ps fs cs are.
        let from : Onward one.listed.high (m.list_count + length one.made.lists) ps fs cs =
        subst (λ (b : ℕ). Onward b (m.list_count + length one.made.lists) ps fs cs) (sym high_is)
        (subst (λ (k : ℕ). Onward (length n.text) k ps fs cs) one.list_count are) in
        let whole = so.onward (p ∷ ps) (one.listed ∷ fs) (one.made ∷ cs) (here, from) in
        let passed_is : so.passed ++ (p ∷ ps) ≡ (so.passed ++ p ∷ []) ++ ps = sym (append_assoc so.passed (p ∷ []) ps) in
        let listings_are : m.listings ++ (one.listed ∷ fs) ≡ n.listings ++ fs =
        sym (append_assoc m.listings (one.listed ∷ []) fs) ∙ ap (λ (t : List ListedFunction). t ++ fs) (sym one.listings) in
        let functions_are : m.functions ++ (one.made ∷ cs) ≡ n.functions ++ cs =
        sym (append_assoc m.functions (one.made ∷ []) cs) ∙ ap (λ (t : List CompiledFunction). t ++ cs) (sym one.functions) in
        subst (λ (t : List PassedFunction). Onward 0 0 t (n.listings ++ fs) (n.functions ++ cs)) passed_is
        (subst (λ (t : List ListedFunction). Onward 0 0 (so.passed ++ (p ∷ ps)) t (n.functions ++ cs)) listings_are
        (subst (λ (t : List CompiledFunction). Onward 0 0 (so.passed ++ (p ∷ ps)) (m.listings ++ (one.listed ∷ fs)) t) functions_are whole));
    text =
        one.text ∙ ap (λ (t : List ℕ). t ++ flat_map (to_le_bytes w32) one.made.code.words) so.text
        ∙ flat_map_more (λ (c : CompiledFunction). flat_map (to_le_bytes w32) c.code.words) [] m.functions one.made ∙ ap text_of (sym one.functions);
    aligned =
        let long = text_length in
        let was = so.aligned in
        omega (arith, long, was);
    few_bytes =
        let long = text_length in
        let below = one.few_words in
        let was : length m.text + suc (length rest) * (4 * MAX_WORDS) ≤ length all * (4 * MAX_WORDS) = so.few_bytes in
        omega (arith, long, below, was);
    few_lists =
        let long = one.list_count in
        let below = one.few_lists in
        let was : m.list_count + suc (length rest) * MAX_ITEMS ≤ length all * MAX_ITEMS = so.few_lists in
        omega (arith, long, below, was);
  }

pub all_emitted : (meta : Maps) (reserve : List ℕ) (passes : List PassKind) (all : List Parsed) (m : EmittedFunctions) →
    SoFar meta reserve passes all [] m → AreMade meta reserve passes all m
all_emitted meta reserve passes all m so =
    let A : List PassedFunction → List ListedFunction → List CompiledFunction → Type 0 = AreCompiledAs (names_of meta) reserve passes 0 0 in
    record {
      passed = so.passed;
      are = subst (ArePassed meta all) (append-nil so.passed) (so.are [] tt);
      compiled =
          subst (λ (t : List PassedFunction). A t m.listings m.functions) (append-nil so.passed)
          (subst (λ (t : List ListedFunction). A (so.passed ++ []) t m.functions) (append-nil m.listings)
          (subst (λ (t : List CompiledFunction). A (so.passed ++ []) (m.listings ++ []) t) (append-nil m.functions) (so.onward [] [] [] tt)));
      text = so.text;
      few_bytes = let was = so.few_bytes in omega (arith, was);
    }
