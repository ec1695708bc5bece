-- The lists of functions, one after the other.
use Rattle.std.proofs.Common.{◌≡◌, ℕ, suc, ◌+◌, List, [], ◌∷◌, ◌++◌, length, drop, refl, sym, ◌∙◌, ap, subst, append_assoc, append-nil}
use Rattle.std.specs.Prelude.{All}
use Rattle.std.proofs.lemmas.List.Elements.{All-append}
use Rattle.mir_func.specs.declared.variable.VarId.{VarId}
use Rattle.mir_func.specs.Graph.{Program, block_start}
use Rattle.emit_code.specs.declared.code.EncodedInstruction.{EncodedInstruction}
use Rattle.dwarf_loclists.specs.declared.range.Range.{Range}
use Rattle.dwarf_loclists.specs.Ranges.{Ascend, ArePlaces}
use Rattle.listing_text.specs.declared.output.ListedFunction.{ListedFunction}
use Rattle.compile_function.specs.declared.compiled_function.CompiledFunction.{CompiledFunction}
use Rattle.compile_function.specs.Emitted.{AreWritable}
use Rattle.compile_function.proofs.Located.{all_each}
use Rattle.kept_ranges.specs.Lists.{AreKeptListsOf}
use Rattle.kept_lists.specs.Kept.{IsAppended, AllKept}

pub places : (g : Program) (entries : List EncodedInstruction) (variables : List VarId) (lists : List (List Range)) →
    AreKeptListsOf g (block_start 0) entries variables lists → All ArePlaces lists
places g entries variables lists are =
    all_each ArePlaces variables lists are.for_all (λ k v ranges at here. (are.each k v ranges at here).places)

-- whatever lists are those of the functions from an index on, these before them make up all
abbrev pub AreBefore : List CompiledFunction → List ListedFunction → (k : ℕ) → List (List Range) → Type 0
AreBefore cs fs k lists = (rest : List (List Range)) → AllKept (drop k cs) (drop k fs) rest → AllKept cs fs (lists ++ rest)

pub none_before : (cs : List CompiledFunction) (fs : List ListedFunction) → AreBefore cs fs 0 []
none_before cs fs rest all = all

pub more_before : (cs : List CompiledFunction) (fs : List ListedFunction) (k : ℕ) (c : CompiledFunction) (f : ListedFunction) (old new : List (List Range)) →
    drop k cs ≡ c ∷ drop (suc k) cs → drop k fs ≡ f ∷ drop (suc k) fs → IsAppended c f old new → AreBefore cs fs k old → AreBefore cs fs (suc k) new
more_before cs fs k c f old new at_c at_f is before rest all =
    subst (AllKept cs fs) (sym (append_assoc old is.own rest) ∙ ap (λ (xs : List (List Range)). xs ++ rest) (sym is.appended))
    (before (is.own ++ rest)
    (subst (λ (xs : List CompiledFunction). AllKept xs (drop k fs) (is.own ++ rest)) (sym at_c)
    (subst (λ (ys : List ListedFunction). AllKept (c ∷ drop (suc k) cs) ys (is.own ++ rest)) (sym at_f) (is.own, rest, is.are, refl, all))))

-- behind all functions nothing is left
pub all_before : (cs : List CompiledFunction) (fs : List ListedFunction) (k : ℕ) (lists : List (List Range)) → drop k cs ≡ [] → AreBefore cs fs k lists →
    AllKept cs fs lists
all_before cs fs k lists none before =
    subst (AllKept cs fs) (append-nil lists)
    (before [] (subst (λ (xs : List CompiledFunction). AllKept xs (drop k fs) []) (sym none) refl))

pub writable_more : (old own new : List (List Range)) → AreWritable old → AreWritable own → new ≡ old ++ own → AreWritable new
writable_more old own new before mine is = record {
  ascend = subst (All Ascend) (sym is) (All-append Ascend old own before.ascend mine.ascend);
  places = subst (All ArePlaces) (sym is) (All-append ArePlaces old own before.places mine.places);
}

pub none_left : (cs : List CompiledFunction) (k : ℕ) → k ≡ length cs → drop k cs ≡ []
none_left cs k e = subst (λ (n : ℕ). drop n cs ≡ []) (sym e) (all_dropped cs) where
  all_dropped : (xs : List CompiledFunction) → drop (length xs) xs ≡ []
  all_dropped [] = refl
  all_dropped (x ∷ xs) = all_dropped xs
