-- Each function of an output that is compiled: its words stand in `.text` from its first address on, and its lists in the section from its
-- first list on, since what stands before are the words and the lists of the functions before it.
use Rattle.std.proofs.Common.{◌≡◌, ℕ, zero, suc, ◌+◌, ◌*◌, List, [], ◌∷◌, ◌++◌, length, drop, Some, refl, sym, ap, ◌∙◌, subst, arith, length-append}
use Rattle.std.specs.Prelude.{slice_get}
use Rattle.std.specs.List.{flat_map}
use Rattle.std.specs.Int.{w32, to_le_bytes}
use Rattle.emit_code.specs.Rule.{words_of}
use Rattle.dwarf_loclists.specs.declared.range.Range.{Range}
use Rattle.listing_text.specs.declared.output.ListedFunction.{ListedFunction}
use Rattle.listing_text.specs.declared.output.Output.{Output}
use Rattle.compile_theorem.specs.Compiled.{bytes_of, IsCompiledFunction, AreCompiled, IsCompiledProgram}
use Rattle.compile_theorem.specs.OutputProperties.{FunctionsLie}
use Rattle.compile_theorem.specs.Source.{SourceFunction, PassedFunction, sources_among, OfEach}

-- ---- lists

pub drop_all : {X : Type 0} (xs ys : List X) → drop (length xs) (xs ++ ys) ≡ ys
drop_all [] [] = refl
drop_all [] (y ∷ ys) = refl
drop_all (x ∷ xs) ys = drop_all xs ys

drop_nothing : {X : Type 0} (n : ℕ) → drop n (let xs : List X = [] in xs) ≡ []
drop_nothing zero = refl
drop_nothing (suc n) = refl

pub drop_more : {X : Type 0} (m n : ℕ) (xs : List X) → drop (m + n) xs ≡ drop n (drop m xs)
drop_more m n [] = drop_nothing (m + n) ∙ sym (drop_nothing n) ∙ ap (drop n) (sym (drop_nothing m))
drop_more zero n (x ∷ xs) = ap (λ (k : ℕ). drop k (x ∷ xs)) (let e : 0 + n ≡ n = omega arith in e)
drop_more (suc m) n (x ∷ xs) = ap (λ (k : ℕ). drop k (x ∷ xs)) (let e : suc m + n ≡ suc (m + n) = omega arith in e) ∙ drop_more m n xs

get_drop : {X : Type 0} (xs : List X) (m k : ℕ) → slice_get (drop m xs) k ≡ slice_get xs (m + k)
get_drop [] m k = ap (λ (ys : List _). slice_get ys k) (drop_nothing m)
get_drop (x ∷ xs) zero k = ap (slice_get (x ∷ xs)) (let e : k ≡ 0 + k = omega arith in e)
get_drop (x ∷ xs) (suc m) k = get_drop xs m k ∙ ap (slice_get (x ∷ xs)) (let e : suc (m + k) ≡ suc m + k = omega arith in e)

get_left : {X : Type 0} (xs ys : List X) (k : ℕ) (x : X) → slice_get xs k ≡ Some x → slice_get (xs ++ ys) k ≡ Some x
get_left [] ys k x e = absurd cc
get_left (y ∷ xs) ys zero x e = e
get_left (y ∷ xs) ys (suc k) x e = get_left xs ys k x e

pub words_length : (ws : List ℕ) → length (flat_map (to_le_bytes w32) ws) ≡ 4 * length ws
words_length [] = refl
words_length (w ∷ ws) =
    length-append (to_le_bytes w32 w) (flat_map (to_le_bytes w32) ws) ∙ (let rest = words_length ws in omega (arith, rest))

-- ---- functions

-- a function as it is compiled, and where its words and its lists stand
pub record IsCompiledIn (names : ℕ → List ℕ) (text : List ℕ) (lists : List (List Range)) (passed : PassedFunction) (f : ListedFunction) : Type 0 where
  pub base : ℕ
  pub first : ℕ
  pub compiled : IsCompiledFunction names passed base first f
  pub more : List ℕ
  pub words : drop base text ≡ bytes_of compiled.layout ++ more
  pub numbers : (k : ℕ) (ranges : List Range) → slice_get compiled.lists k ≡ Some ranges → slice_get lists (first + k) ≡ Some ranges

module _ (names : ℕ → List ℕ) (all : List ℕ) (every : List (List Range)) where
  high_is : (passed : PassedFunction) (base first : ℕ) (f : ListedFunction) (c : IsCompiledFunction names passed base first f) →
      f.high ≡ base + length (bytes_of c.layout)
  high_is passed base first f c =
      ap (λ (x : ListedFunction). x.high) c.listed ∙
      (let from = c.laid.from in let size = words_length (words_of c.layout) in omega (arith, from, size))

  pub each_in : (base first : ℕ) (text : List ℕ) (lists : List (List Range)) (ss : List PassedFunction) (fs : List ListedFunction) →
      drop base all ≡ text → drop first every ≡ lists → AreCompiled names base first text lists ss fs →
      (n : ℕ) (passed : PassedFunction) (f : ListedFunction) → slice_get ss n ≡ Some passed → slice_get fs n ≡ Some f → IsCompiledIn names all every passed f
  each_in base first text lists [] fs at_text at_lists are n passed f s_is f_is = absurd cc
  each_in base first text lists (s ∷ ss) [] at_text at_lists are n passed f s_is f_is = absurd cc
  each_in base first text lists (s ∷ ss) (g ∷ fs) at_text at_lists (c, more, rest, text_is, lists_is, onward) zero passed f s_is f_is =
      let same_function : s ≡ passed = cc in
      let same : g ≡ f = cc in
      subst (λ (x : PassedFunction). IsCompiledIn names all every x f) same_function (subst (λ (x : ListedFunction). IsCompiledIn names all every s x) same
      (record {
        base = base;
        first = first;
        compiled = c;
        more = more;
        words = at_text ∙ text_is;
        numbers = λ k ranges e.
            sym (get_drop every first k) ∙ ap (λ (ls : List (List Range)). slice_get ls k) (at_lists ∙ lists_is) ∙ get_left c.lists rest k ranges e;
      }))
  each_in base first text lists (s ∷ ss) (g ∷ fs) at_text at_lists (c, more, rest, text_is, lists_is, onward) (suc n) passed f s_is f_is =
      each_in g.high (first + length c.lists) more rest ss fs
      (ap (λ (k : ℕ). drop k all) (high_is s base first g c) ∙ drop_more base (length (bytes_of c.layout)) all ∙
      (ap (drop (length (bytes_of c.layout))) (at_text ∙ text_is) ∙ drop_all (bytes_of c.layout) more))
      (drop_more first (length c.lists) every ∙ (ap (drop (length c.lists)) (at_lists ∙ lists_is) ∙ drop_all c.lists rest))
      onward n passed f s_is f_is

  pub as_many : (base first : ℕ) (text : List ℕ) (lists : List (List Range)) (ss : List PassedFunction) (fs : List ListedFunction) →
      AreCompiled names base first text lists ss fs → length fs ≡ length ss
  as_many base first text lists [] [] are = refl
  as_many base first text lists [] (f ∷ fs) are = absurd are
  as_many base first text lists (s ∷ ss) [] are = absurd are
  as_many base first text lists (s ∷ ss) (f ∷ fs) (c, more, rest, text_is, lists_is, onward) =
      ap (λ (n : ℕ). suc n) (as_many f.high (first + length c.lists) more rest ss fs onward)

  -- one after the other they fill the text
  pub functions_lie : (base first : ℕ) (text : List ℕ) (lists : List (List Range)) (ss : List PassedFunction) (fs : List ListedFunction) →
      base + length text ≡ length all → AreCompiled names base first text lists ss fs → FunctionsLie base fs (length all)
  functions_lie base first text lists [] [] sum are =
      let none : length text ≡ 0 = ap length are.0 in
      omega (arith, none, sum)
  functions_lie base first text lists [] (f ∷ fs) sum are = absurd are
  functions_lie base first text lists (s ∷ ss) [] sum are = absurd are
  functions_lie base first text lists (s ∷ ss) (f ∷ fs) sum (c, more, rest, text_is, lists_is, onward) =
      let both : length text ≡ length (bytes_of c.layout) + length more = ap length text_is ∙ length-append (bytes_of c.layout) more in (
        ap (λ (x : ListedFunction). x.low) c.listed ∙ c.laid.from,
        functions_lie f.high (first + length c.lists) more rest ss fs (omega (arith, sum, both, high_is s base first f c)) onward,
      )

pub compiled_in : (names : ℕ → List ℕ) (functions : List PassedFunction) (o : Output) (are : IsCompiledProgram names functions o) (n : ℕ)
    (passed : PassedFunction)
    (f : ListedFunction) → slice_get functions n ≡ Some passed → slice_get o.functions n ≡ Some f → IsCompiledIn names o.text are.lists passed f
compiled_in names functions o are n passed f s_is f_is =
    each_in names o.text are.lists 0 0 o.text are.lists functions o.functions (none o.text) (none are.lists) are.functions n passed f s_is f_is where
      none : {X : Type 0} (xs : List X) → drop 0 xs ≡ xs
      none [] = refl
      none (x ∷ xs) = refl

-- ---- sources

-- what is said of each source and what is listed at its place, may be said by what passes made of it
module _ (P : SourceFunction → ListedFunction → Type 0) where
  at_source : (functions : List PassedFunction) (fs : List ListedFunction) → ((n : ℕ) (p : PassedFunction) (f : ListedFunction) →
      slice_get functions n ≡ Some p → slice_get fs n ≡ Some f → P p.source f) →
      (n : ℕ) (s : SourceFunction) (f : ListedFunction) → slice_get (sources_among functions) n ≡ Some s → slice_get fs n ≡ Some f → P s f
  at_source [] fs each n s f s_is f_is = absurd cc
  at_source (p ∷ functions) [] each n s f s_is f_is = absurd cc
  at_source (p ∷ functions) (g ∷ fs) each zero s f s_is f_is =
      let same : p.source ≡ s = cc in
      subst (λ (x : SourceFunction). P x f) same (each zero p f refl f_is)
  at_source (p ∷ functions) (g ∷ fs) each (suc n) s f s_is f_is =
      at_source functions fs (λ k q h q_is h_is. each (suc k) q h q_is h_is) n s f s_is f_is

  sources_length : (functions : List PassedFunction) → length (sources_among functions) ≡ length functions
  sources_length [] = refl
  sources_length (p ∷ functions) = ap (λ (n : ℕ). suc n) (sources_length functions)

  pub of_sources : (functions : List PassedFunction) (fs : List ListedFunction) → OfEach (λ p f. P p.source f) functions fs →
      OfEach P (sources_among functions) fs
  of_sources functions fs are =
      record { as_many = are.as_many ∙ sym (sources_length functions); each = at_source functions fs are.each }
